use Rattle.std.proofs.Common.{◌≡◌, string_bytes, rules, ap, ◌∙◌}
use Rattle.erl_term.specs.Value.Value.{atom}
use Rattle.rel_files.proofs.TermRows.{terms_more, terms_all}
use Rattle.rel_files.proofs.terms.atoms_term.Goals as goal

pub loop-name-preserved : goal.loop-name-preserved
loop-name-preserved c =
    let same : c.as_str.result.now ≡ string_bytes c.name-item.result = search rules in
    terms_more string_bytes atom c.args.names.now c.loop-name.name-index c.name-item.result c.loop-name.items.items c.push.new.self.items c.in_ok-atom_term.field-0
    c.loop-name-test.true c.name-item.is (c.in_ok-atom_term.ensures ∙ ap atom same) c.in_ok-push.ensures.items c.loop-name.invariant

pub returns : goal.returns
returns c = terms_all string_bytes atom c.args.names.now c.loop-name.name-index c.loop-name.items c.loop-name-test.false c.loop-name.invariant
