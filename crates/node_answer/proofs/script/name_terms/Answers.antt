use Rattle.std.proofs.Common.{map, ap, ◌∙◌}
use Rattle.std.proofs.lemmas.List.{take_all}
use Rattle.erl_term.specs.Value.{value_of}
use Rattle.erl_term.specs.Value.Value.{atom}
use Rattle.node_answer.proofs.LineLemmas.{term_more}
use Rattle.node_answer.proofs.script.name_terms.Goals as goal

pub loop-name-init : goal.loop-name-init
loop-name-init c = ap (map value_of) c.new-terms.ensures.items

pub loop-name-preserved : goal.loop-name-preserved
loop-name-preserved c =
    term_more atom c.args.names.now c.loop-name.name-index c.name-item.result c.loop-name.terms.items c.push.new.self.items c.in_ok-atom_term.field-0
    c.loop-name-test.true c.name-item.is (c.in_ok-atom_term.ensures ∙ ap atom c.as_str.ensures) c.in_ok-push.ensures.items c.loop-name.invariant

pub returns : goal.returns
returns c = c.loop-name.invariant ∙ ap (map atom) (take_all _ c.args.names.now c.loop-name-test.false)
