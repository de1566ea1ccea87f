use Rattle.std.proofs.Common.{◌≡◌, ◌∙◌, ap, sym, subst, length, map, string_bytes}
use Rattle.library.specs.InMemory.{shared_of}
use Rattle.rel_list.specs.Releases.{Bundle}
use Rattle.rel_records.specs.Parts.{files_of}
use Rattle.rel_records.specs.Reading.{Spells}
use Rattle.rel_records.specs.Record.{body_of, makes}
use Rattle.rel_records.specs.Writing.{CanBeCarried}
use Rattle.rel_unpack.specs.Unpacking.{brought_of}
use Rattle.node_command.specs.Files.{bundle_brought}
use Rattle.node_command.proofs.ReleaseLemmas.{carried_rel, carried_relup, carried_says}
use Rattle.rel_handler.proofs.creation.NewNode.of.Goals as goal

-- a record can carry it
pub made_body-requires-clause-rel : goal.made_body-requires-clause-rel
made_body-requires-clause-rel c =
    let n = c.new_bundle-rel.result in
    carried_rel n.rel n.relup (brought_of c.args.brought) c.new_bundle-rel.ensures.terms c.requires.terms

pub made_body-requires-clause-relup : goal.made_body-requires-clause-relup
made_body-requires-clause-relup c =
    let n = c.new_bundle-rel.result in
    carried_relup n.rel n.relup (brought_of c.args.brought) c.new_bundle-rel.ensures.terms c.requires.terms

pub made_body-requires-clause-libraries : goal.made_body-requires-clause-libraries
made_body-requires-clause-libraries c =
    let own : map shared_of c.as_slice.result.now ≡ (brought_of c.args.brought).libraries = ap (map shared_of) c.as_slice.ensures.value ∙ ap (λ (q : Bundle). q.libraries) c.new_bundle-rel.ensures.bundle in
    subst CanBeCarried (sym own) c.requires.whole.carried

-- The record of the new node is that of what was brought.
pub returns-clause-body : goal.returns-clause-body
returns-clause-body c =
    let b = brought_of c.args.brought in
    let p = bundle_brought b in
    let n = c.new_bundle-rel.result in
    let own : map shared_of c.as_slice.result.now ≡ b.libraries = ap (map shared_of) c.as_slice.ensures.value ∙ ap (λ (q : Bundle). q.libraries) c.new_bundle-rel.ensures.bundle in
    ap length (c.in_ok-body.ensures.body p.release p.relup)
    ∙ ap (λ ls. length (body_of (files_of n.rel n.relup) (makes p.release ls p.relup))) own
    ∙ ap (λ t. length (body_of t (makes p.release p.libraries p.relup))) c.new_bundle-rel.ensures.terms

pub returns-clause-spells : goal.returns-clause-spells
returns-clause-spells c =
    let b = brought_of c.args.brought in
    let p = bundle_brought b in
    let n = c.new_bundle-rel.result in
    let own : map shared_of c.as_slice.result.now ≡ b.libraries = ap (map shared_of) c.as_slice.ensures.value ∙ ap (λ (q : Bundle). q.libraries) c.new_bundle-rel.ensures.bundle in
    subst (λ ls. Spells (string_bytes c.in_ok-body.body) (makes p.release ls p.relup)) own
    (c.in_ok-body.ensures.spells p.release p.relup (carried_says n.rel n.relup b c.new_bundle-rel.ensures.terms c.requires.terms))
