use Rattle.std.proofs.Common.{◌≡◌, codes, map, ◌∙◌}
use Rattle.erl_term.specs.Value.{value_of, values_of}
use Rattle.erl_term.specs.Within.{IsWithin}
use Rattle.library.specs.InMemory.{shared_of}
use Rattle.rel_records.specs.Parts.{files_of}
use Rattle.rel_records.specs.Record.{library_terms, release_term, relup_or_none}
use Rattle.record_writer.proofs.Within.{for-mapped}
use Rattle.record_writer.proofs.WritingLemmas.{made_spelled}
use Rattle.record_writer.proofs.writing.made_body.Goals as goal

pub returns-clause-spells : goal.returns-clause-spells
returns-clause-spells c =
    let ls = map shared_of c.args.libraries.now in
    let files = files_of c.args.rel c.args.relup in
    let within = for-mapped (IsWithin 65) value_of c.args.relup c.requires.relup in
    let is : value_of c.in_ok-term.term ≡ release_term (codes "made") files.rel (library_terms ls) (relup_or_none files.relup) =
    c.in_ok-term.ensures ∙ (λ j. release_term (codes "made") files.rel (values_of (c.in_ok-libs.ensures j)) (c.in_ok-relup.ensures j)) in
    made_spelled c.body_of.result _ files ls c.requires.rel c.requires.libraries within c.body_of.ensures.read_back is
