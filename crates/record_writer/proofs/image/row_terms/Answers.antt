use Rattle.std.proofs.Common.{◌∙◌}
use Rattle.erl_term.specs.Value.{value_of}
use Rattle.rel_files.proofs.Rows.{made_all}
use Rattle.rel_list.specs.Keyed.{entry_of}
use Rattle.rel_records.specs.Image.{recorded_row}
use Rattle.record_writer.proofs.ImageLemmas.{recorded_rows}
use Rattle.record_writer.proofs.image.row_terms.Goals as goal

pub returns : goal.returns
returns c =
    made_all (λ x. recorded_row (entry_of x)) value_of c.args.releases.now c.loop-listed.listed-index c.loop-listed.terms.items c.loop-listed-test.false c.loop-listed.invariant
    ∙ recorded_rows entry_of c.args.releases.now
