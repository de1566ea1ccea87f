use Rattle.std.proofs.Common.{◌∙◌, sym}
use Rattle.std.proofs.lemmas.Simd.{map-map}
use Rattle.rel_files.proofs.Rows.{made_all}
use Rattle.rel_records.specs.Lists.{own_status}
use Rattle.rel_records.specs.Parts.{assignment_read, imaged_read}
use Rattle.rel_records.proofs.restoration.own_statuses.Goals as goal

pub returns : goal.returns
returns c =
    made_all (λ x. own_status (imaged_read x)) assignment_read c.args.releases.now c.loop-imaged.imaged-index c.loop-imaged.statuses.items c.loop-imaged-test.false c.loop-imaged.invariant
    ∙ sym (map-map own_status imaged_read c.args.releases.now)
