use Rattle.std.proofs.Common.{◌∙◌, [], map, sym, ap}
use Rattle.rel_list.specs.Status.{is_one_shot}
use Rattle.rel_records.specs.Format.{writes_one_shot}
use Rattle.rel_records.specs.Parts.{assignment_read, imaged_read, record_read}
use Rattle.rel_records.specs.Record.{Assignment, Imaged, assigns, images}
use Rattle.rel_records.proofs.FormatLemmas.{any-map}
use Rattle.rel_records.proofs.format.writes_one_shot.Goals as goal

pub returns-in-Statuses : goal.returns-in-Statuses
returns-in-Statuses c =
    c.assigns_one_shot.ensures ∙ sym (any-map (λ (a : Assignment). is_one_shot a.status) assignment_read c.as_slice.result.now)
    ∙ ap (λ items. writes_one_shot (assigns (map assignment_read items))) c.as_slice.ensures.value
    ∙ ap (λ said. writes_one_shot (record_read said)) (sym c.in-Statuses.is)

pub returns-in-Image : goal.returns-in-Image
returns-in-Image c =
    c.has_one_shot.ensures ∙ sym (any-map (λ (x : Imaged). is_one_shot x.status) imaged_read c.as_slice-in-Image.result.now)
    ∙ ap (λ items. writes_one_shot (images (map imaged_read items) [])) c.as_slice-in-Image.ensures.value
    ∙ ap (λ said. writes_one_shot (record_read said)) (sym c.in-Image.is)
