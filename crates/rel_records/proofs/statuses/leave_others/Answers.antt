use Rattle.std.proofs.Common.{map, string_bytes, ap, rules, ◌∙◌}
use Rattle.std.specs.Prelude.{not}
use Rattle.std.specs.Str.{bytes_eq}
use Rattle.std.proofs.lemmas.Fn.{filter_same}
use Rattle.rel_records.specs.declared.assignment.Assignment.{Assignment}
use Rattle.rel_records.specs.Parts.{assignment_read}
use Rattle.rel_records.proofs.StatusRecords.{map-others}
use Rattle.rel_records.proofs.statuses.leave_others.Goals as goal

pub returns : goal.returns
returns c =
    let kept = filter_same _ (λ (a : Assignment). not (bytes_eq (string_bytes a.vsn) c.args.vsn.now)) _ (λ x b f' k. search rules) _ _ c.retain.ensures.filtered in
    ap (map assignment_read) kept ∙ map-others c.args.vsn.now _
