use Rattle.std.proofs.Common.{◌++◌, filter_map, map, ap, ◌∙◌}
use Rattle.std.proofs.lemmas.List.{map-append}
use Rattle.relup_block.proofs.ReverseLemmas.{backwards}
use Rattle.relup_row.specs.Release.{relup_app_of, way_of}
use Rattle.relup_translate.specs.Memory.{row_of_change, rows_of}
use Rattle.relup_translate.specs.Translation.{going_row}
use Rattle.relup_translate.proofs.changes.push_going.Goals as goal

pub returns : goal.returns
returns c =
    let row = going_row (way_of c.args.way) in
    let going =
    c.in_ok-push_changes_of_kind.ensures
    ∙ (ap (λ cs. rows_of cs ++ filter_map row (map relup_app_of c.deref.result.now)) c.new-going.ensures.items
    ∙ ap (λ apps. filter_map row (map relup_app_of apps)) c.deref.ensures.value) in
    let turned = backwards row_of_change c.push_changes_of_kind.new.out.items c.reverse.new.self.items _ c.reverse.ensures.items going in
    ap rows_of c.in_ok-extend_from_slice.ensures.items
    ∙ (map-append row_of_change c.args.out.now.items c.deref-2.result.now ∙ ap (λ rs. rows_of c.args.out.now.items ++ rs) (ap rows_of c.deref-2.ensures.value ∙ turned))
