use Rattle.std.proofs.Common.{◌≡◌, [], ◌++◌, List, map, filter_map, ap, ◌∙◌}
use Rattle.std.proofs.lemmas.List.{append_assoc}
use Rattle.appup_file.specs.Instruction.{AppupInstruction}
use Rattle.relup_row.specs.Release.{relup_app_of, way_of}
use Rattle.relup_translate.specs.declared.changes.AppChange.{AppChange}
use Rattle.relup_translate.specs.Memory.{rows_of}
use Rattle.relup_translate.specs.Translation.{coming_row, changing_row}
use Rattle.relup_translate.proofs.changes.changes.Goals as goal

three_added : (none one two three : List AppChange) (p q r : List (List AppupInstruction)) → none ≡ [] → rows_of one ≡ rows_of none ++ p → rows_of two ≡ rows_of one ++ q
    → rows_of three ≡ rows_of two ++ r → rows_of three ≡ p ++ (q ++ r)
three_added none one two three p q r empty first second third =
    third ∙ (ap (λ rs. rs ++ r) (second ∙ ap (λ rs. rs ++ q) (first ∙ ap (λ cs. rows_of cs ++ p) empty)) ∙ append_assoc p q r)

pub returns : goal.returns
returns c =
    let way = way_of c.args.way in
    three_added c.new-all.result.items c.push_changes_of_kind.new.out.items c.push_changes_of_kind-2.new.out.items c.push_going.new.out.items _ _ _ c.new-all.ensures.items
    (c.in_ok-push_changes_of_kind.ensures ∙ ap (λ apps. rows_of c.new-all.result.items ++ filter_map (coming_row way) (map relup_app_of apps)) c.deref.ensures.value)
    (c.in_ok-push_changes_of_kind-2.ensures ∙ ap (λ apps. rows_of c.push_changes_of_kind.new.out.items ++ filter_map (changing_row way) (map relup_app_of apps)) c.deref-2.ensures.value)
    c.in_ok-push_going.ensures
