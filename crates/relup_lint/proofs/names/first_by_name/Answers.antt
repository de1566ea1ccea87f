use Rattle.std.proofs.Common.{◌≡◌, ◌+◌, ◌++◌, ◌∷◌, [], Some, None, cond, take, ap, sym, ◌∙◌}
use Rattle.std.proofs.lemmas.List.{take_more}
use Rattle.std.proofs.lemmas.Map.Text.{btree_map_updates_str}
use Rattle.std.specs.Str.{bytes_eq}
use Rattle.relup_lint.specs.Names.{first_under, found_under}
use Rattle.relup_lint.proofs.FirstLemmas.{kept, none_of, noted, some_of}
use Rattle.relup_lint.proofs.names.first_by_name.Goals as goal
use Rattle.relup_lint.proofs.names.first_by_name.Goals.{then-not-contains_key+in_ok-insert, else-not-contains_key}

pub loop-name-preserved : goal.loop-name-preserved
loop-name-preserved g c =
    let rows = c.args.rows.now in
    let at = c.loop-name.name-index in
    let row = c.loop-name-item.result in
    let one : take (at + 1) rows ≡ take at rows ++ row ∷ [] =
    take_more rows at row c.loop-name-test.true ∙ ap (λ r. take at rows ++ r ∷ []) (sym c.loop-name-item.is) in
    elim c.if-not-contains_key.branch [
      | then-not-contains_key+in_ok-insert w ↦
          let absent : first_under row.0.now (take at rows) ≡ None = sym (c.loop-name.invariant row.0.now) ∙ none_of _ (sym w.if-not-contains_key.true ∙ c.contains_key.ensures) in
          λ wanted. ap (found_under wanted) w.first-is
          ∙ (btree_map_updates_str row.0.now c.loop-name.first w.insert.new.self _ w.in_ok-insert.ensures.updates wanted
          ∙ (ap (λ o. cond (bytes_eq row.0.now wanted) (Some row.1) o) (c.loop-name.invariant wanted)
          ∙ (sym (noted wanted (take at rows) row absent) ∙ ap (first_under wanted) (sym one))))
      | else-not-contains_key w ↦
          let there = some_of _ (sym w.if-not-contains_key.false ∙ c.contains_key.ensures) in
          λ wanted. ap (found_under wanted) w.first-is
          ∙ (c.loop-name.invariant wanted
          ∙ (sym (kept wanted (take at rows) row there.0 (sym (c.loop-name.invariant row.0.now) ∙ there.1)) ∙ ap (first_under wanted) (sym one)))
    ]
