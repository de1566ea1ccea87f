use Rattle.std.proofs.Common.{◌≡◌, ◌+◌, ◌++◌, ◌∷◌, [], Some, None, cond, rules, take, get_or, ap, sym, ◌∙◌}
use Rattle.std.proofs.lemmas.List.{take_more}
use Rattle.std.specs.BTreeMap.{is_at}
use Rattle.worker_table.specs.Keys.{compare_pairs, number_at}
use Rattle.worker_table.proofs.FirstLemmas.{kept, none_of, noted, some_of}
use Rattle.worker_table.proofs.index.first_rows.Goals as goal
use Rattle.worker_table.proofs.index.first_rows.Goals.{then-not-contains_key+in_ok-insert, else-not-contains_key}

pub loop-pair-preserved : goal.loop-pair-preserved
loop-pair-preserved c =
    let rows = c.args.rows.now in
    let at = c.loop-pair.pair-index in
    let row = get_or rows at ((0, 0), 0) in
    let one : take (at + 1) rows ≡ take at rows ++ row ∷ [] = take_more rows at ((0, 0), 0) c.loop-pair-test.true in
    elim c.if-not-contains_key.branch [
      | then-not-contains_key+in_ok-insert w ↦
          let absent : number_at row.0 (take at rows) ≡ None = sym (c.loop-pair.invariant.0 row.0) ∙ none_of _ (sym w.if-not-contains_key.true ∙ c.contains_key.ensures) in (
            λ wanted. ap (λ m. number_at wanted m.entries) w.first-is
                ∙ (w.in_ok-insert.ensures.updates.0 wanted
                ∙ (ap (λ o. cond (is_at (compare_pairs row.0) wanted) (Some row.1) o) (c.loop-pair.invariant.0 wanted)
                ∙ (sym (noted wanted (take at rows) row absent) ∙ ap (number_at wanted) (sym one)))),
            search (rules, w.first-is, w.in_ok-insert.ensures.len, c.loop-pair.invariant.1),
          )
      | else-not-contains_key w ↦
          let there = some_of _ (sym w.if-not-contains_key.false ∙ c.contains_key.ensures) in (
            λ wanted. ap (λ m. number_at wanted m.entries) w.first-is
                ∙ (c.loop-pair.invariant.0 wanted
                ∙ (sym (kept wanted (take at rows) row there.0 (sym (c.loop-pair.invariant.0 row.0) ∙ there.1)) ∙ ap (number_at wanted) (sym one))),
            search (rules, w.first-is, c.loop-pair.invariant.1),
          )
    ]
