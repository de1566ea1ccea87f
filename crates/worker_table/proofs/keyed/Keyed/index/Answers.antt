use Rattle.std.proofs.Common.{◌≡◌, ◌+◌, ◌++◌, [], ℕ, List, map, drop, ap, sym, subst, append-nil, ◌∙◌}
use Rattle.std.proofs.lemmas.List.{drop_all}
use Rattle.worker_table.specs.Keys.{Pair}
use Rattle.worker_table.specs.InMemory.{row_of}
use Rattle.worker_table.proofs.IndexLemmas.{index_is, keyed, next_found, next_passed}
use Rattle.worker_table.proofs.keyed.Keyed.index.Goals as goal
use Rattle.worker_table.proofs.keyed.Keyed.index.Goals.{in-Some+in_ok-push, in_default}

pub loop-number-preserved : goal.loop-number-preserved
loop-number-preserved g c =
    let rows = c.args.rows.now in
    let at = c.loop-number.number in
    let row = c.index-rows-number.result in
    let goes_on : List (Pair × ℕ) → Type 0 = λ items. items ++ keyed c.args.self (at + 1) (map row_of (drop (at + 1) rows)) ≡ keyed c.args.self 0 (map row_of rows) in
    elim c.match-key.branch [
      | in-Some+in_ok-push w ↦
          subst goes_on (sym (ap (λ v. v.items) w.keyed-is ∙ w.in_ok-push.ensures.items))
          (next_found c.args.self rows at row c.loop-number-test.true c.index-rows-number.is c.loop-number.keyed.items c.loop-number.invariant w.in-Some.key (sym w.in-Some.is ∙ c.key.ensures))
      | in_default w ↦
          subst goes_on (sym (ap (λ v. v.items) w.keyed-is))
          (next_passed c.args.self rows at row c.loop-number-test.true c.index-rows-number.is c.loop-number.keyed.items c.loop-number.invariant (sym w.in_default.is ∙ c.key.ensures))
    ]

pub returns : goal.returns
returns g c =
    let rows = c.args.rows.now in
    let items = c.loop-number.keyed.items in
    let rest : drop c.loop-number.number rows ≡ [] = drop_all c.loop-number.number rows c.loop-number-test.false in
    let all = sym (append-nil items) ∙ (ap (λ rs. items ++ keyed c.args.self c.loop-number.number (map row_of rs)) (sym rest) ∙ c.loop-number.invariant) in
    index_is c.args.self (map row_of rows) c.as_slice.result.now c.of.result (c.as_slice.ensures.value ∙ all) c.of.ensures.finds c.of.ensures.size
