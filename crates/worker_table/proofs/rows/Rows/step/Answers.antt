use Rattle.std.proofs.Common.{◌≡◌, ◌≤◌, ◌+◌, ◌-◌, Some, arith, rules, length, map, ap, sym, subst, ◌∙◌}
use Rattle.worker_table.specs.Keys.{number_at}
use Rattle.worker_table.proofs.SearchLemmas.{takes_few}
use Rattle.worker_table.specs.InMemory.{keyed_row_of}
use Rattle.worker_table.specs.Decide.{step_of}
use Rattle.worker_table.specs.declared.keyed.Keyed.TheVariants.{ByState, ByInput}
use Rattle.worker_table.specs.Indexed.{fewest_comparisons, lower}
use Rattle.worker_table.proofs.IndexLemmas.{both_are, both_find, compares_some, made_by, made_by_none, number_within}
use Rattle.worker_table.proofs.rows.Rows.step.Goals as goal

pub bounds-rows-number : goal.bounds-rows-number
bounds-rows-number g c =
    let state = c.args.state in
    let input = c.args.input in
    let rows = c.as_slice-rows.result.now in
    let are : map keyed_row_of c.self.inside.rows.items ≡ map keyed_row_of rows = ap (map keyed_row_of) (sym c.as_slice-rows.ensures.value) in
    let found : Some c.in-Some.number ≡ both_find (map keyed_row_of rows) state input =
    c.in-Some.ensures
    ∙ (ap (λ o. lower o c.find-by_input.result) c.find-by_state.ensures.found
    ∙ (ap (lower (number_at (state, input) c.self.inside.by_state)) c.find-by_input.ensures.found
    ∙ (both_are _ state input _ _ c.self.invariant.0 c.self.invariant.1 ∙ ap (λ rs. both_find rs state input) are))) in
    number_within keyed_row_of rows state input c.in-Some.number found

pub offset_bounds-rows-number : goal.offset_bounds-rows-number
offset_bounds-rows-number g c =
    let within = bounds-rows-number g c in
    search (rules, within)

pub returns-in-Some-clause-step : goal.returns-in-Some-clause-step
returns-in-Some-clause-step g c =
    let state = c.args.state in
    let input = c.args.input in
    let rows = c.as_slice-rows.result.now in
    let are : map keyed_row_of c.self.inside.rows.items ≡ map keyed_row_of rows = ap (map keyed_row_of) (sym c.as_slice-rows.ensures.value) in
    let found : Some c.in-Some.number ≡ both_find (map keyed_row_of rows) state input =
    c.in-Some.ensures
    ∙ (ap (λ o. lower o c.find-by_input.result) c.find-by_state.ensures.found
    ∙ (ap (lower (number_at (state, input) c.self.inside.by_state)) c.find-by_input.ensures.found
    ∙ (both_are _ state input _ _ c.self.invariant.0 c.self.invariant.1 ∙ ap (λ rs. both_find rs state input) are))) in
    c.made_of.ensures ∙ (made_by keyed_row_of rows state input c.in-Some.number c.index-rows-number.result found c.index-rows-number.is ∙ ap (λ rs. step_of rs state input) (sym are ∙ c.self.view_is))

pub returns-in-Some-clause-cost : goal.returns-in-Some-clause-cost
returns-in-Some-clause-cost g c few =
    let size : length (map keyed_row_of c.self.inside.rows.items) ≤ 4096 = subst (λ rs. length rs ≤ 4096) (sym c.self.view_is) few in
    let one = takes_few (length c.self.inside.by_state) (c.find-by_state.new.ticks - c.args.ticks.now) (omega (arith, size, c.self.invariant.0.size)) c.find-by_state.ensures.cost in
    let other = takes_few (length c.self.inside.by_input) (c.find-by_input.new.ticks - c.find-by_state.new.ticks) (omega (arith, size, c.self.invariant.1.size)) c.find-by_input.ensures.cost in
    omega (arith, one, other, c.find-by_state.ensures.bound, c.find-by_input.ensures.bound)

pub returns-in-None-clause-step : goal.returns-in-None-clause-step
returns-in-None-clause-step g c =
    let state = c.args.state in
    let input = c.args.input in
    let found =
    c.in-None.ensures
    ∙ (ap (λ o. lower o c.find-by_input.result) c.find-by_state.ensures.found
    ∙ (ap (lower (number_at (state, input) c.self.inside.by_state)) c.find-by_input.ensures.found
    ∙ both_are _ state input _ _ c.self.invariant.0 c.self.invariant.1)) in
    made_by_none keyed_row_of c.self.inside.rows.items state input found ∙ ap (λ rs. step_of rs state input) c.self.view_is

pub returns-in-None-clause-cost : goal.returns-in-None-clause-cost
returns-in-None-clause-cost g c few =
    let size : length (map keyed_row_of c.self.inside.rows.items) ≤ 4096 = subst (λ rs. length rs ≤ 4096) (sym c.self.view_is) few in
    let one = takes_few (length c.self.inside.by_state) (c.find-by_state.new.ticks - c.args.ticks.now) (omega (arith, size, c.self.invariant.0.size)) c.find-by_state.ensures.cost in
    let other = takes_few (length c.self.inside.by_input) (c.find-by_input.new.ticks - c.find-by_state.new.ticks) (omega (arith, size, c.self.invariant.1.size)) c.find-by_input.ensures.cost in
    omega (arith, one, other, c.find-by_state.ensures.bound, c.find-by_input.ensures.bound)

pub returns-in-Some-clause-least : goal.returns-in-Some-clause-least
returns-in-Some-clause-least g c =
    let rows = map keyed_row_of c.self.inside.rows.items in
    let one = compares_some ByState rows c.self.inside.by_state c.args.ticks.now c.find-by_state.new.ticks c.self.invariant.0 c.find-by_state.ensures.least c.find-by_state.ensures.bound.0 in
    let other = compares_some ByInput rows c.self.inside.by_input c.find-by_state.new.ticks c.find-by_input.new.ticks c.self.invariant.1 c.find-by_input.ensures.least c.find-by_input.ensures.bound.0 in
    subst (λ rs. c.args.ticks.now + fewest_comparisons rs ≤ c.find-by_input.new.ticks) c.self.view_is (omega arith)

pub returns-in-None-clause-least : goal.returns-in-None-clause-least
returns-in-None-clause-least g c =
    let rows = map keyed_row_of c.self.inside.rows.items in
    let one = compares_some ByState rows c.self.inside.by_state c.args.ticks.now c.find-by_state.new.ticks c.self.invariant.0 c.find-by_state.ensures.least c.find-by_state.ensures.bound.0 in
    let other = compares_some ByInput rows c.self.inside.by_input c.find-by_state.new.ticks c.find-by_input.new.ticks c.self.invariant.1 c.find-by_input.ensures.least c.find-by_input.ensures.bound.0 in
    subst (λ rs. c.args.ticks.now + fewest_comparisons rs ≤ c.find-by_input.new.ticks) c.self.view_is (omega arith)
