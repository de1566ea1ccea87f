-- In how many slots a process can begin, and that a process that begins takes one of them.
use Rattle.std.proofs.Common.{◌≡◌, ◌≢◌, ℕ, zero, suc, ◌+◌, ◌<◌, ◌≤◌, Bool, true, is_some, if◌then◌else◌, Option, None, Ok, refl, ap, sym, ◌∙◌, arith}
use native.Mathlib.Decide.{ℕ_discrete}
use mathlib.Core.Logic.{dite}
use Rattle.proc_table.specs.declared.view.View.{View}
use Rattle.proc_table.specs.declared.pid.Pid.{Pid}
use Rattle.proc_history.specs.declared.beginning.Beginning.{Beginning}
use Rattle.proc_table.specs.Agrees.{slots}
use Rattle.proc_table.specs.Free.{next_in, free_below, free_count, NoneFree, BeganLowest, BeginsTakeOne}
use Rattle.proc_table.proofs.BeginLemmas.{began_taken, next_elsewhere}

-- a slot counts as one, or not
abbrev one_if : Bool → ℕ
one_if b = if b then 1 else 0

-- below a slot nothing changes
same_below : (v w : View) (p : ℕ) → ((q : ℕ) → q ≢ p → next_in w q ≡ next_in v q) → (n : ℕ) → n ≤ p → free_below v n ≡ free_below w n
same_below v w p others zero within = refl
same_below v w p others (suc n) within =
    let rest = same_below v w p others n (omega (arith, within)) in
    let here : next_in w n ≡ next_in v n = others n (omega (arith, within)) in
    λ j. rest j + one_if (is_some (sym here j))

-- above it there is one fewer
fewer_above : (v w : View) (p : ℕ) → is_some (next_in v p) ≡ true → next_in w p ≡ None → ((q : ℕ) → q ≢ p → next_in w q ≡ next_in v q)
    → (n : ℕ) → p < n → free_below v n ≡ free_below w n + 1
fewer_above v w p free taken others zero inside = absurd (omega (arith, inside))
fewer_above v w p free taken others (suc n) inside = dite (ℕ_discrete n p)
    (λ e.
    let rest = same_below v w p others n (omega (arith, e)) in
    let before : one_if (is_some (next_in v n)) ≡ 1 = ap (λ q. one_if (is_some (next_in v q))) e ∙ ap one_if free in
    let after : one_if (is_some (next_in w n)) ≡ 0 = ap (λ q. one_if (is_some (next_in w q))) e ∙ ap (λ (o : Option ℕ). one_if (is_some o)) taken in
    omega (arith, rest, before, after))
    (λ ne.
    let rest = fewer_above v w p free taken others n (omega (arith, inside, ne)) in
    let here : one_if (is_some (next_in w n)) ≡ one_if (is_some (next_in v n)) = ap (λ (o : Option ℕ). one_if (is_some o)) (others n ne) in
    omega (arith, rest, here))

none_below : (v : View) → NoneFree v → (n : ℕ) → n ≤ slots → free_below v n ≡ 0
none_below v none zero within = refl
none_below v none (suc n) within =
    let rest = none_below v none n (omega (arith, within)) in
    let here : one_if (is_some (next_in v n)) ≡ 0 = ap (λ (o : Option ℕ). one_if (is_some o)) (none n (omega (arith, within))) in
    omega (arith, rest, here)

one_fewer : (b : Beginning) (v w : View) (pid : Pid) → BeganLowest b v (Ok pid) w → free_count v ≡ free_count w + 1
one_fewer b v w pid began =
    fewer_above v w pid.slot (ap is_some began.0.next) (began_taken b v w pid began) (next_elsewhere b v w pid began) slots pid.inside

pub begins_take_one : BeginsTakeOne
begins_take_one = (one_fewer, λ v none. none_below v none slots (omega arith))
