-- How many others each item waits for, by which the orders are made.
use Rattle.std.specs.Prelude.{ℕ, ◌+◌, ◌-◌, ◌<◌, ◌≤◌, nat_eq, Bool, true, false, List, [], ◌∷◌, ◌≡◌, ◌++◌, length, map, filter, Option, None, Some, if◌then◌else◌}
use Rattle.relup_block.specs.declared.order.ChoiceRule.{ChoiceRule}
use Rattle.relup_block.specs.declared.order.BlockItem.{BlockItem}
use Rattle.relup_block.specs.declared.order.Waiting.{Waiting}
use Rattle.relup_block.specs.declared.order.Ahead.{Ahead}
use Rattle.relup_block.specs.declared.order.Left.{Left}
use Rattle.relup_block.specs.declared.order.Step.{Step}
use Rattle.relup_block.specs.declared.order.Step.TheVariants.{Chosen, Passed, End}
use Rattle.relup_block.specs.Order.{BlockItemForm, block_item_of, block_items_of, item_deps, must_wait_for, choice}

abbrev pub one_if : Bool → ℕ
one_if true = 1
one_if false = 0

-- how many of these have to come before it
abbrev pub waits_among : ChoiceRule → BlockItemForm → List BlockItemForm → ℕ
waits_among rule x [] = 0
waits_among rule x (y ∷ ys) = one_if (must_wait_for rule x y) + waits_among rule x ys

-- whether there are some
abbrev pub are_some : List (List ℕ) → Bool
are_some [] = false
are_some (n ∷ ns) = true

-- whether it names dependencies
abbrev pub has_deps : BlockItemForm → Bool
has_deps x = are_some (item_deps x)

-- an item, with how many others have to come before it
pub record WaitingForm : Type 0 where
  pub item : BlockItemForm
  pub waits : ℕ

abbrev pub waiting_of : Waiting → WaitingForm
waiting_of w = record { item = block_item_of w.item; waits = w.waits }

abbrev pub all_waiting : List Waiting → List WaitingForm
all_waiting = map waiting_of

abbrev pub waiting_items : List WaitingForm → List BlockItemForm
waiting_items = map (λ (w : WaitingForm). w.item)

-- the items that were passed over
abbrev pub passed_items : List Waiting → List BlockItemForm
passed_items ws = waiting_items (all_waiting ws)

-- those after others, with others ahead, each with how many of all the others it waits for
abbrev pub counted_behind : ChoiceRule → List BlockItemForm → List BlockItemForm → List BlockItemForm → List WaitingForm
counted_behind rule before [] ahead = []
counted_behind rule before (x ∷ xs) ahead =
    record { item = x; waits = waits_among rule x before + waits_among rule x (xs ++ ahead) } ∷ counted_behind rule (before ++ (x ∷ [])) xs ahead

abbrev pub counted : ChoiceRule → List BlockItemForm → List BlockItemForm → List WaitingForm
counted rule passed ahead = counted_behind rule [] passed ahead

-- the place of the first that waits for none, after so many
abbrev pub first_idle_behind : ℕ → List WaitingForm → Option ℕ
first_idle_behind n [] = None
first_idle_behind n (w ∷ ws) = if nat_eq w.waits 0 then Some n else first_idle_behind (n + 1) ws

-- when another item has come
abbrev pub after_item : ChoiceRule → BlockItemForm → WaitingForm → WaitingForm
after_item rule y w = record { item = w.item; waits = w.waits - one_if (must_wait_for rule w.item y) }

-- The naming ones are those of the items that name dependencies.
abbrev pub HasNaming : Ahead → Type 0
HasNaming a = block_items_of a.naming.now ≡ filter has_deps (block_items_of a.items.now)

-- The first of them was taken, if there is one.
abbrev pub IsNext : Ahead → Option (BlockItem × Ahead) → Type 0
IsNext a None = block_items_of a.items.now ≡ []
IsNext a (Some p) =
    (block_items_of a.items.now ≡ block_item_of p.0 ∷ block_items_of p.1.items.now) × (length a.items.now ≡ length p.1.items.now + 1) × HasNaming p.1

-- The one at this place was taken out, and the others no longer wait for it.
abbrev pub Takes : ChoiceRule → List WaitingForm → ℕ → BlockItemForm → List WaitingForm → Type 0
Takes rule ws k x new = (us : List WaitingForm) (w : WaitingForm) (vs : List WaitingForm) → ws ≡ us ++ (w ∷ vs) → length us ≡ k
    → (w.item ≡ x) × (new ≡ map (after_item rule x) (us ++ vs))

-- what a step comes to, without where the item lies in memory
pub data StepForm : Type 0 where
  chosen : BlockItemForm → StepForm
  passed : StepForm
  end : StepForm

abbrev pub step_of : Step → StepForm
step_of (Chosen x) = chosen (block_item_of x)
step_of Passed = passed
step_of End = end

-- An item ahead, with these after it, was taken or passed over.
abbrev pub Meets : ChoiceRule → List WaitingForm → BlockItemForm → List BlockItemForm → StepForm → List WaitingForm → Type 0
Meets rule ws x ahead (chosen y) new =
    (y ≡ x) × (nat_eq (waits_among rule x (waiting_items ws) + waits_among rule x ahead) 0 ≡ true) × (new ≡ map (after_item rule x) ws)
Meets rule ws x ahead passed new =
    new ≡ ws ++ (record { item = x; waits = waits_among rule x (waiting_items ws) + waits_among rule x ahead } ∷ [])
Meets rule ws x ahead end new = ⊥

-- the items that remain, in their order
abbrev pub remaining : Left → List BlockItemForm
remaining l = passed_items l.passed.items ++ block_items_of l.ahead.items.now

-- Each that was passed over is counted.
abbrev pub IsCounted : ChoiceRule → Left → Type 0
IsCounted rule l = all_waiting l.passed.items ≡ counted rule (passed_items l.passed.items) (block_items_of l.ahead.items.now)

-- A step took the next choice, or left what remains.
abbrev pub Steps : ChoiceRule → List BlockItemForm → StepForm → List BlockItemForm → Type 0
Steps rule old (chosen x) new = choice rule old ≡ Some (x, new)
Steps rule old passed new = old ≡ new
Steps rule old end new = old ≡ []

-- how many remain
abbrev pub size_of_left : Left → ℕ
size_of_left l = length l.passed.items + length l.ahead.items.now

-- Each step but the last has less left.
abbrev pub Shrinks : Step → Left → Left → Type 0
Shrinks End old new = Unit {0}
Shrinks s old new = (size_of_left new ≤ size_of_left old) × (size_of_left new + length new.ahead.items.now < size_of_left old + length old.ahead.items.now) × HasNaming new.ahead
