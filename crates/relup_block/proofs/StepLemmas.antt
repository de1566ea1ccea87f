-- One step more of an order.
use Rattle.std.proofs.Common.{◌≡◌, ap, sym, subst, ◌∙◌, ℕ, ◌<◌, List, [], ◌∷◌, ◌++◌, length, None, Some, Result, Ok, Err, IfOk, arith}
use Rattle.std.proofs.lemmas.List.{length-map}
use Rattle.relup_block.specs.declared.order.ChoiceRule.{ChoiceRule}
use Rattle.relup_block.specs.declared.order.Ahead.{Ahead}
use Rattle.relup_block.specs.declared.order.Left.{Left}
use Rattle.relup_block.specs.Order.{BlockItemForm, block_items_of, choice}
use Rattle.relup_block.specs.Counts.{waiting_of, all_waiting, passed_items, counted, first_idle_behind, Takes, StepForm, Meets, remaining, IsCounted, Steps}
use Rattle.relup_block.specs.Counts.StepForm.{chosen, passed, end}
use Rattle.relup_block.proofs.CountLemmas.{takes_idle, takes_ahead, takes_first, passes}

-- What is left is taken or passed over, and counted.
abbrev pub IsStep : ChoiceRule → Left → StepForm → Left → Type 0
IsStep rule old s new = Steps rule (remaining old) s (remaining new) × IsCounted rule new

-- what is left with others ahead
abbrev StepAhead : ChoiceRule → Left → StepForm → Left → Ahead → Type 0
StepAhead rule old s new a =
    Steps rule (remaining old) s (passed_items new.passed.items ++ block_items_of a.items.now)
    × (all_waiting new.passed.items ≡ counted rule (passed_items new.passed.items) (block_items_of a.items.now))

pub idle_step : (rule : ChoiceRule) (old new : Left) (k : ℕ) (x : BlockItemForm) → first_idle_behind 0 (all_waiting old.passed.items) ≡ Some k
    → Takes rule (all_waiting old.passed.items) k x (all_waiting new.passed.items) → new.ahead ≡ old.ahead → IsCounted rule old → IsStep rule old (chosen x) new
idle_step rule old new k x first takes same is =
    subst (StepAhead rule old (chosen x) new) (sym same)
    (takes_idle rule (all_waiting old.passed.items) (block_items_of old.ahead.items.now) k x (all_waiting new.passed.items) first takes is)

pub first_step : (rule : ChoiceRule) (old new : Left) (x : BlockItemForm) → first_idle_behind 0 (all_waiting old.passed.items) ≡ None
    → Takes rule (all_waiting old.passed.items) 0 x (all_waiting new.passed.items) → new.ahead ≡ old.ahead → block_items_of old.ahead.items.now ≡ []
    → 0 < length old.passed.items → IsCounted rule old → IsStep rule old (chosen x) new
first_step rule old new x none takes same end_of some is =
    let ws = all_waiting old.passed.items in
    let long : 0 < length ws = omega (arith, some, length-map old.passed.items waiting_of) in
    let next = takes_first rule ws x (all_waiting new.passed.items) none takes long
    (is ∙ ap (counted rule (passed_items old.passed.items)) end_of) in
    subst (StepAhead rule old (chosen x) new) (sym same)
    (subst (λ (zs : List BlockItemForm). (choice rule (passed_items old.passed.items ++ zs) ≡ Some (x, passed_items new.passed.items ++ zs))
    × (all_waiting new.passed.items ≡ counted rule (passed_items new.passed.items) zs)) (sym end_of) next)

pub meet_step : (rule : ChoiceRule) (old new : Left) (x : BlockItemForm) (behind : Ahead) (s : StepForm) → first_idle_behind 0 (all_waiting old.passed.items) ≡ None
    → block_items_of old.ahead.items.now ≡ x ∷ block_items_of behind.items.now
    → Meets rule (all_waiting old.passed.items) x (block_items_of behind.items.now) s (all_waiting new.passed.items) → new.ahead ≡ behind → IsCounted rule old
    → IsStep rule old s new
meet_step rule old new x behind (chosen y) none next met same is =
    let here = takes_ahead rule (all_waiting old.passed.items) x (block_items_of behind.items.now) (all_waiting new.passed.items) none met.1 met.2
    (is ∙ ap (counted rule (passed_items old.passed.items)) next) in
    subst (StepAhead rule old (chosen y) new) (sym same)
    (subst (λ (z : BlockItemForm). StepAhead rule old (chosen z) new behind) (sym met.0)
    (ap (λ (zs : List BlockItemForm). choice rule (passed_items old.passed.items ++ zs)) next ∙ here.0, here.1))
meet_step rule old new x behind passed none next met same is =
    let here = passes rule (all_waiting old.passed.items) x (block_items_of behind.items.now) (all_waiting new.passed.items) met
    (is ∙ ap (counted rule (passed_items old.passed.items)) next) in
    subst (StepAhead rule old passed new) (sym same)
    (ap (λ (zs : List BlockItemForm). passed_items old.passed.items ++ zs) next ∙ here.0, here.1)
meet_step rule old new x behind end none next met same is = absurd met

-- what follows of what was ensured where there was memory
pub where_ok : {A E : Type 0} (r : Result A E) (P Q R : A → Type 0) → IfOk r P → IfOk r Q → ((a : A) → P a → Q a → R a) → IfOk r R
where_ok (Ok a) P Q R p q f = f a p q
where_ok (Err e) P Q R p q f = tt
