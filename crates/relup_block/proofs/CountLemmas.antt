-- The next choice by counts: it is the first that waits for none, and after it each waits for one less that waited for it.
use Rattle.std.proofs.Common.{◌≡◌, refl, ap, sym, ◌∙◌, ℕ, zero, suc, ◌+◌, ◌-◌, ◌<◌, ◌≤◌, nat_eq, Bool, true, false, not, ◌&&◌, ◌||◌, List, [], ◌∷◌, ◌++◌, length, map, filter, cond, set, get_or, remove, Option, None, Some, if◌then◌else◌, arith}
use Rattle.std.specs.List.{list_any}
use Rattle.std.proofs.lemmas.List.{append_assoc, append-nil, length-append, length-map, map-set, get_or-map}
use Rattle.std.proofs.lemmas.Bool.Decides.{nat_tests}
use Rattle.relup_block.specs.declared.order.ChoiceRule.{ChoiceRule}
use Rattle.relup_block.specs.declared.order.ChoiceRule.TheVariants.{DependentsFirst, DependenciesFirst}
use Rattle.relup_block.specs.declared.order.BlockItem.{BlockItem}
use Rattle.relup_block.specs.declared.order.Waiting.{Waiting}
use Rattle.relup_block.specs.Order.{BlockItemForm, block_item_of, block_items_of, item_name, item_deps, is_among, depends_on, must_wait_for, is_free, first_free, or_first, choice}
use Rattle.relup_block.specs.Counts.{one_if, waits_among, WaitingForm, waiting_of, all_waiting, waiting_items, counted_behind, counted, are_some, has_deps, first_idle_behind, after_item, Takes}

more_than_none : (n : ℕ) → 0 < n → nat_eq n 0 ≡ false
more_than_none n h = grind (arith, nat_tests)

-- An item is free of others that waits for none of them.
is_idle : (rule : ChoiceRule) (x : BlockItemForm) (ys : List BlockItemForm) → is_free rule x ys ≡ nat_eq (waits_among rule x ys) 0
is_idle rule x [] = refl
is_idle rule x (y ∷ ys) = go (must_wait_for rule x y) (waits_among rule x ys) (is_idle rule x ys)
  where
    go : (b : Bool) (n : ℕ) → not (list_any (must_wait_for rule x) ys) ≡ nat_eq n 0 → not (b || list_any (must_wait_for rule x) ys) ≡ nat_eq (one_if b + n) 0
    go true n e = sym (more_than_none (1 + n) (omega arith))
    go false n e = let same : n ≡ 0 + n = omega arith in e ∙ ap (λ (m : ℕ). nat_eq m 0) same

both_idle : (a b : ℕ) → (nat_eq a 0 && nat_eq b 0) ≡ nat_eq (a + b) 0
both_idle zero b = let same : b ≡ 0 + b = omega arith in ap (λ (m : ℕ). nat_eq m 0) same
both_idle (suc a) b = ap (λ (t : Bool). t && nat_eq b 0) (more_than_none (suc a) (omega arith)) ∙ sym (more_than_none (suc a + b) (omega arith))

is_idle_of_all : (rule : ChoiceRule) (x : BlockItemForm) (before after : List BlockItemForm)
    → (is_free rule x before && is_free rule x after) ≡ nat_eq (waits_among rule x before + waits_among rule x after) 0
is_idle_of_all rule x before after =
    (λ j. is_idle rule x before j && is_idle rule x after j) ∙ both_idle (waits_among rule x before) (waits_among rule x after)

-- The first idle one of those that were passed over is the first free item.
record Idle (rule : ChoiceRule) (before after ahead : List BlockItemForm) (k : ℕ) : Type 0 where
  front : List BlockItemForm
  item : BlockItemForm
  back : List BlockItemForm
  is : after ≡ front ++ (item ∷ back)
  place : k ≡ length before + length front
  free : first_free rule before (after ++ ahead) ≡ Some (item, before ++ (front ++ (back ++ ahead)))

idle : (rule : ChoiceRule) (before after ahead : List BlockItemForm) (n k : ℕ) → n ≡ length before
    → first_idle_behind n (counted_behind rule before after ahead) ≡ Some k → Idle rule before after ahead k
idle rule before [] ahead n k at e = absurd cc
idle rule before (x ∷ after) ahead n k at e =
    go (idle rule (before ++ (x ∷ [])) after ahead (n + 1) k (omega (arith, at, length-append before (x ∷ []))))
    (nat_eq (waits_among rule x before + waits_among rule x (after ++ ahead)) 0) (is_idle_of_all rule x before (after ++ ahead)) e
  where
    go : (first_idle_behind (n + 1) (counted_behind rule (before ++ (x ∷ [])) after ahead) ≡ Some k → Idle rule (before ++ (x ∷ [])) after ahead k) → (b : Bool)
        → (is_free rule x before && is_free rule x (after ++ ahead)) ≡ b
        → (if b then Some n else first_idle_behind (n + 1) (counted_behind rule (before ++ (x ∷ [])) after ahead)) ≡ Some k → Idle rule before (x ∷ after) ahead k
    go more true free q =
        let same : n ≡ k = cc in
        record {
          front = [];
          item = x;
          back = after;
          is = refl;
          place = omega (arith, at, same);
          free = ap (λ (b : Bool). if b then Some (x, before ++ (after ++ ahead)) else first_free rule (before ++ (x ∷ [])) (after ++ ahead)) free;
        }
    go more false free q =
        let there = more q in
        record {
          front = x ∷ there.front;
          item = there.item;
          back = there.back;
          is = ap (λ (ys : List BlockItemForm). x ∷ ys) there.is;
          place = omega (arith, there.place, length-append before (x ∷ []));
          free =
              ap (λ (b : Bool). if b then Some (x, before ++ (after ++ ahead)) else first_free rule (before ++ (x ∷ [])) (after ++ ahead)) free
              ∙ (there.free ∙ ap (λ (ys : List BlockItemForm). Some (there.item, ys)) (append_assoc before (x ∷ []) (there.front ++ (there.back ++ ahead))));
        }

-- Where none of them is idle, the first free item is one ahead.
none_idle : (rule : ChoiceRule) (before after ahead : List BlockItemForm) (n : ℕ)
    → first_idle_behind n (counted_behind rule before after ahead) ≡ None → first_free rule before (after ++ ahead) ≡ first_free rule (before ++ after) ahead
none_idle rule before [] ahead n e = ap (λ (ys : List BlockItemForm). first_free rule ys ahead) (sym (append-nil before))
none_idle rule before (x ∷ after) ahead n e =
    go (none_idle rule (before ++ (x ∷ [])) after ahead (n + 1)) (nat_eq (waits_among rule x before + waits_among rule x (after ++ ahead)) 0)
    (is_idle_of_all rule x before (after ++ ahead)) e
  where
    go : (first_idle_behind (n + 1) (counted_behind rule (before ++ (x ∷ [])) after ahead) ≡ None
        → first_free rule (before ++ (x ∷ [])) (after ++ ahead) ≡ first_free rule ((before ++ (x ∷ [])) ++ after) ahead) → (b : Bool)
        → (is_free rule x before && is_free rule x (after ++ ahead)) ≡ b
        → (if b then Some n else first_idle_behind (n + 1) (counted_behind rule (before ++ (x ∷ [])) after ahead)) ≡ None
        → first_free rule before (x ∷ (after ++ ahead)) ≡ first_free rule (before ++ (x ∷ after)) ahead
    go more true free q = absurd cc
    go more false free q =
        ap (λ (b : Bool). if b then Some (x, before ++ (after ++ ahead)) else first_free rule (before ++ (x ∷ [])) (after ++ ahead)) free
        ∙ (more q ∙ ap (λ (ys : List BlockItemForm). first_free rule ys ahead) (append_assoc before (x ∷ []) after))

-- How many of several items an item waits for: as many as without one of them, and one more where it waits for that one.
waits_middle : (rule : ChoiceRule) (x : BlockItemForm) (us : List BlockItemForm) (y : BlockItemForm) (vs : List BlockItemForm)
    → waits_among rule x (us ++ (y ∷ vs)) ≡ one_if (must_wait_for rule x y) + waits_among rule x (us ++ vs)
waits_middle rule x [] y vs = refl
waits_middle rule x (u ∷ us) y vs = let more = waits_middle rule x us y vs in omega (arith, more)

-- Items were counted with one item more before them: when that one has come, they are counted as without it.
behind_it : (rule : ChoiceRule) (us : List BlockItemForm) (y : BlockItemForm) (vs xs ahead : List BlockItemForm)
    → map (after_item rule y) (counted_behind rule (us ++ (y ∷ vs)) xs ahead) ≡ counted_behind rule (us ++ vs) xs ahead
behind_it rule us y vs [] ahead = refl
behind_it rule us y vs (x ∷ xs) ahead =
    let own : waits_among rule x (us ++ (y ∷ vs)) + waits_among rule x (xs ++ ahead) - one_if (must_wait_for rule x y)
    ≡ waits_among rule x (us ++ vs) + waits_among rule x (xs ++ ahead) =
    omega (arith, waits_middle rule x us y vs) in
    let rest : map (after_item rule y) (counted_behind rule ((us ++ (y ∷ vs)) ++ (x ∷ [])) xs ahead) ≡ counted_behind rule ((us ++ vs) ++ (x ∷ [])) xs ahead =
    ap (λ (ws : List BlockItemForm). map (after_item rule y) (counted_behind rule ws xs ahead)) (append_assoc us (y ∷ vs) (x ∷ []))
    ∙ (behind_it rule us y (vs ++ (x ∷ [])) xs ahead ∙ ap (λ (ws : List BlockItemForm). counted_behind rule ws xs ahead) (sym (append_assoc us vs (x ∷ [])))) in
    (λ j. record { item = x; waits = own j } ∷ rest j)

-- Items were counted with one item more ahead of them: when that one has come, they are counted as without it.
before_it : (rule : ChoiceRule) (before xs : List BlockItemForm) (y : BlockItemForm) (ahead : List BlockItemForm)
    → map (after_item rule y) (counted_behind rule before xs (y ∷ ahead)) ≡ counted_behind rule before xs ahead
before_it rule before [] y ahead = refl
before_it rule before (x ∷ xs) y ahead =
    let own : waits_among rule x before + waits_among rule x (xs ++ (y ∷ ahead)) - one_if (must_wait_for rule x y)
    ≡ waits_among rule x before + waits_among rule x (xs ++ ahead) =
    omega (arith, waits_middle rule x xs y ahead) in
    (λ j. record { item = x; waits = own j } ∷ before_it rule (before ++ (x ∷ [])) xs y ahead j)

record Parted (rule : ChoiceRule) (before front : List BlockItemForm) (y : BlockItemForm) (back ahead : List BlockItemForm) : Type 0 where
  first : List WaitingForm
  it : WaitingForm
  last : List WaitingForm
  is : counted_behind rule before (front ++ (y ∷ back)) ahead ≡ first ++ (it ∷ last)
  item : it.item ≡ y
  place : length first ≡ length front
  after : map (after_item rule y) (first ++ last) ≡ counted_behind rule before (front ++ back) ahead

parted : (rule : ChoiceRule) (before front : List BlockItemForm) (y : BlockItemForm) (back ahead : List BlockItemForm) → Parted rule before front y back ahead
parted rule before [] y back ahead = record {
  first = [];
  it = record { item = y; waits = waits_among rule y before + waits_among rule y (back ++ ahead) };
  last = counted_behind rule (before ++ (y ∷ [])) back ahead;
  is = refl;
  item = refl;
  place = refl;
  after = behind_it rule before y [] back ahead ∙ ap (λ (ws : List BlockItemForm). counted_behind rule ws back ahead) (append-nil before);
}
parted rule before (x ∷ front) y back ahead =
    let there = parted rule (before ++ (x ∷ [])) front y back ahead in
    let own : waits_among rule x before + waits_among rule x ((front ++ (y ∷ back)) ++ ahead) - one_if (must_wait_for rule x y)
    ≡ waits_among rule x before + waits_among rule x ((front ++ back) ++ ahead) =
    omega (arith, ap (waits_among rule x) (append_assoc front (y ∷ back) ahead), ap (waits_among rule x) (append_assoc front back ahead), waits_middle rule x front y (back ++ ahead)) in
    record {
      first = record { item = x; waits = waits_among rule x before + waits_among rule x ((front ++ (y ∷ back)) ++ ahead) } ∷ there.first;
      it = there.it;
      last = there.last;
      is = ap (λ (ws : List WaitingForm). record { item = x; waits = waits_among rule x before + waits_among rule x ((front ++ (y ∷ back)) ++ ahead) } ∷ ws) there.is;
      item = there.item;
      place = ap suc there.place;
      after = (λ j. record { item = x; waits = own j } ∷ there.after j);
    }

-- One more is passed over.
passed_too : (rule : ChoiceRule) (before xs : List BlockItemForm) (y : BlockItemForm) (ahead : List BlockItemForm)
    → counted_behind rule before xs (y ∷ ahead) ++ (record { item = y; waits = waits_among rule y (before ++ xs) + waits_among rule y ahead } ∷ [])
    ≡ counted_behind rule before (xs ++ (y ∷ [])) ahead
passed_too rule before [] y ahead = ap (λ (ys : List BlockItemForm). record { item = y; waits = waits_among rule y ys + waits_among rule y ahead } ∷ []) (append-nil before)
passed_too rule before (x ∷ xs) y ahead =
    let own : waits_among rule x before + waits_among rule x (xs ++ (y ∷ ahead)) ≡ waits_among rule x before + waits_among rule x ((xs ++ (y ∷ [])) ++ ahead) =
    ap (λ (ys : List BlockItemForm). waits_among rule x before + waits_among rule x ys) (sym (append_assoc xs (y ∷ []) ahead)) in
    let rest =
    ap (λ (ys : List BlockItemForm). counted_behind rule (before ++ (x ∷ [])) xs (y ∷ ahead) ++ (record { item = y; waits = waits_among rule y ys + waits_among rule y ahead } ∷ []))
    (sym (append_assoc before (x ∷ []) xs))
    ∙ passed_too rule (before ++ (x ∷ [])) xs y ahead in
    (λ j. record { item = x; waits = own j } ∷ rest j)

-- the items of what was counted
items_counted : (rule : ChoiceRule) (before xs ahead : List BlockItemForm) → waiting_items (counted_behind rule before xs ahead) ≡ xs
items_counted rule before [] ahead = refl
items_counted rule before (x ∷ xs) ahead = ap (λ (ys : List BlockItemForm). x ∷ ys) (items_counted rule (before ++ (x ∷ [])) xs ahead)

-- the same of a list that stands for another
pub removed : {A B : Type 0} (f : A → B) (as' : List A) (us : List B) (u : B) (vs : List B) → map f as' ≡ us ++ (u ∷ vs) → map f (remove as' (length us)) ≡ us ++ vs
removed f [] [] u vs e = absurd cc
removed f [] (w ∷ us) u vs e = absurd cc
removed f (a ∷ as') [] u vs e = cc
removed f (a ∷ as') (w ∷ us) u vs e =
    let head : f a ≡ w = cc in
    let tail : map f as' ≡ us ++ (u ∷ vs) = cc in
    (λ j. head j ∷ removed f as' us u vs tail j)

pub read : {A B : Type 0} (f : A → B) (as' : List A) (d : A) (us : List B) (u : B) (vs : List B) → map f as' ≡ us ++ (u ∷ vs) → f (get_or as' (length us) d) ≡ u
read f [] d [] u vs e = absurd cc
read f [] d (w ∷ us) u vs e = absurd cc
read f (a ∷ as') d [] u vs e = cc
read f (a ∷ as') d (w ∷ us) u vs e = let tail : map f as' ≡ us ++ (u ∷ vs) = cc in read f as' d us u vs tail

-- The first item that waits for none is the next choice.
choice_of : (rule : ChoiceRule) (xs : List BlockItemForm) (p : BlockItemForm × List BlockItemForm) → first_free rule [] xs ≡ Some p → choice rule xs ≡ Some p
choice_of rule [] p e = absurd cc
choice_of rule (x ∷ xs) p e = ap (λ (o : Option (BlockItemForm × List BlockItemForm)). Some (or_first x xs o)) e

-- what remains is counted
abbrev pub AreCounted : ChoiceRule → List WaitingForm → List BlockItemForm → Type 0
AreCounted rule ws ahead = ws ≡ counted rule (waiting_items ws) ahead

-- The choice was taken, and what is left is counted.
abbrev pub TakesNext : ChoiceRule → List WaitingForm → List BlockItemForm → BlockItemForm → List WaitingForm → List BlockItemForm → Type 0
TakesNext rule ws ahead x new rest = (choice rule (waiting_items ws ++ ahead) ≡ Some (x, waiting_items new ++ rest)) × AreCounted rule new rest

recounted : (rule : ChoiceRule) (new : List WaitingForm) (xs ahead : List BlockItemForm) → new ≡ counted rule xs ahead → (waiting_items new ≡ xs) × AreCounted rule new ahead
recounted rule new xs ahead e =
    let items : waiting_items new ≡ xs = ap waiting_items e ∙ items_counted rule [] xs ahead in
    (items, e ∙ ap (λ (ys : List BlockItemForm). counted rule ys ahead) (sym items))

pub takes_idle : (rule : ChoiceRule) (ws : List WaitingForm) (ahead : List BlockItemForm) (k : ℕ) (x : BlockItemForm) (new : List WaitingForm)
    → first_idle_behind 0 ws ≡ Some k → Takes rule ws k x new → AreCounted rule ws ahead → TakesNext rule ws ahead x new ahead
takes_idle rule ws ahead k x new first takes is =
    let there = idle rule [] (waiting_items ws) ahead 0 k refl (ap (first_idle_behind 0) (sym is) ∙ first) in
    let parts = parted rule [] there.front there.item there.back ahead in
    let shape : ws ≡ parts.first ++ (parts.it ∷ parts.last) = is ∙ (ap (λ (ys : List BlockItemForm). counted rule ys ahead) there.is ∙ parts.is) in
    let taken = takes parts.first parts.it parts.last shape (omega (arith, parts.place, there.place)) in
    let same : there.item ≡ x = sym parts.item ∙ taken.0 in
    let rest = recounted rule new (there.front ++ there.back) ahead
    (taken.1 ∙ (ap (λ (y : BlockItemForm). map (after_item rule y) (parts.first ++ parts.last)) (sym same) ∙ parts.after)) in
    let left : there.front ++ (there.back ++ ahead) ≡ waiting_items new ++ ahead =
    sym (append_assoc there.front there.back ahead) ∙ ap (λ (ys : List BlockItemForm). ys ++ ahead) (sym rest.0) in
    (choice_of rule (waiting_items ws ++ ahead) (there.item, there.front ++ (there.back ++ ahead)) there.free ∙ (λ j. Some (same j, left j)), rest.1)

-- The next item ahead is the choice, where none that was passed over is idle.
pub takes_ahead : (rule : ChoiceRule) (ws : List WaitingForm) (x : BlockItemForm) (ahead : List BlockItemForm) (new : List WaitingForm)
    → first_idle_behind 0 ws ≡ None → nat_eq (waits_among rule x (waiting_items ws) + waits_among rule x ahead) 0 ≡ true → new ≡ map (after_item rule x) ws
    → AreCounted rule ws (x ∷ ahead) → TakesNext rule ws (x ∷ ahead) x new ahead
takes_ahead rule ws x ahead new none idle_one put is =
    let past = none_idle rule [] (waiting_items ws) (x ∷ ahead) 0 (ap (first_idle_behind 0) (sym is) ∙ none) in
    let free : (is_free rule x (waiting_items ws) && is_free rule x ahead) ≡ true = is_idle_of_all rule x (waiting_items ws) ahead ∙ idle_one in
    let here : first_free rule (waiting_items ws) (x ∷ ahead) ≡ Some (x, waiting_items ws ++ ahead) =
    ap (λ (b : Bool). if b then Some (x, waiting_items ws ++ ahead) else first_free rule (waiting_items ws ++ (x ∷ [])) ahead) free in
    let rest = recounted rule new (waiting_items ws) ahead (put ∙ (ap (map (after_item rule x)) is ∙ before_it rule [] (waiting_items ws) x ahead)) in
    (choice_of rule (waiting_items ws ++ (x ∷ ahead)) (x, waiting_items ws ++ ahead) (past ∙ here) ∙ ap (λ (ys : List BlockItemForm). Some (x, ys ++ ahead)) (sym rest.0), rest.1)

-- The first item is the choice, where none is idle.
pub takes_first : (rule : ChoiceRule) (ws : List WaitingForm) (x : BlockItemForm) (new : List WaitingForm)
    → first_idle_behind 0 ws ≡ None → Takes rule ws 0 x new → 0 < length ws → AreCounted rule ws [] → TakesNext rule ws [] x new []
takes_first rule [] x new none takes some is = absurd (omega (arith, some))
takes_first rule (w ∷ ws) x new none takes some is =
    let past : first_free rule [] (waiting_items (w ∷ ws) ++ []) ≡ None = none_idle rule [] (waiting_items (w ∷ ws)) [] 0 (ap (first_idle_behind 0) (sym is) ∙ none) in
    let taken = takes [] w ws refl refl in
    let tail : ws ≡ counted_behind rule (w.item ∷ []) (waiting_items ws) [] = cc in
    let rest = recounted rule new (waiting_items ws) []
    (taken.1 ∙ (ap (map (after_item rule x)) tail
    ∙ (ap (λ (y : BlockItemForm). map (after_item rule x) (counted_behind rule (y ∷ []) (waiting_items ws) [])) taken.0
    ∙ behind_it rule [] x [] (waiting_items ws) []))) in
    let left : waiting_items ws ++ [] ≡ waiting_items new ++ [] = ap (λ (ys : List BlockItemForm). ys ++ []) (sym rest.0) in
    (ap (λ (o : Option (BlockItemForm × List BlockItemForm)). Some (or_first w.item (waiting_items ws ++ []) o)) past ∙ (λ j. Some (taken.0 j, left j)), rest.1)

-- One that waits is passed over.
pub passes : (rule : ChoiceRule) (ws : List WaitingForm) (x : BlockItemForm) (ahead : List BlockItemForm) (new : List WaitingForm)
    → new ≡ ws ++ (record { item = x; waits = waits_among rule x (waiting_items ws) + waits_among rule x ahead } ∷ []) → AreCounted rule ws (x ∷ ahead)
    → (waiting_items ws ++ (x ∷ ahead) ≡ waiting_items new ++ ahead) × AreCounted rule new ahead
passes rule ws x ahead new put is =
    let it : List WaitingForm = record { item = x; waits = waits_among rule x (waiting_items ws) + waits_among rule x ahead } ∷ [] in
    let rest = recounted rule new (waiting_items ws ++ (x ∷ [])) ahead
    (put ∙ (ap (λ (us : List WaitingForm). us ++ it) is ∙ passed_too rule [] (waiting_items ws) x ahead)) in
    (sym (append_assoc (waiting_items ws) (x ∷ []) ahead) ∙ ap (λ (ys : List BlockItemForm). ys ++ ahead) (sym rest.0), rest.1)

-- Items that name no dependencies keep no other item waiting, so they need not be asked.
pub naming_suffice : (x : BlockItemForm) (ys : List BlockItemForm) → waits_among DependentsFirst x (filter has_deps ys) ≡ waits_among DependentsFirst x ys
naming_suffice x [] = refl
naming_suffice x (y ∷ ys) = go (has_deps y) refl (naming_suffice x ys)
  where
    idle_one : (deps : List (List ℕ)) → are_some deps ≡ false → is_among (item_name x) deps ≡ false
    idle_one [] e = refl
    idle_one (n ∷ ns) e = absurd cc

    go : (b : Bool) → has_deps y ≡ b → waits_among DependentsFirst x (filter has_deps ys) ≡ waits_among DependentsFirst x ys
        → waits_among DependentsFirst x (cond b (y ∷ filter has_deps ys) (filter has_deps ys)) ≡ one_if (depends_on y x) + waits_among DependentsFirst x ys
    go true e more = ap (λ (n : ℕ). one_if (depends_on y x) + n) more
    go false e more =
        let zero_one : one_if (depends_on y x) ≡ 0 = ap one_if (idle_one (item_deps y) e) in
        omega (arith, more, zero_one)

-- An item that names no dependencies waits for none.
pub waits_for_none : (x : BlockItemForm) (ys : List BlockItemForm) → has_deps x ≡ false → waits_among DependenciesFirst x ys ≡ 0
waits_for_none x [] e = refl
waits_for_none x (y ∷ ys) e =
    let zero_one : one_if (depends_on x y) ≡ 0 = ap one_if (go (item_deps x) e) in
    omega (arith, waits_for_none x ys e, zero_one)
  where
    go : (deps : List (List ℕ)) → are_some deps ≡ false → is_among (item_name y) deps ≡ false
    go [] q = refl
    go (n ∷ ns) q = absurd cc

-- The first so many of these wait for one less, where they waited for the item that has come.
abbrev pub after_item_first : ChoiceRule → BlockItemForm → ℕ → List WaitingForm → List WaitingForm
after_item_first rule y n [] = []
after_item_first rule y zero (w ∷ ws) = w ∷ ws
after_item_first rule y (suc n) (w ∷ ws) = after_item rule y w ∷ after_item_first rule y n ws

-- One more no longer waits.
pub one_released : (rule : ChoiceRule) (y : BlockItemForm) (n : ℕ) (ws : List WaitingForm) (d : WaitingForm) → n < length ws
    → set (after_item_first rule y n ws) n (after_item rule y (get_or (after_item_first rule y n ws) n d)) ≡ after_item_first rule y (suc n) ws
one_released rule y n [] d h = absurd (omega arith)
one_released rule y zero (w ∷ []) d h = refl
one_released rule y zero (w ∷ (v ∷ ws)) d h = refl
one_released rule y (suc n) (w ∷ ws) d h = ap (λ (vs : List WaitingForm). after_item rule y w ∷ vs) (one_released rule y n ws d (omega arith))

pub all_released : (rule : ChoiceRule) (y : BlockItemForm) (n : ℕ) (ws : List WaitingForm) → n ≡ length ws → after_item_first rule y n ws ≡ map (after_item rule y) ws
all_released rule y n [] h = refl
all_released rule y zero (w ∷ ws) h = absurd (omega (arith, h))
all_released rule y (suc n) (w ∷ ws) h = ap (λ (vs : List WaitingForm). after_item rule y w ∷ vs) (all_released rule y n ws (omega (arith, h)))

pub none_released : (rule : ChoiceRule) (y : BlockItemForm) (ws : List WaitingForm) → ws ≡ after_item_first rule y 0 ws
none_released rule y [] = refl
none_released rule y (w ∷ ws) = refl

pub one_more_released : (rule : ChoiceRule) (y : BlockItemForm) (n : ℕ) (left new old : List Waiting) (w v : Waiting)
    → all_waiting left ≡ after_item_first rule y n (all_waiting old) → n < length old → length left ≡ length old → w ≡ get_or left n w
    → waiting_of v ≡ after_item rule y (waiting_of w) → new ≡ set left n v → all_waiting new ≡ after_item_first rule y (n + 1) (all_waiting old)
one_more_released rule y n left new old w v so more same is own put =
    let d : WaitingForm = waiting_of w in
    let long : length (all_waiting old) ≡ length old = length-map old waiting_of in
    let inside : n < length (all_waiting old) = omega (arith, more, long) in
    let read_so : waiting_of w ≡ get_or (all_waiting left) n d = ap waiting_of is ∙ sym (get_or-map waiting_of left n w (waiting_of w) (omega (arith, more, same))) in
    let here : waiting_of v ≡ after_item rule y (get_or (after_item_first rule y n (all_waiting old)) n d) =
    own ∙ ap (after_item rule y) (read_so ∙ ap (λ (ws : List WaitingForm). get_or ws n d) so) in
    let next : suc n ≡ n + 1 = omega arith in
    ap all_waiting put
    ∙ (map-set waiting_of left n v
    ∙ ((λ j. set (so j) n (here j))
    ∙ (one_released rule y n (all_waiting old) d inside
    ∙ ap (λ (m : ℕ). after_item_first rule y m (all_waiting old)) next)))

-- One item waits for no more than there are.
few_wait : (rule : ChoiceRule) (x : BlockItemForm) (ys : List BlockItemForm) → waits_among rule x ys ≤ length ys
few_wait rule x [] = omega arith
few_wait rule x (y ∷ ys) = go (must_wait_for rule x y) (few_wait rule x ys)
  where
    go : (b : Bool) → waits_among rule x ys ≤ length ys → one_if b + waits_among rule x ys ≤ length (y ∷ ys)
    go true h = omega (arith, h)
    go false h = omega (arith, h)

pub few_count : (rule : ChoiceRule) (x : BlockItemForm) (items : List BlockItem) (n : ℕ) → n ≡ waits_among rule x (block_items_of items) → n ≤ length items
few_count rule x items n e = omega (arith, e, few_wait rule x (block_items_of items), length-map items block_item_of)

pub naming_count : (rule : ChoiceRule) (x : BlockItemForm) (items naming : List BlockItem) (n : ℕ) → rule ≡ DependentsFirst
    → block_items_of naming ≡ filter has_deps (block_items_of items) → n ≡ waits_among rule x (block_items_of naming) → n ≡ waits_among rule x (block_items_of items)
naming_count DependentsFirst x items naming n e those is = is ∙ (ap (waits_among DependentsFirst x) those ∙ naming_suffice x (block_items_of items))
naming_count DependenciesFirst x items naming n e those is = absurd cc

pub none_count : (rule : ChoiceRule) (x : BlockItemForm) (items : List BlockItem) → rule ≡ DependenciesFirst → has_deps x ≡ false → 0 ≡ waits_among rule x (block_items_of items)
none_count DependentsFirst x items e none = absurd cc
none_count DependenciesFirst x items e none = sym (waits_for_none x (block_items_of items) none)

-- One was taken out of memory.
pub takes : (rule : ChoiceRule) (old new : List Waiting) (k : ℕ) (x : BlockItem) → ((d : Waiting) → x ≡ (get_or old k d).item)
    → all_waiting new ≡ map (after_item rule (block_item_of x)) (all_waiting (remove old k)) → Takes rule (all_waiting old) k (block_item_of x) (all_waiting new)
takes rule [] new k x at left us w vs shape place = absurd (no_split us shape)
  where
    no_split : (us : List WaitingForm) → [] ≡ us ++ (w ∷ vs) → ⊥
    no_split [] e = absurd cc
    no_split (u ∷ us) e = absurd cc
takes rule (d ∷ old) new k x at left us w vs shape place =
    let item : w.item ≡ block_item_of x =
    sym (ap (λ (u : WaitingForm). u.item) (read waiting_of (d ∷ old) d us w vs shape))
    ∙ (ap (λ (m : ℕ). block_item_of (get_or (d ∷ old) m d).item) place ∙ sym (ap block_item_of (at d))) in
    let rest : all_waiting (remove (d ∷ old) k) ≡ us ++ vs = ap (λ (m : ℕ). all_waiting (remove (d ∷ old) m)) (sym place) ∙ removed waiting_of (d ∷ old) us w vs shape in
    (item, left ∙ ap (map (after_item rule (block_item_of x))) rest)
