-- An order follows dependencies that have no cycle.
use Rattle.std.proofs.Common.{◌≡◌, refl, ap, sym, subst, ◌∙◌, ℕ, zero, suc, ◌≤◌, Bool, true, false, not, ◌&&◌, ◌||◌, List, [], ◌∷◌, ◌++◌, length, Option, None, Some, ◌⊎◌, inl, inr, if◌then◌else◌, arith}
use Rattle.std.specs.List.{AllByRecursion, list_any}
use Rattle.std.proofs.lemmas.List.{append_assoc}
use Rattle.std.proofs.lemmas.List.Folds.{list_any-append}
use Rattle.std.proofs.lemmas.List.Sorted.{list_any-IsPermutation}
use Rattle.relup_block.specs.declared.order.ChoiceRule.{ChoiceRule}
use Rattle.relup_block.specs.Order.{BlockItemForm, must_wait_for, is_free, first_free, or_first, choice, choose_then, choices, order}
use Rattle.relup_block.specs.Laws.{IsLower, HaveNoCycle, StandBehind, MakesOrders}
use Rattle.relup_block.proofs.PermutationLemmas.{choice_length, order_has_items}

module _ (rule : ChoiceRule) (number : BlockItemForm → ℕ) where
  -- neither waits for the other but by the numbers
  abbrev Apart : BlockItemForm → BlockItemForm → Type 0
  Apart x y = IsLower rule number y x × IsLower rule number x y

  -- what holds of all items holds of all but one, and of that one
  without : (b x : BlockItemForm) (us vs : List BlockItemForm) → AllByRecursion (Apart b) (us ++ (x ∷ vs)) → Apart b x × AllByRecursion (Apart b) (us ++ vs)
  without b x [] vs h = h
  without b x (u ∷ us) vs h = let more = without b x us vs h.1 in (more.0, (h.0, more.1))

  -- without one item the others have no cycle either, and that one is apart from them
  taken_out : (x : BlockItemForm) (us vs : List BlockItemForm) → HaveNoCycle rule number (us ++ (x ∷ vs))
      → AllByRecursion (Apart x) (us ++ vs) × HaveNoCycle rule number (us ++ vs)
  taken_out x [] vs h = h
  taken_out x (u ∷ us) vs h =
      let more = taken_out x us vs h.1 in
      let own = without u x us vs h.0 in
      (((own.0.1, own.0.0), more.0), (own.1, more.1))

  -- An item with the lowest number is free of the others.
  lowest_free : (m : BlockItemForm) (ys : List BlockItemForm) → AllByRecursion (Apart m) ys → AllByRecursion (λ (y : BlockItemForm). number m ≤ number y) ys → is_free rule m ys ≡ true
  lowest_free m [] a l = refl
  lowest_free m (y ∷ ys) a l = go (must_wait_for rule m y) refl (lowest_free m ys a.1 l.1)
    where
      go : (b : Bool) → must_wait_for rule m y ≡ b → is_free rule m ys ≡ true → not (b || list_any (must_wait_for rule m) ys) ≡ true
      go true e more = absurd (omega (arith, a.0.0 e, l.0))
      go false e more = more

  -- one with the lowest number
  record Lowest (xs : List BlockItemForm) : Type 0 where
    front : List BlockItemForm
    item : BlockItemForm
    back : List BlockItemForm
    is : xs ≡ front ++ (item ∷ back)
    low : AllByRecursion (λ (y : BlockItemForm). number item ≤ number y) (front ++ back)

  lower : (m n : ℕ) (ys : List BlockItemForm) → m ≤ n → AllByRecursion (λ (y : BlockItemForm). n ≤ number y) ys → AllByRecursion (λ (y : BlockItemForm). m ≤ number y) ys
  lower m n [] h a = tt
  lower m n (y ∷ ys) h a = (omega (arith, h, a.0), lower m n ys h a.1)

  around : (n : ℕ) (x : BlockItemForm) (us vs : List BlockItemForm) → n ≤ number x → AllByRecursion (λ (y : BlockItemForm). n ≤ number y) (us ++ vs) → AllByRecursion (λ (y : BlockItemForm). n ≤ number y) (us ++ (x ∷ vs))
  around n x [] vs h a = (h, a)
  around n x (u ∷ us) vs h a = (a.0, around n x us vs h a.1)

  either : (m n : ℕ) → (m ≤ n) ⊎ (n ≤ m)
  either zero n = inl (omega arith)
  either (suc m) zero = inr (omega arith)
  either (suc m) (suc n) = go (either m n)
    where
      go : (m ≤ n) ⊎ (n ≤ m) → (suc m ≤ suc n) ⊎ (suc n ≤ suc m)
      go (inl h) = inl (omega (arith, h))
      go (inr h) = inr (omega (arith, h))

  lowest : (x : BlockItemForm) (xs : List BlockItemForm) → Lowest (x ∷ xs)
  lowest x [] = record { front = []; item = x; back = []; is = refl; low = tt }
  lowest x (y ∷ ys) = go (lowest y ys)
    where
      go : Lowest (y ∷ ys) → Lowest (x ∷ y ∷ ys)
      go there = pick (either (number x) (number there.item))
        where
          pick : (number x ≤ number there.item) ⊎ (number there.item ≤ number x) → Lowest (x ∷ y ∷ ys)
          pick (inl h) = record {
            front = [];
            item = x;
            back = y ∷ ys;
            is = refl;
            low =
                subst (λ (zs : List BlockItemForm). AllByRecursion (λ (z : BlockItemForm). number x ≤ number z) zs) (sym there.is)
                (around (number x) there.item there.front there.back h (lower (number x) (number there.item) (there.front ++ there.back) h there.low));
          }
          pick (inr h) = record {
            front = x ∷ there.front;
            item = there.item;
            back = there.back;
            is = ap (λ (zs : List BlockItemForm). x ∷ zs) there.is;
            low = (h, there.low);
          }

-- free of these and those, it is free of all
free_of_both : (rule : ChoiceRule) (x : BlockItemForm) (us vs : List BlockItemForm) → is_free rule x (us ++ vs) ≡ (is_free rule x us && is_free rule x vs)
free_of_both rule x us vs = ap not (list_any-append (must_wait_for rule x) us vs) ∙ neither (list_any (must_wait_for rule x) us) (list_any (must_wait_for rule x) vs)
  where
    neither : (a b : Bool) → not (a || b) ≡ (not a && not b)
    neither true b = refl
    neither false b = refl

-- Where no item is free, none of them is free of the others.
none_is_free : (rule : ChoiceRule) (before front : List BlockItemForm) (x : BlockItemForm) (back : List BlockItemForm)
    → first_free rule before (front ++ (x ∷ back)) ≡ None → is_free rule x (before ++ (front ++ back)) ≡ false
none_is_free rule before [] x back e = free_of_both rule x before back ∙ go (is_free rule x before && is_free rule x back) refl e
  where
    go : (b : Bool) → (is_free rule x before && is_free rule x back) ≡ b
        → (if b then Some (x, before ++ back) else first_free rule (before ++ (x ∷ [])) back) ≡ None → (is_free rule x before && is_free rule x back) ≡ false
    go true is q = absurd cc
    go false is q = is
none_is_free rule before (u ∷ front) x back e =
    go (none_is_free rule (before ++ (u ∷ [])) front x back) (is_free rule u before && is_free rule u (front ++ (x ∷ back))) e
  where
    go : (first_free rule (before ++ (u ∷ [])) (front ++ (x ∷ back)) ≡ None → is_free rule x ((before ++ (u ∷ [])) ++ (front ++ back)) ≡ false) → (b : Bool)
        → (if b then Some (u, before ++ (front ++ (x ∷ back))) else first_free rule (before ++ (u ∷ [])) (front ++ (x ∷ back))) ≡ None
        → is_free rule x (before ++ (u ∷ (front ++ back))) ≡ false
    go more true q = absurd cc
    go more false q = ap (is_free rule x) (sym (append_assoc before (u ∷ []) (front ++ back))) ∙ more q

-- A choice takes one item out, and leaves the others.
record Split (xs : List BlockItemForm) (p : BlockItemForm × List BlockItemForm) : Type 0 where
  front : List BlockItemForm
  back : List BlockItemForm
  is : xs ≡ front ++ (p.0 ∷ back)
  rest : p.1 ≡ front ++ back

-- The first free item is free of the others.
record FreeSplit (rule : ChoiceRule) (xs : List BlockItemForm) (p : BlockItemForm × List BlockItemForm) : Type 0 where
  split : Split xs p
  free : is_free rule p.0 p.1 ≡ true

first_free_split : (rule : ChoiceRule) (before after : List BlockItemForm) (p : BlockItemForm × List BlockItemForm)
    → first_free rule before after ≡ Some p → FreeSplit rule (before ++ after) p
first_free_split rule before [] p e = absurd cc
first_free_split rule before (x ∷ after) p e =
    go (first_free_split rule (before ++ (x ∷ [])) after p) (is_free rule x before && is_free rule x after) refl e
  where
    go : (first_free rule (before ++ (x ∷ [])) after ≡ Some p → FreeSplit rule ((before ++ (x ∷ [])) ++ after) p) → (b : Bool)
        → (is_free rule x before && is_free rule x after) ≡ b
        → (if b then Some (x, before ++ after) else first_free rule (before ++ (x ∷ [])) after) ≡ Some p → FreeSplit rule (before ++ (x ∷ after)) p
    go more true is q =
        let here : BlockItemForm × List BlockItemForm = (x, before ++ after) in
        let same : here ≡ p = cc in
        subst (FreeSplit rule (before ++ (x ∷ after))) same (record {
          split = record { front = before; back = after; is = refl; rest = refl };
          free = free_of_both rule x before after ∙ is;
        })
    go more false is q = subst (λ (ys : List BlockItemForm). FreeSplit rule ys p) (append_assoc before (x ∷ []) after) (more q)

-- Where the dependencies have no cycle, the choice is free.
choice_free : (rule : ChoiceRule) (number : BlockItemForm → ℕ) (xs : List BlockItemForm) (p : BlockItemForm × List BlockItemForm)
    → HaveNoCycle rule number xs → choice rule xs ≡ Some p → FreeSplit rule xs p
choice_free rule number [] p h e = absurd cc
choice_free rule number (x ∷ xs) p h e = go (first_free rule [] (x ∷ xs)) refl e
  where
    low : Lowest rule number (x ∷ xs)
    low = lowest rule number x xs

    free : is_free rule low.item (low.front ++ low.back) ≡ true
    free = lowest_free rule number low.item (low.front ++ low.back) (taken_out rule number low.item low.front low.back (subst (HaveNoCycle rule number) low.is h)).0 low.low

    go : (o : Option (BlockItemForm × List BlockItemForm)) → first_free rule [] (x ∷ xs) ≡ o → Some (or_first x xs o) ≡ Some p → FreeSplit rule (x ∷ xs) p
    go None is q =
        let none : is_free rule low.item (low.front ++ low.back) ≡ false =
        none_is_free rule [] low.front low.item low.back (ap (first_free rule []) (sym low.is) ∙ is) in
        let both : true ≡ false = sym free ∙ none in
        absurd cc
    go (Some r) is q = let same : r ≡ p = cc in first_free_split rule [] (x ∷ xs) p (is ∙ ap Some same)

choices_follow : (rule : ChoiceRule) (number : BlockItemForm → ℕ) (n : ℕ) (xs : List BlockItemForm)
    → length xs ≡ n → HaveNoCycle rule number xs → StandBehind rule (choices rule n xs)
choices_follow rule number zero xs long h = tt
choices_follow rule number (suc n) xs long h = go (λ ys l none. choices_follow rule number n ys l none) (choice rule xs) refl
  where
    go : ((ys : List BlockItemForm) → length ys ≡ n → HaveNoCycle rule number ys → StandBehind rule (choices rule n ys))
        → (o : Option (BlockItemForm × List BlockItemForm)) → choice rule xs ≡ o → StandBehind rule (choose_then (λ rest. choices rule n rest) o)
    go more None e = tt
    go more (Some p) e =
        let there = choice_free rule number xs p h e in
        let rest : length p.1 ≡ n = choice_length rule n xs p e long in
        let none : HaveNoCycle rule number p.1 =
        subst (HaveNoCycle rule number) (sym there.split.rest)
        (taken_out rule number p.0 there.split.front there.split.back (subst (HaveNoCycle rule number) there.split.is h)).1 in
        let same : list_any (must_wait_for rule p.0) p.1 ≡ list_any (must_wait_for rule p.0) (choices rule n p.1) =
        list_any-IsPermutation (must_wait_for rule p.0) p.1 (order rule p.1) (order_has_items rule p.1)
        ∙ ap (λ (m : ℕ). list_any (must_wait_for rule p.0) (choices rule m p.1)) rest in
        (ap not (sym same) ∙ there.free, more p.1 rest none)

pub makes_orders : MakesOrders
makes_orders rule xs = record { same = order_has_items rule xs; behind = λ number h. choices_follow rule number (length xs) xs refl h }
