-- The orders of a block have its items, each once.
use Rattle.std.proofs.Common.{◌≡◌, refl, ap, sym, subst, ◌∙◌, ℕ, zero, suc, Bool, true, false, cond, ◌&&◌, List, [], ◌∷◌, ◌++◌, length, filter, filter_map, Option, None, Some, if◌then◌else◌, IsPermutation, arith}
use Rattle.std.proofs.lemmas.List.{append_assoc}
use Rattle.std.proofs.lemmas.List.Elements.{filter_map-append}
use Rattle.std.proofs.lemmas.List.Sorted.{IsPermutation-refl, IsPermutation-trans, IsPermutation-cons, IsPermutation-middle, length_permutation}
use Rattle.std.specs.List.{cons_option}
use Rattle.relup_block.specs.declared.order.ChoiceRule.{ChoiceRule}
use Rattle.relup_block.specs.Order.{BlockItemForm, is_free, first_free, or_first, choice, choose_then, choices, order}

-- What is made of the items, of each by itself, is the same of an order of them but for its own order.
module _ {B : Type 0} (f : BlockItemForm → Option B) where
  abbrev Same : List BlockItemForm → List BlockItemForm → Type 0
  Same xs ys = IsPermutation (filter_map f xs) (filter_map f ys)

  taken : (o : Option B) (us vs : List B) → IsPermutation (us ++ cons_option o vs) (cons_option o (us ++ vs))
  taken None us vs = IsPermutation-refl (us ++ vs)
  taken (Some b) us vs = IsPermutation-middle us b vs

  put_under : (o : Option B) (us vs : List B) → IsPermutation us vs → IsPermutation (cons_option o us) (cons_option o vs)
  put_under None us vs h = h
  put_under (Some b) us vs h = IsPermutation-cons b us vs h

  to_front : (before : List BlockItemForm) (x : BlockItemForm) (after : List BlockItemForm) → Same (before ++ (x ∷ after)) (x ∷ (before ++ after))
  to_front before x after =
      subst (λ (us : List B). IsPermutation us (filter_map f (x ∷ (before ++ after)))) (sym (filter_map-append f before (x ∷ after)))
      (subst (λ (us : List B). IsPermutation (filter_map f before ++ cons_option (f x) (filter_map f after)) (cons_option (f x) us)) (sym (filter_map-append f before after))
      (taken (f x) (filter_map f before) (filter_map f after)))

  first_free_same : (rule : ChoiceRule) (before after : List BlockItemForm) (p : BlockItemForm × List BlockItemForm)
      → first_free rule before after ≡ Some p → Same (before ++ after) (p.0 ∷ p.1)
  first_free_same rule before [] p e = absurd cc
  first_free_same rule before (x ∷ after) p e = go (first_free_same rule (before ++ (x ∷ [])) after p) (is_free rule x before && is_free rule x after) e
    where
      go : (first_free rule (before ++ (x ∷ [])) after ≡ Some p → Same ((before ++ (x ∷ [])) ++ after) (p.0 ∷ p.1)) → (b : Bool)
          → (if b then Some (x, before ++ after) else first_free rule (before ++ (x ∷ [])) after) ≡ Some p → Same (before ++ (x ∷ after)) (p.0 ∷ p.1)
      go more true q =
          let here : BlockItemForm × List BlockItemForm = (x, before ++ after) in
          let same : here ≡ p = cc in
          subst (λ (r : BlockItemForm × List BlockItemForm). Same (before ++ (x ∷ after)) (r.0 ∷ r.1)) same (to_front before x after)
      go more false q = subst (λ (xs : List BlockItemForm). Same xs (p.0 ∷ p.1)) (append_assoc before (x ∷ []) after) (more q)

  choice_same : (rule : ChoiceRule) (xs : List BlockItemForm) (p : BlockItemForm × List BlockItemForm) → choice rule xs ≡ Some p → Same xs (p.0 ∷ p.1)
  choice_same rule [] p e = absurd cc
  choice_same rule (x ∷ xs) p e = go (first_free rule [] (x ∷ xs)) refl e
    where
      go : (o : Option (BlockItemForm × List BlockItemForm)) → first_free rule [] (x ∷ xs) ≡ o → Some (or_first x xs o) ≡ Some p → Same (x ∷ xs) (p.0 ∷ p.1)
      go None free q =
          let here : BlockItemForm × List BlockItemForm = (x, xs) in
          let same : here ≡ p = cc in
          subst (λ (r : BlockItemForm × List BlockItemForm). Same (x ∷ xs) (r.0 ∷ r.1)) same (IsPermutation-refl (filter_map f (x ∷ xs)))
      go (Some r) free q = let same : r ≡ p = cc in first_free_same rule [] (x ∷ xs) p (free ∙ ap Some same)

-- With what is made of an item the item itself, the items are the same.
all_some : (xs : List BlockItemForm) → filter_map Some xs ≡ xs
all_some [] = refl
all_some (x ∷ xs) = ap (λ (ys : List BlockItemForm). x ∷ ys) (all_some xs)

pub choice_length : (rule : ChoiceRule) (n : ℕ) (xs : List BlockItemForm) (p : BlockItemForm × List BlockItemForm) → choice rule xs ≡ Some p → length xs ≡ suc n → length p.1 ≡ n
choice_length rule n xs p e long =
    let same = length_permutation _ _ (choice_same Some rule xs p e) in
    let count : suc (length p.1) ≡ length xs = ap length (sym (all_some (p.0 ∷ p.1))) ∙ (same ∙ ap length (all_some xs)) in
    omega (arith, count, long)

module _ {B : Type 0} (f : BlockItemForm → Option B) where
  choices_same : (rule : ChoiceRule) (n : ℕ) (xs : List BlockItemForm) → length xs ≡ n → Same f xs (choices rule n xs)
  choices_same rule zero [] long = IsPermutation-refl []
  choices_same rule zero (x ∷ xs) long = absurd (omega (arith, long))
  choices_same rule (suc n) xs long = go (λ ys more. choices_same rule n ys more) (choice rule xs) refl
    where
      no_choice : (ys : List BlockItemForm) → choice rule ys ≡ None → length ys ≡ suc n → ⊥
      no_choice [] e m = absurd (omega (arith, m))
      no_choice (y ∷ ys) e m = absurd cc

      go : ((ys : List BlockItemForm) → length ys ≡ n → Same f ys (choices rule n ys)) → (o : Option (BlockItemForm × List BlockItemForm))
          → choice rule xs ≡ o → Same f xs (choose_then (λ rest. choices rule n rest) o)
      go more None e = absurd (no_choice xs e long)
      go more (Some p) e =
          IsPermutation-trans _ _ _ (choice_same f rule xs p e)
          (put_under f (f p.0) _ _ (more p.1 (choice_length rule n xs p e long)))

  pub order_same : (rule : ChoiceRule) (xs : List BlockItemForm) → IsPermutation (filter_map f xs) (filter_map f (order rule xs))
  order_same rule xs = choices_same rule (length xs) xs refl

pub order_has_items : (rule : ChoiceRule) (xs : List BlockItemForm) → IsPermutation xs (order rule xs)
order_has_items rule xs =
    subst (λ (ys : List BlockItemForm). IsPermutation ys (order rule xs)) (all_some xs)
    (subst (λ (ys : List BlockItemForm). IsPermutation (filter_map Some xs) ys) (all_some (order rule xs)) (order_same Some rule xs))

-- the items that pass a test
abbrev picked : (BlockItemForm → Bool) → BlockItemForm → Option BlockItemForm
picked test x = if test x then Some x else None

all_picked : (test : BlockItemForm → Bool) (xs : List BlockItemForm) → filter_map (picked test) xs ≡ filter test xs
all_picked test [] = refl
all_picked test (x ∷ xs) = go (all_picked test xs) (test x)
  where
    go : filter_map (picked test) xs ≡ filter test xs → (b : Bool)
        → cons_option (if b then Some x else None) (filter_map (picked test) xs) ≡ cond b (x ∷ filter test xs) (filter test xs)
    go more true = ap (λ (ys : List BlockItemForm). x ∷ ys) more
    go more false = more

pub order_filter : (test : BlockItemForm → Bool) (rule : ChoiceRule) (xs : List BlockItemForm) → IsPermutation (filter test xs) (filter test (order rule xs))
order_filter test rule xs =
    subst (λ (ys : List BlockItemForm). IsPermutation ys (filter test (order rule xs))) (all_picked test xs)
    (subst (λ (ys : List BlockItemForm). IsPermutation (filter_map (picked test) xs) ys) (all_picked test (order rule xs)) (order_same (picked test) rule xs))
