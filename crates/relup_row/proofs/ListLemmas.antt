-- What holds of all of a list holds of all that is made of it.
use Rattle.std.proofs.Common.{◌≡◌, refl, sym, subst, Bool, true, false, List, [], ◌∷◌, ◌++◌, map, reverse, filter, filter_map, flat_map, find, Option, None, Some, IfSome, if◌then◌else◌, IsPermutation}
use Rattle.std.proofs.lemmas.List.{reverse-append}
use Rattle.std.proofs.lemmas.List.Elements.{All-from_recursion, recursion_from_All, All-filter}
use Rattle.std.proofs.lemmas.List.Sorted.{All-permutation}
use Rattle.std.specs.List.{AllByRecursion, cons_option}
use Rattle.std.specs.Option.{option_and_then}

module _ {A : Type 0} (P : A → Type 0) where
  -- P holds of two lists together where it holds of each, and of each where it holds of both together.
  pub of_both : (xs ys : List A) → AllByRecursion P xs → AllByRecursion P ys → AllByRecursion P (xs ++ ys)
  of_both [] ys h k = k
  of_both (x ∷ xs) ys h k = (h.0, of_both xs ys h.1 k)

  pub of_first : (xs ys : List A) → AllByRecursion P (xs ++ ys) → AllByRecursion P xs
  of_first [] ys h = tt
  of_first (x ∷ xs) ys h = (h.0, of_first xs ys h.1)

  pub of_last : (xs ys : List A) → AllByRecursion P (xs ++ ys) → AllByRecursion P ys
  of_last [] ys h = h
  of_last (x ∷ xs) ys h = of_last xs ys h.1

  -- P holds of what is made of each member of a list.
  pub of_each : {B : Type 0} (f : B → A) → ((b : B) → P (f b)) → (bs : List B) → AllByRecursion P (map f bs)
  of_each f each [] = tt
  of_each f each (b ∷ bs) = (each b, of_each f each bs)

  pub of_map : {B : Type 0} (Q : B → Type 0) (f : B → A) → ((b : B) → Q b → P (f b)) → (bs : List B) → AllByRecursion Q bs → AllByRecursion P (map f bs)
  of_map Q f each [] h = tt
  of_map Q f each (b ∷ bs) h = (each b h.0, of_map Q f each bs h.1)

  pub of_parts : {B : Type 0} (Q : B → Type 0) (f : B → List A) → ((b : B) → Q b → AllByRecursion P (f b)) → (bs : List B) → AllByRecursion Q bs
      → AllByRecursion P (flat_map f bs)
  of_parts Q f each [] h = tt
  of_parts Q f each (b ∷ bs) h = of_both (f b) (flat_map f bs) (each b h.0) (of_parts Q f each bs h.1)

  -- P holds of what may be made of each member of a list.
  pub of_some : {B : Type 0} (Q : B → Type 0) (f : B → Option A) → ((b : B) (a : A) → Q b → f b ≡ Some a → P a) → (bs : List B) → AllByRecursion Q bs
      → AllByRecursion P (filter_map f bs)
  of_some Q f each [] h = tt
  of_some Q f each (b ∷ bs) h = go (f b) refl (of_some Q f each bs h.1)
    where
      go : (o : Option A) → f b ≡ o → AllByRecursion P (filter_map f bs) → AllByRecursion P (cons_option o (filter_map f bs))
      go None e k = k
      go (Some a) e k = (each b a h.0 e, k)

  pub of_options : {B : Type 0} (Q : B → Type 0) (f : B → Option A) → ((b : B) → Q b → IfSome (f b) P) → (bs : List B) → AllByRecursion Q bs
      → AllByRecursion P (filter_map f bs)
  of_options Q f each bs h = of_some Q f (λ b a q e. subst (λ (o : Option A). IfSome o P) e (each b q)) bs h

  -- P holds of the members that pass a test.
  pub of_filter : (test : A → Bool) (xs : List A) → AllByRecursion P xs → AllByRecursion P (filter test xs)
  of_filter test xs h = recursion_from_All P (filter test xs) (All-filter test P xs (All-from_recursion P xs h))

  -- P holds of the members in another order.
  pub of_permutation : (xs ys : List A) → IsPermutation xs ys → AllByRecursion P xs → AllByRecursion P ys
  of_permutation xs ys same h = recursion_from_All P ys (All-permutation P xs ys same (All-from_recursion P xs h))

  pub of_reverse : (xs : List A) → AllByRecursion P xs → AllByRecursion P (reverse xs)
  of_reverse [] h = tt
  of_reverse (x ∷ xs) h = subst (AllByRecursion P) (sym (reverse-append (x ∷ []) xs)) (of_both (reverse xs) (x ∷ []) (of_reverse xs h.1) (h.0, tt))

  -- P holds of the first member that passes a test.
  pub of_found : (test : A → Bool) (xs : List A) → AllByRecursion P xs → IfSome (find test xs) P
  of_found test [] h = tt
  of_found test (x ∷ xs) h = go (test x) (of_found test xs h.1)
    where
      go : (b : Bool) → IfSome (find test xs) P → IfSome (if b then Some x else find test xs) P
      go true more = h.0
      go false more = more

  -- P holds of what may be made of a value, if there is one.
  pub of_next : {B : Type 0} (Q : B → Type 0) (f : B → Option A) → ((b : B) → Q b → IfSome (f b) P) → (o : Option B) → IfSome o Q
      → IfSome (option_and_then f o) P
  of_next Q f each None h = tt
  of_next Q f each (Some b) h = each b h

pub trivially : {A : Type 0} (xs : List A) → AllByRecursion (λ x. Unit {0}) xs
trivially [] = tt
trivially (x ∷ xs) = (tt, trivially xs)
