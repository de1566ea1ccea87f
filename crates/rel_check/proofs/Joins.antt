-- What is found of many, joined.
use Rattle.std.proofs.Common.{◌≡◌, ℕ, ◌+◌, ◌-◌, ◌^◌, min, Bool, true, false, ◌&&◌, List, [], ◌∷◌, map, Option, None, Some, refl, sym, ap, ◌∙◌, arith}
use Rattle.std.specs.List.{list_all, sum_by}
use Rattle.std.specs.Option.{option_or}
use Rattle.std.proofs.lemmas.List.Sums.{sum_by-cons}
use Rattle.mod_table.specs.Tables.{first_of}
use Rattle.rel_check.specs.Summary.{Summary, joined, all_joined, counted}

pub or_none : {X : Type 0} (o : Option X) → option_or o None ≡ o
or_none None = refl
or_none (Some x) = refl

pub or_assoc : {X : Type 0} (o p q : Option X) → option_or (option_or o p) q ≡ option_or o (option_or p q)
or_assoc None p q = refl
or_assoc (Some x) p q = refl

and_true : (b : Bool) → (b && true) ≡ b
and_true true = refl
and_true false = refl

and_assoc : (a b c : Bool) → ((a && b) && c) ≡ (a && (b && c))
and_assoc true b c = refl
and_assoc false b c = refl

pub joined_kind : (s : Summary) (ts : List Summary) → (all_joined s ts).kind ≡ s.kind
joined_kind s [] = refl
joined_kind s (t ∷ ts) = joined_kind (joined s t) ts

pub joined_missing : {C : Type 0} (g : C → Summary) (f : C → Option (List ℕ)) → ((c : C) → (g c).missing ≡ f c)
    → (s : Summary) (cs : List C) → (all_joined s (map g cs)).missing ≡ option_or s.missing (first_of f cs)
joined_missing g f is s [] = sym (or_none s.missing)
joined_missing g f is s (c ∷ cs) =
    joined_missing g f is (joined s (g c)) cs
    ∙ (or_assoc s.missing (g c).missing (first_of f cs) ∙ ap (λ m. option_or s.missing (option_or m (first_of f cs))) (is c))

pub joined_within : {C : Type 0} (g : C → Summary) (f : C → Bool) → ((c : C) → (g c).within ≡ f c)
    → (s : Summary) (cs : List C) → (all_joined s (map g cs)).within ≡ (s.within && list_all f cs)
joined_within g f is s [] = sym (and_true s.within)
joined_within g f is s (c ∷ cs) =
    joined_within g f is (joined s (g c)) cs
    ∙ (and_assoc s.within (g c).within (list_all f cs) ∙ ap (λ b. s.within && (b && list_all f cs)) (is c))

-- the sum of two numbers that are counted up to a greatest
sum_counted : (most a b x y : ℕ) → x ≡ min a most → y ≡ min b most → min (x + y) most ≡ min (a + b) most
sum_counted most a b x y first second = omega arith

-- a number of a summary that adds up
abbrev pub AddsUp : (Summary → ℕ) → Type 0
AddsUp number = (s t : Summary) → number (joined s t) ≡ counted (number s + number t)

pub joined_number : {C : Type 0} (number : Summary → ℕ) → AddsUp number → (g : C → Summary) (f : C → ℕ) → ((c : C) → number (g c) ≡ counted (f c))
    → (s : Summary) (p : ℕ) (cs : List C) → number s ≡ counted p → number (all_joined s (map g cs)) ≡ counted (p + sum_by f cs)
joined_number number adds g f is s p [] so_far = so_far ∙ ap counted (let e : p ≡ p + 0 = omega arith in e)
joined_number number adds g f is s p (c ∷ cs) so_far =
    joined_number number adds g f is (joined s (g c)) (p + f c) cs
    (adds s (g c) ∙ sum_counted (2 ^ 64 - 1) p (f c) (number s) (number (g c)) so_far (is c))
    ∙ ap counted (let e : (p + f c) + sum_by f cs ≡ p + sum_by f (c ∷ cs) = omega (arith, sum_by-cons f c cs) in e)
