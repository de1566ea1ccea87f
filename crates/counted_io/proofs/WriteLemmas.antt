-- What is written piece by piece.
use Rattle.std.proofs.Common.{◌≡◌, ℕ, ◌-◌, ◌<◌, ◌≤◌, arith, List, [], ◌++◌, length, take, drop, length-drop, Option, None, Some, sym, ap, ◌∙◌, append_assoc, append-nil}
use Rattle.std.specs.Io.KnownBytes.{Appends}
use Rattle.std.proofs.lemmas.List.{take-append-drop}
use Rattle.std.proofs.lemmas.Grind.{common_steps}

-- of all these bytes those but the rest were written
pub record Written (old new : Option (List ℕ)) (all rest : List ℕ) : Type 0 where
  pub prefix : List ℕ
  pub whole : prefix ++ rest ≡ all
  pub appended : Appends old new prefix

pub Appends-nothing : (old : Option (List ℕ)) → Appends old old []
Appends-nothing None = tt
Appends-nothing (Some xs) = sym (append-nil xs)

pub Appends-twice : (old mid new : Option (List ℕ)) (xs ys : List ℕ) → Appends old mid xs → Appends mid new ys → Appends old new (xs ++ ys)
Appends-twice None mid new xs ys a b = tt
Appends-twice (Some o) None new xs ys a b = absurd a
Appends-twice (Some o) (Some m) None xs ys a b = absurd b
Appends-twice (Some o) (Some m) (Some n) xs ys a b = b ∙ ap (λ k. k ++ ys) a ∙ append_assoc o xs ys

-- all that stands after the first n
rest_of-drop : (xs : List ℕ) (n : ℕ) → take (length xs - n) (drop n xs) ≡ drop n xs
rest_of-drop xs n = grind (arith, common_steps)

moves : (old mid new : Option (List ℕ)) (all rest : List ℕ) (n : ℕ) → Written old mid all rest → Appends mid new (take n rest) → Written old new all (drop n rest)
moves old mid new all rest n w a = record {
  prefix = w.prefix ++ take n rest;
  whole = append_assoc w.prefix (take n rest) (drop n rest) ∙ ap (λ k. w.prefix ++ k) (take-append-drop n rest) ∙ w.whole;
  appended = Appends-twice old mid new w.prefix (take n rest) w.appended a;
}

pub goes_on : (old mid new : Option (List ℕ)) (all rest : List ℕ) (n : ℕ) → Written old mid all rest → Appends mid new (take n rest) → Written old new all (take (length rest - n) (drop n rest))
goes_on old mid new all rest n w a = rw (rest_of-drop rest n) (moves old mid new all rest n w a)

-- and what is left is shorter than before
pub is_shorter : (rest : List ℕ) (n : ℕ) → 0 < n → n ≤ length rest → length (take (length rest - n) (drop n rest)) < length rest
is_shorter rest n some fits = let l : length (take (length rest - n) (drop n rest)) ≡ length (drop n rest) = ap length (rest_of-drop rest n) in omega (arith, length-drop n rest)
