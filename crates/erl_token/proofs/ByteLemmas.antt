-- The characters of a text, as bytes.
use Rattle.std.proofs.Common.{◌≡◌, ℕ, zero, suc, ◌<◌, ◌≤◌, Bool, true, false, if◌then◌else◌, nat_lt, List, [], ◌∷◌, ◌++◌, length, get_or, take, drop, Some, None, refl, ap, sym, subst, ◌∙◌, arith, append_assoc}
use Rattle.std.specs.List.{list_all, flat_map}
use Rattle.std.specs.Str.{IsUtf8, chars}
use Rattle.std.proofs.lemmas.Bool.{and_from}
use Rattle.std.proofs.lemmas.Bool.Decides.{nat_tests}
use Rattle.std.proofs.Math.Bool.{and-false}
use Rattle.std.proofs.lemmas.List.Folds.{list_all-append}
use Rattle.erl_token.specs.declared.content.Piece.{Piece}
use Rattle.erl_token.specs.Bytes.{bytes_of, IsAdded}
use Rattle.erl_token.specs.Contents.{piece_bytes}
use Rattle.erl_token.proofs.Pieces.{chars_around}

-- numbers that are bytes
pub bytes_of-all : (cs : List ℕ) → list_all (λ n. nat_lt n 256) cs ≡ true → bytes_of cs ≡ Some cs
bytes_of-all cs h = rw h refl

-- a character that is no byte
all_bytes-but : (cs : List ℕ) (k c : ℕ) → k < length cs → c ≡ get_or cs k c → 256 ≤ c → list_all (λ n. nat_lt n 256) cs ≡ false
all_bytes-but [] k c l e large = absurd (omega arith)
all_bytes-but (x ∷ xs) zero c l e large = let no : nat_lt x 256 ≡ false = grind (arith, nat_tests) in rw no refl
all_bytes-but (x ∷ xs) (suc k) c l e large = let no = all_bytes-but xs k c (omega arith) e large in rw no (and-false (nat_lt x 256))

pub bytes_of-but : (cs : List ℕ) (k c : ℕ) → k < length cs → c ≡ get_or cs k c → 256 ≤ c → bytes_of cs ≡ None
bytes_of-but cs k c l e large = rw (all_bytes-but cs k c l e large) refl

-- all are bytes, or not
all_bytes : (cs : List ℕ) → bytes_of cs ≡ Some cs → list_all (λ n. nat_lt n 256) cs ≡ true
all_bytes cs e = go (list_all (λ n. nat_lt n 256) cs) e
  where
    go : (b : Bool) → (if b then Some cs else None) ≡ Some cs → b ≡ true
    go true e = refl
    go false e = absurd cc

no_bytes : (cs : List ℕ) → bytes_of cs ≡ None → list_all (λ n. nat_lt n 256) cs ≡ false
no_bytes cs e = go (list_all (λ n. nat_lt n 256) cs) e
  where
    go : (b : Bool) → (if b then Some cs else None) ≡ None → b ≡ false
    go true e = absurd cc
    go false e = refl

-- bytes and further ones
pub bytes_on : (old mid new cs front more : List ℕ) → cs ≡ front ++ more → IsAdded true front old mid → IsAdded true more mid new → IsAdded true cs old new
bytes_on old mid new cs front more e a b =
    let all : list_all (λ n. nat_lt n 256) (front ++ more) ≡ true =
    list_all-append (λ n. nat_lt n 256) front more
    ∙ and_from (list_all (λ n. nat_lt n 256) front) (list_all (λ n. nat_lt n 256) more) (all_bytes front a.0) (all_bytes more b.0) in
    subst (λ xs. IsAdded true xs old new) (sym e) (bytes_of-all (front ++ more) all, b.1 ∙ (ap (λ xs. xs ++ more) a.1 ∙ append_assoc old front more))

-- one part that is no bytes
bytes_but : (cs front more back : List ℕ) → cs ≡ front ++ (more ++ back) → bytes_of more ≡ None → bytes_of cs ≡ None
bytes_but cs front more back e none =
    let p : ℕ → Bool = λ n. nat_lt n 256 in
    let within : list_all p (more ++ back) ≡ false = list_all-append p more back ∙ rw (no_bytes more none) refl in
    let all : list_all p cs ≡ false = ap (list_all p) e ∙ (list_all-append p front (more ++ back) ∙ rw within (and-false (list_all p front))) in
    rw all refl

pub bytes_but_piece : (ps : List Piece) (i : ℕ) (d : Piece) → i < length ps → IsUtf8 (flat_map piece_bytes (take i ps)) → IsUtf8 (piece_bytes (get_or ps i d)) →
    bytes_of (chars (piece_bytes (get_or ps i d))) ≡ None → bytes_of (chars (flat_map piece_bytes ps)) ≡ None
bytes_but_piece ps i d l u v none =
    bytes_but (chars (flat_map piece_bytes ps)) (chars (flat_map piece_bytes (take i ps))) (chars (piece_bytes (get_or ps i d)))
    (chars (flat_map piece_bytes (drop (suc i) ps))) (chars_around ps i d l u v) none

-- a character that is no byte
pub no_byte : (c : ℕ) → bytes_of (c ∷ []) ≡ None → 256 ≤ c
no_byte c none = let large = no_bytes (c ∷ []) none in grind (arith, nat_tests)
