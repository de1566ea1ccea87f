-- Pieces of a text, one after another.
use Rattle.std.proofs.Common.{◌≡◌, ℕ, zero, suc, ◌+◌, ◌-◌, ◌<◌, ◌≤◌, true, nat_lt, List, [], ◌∷◌, ◌++◌, length, get_or, take, drop, refl, ap, sym, subst, ◌∙◌, arith, append_assoc, append-nil}
use Rattle.std.specs.List.{flat_map}
use Rattle.std.specs.Prelude.{encode_utf8}
use Rattle.std.specs.Str.{IsUtf8, chars}
use Rattle.std.specs.Char.{IsScalar}
use Rattle.std.proofs.lemmas.Bool.Decides.{nat_tests}
use Rattle.std.proofs.lemmas.List.{length-append, take_more}
use Rattle.std.proofs.lemmas.List.Concat.{flat_map-append}
use Rattle.std.proofs.lemmas.Str.{chars-nil, chars-append, chars_past_char, IsUtf8-append, IsUtf8-encode}
use Rattle.erl_token.specs.declared.content.Piece.{Piece}
use Rattle.erl_token.specs.Contents.{piece_bytes, IsAlone}

pub stands_alone : (c : ℕ) → IsScalar c → IsAlone c
stands_alone c s =
    let utf8 = IsUtf8-encode c s in
    (chars_past_char (encode_utf8 c) [] c utf8 (sym (append-nil (encode_utf8 c))) ∙ ap (λ t. c ∷ t) chars-nil, utf8)

-- one piece more
bytes_more : (ps : List Piece) (i : ℕ) (d : Piece) → i < length ps →
    flat_map piece_bytes (take (i + 1) ps) ≡ flat_map piece_bytes (take i ps) ++ piece_bytes (get_or ps i d)
bytes_more ps i d l =
    let last = get_or ps i d in
    ap (flat_map piece_bytes) (take_more ps i d l)
    ∙ (flat_map-append piece_bytes (take i ps) (last ∷ []) ∙ ap (λ bs. flat_map piece_bytes (take i ps) ++ bs) (append-nil (piece_bytes last)))

-- text that grew by one piece
pub bytes_after : (ps : List Piece) (i : ℕ) (d : Piece) (old more new : List ℕ) → i < length ps → old ≡ flat_map piece_bytes (take i ps)
    → new ≡ old ++ more → more ≡ piece_bytes (get_or ps i d) → new ≡ flat_map piece_bytes (take (i + 1) ps)
bytes_after ps i d old more new l e grown same = grown ∙ ((λ j. e j ++ same j) ∙ sym (bytes_more ps i d l))

pub utf8_more : (ps : List Piece) (i : ℕ) (d : Piece) → i < length ps → IsUtf8 (flat_map piece_bytes (take i ps)) → IsUtf8 (piece_bytes (get_or ps i d)) →
    IsUtf8 (flat_map piece_bytes (take (i + 1) ps))
utf8_more ps i d l u v = subst IsUtf8 (sym (bytes_more ps i d l)) (IsUtf8-append (flat_map piece_bytes (take i ps)) (piece_bytes (get_or ps i d)) u v)

pub chars_more : (ps : List Piece) (i : ℕ) (d : Piece) → i < length ps → IsUtf8 (flat_map piece_bytes (take i ps)) →
    chars (flat_map piece_bytes (take (i + 1) ps)) ≡ chars (flat_map piece_bytes (take i ps)) ++ chars (piece_bytes (get_or ps i d))
chars_more ps i d l u = ap chars (bytes_more ps i d l) ∙ chars-append (flat_map piece_bytes (take i ps)) (piece_bytes (get_or ps i d)) u

-- the pieces before one, that one, and those after it
bytes_around : (ps : List Piece) (i : ℕ) (d : Piece) → i < length ps →
    flat_map piece_bytes ps ≡ flat_map piece_bytes (take i ps) ++ (piece_bytes (get_or ps i d) ++ flat_map piece_bytes (drop (suc i) ps))
bytes_around [] i d l = absurd (omega arith)
bytes_around (p ∷ ps) zero d l = refl
bytes_around (p ∷ ps) (suc i) d l =
    ap (λ bs. piece_bytes p ++ bs) (bytes_around ps i d (omega arith))
    ∙ sym (append_assoc (piece_bytes p) (flat_map piece_bytes (take i ps)) (piece_bytes (get_or ps i d) ++ flat_map piece_bytes (drop (suc i) ps)))

pub chars_around : (ps : List Piece) (i : ℕ) (d : Piece) → i < length ps → IsUtf8 (flat_map piece_bytes (take i ps)) → IsUtf8 (piece_bytes (get_or ps i d)) →
    chars (flat_map piece_bytes ps) ≡ chars (flat_map piece_bytes (take i ps)) ++ (chars (piece_bytes (get_or ps i d)) ++ chars (flat_map piece_bytes (drop (suc i) ps)))
chars_around ps i d l u v =
    let front = flat_map piece_bytes (take i ps) in
    let last = piece_bytes (get_or ps i d) in
    let behind = flat_map piece_bytes (drop (suc i) ps) in
    ap chars (bytes_around ps i d l) ∙ (chars-append front (last ++ behind) u ∙ ap (λ cs. chars front ++ cs) (chars-append last behind v))

-- what is left of a limit
pub counts_on : (limit left size : ℕ) (cs front more : List ℕ) → cs ≡ front ++ more → limit ≡ length front + left → size ≡ length more → size ≤ left →
    limit ≡ length cs + (left - size)
counts_on limit left size cs front more e h n l = omega (arith, ap length e ∙ length-append front more)

pub goes_over : (limit left size : ℕ) (cs front more back : List ℕ) → cs ≡ front ++ (more ++ back) → limit ≡ length front + left → size ≡ length more → left < size →
    nat_lt limit (length cs) ≡ true
goes_over limit left size cs front more back e h n l =
    let all : length cs ≡ length front + (length more + length back) = ap length e ∙ (length-append front (more ++ back) ∙ ap (λ k. length front + k) (length-append more back)) in
    grind (arith, nat_tests)
