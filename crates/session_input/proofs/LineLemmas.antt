-- A line, byte by byte.
use Rattle.std.proofs.Common.{◌≡◌, ◌≢◌, ℕ, Bool, true, false, List, [], ◌∷◌, ◌++◌, Option, None, Some, refl, ap, sym, subst, ◌∙◌, append-nil, arith}
use Rattle.std.specs.Option.{option_map}
use Rattle.std.proofs.lemmas.Bool.Decides.{nat_tests}
use Rattle.session_input.specs.declared.line.Line.{Line}
use Rattle.std.specs.Prelude.{Result, Ok, Err}
use Rattle.std.specs.Result.{IsErrAnd}
use Rattle.session_input.specs.declared.error.SessionError.{SessionError}
use Rattle.session_input.specs.declared.error.SessionError.TheVariants.{Read, Write, Limit, NoMemory}
use Rattle.session_input.specs.Feed.{Feed, Gives, EndsAs, IsNext}
use Rattle.session_input.specs.Feed.Feed.{over, cut, next}
use Rattle.session_input.specs.Lines.{onto, lines_of, IsKept}

-- bytes without a newline, in front of the first line
abbrev pub onto_all : List ℕ → Feed (List ℕ) → Feed (List ℕ)
onto_all [] ls = ls
onto_all (x ∷ xs) ls = onto x (onto_all xs ls)

onto_all-push : (xs : List ℕ) (b : ℕ) (ls : Feed (List ℕ)) → onto_all (xs ++ b ∷ []) ls ≡ onto_all xs (onto b ls)
onto_all-push [] b ls = refl
onto_all-push (x ∷ xs) b ls = ap (onto x) (onto_all-push xs b ls)

onto_all-next : (xs : List ℕ) (l : List ℕ) (ls : Feed (List ℕ)) → onto_all xs (next l ls) ≡ next (xs ++ l) ls
onto_all-next [] l ls = refl
onto_all-next (x ∷ xs) l ls = ap (onto x) (onto_all-next xs l ls)

abbrev pub is_some_list : List ℕ → Bool
is_some_list [] = false
is_some_list (x ∷ xs) = true

onto_all-over : (xs : List ℕ) → is_some_list xs ≡ true → onto_all xs over ≡ next xs over
onto_all-over [] e = cc
onto_all-over (x ∷ []) e = refl
onto_all-over (x ∷ y ∷ xs) e = ap (onto x) (onto_all-over (y ∷ xs) refl)

onto_all-cut : (xs : List ℕ) → onto_all xs cut ≡ cut
onto_all-cut [] = refl
onto_all-cut (x ∷ xs) = ap (onto x) (onto_all-cut xs)

-- The line so far: the bytes since old, none of them a newline, and what is kept of them.
pub record SoFar (most : ℕ) (is_begun : Bool) (line : Line) (old now : Feed (List ℕ)) : Type 0 where
  pub bytes : List ℕ
  pub begun : is_some_list bytes ≡ is_begun
  pub is : old ≡ onto_all bytes now
  pub kept : IsKept most line bytes

abbrev pub IsSoFar : ℕ → Bool → Line → Option (Feed (List ℕ)) → Option (Feed (List ℕ)) → Type 0
IsSoFar most is_begun line None now = Unit {0}
IsSoFar most is_begun line (Some old) None = ⊥
IsSoFar most is_begun line (Some old) (Some now) = SoFar most is_begun line old now

-- nothing is there yet
pub no_bytes : (most : ℕ) (line : Line) (now : Option (Feed (List ℕ))) → IsKept most line [] → IsSoFar most false line now now
no_bytes most line None k = tt
no_bytes most line (Some now) k = record { bytes = []; begun = refl; is = refl; kept = k }

some_bytes : (xs : List ℕ) (b : ℕ) → is_some_list (xs ++ b ∷ []) ≡ true
some_bytes [] b = refl
some_bytes (x ∷ xs) b = refl

lines_of-byte : (b : ℕ) (bs : Feed ℕ) → b ≢ 10 → lines_of (next b bs) ≡ onto b (lines_of bs)
lines_of-byte b bs h = grind (arith, nat_tests)

-- one more byte
pub one_more : (most b : ℕ) (is_begun : Bool) (line line' : Line) (old : Option (Feed (List ℕ))) (now new : Option (Feed ℕ))
    → IsSoFar most is_begun line old (option_map lines_of now) → Gives now new (λ x. b ≡ x) → b ≢ 10
    → ((l : List ℕ) → IsKept most line l → IsKept most line' (l ++ b ∷ [])) → IsSoFar most true line' old (option_map lines_of new)
one_more most b is_begun line line' None now new s g h push = tt
one_more most b is_begun line line' (Some old) None new s g h push = absurd s
one_more most b is_begun line line' (Some old) (Some now) None s g h push = absurd g
one_more most b is_begun line line' (Some old) (Some now) (Some new) s (a, is, same) h push = record {
  bytes = s.bytes ++ b ∷ [];
  begun = some_bytes s.bytes b;
  is = s.is ∙ ap (λ f. onto_all s.bytes (lines_of f)) is
      ∙ ap (λ x. onto_all s.bytes (lines_of (next x new))) (sym same)
      ∙ ap (onto_all s.bytes) (lines_of-byte b new h)
      ∙ sym (onto_all-push s.bytes b (lines_of new));
  kept = push s.bytes s.kept;
}

-- a newline ends it
pub ends_at_newline : (most b : ℕ) (is_begun : Bool) (line : Line) (old : Option (Feed (List ℕ))) (now new : Option (Feed ℕ))
    → IsSoFar most is_begun line old (option_map lines_of now) → Gives now new (λ x. b ≡ x) → b ≡ 10
    → Gives old (option_map lines_of new) (IsKept most line)
ends_at_newline most b is_begun line None now new s g e = tt
ends_at_newline most b is_begun line (Some old) None new s g e = absurd s
ends_at_newline most b is_begun line (Some old) (Some now) None s g e = absurd g
ends_at_newline most b is_begun line (Some old) (Some now) (Some new) s (a, is, same) e = (
  s.bytes,
  s.is ∙ ap (λ f. onto_all s.bytes (lines_of f)) is
      ∙ ap (λ x. onto_all s.bytes (lines_of (next x new))) (sym same ∙ e)
      ∙ onto_all-next s.bytes [] (lines_of new)
      ∙ ap (λ l. next l (lines_of new)) (append-nil s.bytes),
  s.kept,
)

-- the end of the input ends it
pub ends_at_end : (most : ℕ) (is_begun : Bool) (line : Line) (old : Option (Feed (List ℕ))) (now new : Option (Feed ℕ))
    → is_begun ≡ true → IsSoFar most is_begun line old (option_map lines_of now) → EndsAs over now new → Gives old (option_map lines_of new) (IsKept most line)
ends_at_end most is_begun line None now new b s e = tt
ends_at_end most is_begun line (Some old) None new b s e = absurd s
ends_at_end most is_begun line (Some old) (Some now) None b s e = absurd e
ends_at_end most is_begun line (Some old) (Some now) (Some new) b s (was, is) = (
  s.bytes,
  s.is ∙ ap (λ f. onto_all s.bytes (lines_of f)) was ∙ onto_all-over s.bytes (s.begun ∙ b) ∙ ap (λ f. next s.bytes (lines_of f)) (sym is),
  s.kept,
)

-- it is cut off
pub cut_within : (most : ℕ) (is_begun : Bool) (line : Line) (old : Option (Feed (List ℕ))) (now new : Option (Feed ℕ))
    → IsSoFar most is_begun line old (option_map lines_of now) → EndsAs cut now new → EndsAs cut old (option_map lines_of new)
cut_within most is_begun line None now new s e = tt
cut_within most is_begun line (Some old) None new s e = absurd s
cut_within most is_begun line (Some old) (Some now) None s e = absurd e
cut_within most is_begun line (Some old) (Some now) (Some new) s (was, is) =
    (s.is ∙ ap (λ f. onto_all s.bytes (lines_of f)) was ∙ onto_all-cut s.bytes, ap lines_of is)

-- an error stays what it is
same_error : (most : ℕ) (e : SessionError) (is_begun : Bool) (line : Line) (n : ℕ) (old : ℕ → Option (Feed (List ℕ))) (now new : ℕ → Option (Feed ℕ))
    → IsSoFar most is_begun line (old n) (option_map lines_of (now n)) → IsNext {V = ℕ} (λ b x. b ≡ x) (Err e) n now new
    → IsNext (IsKept most) (Err e) n old (λ m. option_map lines_of (new m))
same_error most Limit is_begun line n old now new s g = cut_within most is_begun line (old n) (now n) (new n) s g
same_error most Read is_begun line n old now new s g = cut_within most is_begun line (old n) (now n) (new n) s g
same_error most Write is_begun line n old now new s g = tt
same_error most NoMemory is_begun line n old now new s g = tt

pub error_passes : (most : ℕ) (r : Result (Option Line) SessionError) (e : SessionError) (is_begun : Bool) (line : Line) (n : ℕ) (old : ℕ → Option (Feed (List ℕ))) (now new : ℕ → Option (Feed ℕ))
    → IsErrAnd r (λ f. f ≡ e) → IsSoFar most is_begun line (old n) (option_map lines_of (now n)) → IsNext {V = ℕ} (λ b x. b ≡ x) (Err e) n now new
    → IsNext (IsKept most) r n old (λ m. option_map lines_of (new m))
error_passes most (Ok v) e is_begun line n old now new p s g = absurd p
error_passes most (Err f) e is_begun line n old now new p s g =
    subst (λ x. IsNext {V = Line} (IsKept most) (Err x) n old (λ m. option_map lines_of (new m))) (sym p) (same_error most e is_begun line n old now new s g)
