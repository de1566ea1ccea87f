-- What was read piece by piece.
use Rattle.std.proofs.Common.{◌≡◌, ◌≢◌, ◌⊎◌, inl, inr, ◌∙◌, ℕ, ◌+◌, ◌≤◌, ◌<◌, List, [], ◌∷◌, ◌++◌, length, Option, None, Some, IfSome, Result, Ok, Err, IfErr, refl, sym, ap, subst, append_assoc, append-nil, arith}
use Rattle.std.proofs.lemmas.List.{length-append}
use Rattle.std.specs.Prelude.{IsErrAnd, IsErrOf}
use Rattle.std.specs.Io.KnownBytes.{Consumes, IsAtEnd}
use Rattle.erl_term.specs.TermFault.TheVariants.{NoMemory}
use Rattle.counted_io.specs.Failures.{Reports}
use Rattle.erl_consult.specs.Listing.{HasTaken, HasRead, IsReported, TakesAtMost}
use Rattle.erl_consult.specs.declared.error.ConsultError.{ConsultError}
use Rattle.erl_consult.specs.declared.error.ConsultError.TheVariants.{Fault, Read, Write, TooLong}

-- what has been read so far, which is at most one byte more than a text may have
pub record ReadSoFar (old now : Option (List ℕ)) (bytes : List ℕ) : Type 0 where
  pub read : Consumes old now bytes
  pub bound : length bytes ≤ 1048577

pub nothing_yet : (old : Option (List ℕ)) (bytes : List ℕ) → bytes ≡ [] → ReadSoFar old old bytes
nothing_yet old bytes none = record {
  read = subst (λ xs. Consumes old old xs) (sym none) (go old);
  bound = let n : length bytes ≡ 0 = ap length none in omega arith;
}
  where
    go : (old : Option (List ℕ)) → Consumes old old []
    go None = tt
    go (Some xs) = refl

consumes_more : (old mid new : Option (List ℕ)) (bytes piece : List ℕ) → Consumes old mid bytes → Consumes mid new piece → Consumes old new (bytes ++ piece)
consumes_more None mid new bytes piece a b = tt
consumes_more (Some o) None new bytes piece a b = absurd a
consumes_more (Some o) (Some m) None bytes piece a b = absurd b
consumes_more (Some o) (Some m) (Some n) bytes piece a b = a ∙ ap (λ xs. bytes ++ xs) b ∙ sym (append_assoc bytes piece n)

-- one piece more
pub piece_read : (old mid new : Option (List ℕ)) (bytes bytes' : List ℕ) (count : ℕ) → ReadSoFar old mid bytes → HasTaken count mid new bytes bytes' → length bytes + count ≤ 1048577 → ReadSoFar old new bytes'
piece_read old mid new bytes bytes' count s (piece, counted, is, taken) fits = record {
  read = subst (λ xs. Consumes old new xs) (sym is) (consumes_more old mid new bytes piece s.read taken);
  bound = let n : length bytes' ≡ length (bytes ++ piece) = ap length is in omega (arith, length-append bytes piece);
}

-- at the end of the reader all of it was read
pub all_read : (old mid new : Option (List ℕ)) (bytes bytes' : List ℕ) (count : ℕ) → ReadSoFar old mid bytes → HasTaken count mid new bytes bytes' → count ≡ 0 → IsAtEnd new → length bytes ≤ 1048576 → HasRead old bytes'
all_read old mid new bytes bytes' count s (piece, counted, is, taken) none end short = (fits, go old new whole end)
  where
    no_piece : (xs : List ℕ) → length xs ≡ 0 → xs ≡ []
    no_piece [] e = refl
    no_piece (x ∷ xs) e = absurd (omega arith)

    same : bytes' ≡ bytes
    same = is ∙ ap (λ xs. bytes ++ xs) (no_piece piece (counted ∙ none)) ∙ append-nil bytes

    fits : length bytes' ≤ 1048576
    fits = let n : length bytes' ≡ length bytes = ap length same in omega arith

    whole : Consumes old new bytes'
    whole = subst (λ xs. Consumes old new xs) (sym is) (consumes_more old mid new bytes piece s.read taken)

    go : (old new : Option (List ℕ)) → Consumes old new bytes' → IsAtEnd new → IfSome old (λ all. bytes' ≡ all)
    go None new a e = tt
    go (Some o) None a e = absurd a
    go (Some o) (Some n) a e = sym (a ∙ ap (λ xs. bytes' ++ xs) e ∙ append-nil bytes')

-- more was read than a text may have
pub too_much_read : (old now : Option (List ℕ)) (bytes : List ℕ) → ReadSoFar old now bytes → 1048576 < length bytes → IsReported old TooLong
too_much_read None now bytes s long = tt
too_much_read (Some o) None bytes s long = absurd s.read
too_much_read (Some o) (Some n) bytes s long =
    let whole : length o ≡ length (bytes ++ n) = ap length s.read in
    omega (arith, length-append bytes n)

-- What is passed on of a read that is refused: it says nothing of the text, and it is no failed write.
pub passes_on : {V : Type 0} (P : ConsultError → Type 0) (e : ConsultError) (r : Result V ConsultError) → IsErrAnd r (λ x. x ≡ e) → P e → IfErr r P
passes_on P e (Ok v) is holds = absurd is
passes_on P e (Err x) is holds = subst P (sym is) holds

pub read_reported : (known : Option (List ℕ)) (e : ConsultError) → (e ≡ Read) ⊎ (e ≡ Fault NoMemory) → IsReported known e
read_reported known e (inl is) = subst (λ x. IsReported known x) (sym is) tt
read_reported known e (inr is) = subst (λ x. IsReported known x) (sym is) (λ n. absurd (n refl))

pub no_write : (e : ConsultError) → (e ≡ Read) ⊎ (e ≡ Fault NoMemory) → e ≢ Write
no_write e (inl is) w = absurd cc
no_write e (inr is) w = absurd cc

-- a refusal that is passed on is the same one
reported_in : {V : Type 0} (x reported : ConsultError) → IsErrOf {T = V} (Err x) reported → x ≡ reported
reported_in x reported is = cc

reported_so : {V : Type 0} (x reported : ConsultError) → x ≡ reported → IsErrOf {T = V} (Err x) reported
reported_so x reported is = cc

pub reports_on : {V W : Type 0} (reported e : ConsultError) (r : Result W ConsultError) (old new : ℕ) → IsErrAnd r (λ x. x ≡ e) → Reports {V = V} reported (Err e) old new → Reports reported r old new
reports_on reported e (Ok v) old new is reports = absurd is
reports_on reported e (Err x) old new is (rose, kept) =
    (λ it. rose (reported_so e reported (sym is ∙ reported_in x reported it)), λ other. kept (λ it. other (reported_so x reported (is ∙ reported_in e reported it))))

-- and a success is reported in its place
pub reports_done : {V W : Type 0} (reported : ConsultError) (v : V) (w : W) (first old new : ℕ) → old ≡ first → Reports reported (Ok v) old new → Reports reported (Ok w) first new
reports_done reported v w first old new same (rose, kept) = (λ it. absurd cc, λ other. kept (λ it. cc) ∙ same)

pub reports_since : {V : Type 0} (reported : ConsultError) (r : Result V ConsultError) (first old new : ℕ) → old ≡ first → Reports reported r old new → Reports reported r first new
reports_since reported r first old new same reports = subst (λ n. Reports reported r n new) same reports

-- what is taken of a reader after so many bytes
pub takes_more : (old mid new : Option (List ℕ)) (bytes : List ℕ) (most : ℕ) → ReadSoFar old mid bytes → length bytes + most ≤ 1048577 → TakesAtMost most mid new → TakesAtMost 1048577 old new
takes_more old mid new bytes most s fits (piece, short, taken) = (bytes ++ piece, omega (arith, length-append bytes piece), consumes_more old mid new bytes piece s.read taken)

pub takes_so_far : (old now : Option (List ℕ)) (bytes : List ℕ) → ReadSoFar old now bytes → TakesAtMost 1048577 old now
takes_so_far old now bytes s = (bytes, s.bound, s.read)
