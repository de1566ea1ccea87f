-- A text that has one term, or the fault of one that hasn't, from what the machine reads in it.
use Rattle.std.proofs.Common.{◌≡◌, ℕ, ◌<◌, ◌≤◌, inl, inr, List, [], ◌∷◌, ◌++◌, length, map, get_or, Result, Ok, Err, IsErr, IsErrAnd, IfErr, MatchResult, refl, sym, ◌∙◌, ap, subst, arith, length-append}
use Rattle.erl_number.specs.declared.fault.TermFault.{TermFault}
use Rattle.erl_number.specs.declared.fault.TermFault.TheVariants.{MissingDot, NoMemory}
use Rattle.erl_term.specs.declared.term.Spanned.{Spanned}
use Rattle.erl_term.specs.declared.term.Term.{Term}
use Rattle.erl_term.specs.Value.{Value, value_of}
use Rattle.erl_term.specs.Grammar.{Reading, Reads}
use Rattle.erl_term.specs.Answers.{reading_of_spanned}
use Rattle.erl_term.specs.OneTerm.{HasTerm, ReportsCount, IsRecordFault, ReportsRecordFault}
use Rattle.erl_term.specs.Machine.{reading_of}
use Rattle.erl_term.specs.Views.{GivesTerms}
use Rattle.erl_term.proofs.Exact.{ok_reads, reads_ok, err_is_fault, one_reading}

-- an error that is passed on
pub passed_only : (limit : ℕ) (bytes : List ℕ) (f : TermFault) (r : Result Term TermFault) → IsErr r × IsErrAnd r (λ g. g ≡ f)
    → GivesTerms (Err f) (reading_of limit bytes) → (v : Value) → HasTerm limit bytes v → MatchResult r (λ t. value_of t ≡ v) (λ g. g ≡ NoMemory)
passed_only limit bytes f (Ok t) is read v has = absurd is.1
passed_only limit bytes NoMemory (Err g) is read v has = is.1
passed_only limit bytes f (Err g) is read v has =
    let never : Err f ≡ Ok (has.0 ∷ []) = sym read ∙ reads_ok limit bytes (has.0 ∷ []) has.1 in absurd (cc)

pub passed_fault : (limit : ℕ) (bytes : List ℕ) (f : TermFault) (r : Result Term TermFault) → IsErr r × IsErrAnd r (λ g. g ≡ f)
    → GivesTerms (Err f) (reading_of limit bytes) → IfErr r (ReportsRecordFault limit bytes)
passed_fault limit bytes f (Ok t) is read = tt
passed_fault limit bytes f (Err g) is read = subst (λ h. ReportsRecordFault limit bytes h) (sym is.1) (own f read)
  where
    own : (f : TermFault) → GivesTerms (Err f) (reading_of limit bytes) → ReportsRecordFault limit bytes f
    own NoMemory read = tt
    own f read = inl (err_is_fault limit bytes f read)

-- from here on of the terms that are read
module _ (limit : ℕ) (bytes : List ℕ) (terms : List Spanned) (read : reading_of limit bytes ≡ Ok (map reading_of_spanned terms)) where
  reads_all : Reads limit bytes (map reading_of_spanned terms)
  reads_all = ok_reads limit bytes (map reading_of_spanned terms) read

  -- the text's one term is all that is read
  all_is : (v : Value) (has : HasTerm limit bytes v) → map reading_of_spanned terms ≡ has.0 ∷ []
  all_is v has = one_reading limit bytes (map reading_of_spanned terms) (has.0 ∷ []) reads_all has.1

  pub none_only : length terms ≡ 0 → (v : Value) → HasTerm limit bytes v → ⊥
  none_only none v has = go terms none (all_is v has)
    where
      go : (ts : List Spanned) → length ts ≡ 0 → map reading_of_spanned ts ≡ has.0 ∷ [] → ⊥
      go [] none one = cc
      go (t ∷ ts) none one = omega (arith, none)

  pub none_fault : length terms ≡ 0 → IsRecordFault limit bytes (MissingDot (length bytes))
  none_fault none = inr (map reading_of_spanned terms, reads_all, go terms none)
    where
      go : (ts : List Spanned) → length ts ≡ 0 → ReportsCount (length bytes) (map reading_of_spanned ts) (MissingDot (length bytes))
      go [] none = refl
      go (t ∷ ts) none = absurd (omega (arith, none))

  pub several_only : (all : List Spanned) → all ≡ terms → 1 < length all → (v : Value) → HasTerm limit bytes v → ⊥
  several_only all same more v has = go all more (ap (map reading_of_spanned) same ∙ all_is v has)
    where
      go : (ts : List Spanned) → 1 < length ts → map reading_of_spanned ts ≡ has.0 ∷ [] → ⊥
      go [] more one = omega (arith, more)
      go (t ∷ []) more one = omega (arith, more)
      go (t ∷ u ∷ ts) more one = cc

  pub several_fault : (all : List Spanned) (second : Spanned) → all ≡ terms → 1 < length all → second ≡ get_or all 1 second
      → IsRecordFault limit bytes (MissingDot second.from)
  several_fault all second same more is = inr (map reading_of_spanned terms, reads_all, subst (λ ts. ReportsCount (length bytes) (map reading_of_spanned ts) (MissingDot second.from)) same (go all more is))
    where
      go : (ts : List Spanned) → 1 < length ts → second ≡ get_or ts 1 second → ReportsCount (length bytes) (map reading_of_spanned ts) (MissingDot second.from)
      go [] more is = absurd (omega (arith, more))
      go (t ∷ []) more is = absurd (omega (arith, more))
      go (t ∷ u ∷ ts) more is = ap (λ (s : Spanned). MissingDot s.from) is

  -- one is all of them
  alone : (front all : List Spanned) (last : Spanned) → all ≡ terms → terms ≡ front ++ last ∷ [] → length all ≤ 1 → terms ≡ last ∷ []
  alone [] all last same split one = split
  alone (t ∷ ts) all last same split one = absurd (omega (arith, one, ap (λ (x : List Spanned). length x) (same ∙ split), length-append ts (last ∷ [])))

  pub one_found : (front all : List Spanned) (last : Spanned) → all ≡ terms → terms ≡ front ++ last ∷ [] → length all ≤ 1 → HasTerm limit bytes (value_of last.term)
  one_found front all last same split one =
      (reading_of_spanned last, subst (λ ts. Reads limit bytes (map reading_of_spanned ts)) (alone front all last same split one) reads_all, refl)

  pub one_only : (front all : List Spanned) (last : Spanned) → all ≡ terms → terms ≡ front ++ last ∷ [] → length all ≤ 1
      → (v : Value) → HasTerm limit bytes v → value_of last.term ≡ v
  one_only front all last same split one v has =
      let only : reading_of_spanned last ∷ [] ≡ has.0 ∷ [] = ap (map reading_of_spanned) (sym (alone front all last same split one)) ∙ all_is v has in
      let first : reading_of_spanned last ≡ has.0 = cc in
      ap (λ (r : Reading). r.term) first ∙ has.2
