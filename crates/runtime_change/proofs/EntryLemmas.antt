-- Entries of releases that may be for different runtime systems, one after another.
use Rattle.std.proofs.Common.{◌≡◌, refl, ap, sym, subst, ◌∙◌, ℕ, ◌+◌, ◌<◌, ◌≤◌, List, [], ◌∷◌, ◌++◌, length, map, drop, get_or, Result, Ok, Err}
use Rattle.std.specs.Prelude.{IfErr, IsErrAnd}
use Rattle.std.proofs.lemmas.List.{append_assoc, append-nil, drop_more, drop_all}
use Rattle.relup_file.specs.Relup.{EntryForm}
use Rattle.relup_row.specs.Release.{RelupReleaseForm, relup_release_of}
use Rattle.relup_row.specs.declared.release.RelupRelease.{RelupRelease}
use Rattle.relup_translate.specs.Fault.{FaultForm}
use Rattle.relup_translate.specs.declared.error.TranslateError.{TranslateError}
use Rattle.relup_translate.specs.declared.error.TranslateError.TheVariants.{NoAppup, NoEntry, UnknownModule, RegexVersion, NeedsNewEmulator, Unsupported, NoMemory}
use Rattle.runtime_change.specs.Relup.{when_ok, each_entry, RefusedAs}

-- A fault stays one, whatever is made of the result.
pub carried : {A B : Type 0} (g : A → Result B FaultForm) (t : Result A FaultForm) (e : TranslateError) → RefusedAs t e → RefusedAs (when_ok g t) e
carried g t NoMemory h = tt
carried g (Ok a) (NoAppup x) h = absurd h
carried g (Ok a) (NoEntry x v) h = absurd h
carried g (Ok a) (UnknownModule x) h = absurd h
carried g (Ok a) (RegexVersion x) h = absurd h
carried g (Ok a) NeedsNewEmulator h = absurd h
carried g (Ok a) (Unsupported x) h = absurd h
carried g (Err f) (NoAppup x) h = h
carried g (Err f) (NoEntry x v) h = h
carried g (Err f) (UnknownModule x) h = h
carried g (Err f) (RegexVersion x) h = h
carried g (Err f) NeedsNewEmulator h = h
carried g (Err f) (Unsupported x) h = h

-- what is so of a result is so of what is made of it
pub made_of : {A B : Type 0} (g : A → Result B FaultForm) (t : Result A FaultForm) (a : A) → t ≡ Ok a → when_ok g t ≡ g a
made_of g t a is = ap (when_ok g) is

-- the entries so far, before those that are still to come
abbrev pub prepended : List EntryForm → Result (List EntryForm) FaultForm → Result (List EntryForm) FaultForm
prepended es r = when_ok (λ fs. Ok (es ++ fs)) r

module _ (f : RelupReleaseForm → Result EntryForm FaultForm) (others : List RelupRelease) where
  from_here : (i : ℕ) (o : RelupRelease) → i < length others → o ≡ get_or others i o → map relup_release_of (drop i others) ≡ relup_release_of o ∷ map relup_release_of (drop (i + 1) others)
  from_here i o within at = ap (map relup_release_of) (drop_more others i o within ∙ ap (λ x. x ∷ drop (i + 1) others) (sym at))

  one_more : (made : List EntryForm) (e : EntryForm) (rest : Result (List EntryForm) FaultForm) → prepended (made ++ (e ∷ [])) rest ≡ prepended made (when_ok (λ es. Ok (e ∷ es)) rest)
  one_more made e (Ok es) = ap (λ (l : List EntryForm). Ok l) (append_assoc made (e ∷ []) es)
  one_more made e (Err x) = refl

  -- what holds where the walk goes on from this place, with these entries made
  abbrev pub Kept : ℕ → List EntryForm → Type 0
  Kept i made = prepended made (each_entry f (map relup_release_of (drop i others))) ≡ each_entry f (map relup_release_of others)

  here : (i : ℕ) (o : RelupRelease) (made : List EntryForm) → i < length others → o ≡ get_or others i o → Kept i made
      → prepended made (when_ok (λ e. when_ok (λ es. Ok (e ∷ es)) (each_entry f (map relup_release_of (drop (i + 1) others)))) (f (relup_release_of o))) ≡ each_entry f (map relup_release_of others)
  here i o made within at kept = ap (λ rs. prepended made (each_entry f rs)) (sym (from_here i o within at)) ∙ kept

  pub further : (i : ℕ) (o : RelupRelease) (made new : List EntryForm) (e : EntryForm) → i < length others → o ≡ get_or others i o
      → f (relup_release_of o) ≡ Ok e → new ≡ made ++ (e ∷ []) → Kept i made → Kept (i + 1) new
  further i o made new e within at ok grown kept =
      let rest = each_entry f (map relup_release_of (drop (i + 1) others)) in
      ap (λ es. prepended es rest) grown
      ∙ (one_more made e rest
      ∙ (ap (λ r. prepended made (when_ok (λ x. when_ok (λ es. Ok (x ∷ es)) rest) r)) (sym ok) ∙ here i o made within at kept))

  pub at_fault : (i : ℕ) (o : RelupRelease) (made : List EntryForm) (x : TranslateError) → i < length others → o ≡ get_or others i o
      → RefusedAs (f (relup_release_of o)) x → Kept i made → RefusedAs (each_entry f (map relup_release_of others)) x
  at_fault i o made x within at refused kept =
      let rest = each_entry f (map relup_release_of (drop (i + 1) others)) in
      let step : EntryForm → Result (List EntryForm) FaultForm = λ e. when_ok (λ es. Ok (e ∷ es)) rest in
      subst (λ (t : Result (List EntryForm) FaultForm). RefusedAs t x) (here i o made within at kept)
      (carried (λ fs. Ok (made ++ fs)) (when_ok step (f (relup_release_of o))) x (carried step (f (relup_release_of o)) x refused))

  pub at_end : (i : ℕ) (made : List EntryForm) → length others ≤ i → Kept i made → each_entry f (map relup_release_of others) ≡ Ok made
  at_end i made past kept =
      sym kept ∙ (ap (λ rs. prepended made (each_entry f (map relup_release_of rs))) (drop_all i others past) ∙ ap (λ (l : List EntryForm). Ok l) (append-nil made))

-- An error that is passed on stays as it is.
pub passed_on : {A E : Type 0} (P : E → Type 0) (e : E) (r : Result A E) → IsErrAnd r (λ f. f ≡ e) → P e → IfErr r P
passed_on P e (Ok a) same h = absurd same
passed_on P e (Err f) same h = subst P (sym same) h
