-- The first instruction that is refused, script after script.
use Rattle.std.proofs.Common.{◌≡◌, inl, inr, ⊎_elim, ap, sym, subst, ◌∙◌, ℕ, ◌+◌, ◌<◌, ◌≤◌, List, [], ◌∷◌, ◌++◌, length, map, drop, get_or, Option, None, Some, Result, Ok, Err}
use Rattle.std.specs.Prelude.{IfOk}
use Rattle.std.specs.List.{AllByRecursion}
use Rattle.std.proofs.lemmas.List.{drop_more, drop_all}
use Rattle.relup_lint.specs.Script.{ScriptForm}
use Rattle.relup_row.specs.Release.{RelupReleaseForm, relup_release_of}
use Rattle.relup_row.specs.declared.release.RelupRelease.{RelupRelease}
use Rattle.release_relup.specs.declared.judgement.FoundInstr.{FoundInstr}
use Rattle.release_relup.specs.Found.{IsClean, IsFoundIn, HasFound, JudgesAll}

-- past a script of which nothing is refused
past_clean : (s : ScriptForm) (ss : List ScriptForm) (o : Option FoundInstr) → IsClean s → JudgesAll ss o → JudgesAll (s ∷ ss) o
past_clean s ss None clean h = (clean, h)
past_clean s ss (Some x) clean h = inr (clean, h)

-- what is found in the front of some scripts, and what is found after a clean front
pub found_in_front : (ss ts : List ScriptForm) (x : FoundInstr) → HasFound ss x → HasFound (ss ++ ts) x
found_in_front [] ts x h = absurd h
found_in_front (s ∷ ss) ts x h = ⊎_elim (λ here. inl here) (λ later. inr (later.0, found_in_front ss ts x later.1)) h

pub found_after : (ss ts : List ScriptForm) (o : Option FoundInstr) → AllByRecursion IsClean ss → JudgesAll ts o → JudgesAll (ss ++ ts) o
found_after [] ts o clean h = h
found_after (s ∷ ss) ts o clean h = past_clean s (ss ++ ts) o clean.0 (found_after ss ts o clean.1 h)

module _ (script : RelupReleaseForm → ScriptForm) (others : List RelupRelease) where
  -- what holds where the walk goes on from this place
  abbrev pub Kept : ℕ → Type 0
  Kept i = (o : Option FoundInstr) → JudgesAll (map script (map relup_release_of (drop i others))) o → JudgesAll (map script (map relup_release_of others)) o

  from_here : (i : ℕ) (o : RelupRelease) → i < length others → o ≡ get_or others i o
      → map script (map relup_release_of (drop i others)) ≡ script (relup_release_of o) ∷ map script (map relup_release_of (drop (i + 1) others))
  from_here i o within at = ap (λ (os : List RelupRelease). map script (map relup_release_of os)) (drop_more others i o within ∙ ap (λ x. x ∷ drop (i + 1) others) (sym at))

  pub past : (i : ℕ) (o : RelupRelease) → i < length others → o ≡ get_or others i o → IsClean (script (relup_release_of o)) → Kept i → Kept (i + 1)
  past i o within at clean kept = λ found h.
      kept found (subst (λ ss. JudgesAll ss found) (sym (from_here i o within at)) (past_clean (script (relup_release_of o)) (map script (map relup_release_of (drop (i + 1) others))) found clean h))

  pub found : (i : ℕ) (o : RelupRelease) (x : FoundInstr) → i < length others → o ≡ get_or others i o → IsFoundIn (script (relup_release_of o)) x → Kept i
      → JudgesAll (map script (map relup_release_of others)) (Some x)
  found i o x within at is kept = kept (Some x) (subst (λ ss. JudgesAll ss (Some x)) (sym (from_here i o within at)) (inl is))

  pub at_end : (i : ℕ) → length others ≤ i → Kept i → JudgesAll (map script (map relup_release_of others)) None
  at_end i gone kept = kept None (subst (λ (os : List RelupRelease). JudgesAll (map script (map relup_release_of os)) None) (sym (drop_all i others gone)) tt)

-- what an answer says, a weaker thing says too
pub if_ok_weaker : {A E : Type 0} (P Q : A → Type 0) (r : Result A E) → ((a : A) → P a → Q a) → IfOk r P → IfOk r Q
if_ok_weaker P Q (Ok a) weaker h = weaker a h
if_ok_weaker P Q (Err e) weaker h = tt
