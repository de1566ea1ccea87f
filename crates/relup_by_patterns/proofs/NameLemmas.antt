-- A plain release has the names, the versions and the instructions of the release that it is made of.
use Rattle.std.proofs.Common.{◌≡◌, sym, subst, ℕ, Bool, true, false, List, [], ◌∷◌, ◌+◌, Option, None, Some, IfSome, IsSomeAnd, Result, Ok, Err}
use Rattle.std.specs.List.{AllByRecursion, AllZip}
use Rattle.rel_files.specs.Name.{IsName, IsVersion}
use Rattle.appup_file.specs.Form.{IsAppupInstruction}
use Rattle.appup_file.specs.Instruction.{AppupInstruction, AppupEntryForm, AppupForm}
use Rattle.appup_match.specs.Match.{MatchFault, verdict, answer_at, matching_from}
use Rattle.appup_plain.specs.Plain.{IsPlain}
use Rattle.appup_plain.specs.Plain.IsPlain.{nothing, entry, none}
use Rattle.relup_row.specs.Release.{RelupAppForm, RelupReleaseForm}
use Rattle.relup_translate.specs.WellFormed.{IsWellFormedApp, AreWellFormedEntries, IsWellFormedAppup}
use Rattle.relup_by_patterns.specs.Plain.{IsPlainAppup, IsPlainAppupOf, IsPlainApp}
use Rattle.relup_by_patterns.specs.Laws.{StaysWellFormed}

-- The instructions that a search finds are those of an entry.
of_search : (place : ℕ) (vsn : List ℕ) (es : List AppupEntryForm) (row : List AppupInstruction) → AreWellFormedEntries es
    → matching_from place vsn es ≡ Ok row → AllByRecursion IsAppupInstruction row
of_search place vsn [] row h is = absurd cc
of_search place vsn (e ∷ es) row h is = go (verdict vsn e.vsn) is (of_search (place + 1) vsn es row h.1)
  where
    go : (v : Option Bool) → answer_at place v e.instrs (matching_from (place + 1) vsn es) ≡ Ok row
        → (matching_from (place + 1) vsn es ≡ Ok row → AllByRecursion IsAppupInstruction row) → AllByRecursion IsAppupInstruction row
    go None found later = absurd cc
    go (Some true) found later = let same : e.instrs ≡ row = cc in subst (AllByRecursion IsAppupInstruction) same h.0
    go (Some false) found later = later found

plain_entries : (es : List AppupEntryForm) (asked : List (List ℕ)) (plain : List AppupEntryForm) → IsPlain es asked plain
    → AreWellFormedEntries es → AreWellFormedEntries plain
plain_entries es [] plain nothing h = tt
plain_entries es (v ∷ asked) plain (entry vsn row is p) h = (of_search 0 v es row h is, plain_entries es asked _ p h)
plain_entries es (v ∷ asked) plain (none vsn is p) h = plain_entries es asked plain p h

of_appup : (ups downs : List RelupReleaseForm) (a c : RelupAppForm) → IsPlainApp ups downs a c → IfSome a.appup IsWellFormedAppup
    → IfSome c.appup IsWellFormedAppup
of_appup ups downs a c h of = go c.appup h.appup
  where
    own : (o : Option AppupForm) (q : AppupForm) → IfSome o IsWellFormedAppup → IsSomeAnd o (λ p. IsPlainAppup a ups downs p q) → IsWellFormedAppup q
    own None q are k = absurd k
    own (Some p) q are k = (plain_entries p.ups _ q.ups k.up_entries are.0, plain_entries p.downs _ q.downs k.down_entries are.1)

    go : (o : Option AppupForm) → IsPlainAppupOf a ups downs o → IfSome o IsWellFormedAppup
    go None k = tt
    go (Some q) k = own a.appup q of k

of_apps : (ups downs : List RelupReleaseForm) (as' cs : List RelupAppForm) → AllZip (IsPlainApp ups downs) as' cs → AllByRecursion IsWellFormedApp as'
    → AllByRecursion (λ (a : RelupAppForm). IfSome a.appup IsWellFormedAppup) as'
    → AllByRecursion IsWellFormedApp cs × AllByRecursion (λ (a : RelupAppForm). IfSome a.appup IsWellFormedAppup) cs
of_apps ups downs [] [] h of appups = (tt, tt)
of_apps ups downs [] (c ∷ cs) h of appups = absurd h
of_apps ups downs (a ∷ as') [] h of appups = absurd h
of_apps ups downs (a ∷ as') (c ∷ cs) h of appups =
    let (more, more_appups) = of_apps ups downs as' cs h.1 of.1 appups.1 in (
      ((subst IsName (sym h.0.name) of.0.0, subst IsVersion (sym h.0.vsn) of.0.1, subst (AllByRecursion IsName) (sym h.0.modules) of.0.2), more),
      (of_appup ups downs a c h.0 appups.0, more_appups),
    )

pub stays_well_formed : StaysWellFormed
stays_well_formed ups downs new plain h of appups =
    let (apps, plain_appups) = of_apps ups downs new.apps plain.apps h.apps of.1 appups in
    ((subst IsVersion (sym h.vsn) of.0, apps), plain_appups)
