-- Records make one list, of releases with versions and their libraries, or one of them is bad.
use Rattle.std.proofs.Common.{◌≡◌, ◌⊎◌, inl, inr, ℕ, ◌+◌, true, List, [], ◌∷◌, ◌++◌, length, Option, Some, None, refl, sym, subst, append_assoc, append-nil}
use Rattle.std.specs.List.{AllByRecursion}
use Rattle.rel_files.specs.File.{HasVersions}
use Rattle.rel_files.specs.Release.{Release}
use Rattle.relup_file.specs.Relup.{RelupForm}
use Rattle.library.specs.Library.{Library, IsLibrary}
use Rattle.rel_list.specs.declared.status.Status.{Status}
use Rattle.rel_list.specs.Releases.{Bundle, Releases, Entry}
use Rattle.rel_list.specs.Event.{recorded}
use Rattle.rel_records.specs.Laws.{MakeOrHaveABadOne, MakeOneList, NeverBothRecords, MakeVersions, MakeLibraries}
use Rattle.rel_records.specs.Limits.{has_one_permanent, is_small}
use Rattle.rel_records.specs.Lists.{assigned_in, MakesFrom, Makes, IsBadRecord, none_at_all, bad_after, HaveVersions}
use Rattle.rel_records.specs.Reading.{Spells}
use Rattle.rel_records.specs.Record.{Record}
use Rattle.rel_records.proofs.EachRelease.{each_made}
use Rattle.rel_records.proofs.FormatLemmas.{allowed_so}
use Rattle.rel_records.proofs.ListLemmas.{makes-push, makes_once, makes_not_bad, cannot_stand}
use Rattle.rel_records.proofs.MadeLemmas.{AreSaid}
use Rattle.rel_records.proofs.ReadingLemmas.{SpellsOrNot, spells_or_not}
use Rattle.rel_records.proofs.RecordPlaces.{IsOfRecord, one_behind, settled_made}
use Rattle.rel_records.proofs.StartableLemmas.{make_startable, startable_libraries}

-- Bodies make a list, or one of them is the first bad record.
abbrev MakesOrNot : ℕ → List (List ℕ) → Type 0
MakesOrNot format bodies = ((es : Releases) × Makes format bodies es) ⊎ ((i : ℕ) × IsBadRecord format bodies i)

makes_or_not : (format : ℕ) (before rest : List (List ℕ)) (es : Releases) → MakesFrom format [] before es → (before ≡ []) ⊎ (has_one_permanent es ≡ true) → MakesOrNot format (before ++ rest)
makes_or_not format before [] es so_far (inl none) = inr (1, subst (λ l. IsBadRecord format (l ++ []) 1) (sym none) none_at_all)
makes_or_not format before [] es so_far (inr one) = inl (es, subst (λ l. Makes format l es) (sym (append-nil before)) (so_far, one))
makes_or_not format before (body ∷ rest) es so_far one = by_body (λ next r spelled taken. makes_or_not format (before ++ body ∷ []) rest next (makes-push format [] before es body r next so_far spelled taken) (inr (one_behind r es next (allowed_so format r es next taken).1))) (spells_or_not body)
  where
    by_list : (r : Record) → Spells body r → ((next : Releases) → assigned_in format r es ≡ Some next → MakesOrNot format ((before ++ body ∷ []) ++ rest)) → (o : Option Releases) → assigned_in format r es ≡ o → MakesOrNot format (before ++ body ∷ rest)
    by_list r spelled more None taken = inr (length before + 1, bad_after before body rest es so_far (cannot_stand format body es r spelled taken))
    by_list r spelled more (Some next) taken = subst (MakesOrNot format) (append_assoc before (body ∷ []) rest) (more next taken)

    by_body : ((next : Releases) (r : Record) → Spells body r → assigned_in format r es ≡ Some next → MakesOrNot format ((before ++ body ∷ []) ++ rest)) → SpellsOrNot body → MakesOrNot format (before ++ body ∷ rest)
    by_body more (inl (r, spelled)) = by_list r spelled (λ next taken. more next r spelled taken) (assigned_in format r es) refl
    by_body more (inr never) = inr (length before + 1, bad_after before body rest es so_far (λ r spelled. absurd (never r spelled)))

pub as_recorded : (format : ℕ) (bodies : List (List ℕ)) (es : Releases) → Makes format bodies es → recorded es ≡ es
as_recorded format bodies es makes_it = settled_made format [] bodies es makes_it.0 refl

pub make_or_bad : MakeOrHaveABadOne
make_or_bad format bodies =
    elim (makes_or_not format [] bodies [] refl (inl refl)) [ inl made_it ↦ inl (made_it.0, made_it.1, as_recorded format bodies made_it.0 made_it.1) | inr is_bad ↦ inr is_bad ]

pub make_one : MakeOneList
make_one format bodies es fs p q = makes_once format [] bodies es fs p.0 q.0

pub never_bad : NeverBothRecords
never_bad format bodies es i makes_it is_bad = makes_not_bad format bodies es i makes_it is_bad

-- the releases that records bring have the versions of files
brought_versions : (es : Releases) (r : Release) (ls : List Library) (o : Option RelupForm) (p : Bundle) (s : Status)
    → HaveVersions es → is_small r ≡ true → AreSaid r o → AllByRecursion IsLibrary ls → IsOfRecord es r ls o p → HasVersions p.release
brought_versions es r ls o p s all small said libraries of = subst HasVersions of.release said.release.versions

pub make_versions : MakeVersions
make_versions = each_made (λ (e : Entry). HasVersions e.release) (λ e s has. has) brought_versions

-- a release that can be started has its libraries
pub make_libraries : MakeLibraries
make_libraries format bodies es makes_it = startable_libraries es (make_startable format bodies es makes_it)
