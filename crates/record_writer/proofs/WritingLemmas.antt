-- What a command writes spells its record.
use Rattle.std.proofs.Common.{◌≡◌, ℕ, ◌+◌, ◌≤◌, ℤ, Bool, true, false, cond, List, [], ◌∷◌, map, filter, length, codes, Option, Some, None, Result, Ok, Err, refl, sym, ap, subst, ◌∙◌, arith, is_some, find, String, string_bytes}
use Rattle.std.specs.Prelude.{IfOk, OnOk, not, max, if◌then◌else◌}
use Rattle.std.proofs.Math.Nat.{max-le}
use Rattle.std.specs.declared.alloc.Global.{Global}
use Rattle.std.specs.List.{AllByRecursion}
use Rattle.std.specs.Option.{ForSome, option_map, option_and_then}
use Rattle.std.specs.Str.{bytes_eq}
use Rattle.std.proofs.lemmas.Slice.Eq.{bytes_eq-Decides}
use Rattle.erl_term.specs.Value.{Value, values_of}
use Rattle.erl_term.specs.Value.Value.{atom}
use Rattle.erl_term.specs.OneTerm.{HasTerm}
use Rattle.erl_term.specs.Printing.{is_string, characters_of}
use Rattle.erl_term.specs.Within.{IsWithin, HasShortNames, HaveShortNames, brackets, most_brackets}
use Rattle.rel_files.specs.Name.{IsVersion}
use Rattle.rel_files.specs.Release.{Release}
use Rattle.rel_files.specs.Sketch.{version_in}
use Rattle.rel_files.proofs.Texts.{numbers, text_in-numbers}
use Rattle.relup_file.specs.Relup.{RelupForm}
use Rattle.library.specs.Library.{Library}
use Rattle.library.specs.Reading.{AreOfLibraries}
use Rattle.rel_list.specs.declared.status.Status.{Status}
use Rattle.rel_list.specs.declared.status.Status.TheVariants.{Unpacked, Current, Old, Permanent, OneShot}
use Rattle.rel_list.specs.Refusal.{refusal, listed_refusal}
use Rattle.rel_list.specs.Status.{is_current, is_permanent, runs, status_word}
use Rattle.rel_list.specs.Releases.{Releases, Entry, library_in, status_of, has_current}
use Rattle.rel_list.specs.Event.{Event, status_behind}
use Rattle.rel_list.specs.Event.Event.{made, unpacked, installed, restart_installed, made_permanent, removed, reboot_old, boot}
use Rattle.rel_list.specs.declared.fault.ListError.TheVariants as reported
use Rattle.rel_list.proofs.Orderly.{status_or}
use Rattle.rel_list.proofs.OwnRules.{own_of_refusal}
use Rattle.rel_records.specs.Lists.{HaveVersions}
use Rattle.rel_records.specs.Reading.{status_in, assignment_in, assignments_of, change_in, AreOfRelease, Brings, Says, Spells}
use Rattle.rel_records.specs.Record.{Assignment, FileTerms, Record, relup_or_none, makes, adds, assigns, removes, library_terms, release_term, assignment_term, status_term, removed_term, term_of}
use Rattle.rel_records.specs.Writing.{is_changed, assignment_of, changes, new_libraries, record_of, CanBeCarried, IsOfListed}
use Rattle.rel_records.proofs.EventRecords.{never_current}
use Rattle.record_writer.proofs.Within.{length-chars, within-release, within-relup}
use Rattle.rel_files.specs.Terms.{list_of, numbers_term, numbers_of}

-- what always holds holds where a call succeeds
pub where_ok : {T E P : Type 0} (r : Result T E) → P → OnOk r P
where_ok (Ok x) p = p
where_ok (Err e) p = tt

-- A text of a version is read back.
version_back : (v : List ℕ) → IsVersion v → version_in (numbers_term (numbers_of v)) ≡ Some v
version_back v is = text_in-numbers 0x21 v is

pub status_back : (s : Status) → not (is_current s) ≡ true → status_in (atom (status_word s)) ≡ Some s
status_back Unpacked e = refl
status_back Current e = absurd cc
status_back Old e = refl
status_back Permanent e = refl
status_back OneShot e = refl

-- an assignment that may be written: of a version, and not to be current
abbrev pub IsWritten : Assignment → Type 0
IsWritten a = IsVersion a.vsn × (not (is_current a.status) ≡ true)

assignment_back : (a : Assignment) → IsWritten a → assignment_in (assignment_term a) ≡ Some a
assignment_back a w =
    ap (option_and_then (λ vsn. option_map (λ s. record { vsn = vsn; status = s }) (status_in (atom (status_word a.status))))) (version_back a.vsn w.0)
    ∙ ap (option_map (λ s. record { vsn = a.vsn; status = s })) (status_back a.status w.1)

assignments_back : (given : List Assignment) → AllByRecursion IsWritten given → assignments_of (values_of (map assignment_term given)) ≡ Some given
assignments_back [] all = refl
assignments_back (a ∷ given) all =
    ap (option_and_then (λ b. option_map (λ more. b ∷ more) (assignments_of (values_of (map assignment_term given))))) (assignment_back a all.0)
    ∙ ap (option_map (λ more. a ∷ more)) (assignments_back given all.1)

pub status_says : (given : List Assignment) → AllByRecursion IsWritten given → change_in (status_term given) ≡ Some (assigns given)
status_says given all = ap (option_map assigns) (assignments_back given all)

pub removed_says : (v : List ℕ) → IsVersion v → change_in (removed_term v) ≡ Some (removes v)
removed_says v is = ap (option_map removes) (version_back v is)

-- Brackets and names

short_numbers : (zs : List ℤ) → HaveShortNames (numbers zs) × (most_brackets (numbers zs) ≡ 0)
short_numbers [] = (tt, refl)
short_numbers (z ∷ zs) = let (names, few) = short_numbers zs in ((tt, names), ap (max 0) few)

at_most : (b : Bool) (n m : ℕ) → n ≤ m → (if b then 0 else n + 1) ≤ m + 1
at_most true n m few = omega arith
at_most false n m few = omega (arith, few)

shallow_numbers : (zs : List ℤ) → brackets (numbers_term zs) ≤ 1
shallow_numbers zs = at_most (is_string (characters_of (numbers zs))) (most_brackets (numbers zs)) 0 (let (names, few) = short_numbers zs in omega (arith, few))

shallow_assignment : (a : Assignment) → brackets (assignment_term a) ≤ 2
shallow_assignment a =
    let inner : max (brackets (numbers_term (numbers_of a.vsn))) 0 ≤ 1 = max-le (shallow_numbers (numbers_of a.vsn)) (omega arith) in
    omega (arith, inner)

few_brackets : (given : List Assignment) → most_brackets (values_of (map assignment_term given)) ≤ 2
few_brackets [] = omega arith
few_brackets (a ∷ given) = max-le (shallow_assignment a) (few_brackets given)

shallow_list : (given : List Assignment) → brackets (list_of (map assignment_term given)) ≤ 3
shallow_list given = at_most (is_string (characters_of (values_of (map assignment_term given)))) (most_brackets (values_of (map assignment_term given))) 2 (few_brackets given)

short_word : (s : Status) → HasShortNames (atom (status_word s))
short_word Unpacked = omega (arith, length-chars (codes "unpacked"))
short_word Current = omega (arith, length-chars (codes "current"))
short_word Old = omega (arith, length-chars (codes "old"))
short_word Permanent = omega (arith, length-chars (codes "permanent"))
short_word OneShot = omega (arith, length-chars (codes "one_shot"))

short_assignments : (given : List Assignment) → HaveShortNames (values_of (map assignment_term given))
short_assignments [] = tt
short_assignments (a ∷ given) = (((short_numbers (numbers_of a.vsn)).0, (short_word a.status, tt)), short_assignments given)

within-status : (given : List Assignment) → IsWithin 72 (status_term given)
within-status given =
    let inner : max 0 (max (brackets (list_of (map assignment_term given))) 0) ≤ 3 = max-le (omega arith) (max-le (shallow_list given) (omega arith)) in
    ((omega (arith, length-chars (codes "status")), (short_assignments given, tt)), omega (arith, inner))

within-removed : (v : List ℕ) → IsWithin 72 (removed_term v)
within-removed v =
    let inner : max 0 (max (brackets (numbers_term (numbers_of v))) 0) ≤ 1 = max-le (omega arith) (max-le (shallow_numbers (numbers_of v)) (omega arith)) in
    ((omega (arith, length-chars (codes "removed")), ((short_numbers (numbers_of v)).0, tt)), omega (arith, inner))

-- what an event changes may be written
changes_written : (e : Event) (es : Releases) → HaveVersions es → AllByRecursion IsWritten (changes e es)
changes_written e [] all = tt
changes_written e (x ∷ es) all = go (is_changed e x) (changes_written e es all.1)
  where
    go : (b : Bool) → AllByRecursion IsWritten (changes e es) → AllByRecursion IsWritten (map (assignment_of e) (cond b (x ∷ filter (is_changed e) es) (filter (is_changed e) es)))
    go true rest = ((all.0.own, never_current (status_behind e x.release.vsn x.status)), rest)
    go false rest = rest

-- a version that is listed is the text of one
listed_version : (v : List ℕ) (es : Releases) → HaveVersions es → is_some (status_of v es) ≡ true → IsVersion v
listed_version v [] all listed = absurd cc
listed_version v (x ∷ es) all listed = go (bytes_eq v x.release.vsn) refl (listed_version v es all.1) listed
  where
    go : (b : Bool) → bytes_eq v x.release.vsn ≡ b → (is_some (status_of v es) ≡ true → IsVersion v) → is_some (status_or b x (find (λ (f : Entry). bytes_eq v f.release.vsn) es)) ≡ true → IsVersion v
    go true is rest listed = subst IsVersion (sym ((bytes_eq-Decides v x.release.vsn).0 is)) all.0.own
    go false is rest listed = rest listed

not_refused : (v : List ℕ) (es : Releases) → refusal (removed v) es ≡ None → is_some (status_of v es) ≡ true
not_refused v es e = go (status_of v es) (own_of_refusal (removed v) es e).1
  where
    go : (o : Option Status) → listed_refusal (λ s. if is_permanent s then Some reported.Permanent else if runs (has_current es) s then Some reported.Running else None) o ≡ None → is_some o ≡ true
    go None e = absurd cc
    go (Some s) e = refl

-- the term of an event's record says it, and is within the limits
pub record_says : (e : Event) (es : Releases) (files : FileTerms) → IsOfListed e → refusal e es ≡ None → HaveVersions es → Says (term_of files (record_of e es)) (record_of e es) × IsWithin 72 (term_of files (record_of e es))
record_says (made p) es files listed allowed all = absurd listed
record_says (unpacked p) es files listed allowed all = absurd listed
record_says (installed v) es files listed allowed all = (status_says (changes (installed v) es) (changes_written (installed v) es all), within-status (changes (installed v) es))
record_says (restart_installed v) es files listed allowed all =
    (status_says (changes (restart_installed v) es) (changes_written (restart_installed v) es all), within-status (changes (restart_installed v) es))
record_says (made_permanent v) es files listed allowed all = (status_says (changes (made_permanent v) es) (changes_written (made_permanent v) es all), within-status (changes (made_permanent v) es))
record_says (reboot_old v) es files listed allowed all = (status_says (changes (reboot_old v) es) (changes_written (reboot_old v) es all), within-status (changes (reboot_old v) es))
record_says boot es files listed allowed all = (status_says (changes boot es) (changes_written boot es all), within-status (changes boot es))
record_says (removed v) es files listed allowed all = (removed_says v (listed_version v es all (not_refused v es allowed)), within-removed v)

-- the terms of libraries that can be carried are theirs
carried_terms : (ls : List Library) → CanBeCarried ls → AreOfLibraries (library_terms ls) ls
carried_terms [] all = tt
carried_terms (l ∷ ls) all = ((all.0.0, refl), carried_terms ls all.1)

-- and so can those that are new among them
pub carried_new : (es : Releases) (ls : List Library) → CanBeCarried ls → CanBeCarried (new_libraries es ls)
carried_new es [] all = tt
carried_new es (l ∷ ls) all = go (not (is_some (library_in es l.app.name l.app.vsn))) (carried_new es ls all.1)
  where
    go : (b : Bool) → CanBeCarried (new_libraries es ls) → CanBeCarried (cond b (l ∷ new_libraries es ls) (new_libraries es ls))
    go true rest = (all.0, rest)
    go false rest = rest

module _ {E : Type 0} (result : Result (String Global) E) (v : Value) where
  -- what is read back as this term
  abbrev pub ReadsBack : Type 0
  ReadsBack = IsWithin 72 v → IfOk result (λ body. HasTerm 72 (string_bytes body) v)

  spelled_so : (r : Record) → Says v r → IsWithin 72 v → ReadsBack → IfOk result (λ body. Spells (string_bytes body) r)
  spelled_so r says within back = go result (back within)
    where
      go : (o : Result (String Global) E) → IfOk o (λ body. HasTerm 72 (string_bytes body) v) → IfOk o (λ body. Spells (string_bytes body) r)
      go (Ok body) has = record { term = v; text = has; says = says }
      go (Err e) has = tt

  pub change_spelled : (e : Event) (es : Releases) (files : FileTerms) → v ≡ term_of files (record_of e es) → IsOfListed e → refusal e es ≡ None → HaveVersions es → ReadsBack → IfOk result (λ body. Spells (string_bytes body) (record_of e es))
  change_spelled e es files is listed allowed all back =
      let (says, within) = record_says e es files listed allowed all in
      spelled_so (record_of e es) (subst (λ t. Says t (record_of e es)) (sym is) says) (subst (IsWithin 72) (sym is) within) back

  -- the term that brings a release of these files with these libraries
  module _ (files : FileTerms) (ls : List Library) (within : IsWithin 65 files.rel) (all : CanBeCarried ls) (also : ForSome files.relup (IsWithin 65)) (back : ReadsBack) where
    -- the body spells what such terms say
    abbrev SpellsAll : (Release → Option RelupForm → Record) → Type 0
    SpellsAll make = IfOk result (λ body. (r : Release) (o : Option RelupForm) → AreOfRelease files r o → Spells (string_bytes body) (make r o))

    brings_spelled : (word : List ℕ) (make : Release → Option RelupForm → Record) → length word ≤ 255 → v ≡ release_term word files.rel (library_terms ls) (relup_or_none files.relup)
        → ((r : Release) (o : Option RelupForm) → Brings word v r ls o → Says v (make r o)) → SpellsAll make
    brings_spelled word make few is says =
        go result (back (subst (IsWithin 72) (sym is) (within-release word files.rel ls (relup_or_none files.relup) few within all (within-relup files.relup also))))
      where
        brought : (r : Release) (o : Option RelupForm) → AreOfRelease files r o → Brings word v r ls o
        brought r o are = record {
          rel = files.rel;
          libs = library_terms ls;
          last = relup_or_none files.relup;
          is = is;
          release = are.release;
          libraries = carried_terms ls all;
          relup = are.relup;
        }

        go : (o : Result (String Global) E) → IfOk o (λ body. HasTerm 72 (string_bytes body) v)
            → IfOk o (λ body. (r : Release) (o : Option RelupForm) → AreOfRelease files r o → Spells (string_bytes body) (make r o))
        go (Ok body) has = λ r o are. record { term = v; text = has; says = says r o (brought r o are) }
        go (Err e) has = tt

    pub made_spelled : v ≡ release_term (codes "made") files.rel (library_terms ls) (relup_or_none files.relup) → SpellsAll (λ r o. makes r ls o)
    made_spelled is = brings_spelled (codes "made") (λ r o. makes r ls o) (omega arith) is (λ r o b. b)

    pub unpacked_spelled : v ≡ release_term (codes "unpacked") files.rel (library_terms ls) (relup_or_none files.relup) → SpellsAll (λ r o. adds r ls o)
    unpacked_spelled is = brings_spelled (codes "unpacked") (λ r o. adds r ls o) (omega arith) is (λ r o b. b)
