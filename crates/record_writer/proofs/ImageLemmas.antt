-- The image of a list that records make makes it.
use Rattle.std.proofs.Common.{◌≡◌, ℕ, ◌≤◌, ◌<◌, Bool, true, false, not, List, [], ◌∷◌, length, filter, map, cond, Option, Some, None, refl, sym, ap, subst, ◌∙◌, arith, length-append, if◌then◌else◌}
use Rattle.std.specs.Prelude.{◌&&◌, nat_lt}
use Rattle.std.specs.List.{AllByRecursion}
use Rattle.std.specs.Option.{option_and_then, option_map}
use Rattle.std.specs.Str.{bytes_eq}
use Rattle.std.proofs.lemmas.List.{length-map}
use Rattle.erl_term.specs.OneTerm.{HasTerm}
use Rattle.erl_term.specs.Value.{Value, values_of}
use Rattle.erl_term.specs.Value.Value.{atom}
use Rattle.erl_term.specs.Within.{IsWithin}
use Rattle.rel_files.specs.Release.{Release}
use Rattle.relup_file.specs.Form.{relup_term}
use Rattle.relup_file.specs.Relup.{RelupForm}
use Rattle.library.specs.Library.{Library, IsLibrary, library_term}
use Rattle.library.specs.Reading.{AreOfLibraries}
use Rattle.rel_list.specs.declared.status.Status.{Status}
use Rattle.rel_list.specs.declared.status.Status.TheVariants.{Permanent, Unpacked}
use Rattle.rel_list.specs.Releases.{Bundle, Entry, HasDistinctVersions, Releases, each_once, entry, libraries_named, libraries_of, status_of}
use Rattle.rel_list.specs.Event.{recorded, recorded_status, list_assigned, may_be_removed, step, without}
use Rattle.rel_list.specs.Event.Event.{made, removed, unpacked}
use Rattle.rel_list.specs.Status.{is_current, status_word}
use Rattle.rel_list.proofs.LibraryLaws.{libraries-recorded}
use Rattle.rel_list.proofs.Orderly.{distinct-with_statuses}
use Rattle.rel_list.proofs.OwnRules.{never_made_again, own_of_step}
use Rattle.rel_records.specs.Image.{MakesAsImage, recorded_row, image_of, image_record, image_value, imaged}
use Rattle.rel_records.specs.Depth.{is_within}
use Rattle.rel_records.specs.Limits.{has_one_permanent, is_small, most_releases}
use Rattle.rel_records.specs.Lists.{IsMadeByRecords, Makes, added_by, assign_all, assigned, brought_by, made_by, may_be_assigned, with_one_permanent}
use Rattle.rel_records.specs.Reading.{AreImaged, SaysImage, SaysImaged}
use Rattle.rel_records.specs.Record.{Assignment, image_term, imaged_term, library_terms, printed, relup_or_none}
use Rattle.rel_records.specs.ReleaseTerm.{file_term}
use Rattle.rel_records.proofs.AgreementLemmas.{make_agreeing}
use Rattle.record_writer.proofs.DepthLemmas.{within_so}
use Rattle.rel_records.proofs.EachRelease.{each_made}
use Rattle.rel_records.proofs.EventRecords.{below, never_current}
use Rattle.record_writer.proofs.FileTermLemmas.{file_term_says, relup_term_stands}
use Rattle.rel_records.proofs.FormatLemmas.{stands_so}
use Rattle.rel_records.proofs.MadeLemmas.{AreSaid, kept_made}
use Rattle.rel_records.proofs.OrderlyLemmas.{orderly_made}
use Rattle.rel_records.proofs.RecordLaws.{as_recorded}
use Rattle.rel_records.proofs.RecordPlaces.{IsOfRecord, event_of_record, first_recorded, kept, pushed_last, rest_recorded}
use Rattle.rel_records.proofs.RestorationLemmas.{AreSettled, AreSmall, IsRestorable, restored_so}
use Rattle.rel_records.proofs.StartableLemmas.{startable_libraries}
use Rattle.record_writer.proofs.WritingLemmas.{status_back}
use Rattle.rel_files.proofs.Options.{passed, both}

-- A release is small, and terms say it and its relup.
record CanBeSaid (e : Entry) : Type 0 where
  small : is_small e.release ≡ true
  said : AreSaid e.release e.relup

still_said : (e : Entry) (s : Status) → CanBeSaid e → CanBeSaid (record e { status = s })
still_said e s can = record { small = can.small; said = can.said }

brought_said : (es : Releases) (r : Release) (ls : List Library) (o : Option RelupForm) (p : Bundle) (s : Status)
    → AllByRecursion CanBeSaid es → is_small r ≡ true → AreSaid r o → AllByRecursion IsLibrary ls → IsOfRecord es r ls o p → CanBeSaid (entry p s)
brought_said es r ls o p s all small said libraries of = record {
  small = ap is_small (sym of.release) ∙ small;
  said = subst (AreSaid p.release) of.relup (subst (λ (q : Release). AreSaid q o) of.release said);
}

can_be_said : (format : ℕ) (bodies : List (List ℕ)) (es : Releases) → Makes format bodies es → AllByRecursion CanBeSaid es
can_be_said = each_made CanBeSaid still_said brought_said

-- A list has no more releases than a node may have.
abbrev IsShort : Releases → Type 0
IsShort es = length es ≤ 32

first_short : (r : Release) (ls : List Library) (o : Option RelupForm) (es next : Releases) → AreSaid r o → AllByRecursion IsLibrary ls → made_by r ls o es ≡ Some next → IsShort es → IsShort next
first_short r ls o es next said all e short = let (p, of, is) = event_of_record made (is_small r) r ls o es next e in one p es is
  where
    one : (p : Bundle) (es : Releases) → step (made p) es ≡ Some next → length next ≤ 32
    one p [] is = let same : entry p Permanent ∷ [] ≡ next = cc is in subst IsShort same (omega arith)
    one p (f ∷ fs) is = absurd (never_made_again p f fs next is)

further_short : (r : Release) (ls : List Library) (o : Option RelupForm) (es next : Releases) → AreSaid r o → AllByRecursion IsLibrary ls → added_by r ls o es ≡ Some next → IsShort es → IsShort next
further_short r ls o es next said all e short =
    let allowed = is_small r && nat_lt (length es) most_releases in
    let (may, rest) = passed allowed (option_and_then (λ (p : Bundle). step (unpacked p) es) (brought_by es r ls o)) next e in
    let few : length es < most_releases = below (length es) (both (is_small r) (nat_lt (length es) most_releases) may).1 in
    let (p, of, is) = event_of_record unpacked allowed r ls o es next e in
    subst IsShort (pushed_last p es next is) (omega (arith, few, length-append es (entry p Unpacked ∷ [])))

length-assign_all : (given : List Assignment) (es next : Releases) → assign_all given es ≡ Some next → length next ≡ length es
length-assign_all [] es next is = let same : es ≡ next = cc is in ap length (sym same)
length-assign_all (a ∷ given) es next is =
    let (may, rest) = passed (may_be_assigned a es) (assign_all given (list_assigned a.vsn a.status es)) next is in
    length-assign_all given (list_assigned a.vsn a.status es) next rest ∙ length-map es _

length-without : (v : List ℕ) (es : Releases) → length (without v es) ≤ length es
length-without v [] = omega arith
length-without v (e ∷ es) = go (bytes_eq v e.release.vsn) (length-without v es)
  where
    go : (b : Bool) → length (without v es) ≤ length es → length (if b then es else e ∷ without v es) ≤ length (e ∷ es)
    go true few = omega arith
    go false few = omega (arith, few)

statuses_short : (given : List Assignment) (es next : Releases) → assign_all given es ≡ Some next → IsShort es → IsShort next
statuses_short given es next is short = omega (arith, short, length-assign_all given es next is)

left_short : (v : List ℕ) (es next : Releases) → step (removed v) es ≡ Some next → IsShort es → IsShort next
left_short v es next is short =
    let (may, gone) = passed (may_be_removed (status_of v es)) (Some (without v es)) next (own_of_step (removed v) es next is).1 in
    let same : without v es ≡ next = cc gone in
    subst IsShort same (omega (arith, short, length-without v es))

short_made : (format : ℕ) (bodies : List (List ℕ)) (es : Releases) → Makes format bodies es → IsShort es
short_made = kept_made IsShort first_short further_short statuses_short left_short (omega arith)

-- the parts of what holds of each
each_small : (es : Releases) → AllByRecursion CanBeSaid es → AreSmall es
each_small [] all = tt
each_small (e ∷ es) all = (all.0.small, each_small es all.1)

settled_recorded : (es : Releases) → recorded es ≡ es → AreSettled es
settled_recorded [] same = tt
settled_recorded (e ∷ es) same = (
  subst (λ (s : Status). not (is_current s) ≡ true) (first_recorded e es same) (never_current e.status),
  settled_recorded es (rest_recorded e es same),
)

restorable : (format : ℕ) (bodies : List (List ℕ)) (es : Releases) → Makes format bodies es → HasDistinctVersions es → IsRestorable es
restorable format bodies es makes_it distinct =
    let (startable, agree) = make_agreeing format bodies es makes_it in
    record {
      startable = startable;
      small = each_small es (can_be_said format bodies es makes_it);
      settled = settled_recorded es (as_recorded format bodies es makes_it);
      distinct = distinct;
      agree = agree;
      few = short_made format bodies es makes_it;
      one_temporary = (orderly_made format bodies es makes_it).one_temporary;
    }

-- The term of the image says it.
terms_say : (es : Releases) → AllByRecursion CanBeSaid es → AreSettled es → AreImaged (values_of (map imaged_term (map imaged es))) (map imaged es)
terms_say [] all settled = tt
terms_say (e ∷ es) all settled = (says_first, terms_say es all.1 settled.1)
  where
    says_first : SaysImaged (imaged_term (imaged e)) (imaged e)
    says_first = record {
      rel = file_term e.release;
      status = atom (status_word e.status);
      last = relup_or_none (option_map relup_term e.relup);
      is = refl;
      release = file_term_says all.0.said.rel e.release all.0.said.release;
      has_status = status_back e.status settled.0;
      relup = relup_term_stands all.0.said.last e.relup all.0.said.relup;
    }

terms_of_libraries : (ls : List Library) → AllByRecursion IsLibrary ls → AreOfLibraries (library_terms ls) ls
terms_of_libraries [] all = tt
terms_of_libraries (l ∷ ls) all = ((all.0, refl), terms_of_libraries ls all.1)

each-filter : (P : Library → Type 0) (keep : Library → Bool) (ls : List Library) → AllByRecursion P ls → AllByRecursion P (filter keep ls)
each-filter P keep [] all = tt
each-filter P keep (l ∷ ls) all = go (keep l) (each-filter P keep ls all.1)
  where
    go : (b : Bool) → AllByRecursion P (filter keep ls) → AllByRecursion P (cond b (l ∷ filter keep ls) (filter keep ls))
    go true rest = (all.0, rest)
    go false rest = rest

each-once : (P : Library → Type 0) (ls : List Library) → AllByRecursion P ls → AllByRecursion P (each_once ls)
each-once P [] all = tt
each-once P (l ∷ ls) all = (all.0, each-filter P _ (each_once ls) (each-once P ls all.1))

-- The image makes the list.
image_makes : (format : ℕ) (bodies : List (List ℕ)) (es : Releases) → Makes format bodies es → HasDistinctVersions es → (body : List ℕ) → HasTerm 72 body (image_value es) → MakesAsImage es body
image_makes format bodies es makes_it distinct body has in_format may = (
  (
    image_record es,
    es,
    record { term = image_value es; text = has; says = says },
    stands_so in_format (image_record es) [] es may (taken es (restorable format bodies es makes_it distinct) makes_it.1),
    refl,
  ),
  makes_it.1,
)
  where
    says : SaysImage (image_value es) (map imaged es) (libraries_of es)
    says = record {
      rows = values_of (map imaged_term (map imaged es));
      libs = library_terms (libraries_of es);
      is = refl;
      releases = terms_say es (can_be_said format bodies es makes_it) (settled_recorded es (as_recorded format bodies es makes_it));
      libraries = terms_of_libraries (libraries_of es) (each-once IsLibrary (libraries_named es) (startable_libraries es (make_agreeing format bodies es makes_it).0));
    }

    taken : (es : Releases) → IsRestorable es → has_one_permanent es ≡ true → assigned (image_record es) [] ≡ Some es
    taken [] so one = absurd cc
    taken (e ∷ es) so one = ap with_one_permanent (restored_so e es so) ∙ kept (e ∷ es) one

-- the rows of a list, as records report it
pub recorded_rows : {A : Type 0} (entry_at : A → Entry) (xs : List A) → map (λ x. recorded_row (entry_at x)) xs ≡ map imaged_term (map imaged (recorded (map entry_at xs)))
recorded_rows entry_at [] = refl
recorded_rows entry_at (x ∷ xs) = ap (λ (vs : List Value). recorded_row (entry_at x) ∷ vs) (recorded_rows entry_at xs)

-- The rows of a list and its libraries make the term of its image.
pub image_value_so : (es : Releases) (v : Value) (rows libs : List Value) → v ≡ image_term (values_of rows) (values_of libs)
    → rows ≡ map imaged_term (map imaged (recorded es)) → libs ≡ map library_term (libraries_of es) → v ≡ image_value (recorded es)
image_value_so es v rows libs is releases libraries =
    is ∙ (λ j. image_term (values_of (releases j)) (values_of ((libraries ∙ ap (λ (ls : List Library). map library_term (each_once ls)) (sym (libraries-recorded es))) j)))

-- What is read back as that term makes the list.
pub written_makes : (es : Releases) → IsMadeByRecords (recorded es) → HasDistinctVersions es → (v : Value) → v ≡ image_value (recorded es) → is_within 72 v ≡ true
    → (body : List ℕ) → (IsWithin 72 v → HasTerm 72 body v) → MakesAsImage (recorded es) body
written_makes es (format, bodies, makes_it) distinct v is within body back =
    image_makes format bodies (recorded es) makes_it (distinct-with_statuses (λ vsn s. recorded_status s) es distinct) body (subst (HasTerm 72 body) is (back (within_so v 72 within)))

-- Its body, where it can be read back.
pub image_there : (es : Releases) (v : Value) (body : List ℕ) → v ≡ image_value es → is_within 72 v ≡ true → body ≡ printed v → Some body ≡ image_of es
unfolding image_of
image_there es v body is within printed_so =
    (λ j. Some ((printed_so ∙ ap printed is) j)) ∙ sym (ap (λ b. if b then Some (printed (image_value es)) else None) (ap (is_within 72) (sym is) ∙ within))

pub image_not_there : (es : Releases) (v : Value) → v ≡ image_value es → is_within 72 v ≡ false → None ≡ image_of es
unfolding image_of
image_not_there es v is within = sym (ap (λ b. if b then Some (printed (image_value es)) else None) (ap (is_within 72) (sym is) ∙ within))
