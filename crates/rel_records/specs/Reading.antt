-- Which record a body spells.
use Rattle.std.specs.Prelude.{◌≡◌, ℕ, List, [], ◌∷◌, codes, if◌then◌else◌, Option, None, Some}
use Rattle.std.specs.Option.{option_map, option_and_then}
use Rattle.erl_term.specs.Value.{Value, Values}
use Rattle.erl_term.specs.Value.Value.{atom}
use Rattle.erl_term.specs.Value.Values.{no_values, value}
use Rattle.erl_term.specs.OneTerm.{HasTerm}
use Rattle.rel_files.specs.File.{IsReleaseTerm}
use Rattle.rel_files.specs.Parts.{list_in, pair_in, is_word}
use Rattle.rel_files.specs.Sketch.{version_in}
use Rattle.rel_files.specs.Release.{Release}
use Rattle.relup_file.specs.Form.{IsRelupTerm}
use Rattle.relup_file.specs.Relup.{RelupForm}
use Rattle.library.specs.Library.{Library}
use Rattle.library.specs.Reading.{AreOfLibraries, EachSays}
use Rattle.rel_files.specs.Terms.{triple_term}
use Rattle.rel_list.specs.declared.status.Status.{Status}
use Rattle.rel_list.specs.declared.status.Status.TheVariants.{Unpacked, Old, Permanent, OneShot}
use Rattle.rel_records.specs.Record.{Assignment, FileTerms, Imaged, Record, makes, adds, assigns, removes, images, release_term, relup_or_none, image_term}

-- A status that is written: `current` never is.
abbrev pub status_in : Value → Option Status
status_in v =
    if is_word (codes "unpacked") v then Some Unpacked
    else if is_word (codes "old") v then Some Old
    else if is_word (codes "permanent") v then Some Permanent
    else if is_word (codes "one_shot") v then Some OneShot
    else None

abbrev pub assignment_in : Value → Option Assignment
assignment_in v =
    option_and_then (λ p. option_and_then (λ vsn. option_map (λ s. record { vsn = vsn; status = s }) (status_in p.1)) (version_in p.0)) (pair_in v)

abbrev pub assignments_of : Values → Option (List Assignment)
assignments_of no_values = Some []
assignments_of (value v vs) = option_and_then (λ a. option_map (λ given. a ∷ given) (assignments_of vs)) (assignment_in v)

-- the record of a pair: {status, Assignments} or {removed, Vsn}
abbrev pub change_of : Value × Value → Option Record
change_of p =
    if is_word (codes "status") p.0 then option_map assigns (option_and_then assignments_of (list_in p.1))
    else if is_word (codes "removed") p.0 then option_map removes (version_in p.1)
    else None

abbrev pub change_in : Value → Option Record
change_in v = option_and_then change_of (pair_in v)

-- The term stands for this relup. The atom `none` stands for none.
abbrev pub StandsForRelup : Value → Option RelupForm → Type 0
StandsForRelup v None = v ≡ atom (codes "none")
StandsForRelup v (Some r) = IsRelupTerm v r

-- The terms of files say this release and this relup.
pub record AreOfRelease (files : FileTerms) (r : Release) (o : Option RelupForm) : Type 0 where
  pub release : IsReleaseTerm files.rel r
  pub relup : StandsForRelup (relup_or_none files.relup) o

-- The value is the term, with this word, of a record that brings this release, these libraries and this relup.
pub record Brings (word : List ℕ) (v : Value) (r : Release) (ls : List Library) (o : Option RelupForm) : Type 0 where
  pub rel : Value
  pub libs : Values
  pub last : Value
  pub is : v ≡ release_term word rel libs last
  pub release : IsReleaseTerm rel r
  pub libraries : AreOfLibraries libs ls
  pub relup : StandsForRelup last o

-- The term says this release of an image.
pub record SaysImaged (v : Value) (x : Imaged) : Type 0 where
  pub rel : Value
  pub status : Value
  pub last : Value
  pub is : v ≡ triple_term rel status last
  pub release : IsReleaseTerm rel x.release
  pub has_status : status_in status ≡ Some x.status
  pub relup : StandsForRelup last x.relup

-- The terms say these releases of an image, in their order.
abbrev pub AreImaged : Values → List Imaged → Type 0
AreImaged vs xs = EachSays SaysImaged vs xs

-- The value is the term of an image of these releases with these libraries.
pub record SaysImage (v : Value) (xs : List Imaged) (ls : List Library) : Type 0 where
  pub rows : Values
  pub libs : Values
  pub is : v ≡ image_term rows libs
  pub releases : AreImaged rows xs
  pub libraries : AreOfLibraries libs ls

-- The term says this record.
abbrev pub Says : Value → Record → Type 0
Says v (makes r ls o) = Brings (codes "made") v r ls o
Says v (adds r ls o) = Brings (codes "unpacked") v r ls o
Says v (images xs ls) = SaysImage v xs ls
Says v r = change_in v ≡ Some r

-- The body of a store's record spells this record. It is read with 72 brackets open at once.
pub record Spells (body : List ℕ) (r : Record) : Type 0 where
  pub term : Value
  pub text : HasTerm 72 body term
  pub says : Says term r
