-- The releases of a node, each with its status, in order of coming (OTP: release_handler(3)).
use Rattle.std.specs.Prelude.{◌≡◌, ℕ, Bool, not, List, [], ◌∷◌, map, Option, None, find, filter, is_some}
use Rattle.std.specs.List.{flat_map}
use Rattle.std.specs.Option.{option_and_then, option_map, option_map_or, option_or, unwrap_or}
use Rattle.std.specs.Str.{bytes_eq}
use Rattle.library.specs.Library.{Library, agrees, is_at, library_at}
use Rattle.rel_files.specs.Release.{Release}
use Rattle.relup_file.specs.Relup.{RelupForm}
use Rattle.rel_list.specs.declared.status.Status.{Status}
use Rattle.rel_list.specs.Status.{is_current, is_one_shot, is_permanent}

-- a release with the libraries of its applications, in their order, and its relup, if it has one (OTP: a release package)
pub record Bundle : Type 0 where
  pub release : Release
  pub libraries : List Library
  pub relup : Option RelupForm

-- a release of the list, with its libraries, its relup and its status
pub record Entry : Type 0 where
  pub release : Release
  pub libraries : List Library
  pub relup : Option RelupForm
  pub status : Status

abbrev pub Releases : Type 0
Releases = List Entry

abbrev pub entry : Bundle → Status → Entry
entry p s = record { release = p.release; libraries = p.libraries; relup = p.relup; status = s }

-- a release of the list without its status
abbrev pub bundle_in : Entry → Bundle
bundle_in e = record { release = e.release; libraries = e.libraries; relup = e.relup }

-- the status of the release of this version
abbrev pub status_of : List ℕ → Releases → Option Status
status_of vsn es = option_map (λ (e : Entry). e.status) (find (λ e. bytes_eq vsn e.release.vsn) es)

-- the release of this version
abbrev pub release_at : List ℕ → Releases → Option Release
release_at vsn es = option_map (λ (e : Entry). e.release) (find (λ e. bytes_eq vsn e.release.vsn) es)

-- the relup of the release of this version
abbrev pub relup_at : List ℕ → Releases → Option RelupForm
relup_at vsn es = option_and_then (λ (e : Entry). e.relup) (find (λ e. bytes_eq vsn e.release.vsn) es)

-- the libraries of the release of this version
abbrev pub libraries_at : List ℕ → Releases → List Library
libraries_at vsn es = option_map_or (λ (e : Entry). e.libraries) (find (λ e. bytes_eq vsn e.release.vsn) es) []

-- the releases whose status passes a test
abbrev pub of_status : (Status → Bool) → Releases → Releases
of_status test es = filter (λ (e : Entry). test e.status) es

-- Versions are distinct: after a release stands none of its version.
abbrev pub HasDistinctVersions : Releases → Type 0
HasDistinctVersions [] = Unit {0}
HasDistinctVersions (e ∷ es) = (status_of e.release.vsn es ≡ None) × HasDistinctVersions es

-- the permanent release: a boot starts it, unless the list has a one-shot
abbrev pub permanent : Releases → Option Release
permanent es = option_map (λ (e : Entry). e.release) (find (λ e. is_permanent e.status) es)

-- the release that runs until the next boot and isn't permanent
abbrev pub current : Releases → Option Release
current es = option_map (λ (e : Entry). e.release) (find (λ e. is_current e.status) es)

-- one of the releases is current
abbrev pub has_current : Releases → Bool
has_current es = is_some (current es)

-- the release that the next boot starts, once
abbrev pub one_shot : Releases → Option Release
one_shot es = option_map (λ (e : Entry). e.release) (find (λ e. is_one_shot e.status) es)

-- one of the releases is a one-shot
abbrev pub has_one_shot : Releases → Bool
has_one_shot es = is_some (one_shot es)

-- the release that runs: the current one, or the permanent one if none is current
abbrev pub running : Releases → Option Release
running es = option_or (current es) (permanent es)

-- the libraries that the releases name, in the order of the releases and their applications; one that two of them name stands
-- twice
abbrev pub libraries_named : Releases → List Library
libraries_named es = flat_map (λ (e : Entry). e.libraries) es

-- the library of this name and version
abbrev pub library_in : Releases → List ℕ → List ℕ → Option Library
library_in es name vsn = library_at name vsn (libraries_named es)

-- the first of each name and version
abbrev pub each_once : List Library → List Library
each_once [] = []
each_once (l ∷ ls) = l ∷ filter (λ (k : Library). not (is_at l.app.name l.app.vsn k)) (each_once ls)

-- the libraries of a list: each that its releases name stands once
abbrev pub libraries_of : Releases → List Library
libraries_of es = each_once (libraries_named es)

-- these libraries, with the list's in place of those that it has
abbrev pub shared : Releases → List Library → List Library
shared es ls = map (λ (l : Library). unwrap_or (library_in es l.app.name l.app.vsn) l) ls

-- whether a library is not the same as that of its name and version in the list
abbrev pub differs : Releases → Library → Bool
differs es l = not (agrees (library_in es l.app.name l.app.vsn) l)

-- the first of these libraries that differs from the list's
abbrev pub first_different : Releases → List Library → Option Library
first_different es ls = find (differs es) ls
