-- What a record of statuses says of the releases of a list.
use Rattle.std.specs.Prelude.{◌≡◌, ℕ, Bool, true, false, not, List, [], ◌∷◌, filter, if◌then◌else◌, Option, None, Some}
use Rattle.std.specs.Option.{option_or}
use Rattle.std.specs.Str.{bytes_eq}
use Rattle.rel_list.specs.declared.status.Status.{Status}
use Rattle.rel_list.specs.Releases.{Releases}
use Rattle.rel_records.specs.Record.{Assignment}
use Rattle.rel_records.specs.StatusChanges.{said_by}

-- the status that a record gives to the release of this version: the last one, where it names the release twice
abbrev pub status_given : List ℕ → List Assignment → Option Status
status_given v [] = None
status_given v (a ∷ given) = option_or (status_given v given) (if bytes_eq a.vsn v then Some a.status else None)

-- what a record says of each release
abbrev pub said : List Assignment → Releases → List (Option Status)
said given es = said_by (λ vsn. status_given vsn given) es

-- whether the first assignment of a record is to the release of this version
abbrev pub leads : List ℕ → List Assignment → Bool
leads v [] = false
leads v (a ∷ given) = bytes_eq a.vsn v

-- the assignments of a record to other releases than that of this version
abbrev pub others : List ℕ → List Assignment → List Assignment
others v given = filter (λ (a : Assignment). not (bytes_eq a.vsn v)) given

-- The record names releases of the list alone, and first names them in the order of the list.
abbrev pub are_in_order : Releases → List Assignment → Bool
are_in_order [] [] = true
are_in_order [] (a ∷ given) = false
are_in_order (x ∷ es) given = are_in_order es (if leads x.release.vsn given then others x.release.vsn given else given)

-- A record names no release twice.
abbrev pub NamesEachOnce : List Assignment → Type 0
NamesEachOnce [] = Unit {0}
NamesEachOnce (a ∷ given) = (status_given a.vsn given ≡ None) × NamesEachOnce given
