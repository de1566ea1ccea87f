-- Whether a node's list has a place for a release that was brought.
use Rattle.std.specs.Prelude.{◌≡◌, ◌⊎◌, Bool, List, true, is_some, length, nat_lt, if◌then◌else◌, Option, None, Some}
use Rattle.std.specs.Option.{option_map, option_or}
use Rattle.library.specs.Library.{Library}
use Rattle.rel_list.specs.Releases.{Releases, first_different, status_of}
use Rattle.rel_records.specs.Limits.{most_releases}
use Rattle.rel_unpack.specs.Refusal.{Refusal}
use Rattle.rel_unpack.specs.Refusal.Refusal.{lib_differs, too_many}
use Rattle.rel_unpack.specs.Unpacking.{Brought}
use Rattle.node_command.specs.Files.{IsReportedAs}
use Rattle.node_command.specs.declared.error.HandlerError.{HandlerError}
use Rattle.node_command.specs.declared.error.HandlerError.TheVariants.{ExistingRelease, NoMemory}

-- the first of these libraries that differs from the list's
abbrev pub difference : List Library → Releases → Option Refusal
difference ls es = option_map (λ (l : Library). lib_differs l.app.name) (first_different es ls)

-- the node may have one more release
abbrev pub has_room : Releases → Bool
has_room es = nat_lt (length es) most_releases

-- Why what is brought is refused, a library of the list aside: for its applications; where there is no room for it; for its
-- relup.
abbrev pub refusal_with : Bool → Brought → Option Refusal
refusal_with room b = option_or b.refusal (if room then b.relup_refusal else Some too_many)

-- why it is refused for its files alone
abbrev pub own_refusal : Brought → Option Refusal
own_refusal b = refusal_with true b

-- Why a node with this list doesn't take what is brought, for its files: a library that was read differs from the list's, or
-- the refusal after it. A version that is listed is refused before.
abbrev pub files_refusal : Brought → Releases → Option Refusal
files_refusal b es =
    if is_some (status_of b.found.release.vsn es) then None
    else option_or (difference b.libraries es) (refusal_with (has_room es) b)

-- Why a list has no place for what was brought: its version is listed, or one of its libraries differs from the list's,
-- whatever else is wrong with its applications. Out of memory comes in place of either.
abbrev pub HasNoPlace : Brought → Releases → HandlerError → Type 0
HasNoPlace b es e =
    (e ≡ NoMemory)
    ⊎ (((e ≡ ExistingRelease) × (is_some (status_of b.found.release.vsn es) ≡ true))
    ⊎ ((status_of b.found.release.vsn es ≡ None) × IsReportedAs (difference b.libraries es) e))
