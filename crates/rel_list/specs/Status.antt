-- The words for the statuses of releases (OTP: release_handler(3), which_releases).
use Rattle.std.specs.Prelude.{ℕ, List, Bool, true, false, not, codes}
use Rattle.rel_list.specs.declared.status.Status.{Status}
use Rattle.rel_list.specs.declared.status.Status.TheVariants.{Unpacked, Current, Old, Permanent, OneShot}

-- the atom for a status
abbrev pub status_word : Status → List ℕ
status_word Unpacked = codes "unpacked"
status_word Current = codes "current"
status_word Old = codes "old"
status_word Permanent = codes "permanent"
status_word OneShot = codes "one_shot"

abbrev pub is_current : Status → Bool
is_current Current = true
is_current s = false

abbrev pub is_old : Status → Bool
is_old Old = true
is_old s = false

abbrev pub is_permanent : Status → Bool
is_permanent Permanent = true
is_permanent s = false

abbrev pub is_one_shot : Status → Bool
is_one_shot OneShot = true
is_one_shot s = false

-- whether a release with this status is installed until a boot takes the installation away: it is current, or a one-shot
abbrev pub is_temporary : Status → Bool
is_temporary Current = true
is_temporary OneShot = true
is_temporary s = false

-- A release with this status runs: it is current, or permanent in a list that has no current one. A one-shot is counted among
-- these, though it runs from the next boot on: it can be neither installed nor removed.
abbrev pub runs : Bool → Status → Bool
runs has_current Current = true
runs has_current OneShot = true
runs has_current Permanent = not has_current
runs has_current s = false
