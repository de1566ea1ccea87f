-- What an event that names a release, or a boot, makes of statuses.
use Rattle.std.specs.Prelude.{◌≡◌, Bool, true, false, ◌&&◌, not, is_some, ℕ, List, string_bytes, String}
use Rattle.std.specs.List.{list_any}
use Rattle.std.specs.declared.alloc.Global.{Global}
use Rattle.std.specs.Str.{bytes_eq}
use Rattle.rel_list.specs.declared.status.Status.{Status}
use Rattle.rel_list.specs.declared.listed.ListedRelease.{ListedRelease}
use Rattle.rel_list.specs.declared.change.StatusChange.{StatusChange}
use Rattle.rel_list.specs.declared.change.StatusChange.TheVariants as change
use Rattle.rel_list.specs.declared.status.Status.TheVariants.{Current, OneShot}
use Rattle.rel_list.specs.Event.{installed_status, restarted_status, permanent_status, booted_status, assigned_status}
use Rattle.rel_list.specs.Releases.{Releases, Entry, status_of}
use Rattle.rel_list.specs.Status.{is_temporary}

-- the status of the release of this version, after the change
abbrev pub status_after : StatusChange → List ℕ → Status → Status
status_after (change.Install v) vsn s = installed_status (bytes_eq v.now vsn) s
status_after (change.Restart v) vsn s = restarted_status (bytes_eq v.now vsn) s
status_after (change.MakePermanent v) vsn s = permanent_status (bytes_eq v.now vsn) s
status_after change.Boot vsn s = booted_status s
status_after (change.Assign v t) vsn s = assigned_status t (bytes_eq v.now vsn) s

-- whether an entry is of a release of another version, and current or a one-shot
abbrev pub is_other_temporary : List ℕ → Entry → Bool
is_other_temporary v e = not (bytes_eq v e.release.vsn) && is_temporary e.status

abbrev pub has_other_temporary : List ℕ → Releases → Bool
has_other_temporary v es = list_any (is_other_temporary v) es

-- A status may be assigned to a release that is listed: none becomes current so, and one a one-shot only where no other is.
abbrev pub may_be_given : Status → List ℕ → Releases → Bool
may_be_given Current v es = false
may_be_given OneShot v es = is_some (status_of v es) && not (has_other_temporary v es)
may_be_given t v es = is_some (status_of v es)

-- the change is no assignment, or one that may be made
abbrev pub MayBeMade : StatusChange → Releases → Type 0
MayBeMade (change.Assign v t) es = may_be_given t v.now es ≡ true
MayBeMade c es = Unit {0}

-- a release in its map, after the change
abbrev pub changed : StatusChange → String Global × ListedRelease → String Global × ListedRelease
changed c p = (p.0, record p.1 { status = status_after c (string_bytes p.1.release.vsn) p.1.status })
