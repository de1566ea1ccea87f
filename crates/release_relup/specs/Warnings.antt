-- What systools warns of: appups that count though they are of another version than their application (OTP: systools_relup, bad_vsn).
use Rattle.std.specs.Prelude.{ℕ, Bool, false, not, ◌&&◌, ◌||◌, List, ◌++◌, Option, None, Some, codes, if◌then◌else◌}
use Rattle.std.specs.List.{filter_map, list_any}
use Rattle.std.specs.Option.{option_and_then}
use Rattle.std.specs.Str.{bytes_eq}
use Rattle.appup_file.specs.Instruction.{AppupForm}
use Rattle.relup_command.specs.Releases.{Releases}
use Rattle.relup_row.specs.Release.{RelupAppForm, RelupReleaseForm, app_named}
use Rattle.release_relup.specs.Refusal.{appup_file}

-- whether an application is in another version than this one, if it is there
abbrev pub is_in_another : RelupAppForm → Option RelupAppForm → Bool
is_in_another a None = false
is_in_another a (Some b) = not (bytes_eq b.vsn a.vsn)

-- whether a release has the application in another version
abbrev pub has_another_version : RelupAppForm → RelupReleaseForm → Bool
has_another_version a r = is_in_another a (app_named a.name r)

abbrev pub has_other : List RelupReleaseForm → RelupAppForm → Bool
has_other rs a = list_any (has_another_version a) rs

-- whether the appup of an application is asked for another version
abbrev pub is_asked : Releases → RelupAppForm → Bool
is_asked all a = has_other all.ups a || has_other all.downs a

-- lib/App-Vsn/ebin/App.appup: the appup is of version APPUP_VSN, and counts
abbrev pub warning_line : RelupAppForm → AppupForm → List ℕ
warning_line a p = appup_file a.name a.vsn ++ (codes ": the appup is of version " ++ (p.vsn ++ codes ", and counts"))

abbrev pub warning_if_asked : Releases → RelupAppForm → AppupForm → Option (List ℕ)
warning_if_asked all a p = if not (bytes_eq p.vsn a.vsn) && is_asked all a then Some (warning_line a p) else None

abbrev pub warning_of : Releases → RelupAppForm → Option (List ℕ)
warning_of all a = option_and_then (warning_if_asked all a) a.appup

-- a line for each, in the order of the new release
abbrev pub warnings : Releases → List (List ℕ)
warnings all = filter_map (warning_of all) all.new.apps
