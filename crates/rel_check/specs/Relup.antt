-- What is wrong with the relup of a release, once its file was read; docs/RULES.md gives the limit.
use Rattle.std.specs.Prelude.{ℕ, Bool, ◌&&◌, List, length, nat_le, Option, None, Some, if◌then◌else◌}
use Rattle.std.specs.List.{list_all}
use Rattle.std.specs.Str.{bytes_eq}
use Rattle.relup_file.specs.Relup.{EntryForm, RelupForm}
use Rattle.rel_check.specs.declared.relup.RelupMismatch.{RelupMismatch}
use Rattle.rel_check.specs.declared.relup.RelupMismatch.TheVariants.{TooMany, OtherVersion}

-- the script has no more instructions than it may have
abbrev pub is_short : EntryForm → Bool
is_short e = nat_le (length e.script) 4096

-- each script of the relup is short, up and down
abbrev pub has_short_scripts : RelupForm → Bool
has_short_scripts r = list_all is_short r.ups && list_all is_short r.downs

-- why a release of this version can't have this relup: a script that is too long, or the version of another release
abbrev pub relup_mismatch : List ℕ → RelupForm → Option RelupMismatch
relup_mismatch vsn r = if has_short_scripts r then (if bytes_eq r.vsn vsn then None else Some OtherVersion) else Some TooMany
