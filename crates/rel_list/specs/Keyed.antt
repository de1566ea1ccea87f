-- Releases in a map by their versions.
use Rattle.std.specs.Prelude.{◌≡◌, ◌≤◌, List, length, map, string_bytes, String}
use Rattle.std.specs.declared.alloc.Global.{Global}
use Rattle.std.specs.List.{AllByRecursion}
use Rattle.std.specs.Map.{values_of}
use Rattle.std.specs.Option.{option_map}
use Rattle.library.specs.InMemory.{shared_of}
use Rattle.rel_files.specs.Release.{release_of}
use Rattle.relup_file.specs.Relup.{relup_of}
use Rattle.rel_list.specs.declared.bundle.Bundle as declared_bundle
use Rattle.rel_list.specs.declared.listed.ListedRelease.{ListedRelease}
use Rattle.rel_list.specs.Releases.{Bundle, Releases, Entry, HasDistinctVersions, of_status}
use Rattle.rel_list.specs.Status.{is_temporary}

abbrev pub bundle_of : declared_bundle.Bundle → Bundle
bundle_of p = record { release = release_of p.release; libraries = map shared_of p.libraries.items; relup = option_map relup_of p.relup }

-- a release of the list without where it lies in memory
abbrev pub entry_of : ListedRelease → Entry
entry_of l = record { release = release_of l.release; libraries = map shared_of l.libraries.items; relup = option_map relup_of l.relup; status = l.status }

-- the entries of a map, in its order
abbrev pub entries_in : List (String Global × ListedRelease) → Releases
entries_in ps = map entry_of (values_of ps)

-- each release stands at its own version
abbrev pub AreKeyed : List (String Global × ListedRelease) → Type 0
AreKeyed ps = AllByRecursion (λ (p : String Global × ListedRelease). string_bytes p.0 ≡ string_bytes p.1.release.vsn) ps

-- No version stands twice, and at most one release is current or a one-shot.
pub record IsOrderly (es : Releases) : Type 0 where
  pub distinct : HasDistinctVersions es
  pub one_temporary : length (of_status is_temporary es) ≤ 1

-- what the map of a list keeps
pub record IsKept (ps : List (String Global × ListedRelease)) : Type 0 where
  pub keyed : AreKeyed ps
  pub orderly : IsOrderly (entries_in ps)
