-- What an error says of files.
use Rattle.std.proofs.Common.{ℕ, Bool, List, None, Some, Ok, sym, subst}
use Rattle.rel_unpack.specs.Source.{Source}
use Rattle.rel_unpack.specs.declared.error.UnpackError.{UnpackError}
use Rattle.relup_command.specs.Releases.{Releases, ReleasesAt}
use Rattle.release_relup.specs.declared.error.MakeError.{MakeError}
use Rattle.release_relup.specs.declared.error.MakeError.TheVariants.{Files, Pattern, Translation, Refused, TooDeep, NoMemory}
use Rattle.release_relup.specs.Made.{RefusesReleases, IsRefusal, IsKept, NamesFile}
use Rattle.release_relup.specs.Refusal.{IsFileOf}

module _ (source : Source) (new : List ℕ) (ups downs : List (List ℕ)) (restart : Bool) where
  -- What it says of releases that the files say, it says of the files.
  pub of_releases : (all : Releases) (e : MakeError) → ReleasesAt source new ups downs (Ok all) → RefusesReleases restart all e → IsRefusal source new ups downs restart e
  of_releases all (Files e) there h = absurd h.2
  of_releases all (Pattern b) there h = (all, there, h)
  of_releases all (Translation e) there h = (all, there, h)
  of_releases all (Refused x) there h = (all, there, h)
  of_releases all TooDeep there h = (all, there, h)
  of_releases all NoMemory there h = tt

  -- An error that is kept says the same, or out of memory.
  pub kept : (why e : MakeError) → IsKept why e → IsRefusal source new ups downs restart why → IsRefusal source new ups downs restart e
  kept why (Files e) same h = subst (IsRefusal source new ups downs restart) (sym same) h
  kept why (Pattern b) same h = subst (IsRefusal source new ups downs restart) (sym same) h
  kept why (Translation e) same h = subst (IsRefusal source new ups downs restart) (sym same) h
  kept why (Refused x) same h = subst (IsRefusal source new ups downs restart) (sym same) h
  kept why TooDeep same h = subst (IsRefusal source new ups downs restart) (sym same) h
  kept why NoMemory same h = tt

  -- The file of an error of releases that the files say is that of the error which is kept.
  pub names_kept : (all : Releases) (why e : MakeError) (file : List ℕ) → IsKept why e → ReleasesAt source new ups downs (Ok all) → RefusesReleases restart all why
      → IsFileOf new (Some all.new) e file → NamesFile source new ups downs e file
  names_kept all why (Files x) file same there h is = absurd (subst (RefusesReleases restart all) (sym same) h).2
  names_kept all why (Pattern b) file same there h is = (all, there, is)
  names_kept all why (Translation x) file same there h is = (all, there, is)
  names_kept all why (Refused x) file same there h is = (all, there, is)
  names_kept all why TooDeep file same there h is = (all, there, is)
  names_kept all why NoMemory file same there h is = tt

  -- The file of an error of files is that of the error which is kept.
  pub names_in_files : (why : UnpackError) (e : MakeError) (file : List ℕ) → IsKept (Files why) e → IsFileOf new None e file → NamesFile source new ups downs e file
  names_in_files why (Files x) file same is = is
  names_in_files why (Pattern b) file same is = absurd cc
  names_in_files why (Translation x) file same is = absurd cc
  names_in_files why (Refused x) file same is = absurd cc
  names_in_files why TooDeep file same is = absurd cc
  names_in_files why NoMemory file same is = tt
