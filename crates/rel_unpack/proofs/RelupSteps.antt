-- The relup of a file, and whether a release can have it.
use Rattle.std.proofs.Common.{◌≡◌, ℕ, true, false, List, Option, Some, None, Result, Ok, Err, refl}
use Rattle.std.specs.Prelude.{is_some}
use Rattle.std.specs.Option.{option_map}
use Rattle.file_source.specs.declared.files.FilesError.TheVariants.{Missing}
use Rattle.rel_check.specs.Relup.{relup_mismatch}
use Rattle.rel_check.specs.declared.relup.RelupMismatch.{RelupMismatch}
use Rattle.rel_check.specs.declared.relup.RelupMismatch.TheVariants.{TooMany, OtherVersion}
use Rattle.rel_unpack.specs.Refusal.{Refusal, refusal_of}
use Rattle.rel_unpack.specs.Refusal.Refusal.{missing_file}
use Rattle.rel_unpack.specs.Relup.{RelupAt, RelupFound, RelupIn, relup_form, unless_mismatch}
use Rattle.rel_unpack.specs.Source.{Source}
use Rattle.rel_unpack.specs.Unpacking.{RelupRead}
use Rattle.rel_unpack.specs.declared.error.UnpackError.{UnpackError}
use Rattle.rel_unpack.proofs.Steps.{none_behind}

-- A relup that a release can't have is no missing file.
never_missing : (path p : List ℕ) (f : RelupFound) (why : Option RelupMismatch) → Err (missing_file p) ≡ unless_mismatch path f why → ⊥
never_missing path p f None is = cc
never_missing path p f (Some TooMany) is = cc
never_missing path p f (Some OtherVersion) is = cc

pub no_relup : (source : Source) (path vsn p : List ℕ) → RelupIn source path vsn (Err (missing_file p)) → source path (Err Missing)
no_relup source path vsn =
    none_behind relup_form source path (λ f r. r ≡ unless_mismatch path f (relup_mismatch vsn f.relup)) (λ f p. never_missing path p f (relup_mismatch vsn f.relup))

-- The relup is read unless the release is refused for its applications.
module _ (source : Source) (path vsn : List ℕ) where
  pub read_unless_refused : (o : Option UnpackError) (r : Result (Option RelupFound) Refusal) → is_some o ≡ false → RelupAt source path vsn r → RelupRead source path vsn (option_map refusal_of o) r
  read_unless_refused None r free at = at
  read_unless_refused (Some e) r free at = absurd cc

  pub not_read : (o : Option UnpackError) → is_some o ≡ true → RelupRead source path vsn (option_map refusal_of o) (Ok None)
  not_read None refused = absurd cc
  not_read (Some e) refused = refl
