-- The relup beside the `.rel` file of a release.
use Rattle.std.specs.Prelude.{◌≡◌, ℕ, ◌-◌, not, List, ◌++◌, length, take, codes, ◌==◌, Option, None, Some, Result, Ok, Err}
use Rattle.std.specs.List.{suffix_len}
use Rattle.erl_term.specs.Value.{Value, value_of}
use Rattle.rel_check.specs.Relup.{relup_mismatch}
use Rattle.rel_check.specs.declared.relup.RelupMismatch.{RelupMismatch}
use Rattle.rel_check.specs.declared.relup.RelupMismatch.TheVariants.{TooMany, OtherVersion}
use Rattle.rel_files.specs.OneTermFile.{HasFileTerm}
use Rattle.relup_file.specs.File.{IsRelupFault}
use Rattle.relup_file.specs.Form.{IsRelupTerm}
use Rattle.relup_file.specs.Relup.{RelupForm, relup_of}
use Rattle.relup_file.specs.declared.reader.RelupFile.{RelupFile}
use Rattle.rel_unpack.specs.Refusal.{Refusal, IsRelupTrouble}
use Rattle.rel_unpack.specs.Refusal.Refusal.{vsn_mismatch, too_many}
use Rattle.rel_unpack.specs.Order.{Outcome, Then}
use Rattle.rel_unpack.specs.Source.{Source, Form, FileSays, IfThere}

-- the path up to and with its last `/`; nothing where it has none
abbrev pub folder_of : List ℕ → List ℕ
folder_of path = take (length path - suffix_len (λ b. not (b == 47)) path) path

-- the file `relup` in the folder of a `.rel` file
abbrev pub relup_path : List ℕ → List ℕ
relup_path path = folder_of path ++ codes "relup"

-- a relup, and the whole term of its file
pub record RelupFound : Type 0 where
  pub relup : RelupForm
  pub term : Value

abbrev pub relup_found_of : RelupFile → RelupFound
relup_found_of f = record { relup = relup_of f.relup; term = value_of f.term }

abbrev pub relup_form : Form RelupFound
relup_form = record { says = λ bytes f. HasFileTerm bytes f.term × IsRelupTerm f.term f.relup; fails = λ bytes t. IsRelupTrouble (IsRelupFault bytes) t }

-- what is reported of a relup, in the file of this path, that a release can't have
abbrev pub mismatch_refusal : List ℕ → RelupMismatch → Refusal
mismatch_refusal path TooMany = too_many
mismatch_refusal path OtherVersion = vsn_mismatch path

-- the relup, where a release can have it
abbrev pub unless_mismatch : List ℕ → RelupFound → Option RelupMismatch → Result RelupFound Refusal
unless_mismatch path f None = Ok f
unless_mismatch path f (Some why) = Err (mismatch_refusal path why)

-- the relup that a file of this path has for a release of this version
abbrev pub RelupIn : Source → List ℕ → List ℕ → Outcome RelupFound
RelupIn source path vsn = Then (FileSays relup_form source path) (λ f r. r ≡ unless_mismatch path f (relup_mismatch vsn f.relup))

-- the relup of a release of this version with a `.rel` file of this path: without a file it has none
abbrev pub RelupAt : Source → List ℕ → List ℕ → Outcome (Option RelupFound)
RelupAt source path vsn = IfThere source (relup_path path) (RelupIn source (relup_path path) vsn)
