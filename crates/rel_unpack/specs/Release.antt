-- The release of a `.rel` file; docs/RULES.md gives the limits.
use Rattle.std.specs.Prelude.{◌≡◌, ℕ, List, if◌then◌else◌, Ok, Err}
use Rattle.erl_term.specs.Value.{Value, value_of}
use Rattle.rel_files.specs.File.{IsReleaseTerm, HasReleaseFault}
use Rattle.rel_files.specs.OneTermFile.{HasFileTerm}
use Rattle.rel_files.specs.Release.{Release, release_of}
use Rattle.rel_files.specs.declared.reader.RelFile.{RelFile}
use Rattle.rel_check.specs.Limits.{is_small}
use Rattle.rel_unpack.specs.Refusal.{IsFault}
use Rattle.rel_unpack.specs.Refusal.Refusal.{too_many}
use Rattle.rel_unpack.specs.Order.{Outcome, Then}
use Rattle.rel_unpack.specs.Source.{Source, Form, FileSays}

-- a release, and the whole term of its file
pub record Found : Type 0 where
  pub release : Release
  pub term : Value

abbrev pub found_of : RelFile → Found
found_of f = record { release = release_of f.release; term = value_of f.term }

abbrev pub rel_form : Form Found
rel_form = record { says = λ bytes f. HasFileTerm bytes f.term × IsReleaseTerm f.term f.release; fails = λ bytes t. IsFault (HasReleaseFault bytes) t }

-- the release of a path
abbrev pub ReleaseAt : Source → List ℕ → Outcome Found
ReleaseAt source path = Then (FileSays rel_form source path) (λ f r. r ≡ (if is_small f.release then Ok f else Err too_many))
