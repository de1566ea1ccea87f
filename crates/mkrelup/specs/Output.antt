-- Where the text of a relup goes.
use Rattle.std.specs.Prelude.{◌≡◌, ℕ, List, ◌++◌, Option, None, Some, option_map, string_bytes, codes, if◌then◌else◌}
use Rattle.std.specs.Io.KnownBytes.{Appends}
use Rattle.std.specs.Str.{bytes_eq}
use Rattle.file_replacement.specs.Calls.{Call, Did, Stops, replacement}
use Rattle.rel_unpack.specs.Relup.{relup_path}
use Rattle.mkrelup.specs.declared.failure.Failure.{Failure}
use Rattle.mkrelup.specs.declared.failure.Failure.TheVariants.{NoMemory, Unwritten, Output}
use Rattle.mkrelup.specs.declared.options.Options.{Options}
use Rattle.mkrelup.specs.declared.output.Destination.{Destination}
use Rattle.mkrelup.specs.declared.output.Destination.TheVariants as destination

-- nowhere, to standard output, or into the file of a path
pub data DestinationForm : Type 0 where
  nowhere : DestinationForm
  output : DestinationForm
  file : List ℕ → DestinationForm

abbrev pub destination_form : Destination → DestinationForm
destination_form destination.Nowhere = nowhere
destination_form destination.Output = output
destination_form (destination.File path) = file (string_bytes path)

-- `relup` beside a `.rel` file of a path below a folder
abbrev pub beside : List ℕ → List ℕ → List ℕ
beside root new = root ++ (codes "/" ++ relup_path new)

-- the file that is given, of which `-` is standard output, or else `relup` beside the release
abbrev pub file_or : List ℕ → Option (List ℕ) → DestinationForm
file_or path None = file path
file_or path (Some given) = if bytes_eq given (codes "-") then output else file given

abbrev pub given_destination : Options → DestinationForm
given_destination o = file_or (beside (string_bytes o.root) (string_bytes o.new)) (option_map string_bytes o.out)

-- With `--check` nothing is written.
abbrev pub destination_of : Options → DestinationForm
destination_of o = if o.check then nowhere else given_destination o

-- the new file by which the file of a path gets its text
abbrev pub new_file : List ℕ → List ℕ
new_file path = path ++ codes ".new"

-- What has become of files: the one of the destination was replaced, and no other was touched.
abbrev pub PutsFile : {H : Type 0} → (Call → H → H → Type 0) → DestinationForm → List ℕ → H → H → Type 0
PutsFile did (file path) text old new = Did did (replacement path (new_file path) text) old new
PutsFile did t text old new = new ≡ old

-- What has become of standard output: it got the text where that is the destination.
abbrev pub PutsOutput : DestinationForm → List ℕ → Option (List ℕ) → Option (List ℕ) → Type 0
PutsOutput output text old new = Appends old new text
PutsOutput t text old new = new ≡ old

-- What has become of files before a failure: a replacement that stopped, or nothing.
abbrev pub LeavesFile : {H : Type 0} → (Call → H → H → Type 0) → (Call → H → H → Type 0) → DestinationForm → Failure → List ℕ → H → H → Type 0
LeavesFile did failed (file path) (Unwritten p e) text old new = (string_bytes p ≡ path) × Stops did failed e path (new_file path) text old new
LeavesFile did failed t (Unwritten p e) text old new = ⊥
LeavesFile did failed output Output text old new = new ≡ old
LeavesFile did failed t Output text old new = ⊥
LeavesFile did failed t NoMemory text old new = new ≡ old
LeavesFile did failed t e text old new = ⊥
