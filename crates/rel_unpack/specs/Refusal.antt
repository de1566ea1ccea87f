-- Why a release isn't taken.
use Rattle.std.specs.Prelude.{ℕ, Bool, true, false, List, codes, string_bytes}
use Rattle.rel_files.specs.Fault.{Fault, fault_of, file_fault_text}
use Rattle.relup_file.specs.Fault.{relup_fault_text}
use Rattle.relup_file.specs.declared.fault.RelupFault.{RelupFault}
use Rattle.rel_unpack.specs.declared.error.FileTrouble.{FileTrouble}
use Rattle.rel_unpack.specs.declared.error.FileTrouble.TheVariants as trouble
use Rattle.rel_unpack.specs.declared.error.UnpackError.{UnpackError}
use Rattle.rel_unpack.specs.declared.error.UnpackError.TheVariants as memory

-- what is wrong with a file that is there
pub data Trouble : Type 0 where
  unreadable : Trouble
  faulty : Fault → Trouble
  misshapen : Trouble
  faulty_relup : RelupFault → Trouble

-- why a release isn't taken
pub data Refusal : Type 0 where
  missing_file : List ℕ → Refusal
  bad_file : List ℕ → Trouble → Refusal
  vsn_mismatch : List ℕ → Refusal
  lib_differs : List ℕ → Refusal
  no_table : List ℕ → Refusal
  too_many : Refusal
  no_memory : Refusal

abbrev pub trouble_of : FileTrouble → Trouble
trouble_of trouble.Unreadable = unreadable
trouble_of (trouble.Fault f) = faulty (fault_of f)
trouble_of trouble.Misshapen = misshapen
trouble_of (trouble.Relup f) = faulty_relup f

-- how it is shown
abbrev pub trouble_text : Trouble → List ℕ
trouble_text unreadable = codes "Unreadable"
trouble_text (faulty f) = file_fault_text f
trouble_text misshapen = codes "BadShape"
trouble_text (faulty_relup f) = relup_fault_text f

-- a refusal without where it lies in memory
abbrev pub refusal_of : UnpackError → Refusal
refusal_of (memory.MissingFile path) = missing_file (string_bytes path)
refusal_of (memory.BadFile path t) = bad_file (string_bytes path) (trouble_of t)
refusal_of (memory.VsnMismatch path) = vsn_mismatch (string_bytes path)
refusal_of (memory.LibDiffers name) = lib_differs (string_bytes name)
refusal_of (memory.NoTable name) = no_table (string_bytes name)
refusal_of memory.TooMany = too_many
refusal_of memory.NoMemory = no_memory

-- there is no file
abbrev pub is_missing : Refusal → Bool
is_missing (missing_file p) = true
is_missing e = false

-- the file has a fault that says where it lies, and this holds of it
abbrev pub IsFault : (Fault → Type 0) → Trouble → Type 0
IsFault P (faulty f) = P f
IsFault P t = ⊥

-- the file has a fault of relups, and this holds of it
abbrev pub IsRelupTrouble : (RelupFault → Type 0) → Trouble → Type 0
IsRelupTrouble P (faulty_relup f) = P f
IsRelupTrouble P t = ⊥
