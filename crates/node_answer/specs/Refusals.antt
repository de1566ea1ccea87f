-- Why a command is refused, and how that is reported.
use Rattle.std.specs.Prelude.{ℕ, List, ◌++◌, codes, string_bytes}
use Rattle.node_upgrade.specs.Failure.{Failure, failure_text}
use Rattle.rel_list.specs.declared.status.Status.{Status}
use Rattle.rel_list.specs.Status.{status_word}
use Rattle.node_command.specs.declared.error.HandlerError.{HandlerError}
use Rattle.node_command.specs.declared.error.HandlerError.TheVariants as handler
use Rattle.rel_unpack.specs.Refusal as of_files
use Rattle.rel_unpack.specs.Refusal.{Trouble, trouble_of, trouble_text}

-- why a command is refused
pub data NodeRefusal : Type 0 where
  no_such_release : NodeRefusal
  existing_release : NodeRefusal
  already_installed : NodeRefusal
  bad_status : Status → NodeRefusal
  permanent : NodeRefusal
  is_running : NodeRefusal
  lib_differs : List ℕ → NodeRefusal
  bad_file : List ℕ → Trouble → NodeRefusal
  missing_file : List ℕ → NodeRefusal
  vsn_mismatch : List ℕ → NodeRefusal
  no_table : List ℕ → NodeRefusal
  too_many : NodeRefusal
  no_matching_relup : NodeRefusal
  script_refused : Failure → NodeRefusal
  must_reboot : Failure → NodeRefusal
  device : NodeRefusal
  full : NodeRefusal
  dead : NodeRefusal
  no_memory : NodeRefusal
  exists : NodeRefusal

-- the line that reports a refusal: its number, its name and its detail
abbrev pub refusal_line : NodeRefusal → List ℕ
refusal_line no_such_release = codes "error handler 1 NoSuchRelease\n"
refusal_line existing_release = codes "error handler 2 ExistingRelease\n"
refusal_line already_installed = codes "error handler 3 AlreadyInstalled\n"
refusal_line (bad_status s) = codes "error handler 4 BadStatus " ++ (status_word s ++ codes "\n")
refusal_line permanent = codes "error handler 5 Permanent\n"
refusal_line is_running = codes "error handler 6 Running\n"
refusal_line (lib_differs app) = codes "error handler 7 LibDiffers " ++ (app ++ codes "\n")
refusal_line (bad_file path t) = codes "error handler 8 BadFile " ++ (path ++ (codes " " ++ (trouble_text t ++ codes "\n")))
refusal_line (missing_file path) = codes "error handler 9 MissingFile " ++ (path ++ codes "\n")
refusal_line (vsn_mismatch path) = codes "error handler 10 VsnMismatch " ++ (path ++ codes "\n")
refusal_line (no_table name) = codes "error handler 11 NoTable " ++ (name ++ codes "\n")
refusal_line too_many = codes "error handler 12 TooMany\n"
refusal_line no_matching_relup = codes "error handler 13 NoMatchingRelup\n"
refusal_line (script_refused f) = codes "error handler 14 Refused " ++ (failure_text f ++ codes "\n")
refusal_line (must_reboot f) = codes "error handler 15 MustReboot " ++ (failure_text f ++ codes "\n")
refusal_line device = codes "error handler 16 Device\n"
refusal_line full = codes "error handler 17 Full\n"
refusal_line dead = codes "error handler 18 Dead\n"
refusal_line no_memory = codes "error handler 19 NoMemory\n"
refusal_line exists = codes "error handler 20 Exists\n"

-- a refusal without where it lies in memory
abbrev pub refusal_of : HandlerError → NodeRefusal
refusal_of handler.NoSuchRelease = no_such_release
refusal_of handler.ExistingRelease = existing_release
refusal_of handler.AlreadyInstalled = already_installed
refusal_of (handler.BadStatus s) = bad_status s
refusal_of handler.Permanent = permanent
refusal_of handler.Running = is_running
refusal_of (handler.LibDiffers app) = lib_differs (string_bytes app)
refusal_of (handler.BadFile path trouble) = bad_file (string_bytes path) (trouble_of trouble)
refusal_of (handler.MissingFile path) = missing_file (string_bytes path)
refusal_of (handler.VsnMismatch path) = vsn_mismatch (string_bytes path)
refusal_of (handler.NoTable name) = no_table (string_bytes name)
refusal_of handler.TooMany = too_many
refusal_of handler.NoMatchingRelup = no_matching_relup
refusal_of handler.Device = device
refusal_of handler.Full = full
refusal_of handler.Dead = dead
refusal_of handler.NoMemory = no_memory
refusal_of handler.Exists = exists

-- what is reported of a release that isn't taken for its files
abbrev pub refusal_for : of_files.Refusal → NodeRefusal
refusal_for (of_files.missing_file path) = missing_file path
refusal_for (of_files.bad_file path trouble) = bad_file path trouble
refusal_for (of_files.vsn_mismatch path) = vsn_mismatch path
refusal_for (of_files.no_table name) = no_table name
refusal_for (of_files.lib_differs app) = lib_differs app
refusal_for of_files.too_many = too_many
refusal_for of_files.no_memory = no_memory
