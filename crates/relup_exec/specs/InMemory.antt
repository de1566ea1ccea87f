-- A script that has come to its point of no return, as it lies in memory.
use Rattle.std.specs.Prelude.{◌≡◌, ◌<◌, ◌^◌, List, length, vec_capacity}
pub use Rattle.script_progress.specs.InMemory.{cause_of}
use Rattle.relup_exec.specs.declared.armed.Armed.{Armed}
use Rattle.relup_exec.specs.declared.script_run.ScriptRun.{ScriptRun}
use Rattle.relup_exec.specs.Outcome.{ArmedForm}
use Rattle.loaded_modules.specs.Loaded.{listed_in}
use Rattle.relup_instruction.specs.Instruction.{Instruction, script_of}

abbrev pub armed_of : Armed → ArmedForm
armed_of a = record { place = a.place; reported = a.reported.items; room = vec_capacity a.reported; held = a.progress.held; fetched = listed_in a.progress.fetched; next = listed_in a.progress.next; apps = a.progress.tree }

-- the whole script
abbrev pub script_in : Armed → List Instruction
script_in a = script_of a.script.now

-- Each instruction of the script has a number that a word of 32 bits holds.
abbrev pub IsNumbered : Armed → Type 0
IsNumbered a = length a.script.now < 2 ^ 32

-- a script that is carried out, where it has come to its point of no return
abbrev pub armed_in : ScriptRun → ArmedForm
armed_in r = record { place = r.done; reported = r.reported.items; room = vec_capacity r.reported; held = r.progress.held; fetched = listed_in r.progress.fetched; next = listed_in r.progress.next; apps = r.progress.tree }

-- The same script is carried out, from the same sources.
pub record SameScript (r t : ScriptRun) : Type 0 where
  pub sources : t.sources.now ≡ r.sources.now
  pub script : t.script.now ≡ r.script.now
