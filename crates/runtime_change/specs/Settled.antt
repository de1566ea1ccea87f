-- Releases without what asks for another runtime system.
use Rattle.std.specs.Prelude.{ℕ, not, List, map, filter}
use Rattle.std.specs.Option.{option_map}
use Rattle.appup_file.specs.Instruction.{AppupInstruction, AppupEntryForm, AppupForm}
use Rattle.relup_row.specs.Release.{RelupAppForm, RelupReleaseForm}
use Rattle.runtime_change.specs.Runtime.{asks_new}

-- the instructions that don't ask for another runtime system
abbrev pub settled_row : List AppupInstruction → List AppupInstruction
settled_row = filter (λ (i : AppupInstruction). not (asks_new i))

abbrev pub settled_entry : AppupEntryForm → AppupEntryForm
settled_entry e = record { vsn = e.vsn; instrs = settled_row e.instrs }

-- the appup with these alone, as one of its application's version: an appup of another version counts too
abbrev pub settled_appup : List ℕ → AppupForm → AppupForm
settled_appup vsn p = record { vsn = vsn; ups = map settled_entry p.ups; downs = map settled_entry p.downs }

abbrev pub settled_app : RelupAppForm → RelupAppForm
settled_app a = record { name = a.name; vsn = a.vsn; start = a.start; modules = a.modules; appup = option_map (settled_appup a.vsn) a.appup }

-- a release with such appups, for this version of the runtime system
abbrev pub settled : List ℕ → RelupReleaseForm → RelupReleaseForm
settled erts r = record { vsn = r.vsn; erts = erts; apps = map settled_app r.apps }
