-- The names in an instruction, by what they are there for (OTP: systools_rc).
use Rattle.std.specs.Prelude.{ℕ, zero, pos, Bool, true, false, List, [], ◌∷◌, map, filter, Option, Some, None, if◌then◌else◌}
use Rattle.relup_instruction.specs.declared.instruction.Timeout.{Timeout}
use Rattle.relup_instruction.specs.declared.instruction.Timeout.TheVariants.{Milliseconds}
use Rattle.relup_instruction.specs.Instruction.{SuspensionForm}
use Rattle.relup_instruction.specs.Instruction.Instruction.{load_object_code, suspend, load, resume, stop, start}
use Rattle.appup_file.specs.Instruction.{AppupInstruction}
use Rattle.appup_file.specs.Instruction.AppupInstruction.{update, load_module, add_module, delete_module, add_application, restart_application, low_level}
use Rattle.relup_lint.specs.declared.parts.Part.{Part}
use Rattle.relup_lint.specs.declared.parts.Part.TheVariants.{Changed, Fetched, Suspended, Resumed, Stopped, Started}
use Rattle.relup_lint.specs.Script.{TargetForm, modules_of}

-- The modules that an instruction changes. An application that is added or restarted stands for an add_module of each module
-- that the target has of it.
abbrev pub changed_names : List TargetForm → AppupInstruction → List (List ℕ)
changed_names ts (update u) = u.name ∷ []
changed_names ts (load_module l) = l.name ∷ []
changed_names ts (add_module d) = d.name ∷ []
changed_names ts (delete_module d) = d.name ∷ []
changed_names ts (add_application a) = modules_of a.name ts
changed_names ts (restart_application name) = modules_of name ts
changed_names ts i = []

abbrev pub fetched_names : AppupInstruction → List (List ℕ)
fetched_names (low_level (load_object_code f)) = f.modules
fetched_names i = []

abbrev pub suspended_names : AppupInstruction → List (List ℕ)
suspended_names (low_level (suspend ss)) = map (λ (s : SuspensionForm). s.name) ss
suspended_names i = []

abbrev pub resumed_names : AppupInstruction → List (List ℕ)
resumed_names (low_level (resume names)) = names
resumed_names i = []

abbrev pub stopped_names : AppupInstruction → List (List ℕ)
stopped_names (low_level (stop names)) = names
stopped_names i = []

abbrev pub started_names : AppupInstruction → List (List ℕ)
started_names (low_level (start names)) = names
started_names i = []

abbrev pub names_of : Part → List TargetForm → AppupInstruction → List (List ℕ)
names_of Changed ts i = changed_names ts i
names_of Fetched ts i = fetched_names i
names_of Suspended ts i = suspended_names i
names_of Resumed ts i = resumed_names i
names_of Stopped ts i = stopped_names i
names_of Started ts i = started_names i

-- What the names of an instruction need: what is loaded is fetched, what is suspended is resumed and the reverse, what is stopped
-- is started and the reverse; and what stands in DepMods has an instruction of its own.
abbrev pub needed_part : AppupInstruction → Part
needed_part (low_level (load p)) = Fetched
needed_part (low_level (suspend ss)) = Resumed
needed_part (low_level (resume names)) = Suspended
needed_part (low_level (stop names)) = Started
needed_part (low_level (start names)) = Stopped
needed_part i = Changed

-- the names that need it
abbrev pub needing_names : AppupInstruction → List (List ℕ)
needing_names (update u) = u.dep_mods
needing_names (load_module l) = l.dep_mods
needing_names (add_module d) = d.dep_mods
needing_names (delete_module d) = d.dep_mods
needing_names (low_level (load p)) = p.name ∷ []
needing_names (low_level (suspend ss)) = map (λ (s : SuspensionForm). s.name) ss
needing_names (low_level (resume names)) = names
needing_names (low_level (stop names)) = names
needing_names (low_level (start names)) = names
needing_names i = []

abbrev pub is_zero : Timeout → Bool
is_zero (Milliseconds (pos zero)) = true
is_zero t = false

abbrev pub has_no_time : Option Timeout → Bool
has_no_time None = false
has_no_time (Some t) = is_zero t

-- the modules whose processes get a timeout of 0
abbrev pub names_without_time : AppupInstruction → List (List ℕ)
names_without_time (update u) = if is_zero u.timeout then u.name ∷ [] else []
names_without_time (low_level (suspend ss)) = map (λ (s : SuspensionForm). s.name) (filter (λ (s : SuspensionForm). has_no_time s.timeout) ss)
names_without_time i = []
