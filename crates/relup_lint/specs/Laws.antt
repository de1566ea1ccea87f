-- What scripts have of which nothing is refused.
use Rattle.std.specs.Prelude.{◌≡◌, ℕ, Bool, true, List, []}
use Rattle.std.specs.List.{AllByRecursion, list_any}
use Rattle.std.specs.Str.{bytes_eq}
use Rattle.relup_lint.specs.declared.parts.Part.{Part}
use Rattle.relup_lint.specs.Script.{PlacedForm, TargetForm, ScriptForm}
use Rattle.relup_lint.specs.Parts.{names_of, needed_part, needing_names}
use Rattle.relup_lint.specs.Findings.{findings}

-- whether an instruction has a name for a part
abbrev pub has_name : Part → List TargetForm → List ℕ → PlacedForm → Bool
has_name part ts name p = list_any (bytes_eq name) (names_of part ts p.instr)

-- Each name of an instruction that needs something has it from an instruction of the script.
abbrev pub HasWhatItNeeds : ScriptForm → PlacedForm → Type 0
HasWhatItNeeds s p = AllByRecursion (λ (name : List ℕ). list_any (has_name (needed_part p.instr) s.target name) s.instrs ≡ true) (needing_names p.instr)

-- Where nothing is refused, what is loaded is fetched, what is suspended is resumed and the reverse, what is stopped is started and
-- the reverse, and each module of a DepMods has an instruction of its own.
abbrev pub NeedsNothing : Type 0
NeedsNothing = (s : ScriptForm) → findings s ≡ [] → AllByRecursion (HasWhatItNeeds s) s.instrs
