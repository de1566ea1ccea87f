-- What is none first in a term that says no appup.
use Rattle.std.specs.Prelude.{ℕ, ◌+◌, Option, None, Some, is_some, if◌then◌else◌}
use Rattle.std.specs.Option.{option_and_then, option_or}
use Rattle.erl_term.specs.Value.{Value, Values}
use Rattle.erl_term.specs.Value.Values.{no_values, value}
use Rattle.rel_files.specs.Parts.{list_in, pair_in}
use Rattle.relup_instruction.specs.declared.instruction.Direction.{Direction}
use Rattle.relup_instruction.specs.declared.instruction.Direction.TheVariants.{Up, Down}
use Rattle.relup_file.specs.Parts.{Outer, outer_in}
use Rattle.appup_file.specs.declared.shape.ShapeFault.{ShapeFault}
use Rattle.appup_file.specs.declared.shape.ShapeFault.TheVariants.{Outline, Entry, Instruction}
use Rattle.appup_file.specs.Parts.{appup_instruction_in, other_version_in}

-- the first fault of members, of which the first one has this number
abbrev pub first_misshapen : (ℕ → Value → Option ShapeFault) → ℕ → Values → Option ShapeFault
first_misshapen f n no_values = None
first_misshapen f n (value v vs) = option_or (f n v) (first_misshapen f (n + 1) vs)

-- a term is an instruction, or else this one of an entry is none
abbrev pub misshapen_instruction : Direction → ℕ → ℕ → Value → Option ShapeFault
misshapen_instruction d entry n v = if is_some (appup_instruction_in v) then None else Some (Instruction d entry n)

-- the instructions of an entry that has a version, whatever they are
abbrev pub instructions_in : Value → Option Values
instructions_in v = option_and_then (λ p. option_and_then (λ vsn. list_in p.1) (other_version_in p.0)) (pair_in v)

abbrev pub misshapen_instructions : Direction → ℕ → Option Values → Option ShapeFault
misshapen_instructions d n None = Some (Entry d n)
misshapen_instructions d n (Some vs) = first_misshapen (misshapen_instruction d n) 1 vs

-- a term is an entry, or else this one or an instruction of it is none
abbrev pub misshapen_entry : Direction → ℕ → Value → Option ShapeFault
misshapen_entry d n v = misshapen_instructions d n (instructions_in v)

abbrev pub misshapen_entries : Option Outer → Option ShapeFault
misshapen_entries None = Some Outline
misshapen_entries (Some o) = option_or (first_misshapen (misshapen_entry Up) 1 o.ups) (first_misshapen (misshapen_entry Down) 1 o.downs)

-- The upgrades come before the downgrades.
abbrev pub shape_fault : Value → Option ShapeFault
shape_fault v = misshapen_entries (outer_in v)
