-- Which script leads from one release to another (OTP: release_handler:install_release/1).
use Rattle.std.specs.Prelude.{ℕ, List, Option}
use Rattle.std.specs.Option.{option_map, option_and_then, option_or}
use Rattle.std.specs.List.{find}
use Rattle.std.specs.Str.{bytes_eq}
use Rattle.erl_term.specs.Value.{Value, value_of}
use Rattle.relup_instruction.specs.declared.instruction.Direction.{Direction}
use Rattle.relup_instruction.specs.declared.instruction.Direction.TheVariants.{Up, Down}
use Rattle.relup_file.specs.declared.search.Found.{Found}
use Rattle.relup_instruction.specs.Instruction.{Instruction, script_of}
use Rattle.relup_file.specs.Relup.{EntryForm, RelupForm}

-- a script, with the version and the description of its entry
pub record FoundForm : Type 0 where
  pub other : List ℕ
  pub descr : Value
  pub script : List Instruction
  pub direction : Direction

abbrev pub found_of : Found → FoundForm
found_of f = record { other = f.other.now; descr = value_of f.descr.now; script = script_of f.script.now; direction = f.direction }

-- the first entry of a version
abbrev pub entry_for : List ℕ → List EntryForm → Option EntryForm
entry_for vsn = find (λ (e : EntryForm). bytes_eq e.vsn vsn)

abbrev pub of_entry : Direction → EntryForm → FoundForm
of_entry direction e = record { other = e.vsn; descr = e.descr; script = e.script; direction = direction }

-- the upgrade from a version
abbrev pub upgrade : List ℕ → Option RelupForm → Option FoundForm
upgrade vsn relup = option_map (of_entry Up) (option_and_then (λ (r : RelupForm). entry_for vsn r.ups) relup)

-- the downgrade to a version
abbrev pub downgrade : List ℕ → Option RelupForm → Option FoundForm
downgrade vsn relup = option_map (of_entry Down) (option_and_then (λ (r : RelupForm). entry_for vsn r.downs) relup)

-- the upgrade in the target's relup from the running version, else the downgrade in the running release's relup to the target
abbrev pub script_between : List ℕ → Option RelupForm → List ℕ → Option RelupForm → Option FoundForm
script_between target target_relup running running_relup = option_or (upgrade running target_relup) (downgrade target running_relup)
