-- The release of a version, as it lies in memory, and what is wrong with its script.
use Rattle.std.proofs.Common.{◌≡◌, ℕ, Bool, true, false, List, Option, Some, None, refl, sym, ap, ◌∙◌}
use Rattle.std.specs.Prelude.{if◌then◌else◌}
use Rattle.std.specs.Option.{option_map}
use Rattle.rel_list.specs.Releases.{Releases}
use Rattle.relup_file.specs.declared.script_fault.ScriptFault.{ScriptFault}
use Rattle.relup_file.specs.Script.{IsRunnable, script_fault}
use Rattle.relup_file.specs.Search.{FoundForm}
use Rattle.relup_file.proofs.ScriptLemmas.{runnable}
use Rattle.node_upgrade.specs.Failure.{failure, fault_failure}
use Rattle.node_upgrade.specs.Failure.Why.{new_emulator}
use Rattle.node_upgrade.specs.Upgrade.{changes_emulator, script_failure}

-- the emulator is the one that runs, and what is wrong with the script is reported
pub reported_wrong : (vsn : List ℕ) (es : Releases) (f : FoundForm) (o : Option ScriptFault) → changes_emulator vsn es ≡ false → script_fault f.script ≡ o
    → option_map fault_failure o ≡ script_failure vsn es f
reported_wrong vsn es f o same is =
    ap (λ p. option_map fault_failure p) (sym is)
    ∙ sym (ap (λ b. if b then Some (failure 0 new_emulator) else option_map fault_failure (script_fault f.script)) same)

-- A script that begins can be run.
pub begins_runnable : (vsn : List ℕ) (es : Releases) (f : FoundForm) → script_failure vsn es f ≡ None → IsRunnable f.script
begins_runnable vsn es f begins = runnable f.script (go (changes_emulator vsn es) (script_fault f.script) begins)
  where
    go : (b : Bool) (o : Option ScriptFault) → (if b then Some (failure 0 new_emulator) else option_map fault_failure o) ≡ None → o ≡ None
    go true o e = absurd cc
    go false None e = refl
    go false (Some fault) e = absurd cc
