-- What is read of the terms of instructions.
use Rattle.std.specs.Prelude.{ℕ, List, [], ◌∷◌, Option, None, Some, codes, if◌then◌else◌}
use Rattle.std.specs.Option.{option_map, option_and_then}
use Rattle.std.specs.Str.{bytes_eq}
use Rattle.erl_term.specs.Value.{Value, Values}
use Rattle.erl_term.specs.Value.Value.{int, atom, tuple}
use Rattle.erl_term.specs.Value.Values.{no_values, value}
use Rattle.rel_files.specs.Parts.{list_in, pair_in, triple_in, word_in}
use Rattle.rel_files.specs.Sketch.{name_in, names_in, version_in}
use Rattle.relup_instruction.specs.declared.instruction.Direction.{Direction}
use Rattle.relup_instruction.specs.declared.instruction.Direction.TheVariants.{Up, Down}
use Rattle.relup_instruction.specs.declared.instruction.Timeout.{Timeout}
use Rattle.relup_instruction.specs.declared.instruction.Timeout.TheVariants.{Default, Infinity, Milliseconds}
use Rattle.relup_instruction.specs.declared.instruction.PurgeMode.{PurgeMode}
use Rattle.relup_instruction.specs.declared.instruction.PurgeMode.TheVariants.{Soft, Brutal}
use Rattle.relup_instruction.specs.Instruction.{FetchForm, SuspensionForm, PurgingForm, ChangeForm, ConversionForm, CallForm, Instruction}
use Rattle.relup_instruction.specs.Instruction.Instruction.{load_object_code, point_of_no_return, suspend, load, code_change, resume, remove, purge, stop, start, apply, sync_nodes, restart_new_emulator, restart_emulator}
use Rattle.relup_instruction.specs.Form.{direction_word, purge_word, is_natural}

-- the values of all, where each has one
abbrev pub all_in : {A : Type 0} → (Value → Option A) → Values → Option (List A)
all_in f no_values = Some []
all_in f (value v vs) = option_and_then (λ a. option_map (λ as'. a ∷ as') (all_in f vs)) (f v)

-- the only member
abbrev pub one_in : Values → Option Value
one_in (value v no_values) = Some v
one_in vs = None

abbrev pub purge_mode_of : List ℕ → Option PurgeMode
purge_mode_of s =
    if bytes_eq s (purge_word Soft) then Some Soft
    else if bytes_eq s (purge_word Brutal) then Some Brutal
    else None

abbrev pub direction_of : List ℕ → Option Direction
direction_of s =
    if bytes_eq s (direction_word Up) then Some Up
    else if bytes_eq s (direction_word Down) then Some Down
    else None

abbrev pub mode_in : Value → Option Direction
mode_in v = option_and_then direction_of (word_in v)

abbrev pub timeout_of : List ℕ → Option Timeout
timeout_of s =
    if bytes_eq s (codes "default") then Some Default
    else if bytes_eq s (codes "infinity") then Some Infinity
    else None

abbrev pub timeout_in : Value → Option Timeout
timeout_in (atom s) = timeout_of s
timeout_in (int n) = if is_natural n then Some (Milliseconds n) else None
timeout_in v = None

abbrev pub fetch_in : Value → Option FetchForm
fetch_in v = option_and_then (λ t. option_and_then (λ app. option_and_then (λ vsn. option_map (λ modules. record { app = app; vsn = vsn; modules = modules }) (names_in t.2)) (version_in t.1)) (name_in t.0)) (triple_in v)

abbrev pub limited_in : Value × Value → Option SuspensionForm
limited_in p = option_and_then (λ name. option_map (λ t. record { name = name; timeout = Some t }) (timeout_in p.1)) (name_in p.0)

abbrev pub suspension_in : Value → Option SuspensionForm
suspension_in (atom s) = option_map (λ name. record { name = name; timeout = None }) (name_in (atom s))
suspension_in v = option_and_then limited_in (pair_in v)

abbrev pub suspensions_in : Value → Option (List SuspensionForm)
suspensions_in v = option_and_then (all_in suspension_in) (list_in v)

abbrev pub purge_mode_in : Value → Option PurgeMode
purge_mode_in v = option_and_then purge_mode_of (word_in v)

abbrev pub purging_in : Value → Option PurgingForm
purging_in v = option_and_then (λ t. option_and_then (λ name. option_and_then (λ pre. option_map (λ post. record { name = name; pre = pre; post = post }) (purge_mode_in t.2)) (purge_mode_in t.1)) (name_in t.0)) (triple_in v)

abbrev pub change_in : Value → Option ChangeForm
change_in v = option_and_then (λ p. option_map (λ name. record { name = name; extra = p.1 }) (name_in p.0)) (pair_in v)

abbrev pub changes_in : Value → Option (List ChangeForm)
changes_in v = option_and_then (all_in change_in) (list_in v)

abbrev pub with_changes : Option Direction → Value → Option ConversionForm
with_changes mode v = option_map (λ cs. record { mode = mode; changes = cs }) (changes_in v)

abbrev pub with_mode : Value → Values → Option ConversionForm
with_mode m vs = option_and_then (λ v. option_and_then (λ d. with_changes (Some d) v) (mode_in m)) (one_in vs)

abbrev pub conversion_in : Values → Option ConversionForm
conversion_in no_values = None
conversion_in (value v no_values) = with_changes None v
conversion_in (value m vs) = with_mode m vs

abbrev pub call_in : Value → Option CallForm
call_in v = option_and_then (λ t. option_and_then (λ name. option_and_then (λ function. option_map (λ args. record { name = name; function = function; args = args }) (list_in t.2)) (word_in t.1)) (name_in t.0)) (triple_in v)

-- an instruction that is a word alone
abbrev pub bare_in : List ℕ → Option Instruction
bare_in s =
    if bytes_eq s (codes "point_of_no_return") then Some point_of_no_return
    else if bytes_eq s (codes "restart_new_emulator") then Some restart_new_emulator
    else if bytes_eq s (codes "restart_emulator") then Some restart_emulator
    else None

-- a word and a list of modules
abbrev pub over_modules : List ℕ → List (List ℕ) → Option Instruction
over_modules s names =
    if bytes_eq s (codes "resume") then Some (resume names)
    else if bytes_eq s (codes "purge") then Some (purge names)
    else if bytes_eq s (codes "stop") then Some (stop names)
    else if bytes_eq s (codes "start") then Some (start names)
    else None

-- a word after the first two, and one term
abbrev pub other_single_in : List ℕ → Value → Option Instruction
other_single_in s v =
    if bytes_eq s (codes "load") then option_map load (purging_in v)
    else if bytes_eq s (codes "remove") then option_map remove (purging_in v)
    else if bytes_eq s (codes "apply") then option_map apply (call_in v)
    else option_and_then (over_modules s) (names_in v)

-- a word and one term
abbrev pub single_in : List ℕ → Value → Option Instruction
single_in s v =
    if bytes_eq s (codes "load_object_code") then option_map load_object_code (fetch_in v)
    else if bytes_eq s (codes "suspend") then option_map suspend (suspensions_in v)
    else other_single_in s v

-- a word and terms
abbrev pub tagged_in : List ℕ → Values → Option Instruction
tagged_in s vs =
    if bytes_eq s (codes "sync_nodes") then Some (sync_nodes vs)
    else if bytes_eq s (codes "code_change") then option_map code_change (conversion_in vs)
    else option_and_then (single_in s) (one_in vs)

abbrev pub instruction_in : Value → Option Instruction
instruction_in (atom s) = bare_in s
instruction_in (tuple (value (atom s) vs)) = tagged_in s vs
instruction_in v = None

abbrev pub script_in : Values → Option (List Instruction)
script_in no_values = Some (point_of_no_return ∷ [])
script_in (value v vs) = all_in instruction_in (value v vs)
