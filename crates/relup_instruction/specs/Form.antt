-- The terms that say instructions (OTP: relup(4), appup(4)).
use Rattle.std.specs.Prelude.{◌≡◌, ℕ, ℤ, pos, Bool, true, false, IsTrue, List, [], ◌∷◌, map, Option, None, Some, codes}
use Rattle.std.specs.List.{AllByRecursion}
use Rattle.erl_term.specs.Value.{Value, Values}
use Rattle.erl_term.specs.Value.Value.{int, atom, list, tuple}
use Rattle.erl_term.specs.Value.Values.{no_values, value}
use Rattle.rel_files.specs.Terms.{list_of, pair_term, triple_term, text_term, atoms_term}
use Rattle.rel_files.specs.Name.{IsName, IsVersion}
use Rattle.relup_instruction.specs.declared.instruction.Direction.{Direction}
use Rattle.relup_instruction.specs.declared.instruction.Direction.TheVariants.{Up, Down}
use Rattle.relup_instruction.specs.declared.instruction.Timeout.{Timeout}
use Rattle.relup_instruction.specs.declared.instruction.Timeout.TheVariants.{Default, Infinity, Milliseconds}
use Rattle.relup_instruction.specs.declared.instruction.PurgeMode.{PurgeMode}
use Rattle.relup_instruction.specs.declared.instruction.PurgeMode.TheVariants.{Soft, Brutal}
use Rattle.relup_instruction.specs.Instruction.{FetchForm, SuspensionForm, PurgingForm, ChangeForm, ConversionForm, CallForm, Instruction}
use Rattle.relup_instruction.specs.Instruction.Instruction.{load_object_code, point_of_no_return, suspend, load, code_change, resume, remove, purge, stop, start, apply, sync_nodes, restart_new_emulator, restart_emulator}

abbrev pub one : Value → Values
one v = value v no_values

-- a tuple that begins with this word
abbrev pub command : List ℕ → Values → Value
command word vs = tuple (value (atom word) vs)

abbrev pub purge_word : PurgeMode → List ℕ
purge_word Soft = codes "soft_purge"
purge_word Brutal = codes "brutal_purge"

abbrev pub direction_word : Direction → List ℕ
direction_word Up = codes "up"
direction_word Down = codes "down"

abbrev pub timeout_term : Timeout → Value
timeout_term Default = atom (codes "default")
timeout_term Infinity = atom (codes "infinity")
timeout_term (Milliseconds n) = int n

-- {App, Vsn, [Mod]}
abbrev pub fetch_term : FetchForm → Value
fetch_term f = triple_term (atom f.app) (text_term f.vsn) (atoms_term f.modules)

-- Mod or {Mod, Timeout}
abbrev pub limited_term : List ℕ → Option Timeout → Value
limited_term name None = atom name
limited_term name (Some t) = pair_term (atom name) (timeout_term t)

abbrev pub suspension_term : SuspensionForm → Value
suspension_term s = limited_term s.name s.timeout

-- {Mod, PrePurge, PostPurge}
abbrev pub purging_term : PurgingForm → Value
purging_term p = triple_term (atom p.name) (atom (purge_word p.pre)) (atom (purge_word p.post))

-- {Mod, Extra}
abbrev pub change_term : ChangeForm → Value
change_term c = pair_term (atom c.name) c.extra

-- [{Mod, Extra}], with a mode in front if one is written
abbrev pub mode_members : Option Direction → Value → Values
mode_members None changes = one changes
mode_members (Some d) changes = value (atom (direction_word d)) (one changes)

abbrev pub conversion_members : ConversionForm → Values
conversion_members c = mode_members c.mode (list_of (map change_term c.changes))

-- {M, F, A}
abbrev pub call_term : CallForm → Value
call_term c = triple_term (atom c.name) (atom c.function) (list c.args)

-- an instruction
abbrev pub instruction_term : Instruction → Value
instruction_term (load_object_code f) = command (codes "load_object_code") (one (fetch_term f))
instruction_term point_of_no_return = atom (codes "point_of_no_return")
instruction_term (suspend ss) = command (codes "suspend") (one (list_of (map suspension_term ss)))
instruction_term (load p) = command (codes "load") (one (purging_term p))
instruction_term (code_change c) = command (codes "code_change") (conversion_members c)
instruction_term (resume names) = command (codes "resume") (one (atoms_term names))
instruction_term (remove p) = command (codes "remove") (one (purging_term p))
instruction_term (purge names) = command (codes "purge") (one (atoms_term names))
instruction_term (stop names) = command (codes "stop") (one (atoms_term names))
instruction_term (start names) = command (codes "start") (one (atoms_term names))
instruction_term (apply c) = command (codes "apply") (one (call_term c))
instruction_term (sync_nodes vs) = command (codes "sync_nodes") vs
instruction_term restart_new_emulator = atom (codes "restart_new_emulator")
instruction_term restart_emulator = atom (codes "restart_emulator")

-- a number from 0
abbrev pub is_natural : ℤ → Bool
is_natural (pos n) = true
is_natural z = false

abbrev pub IsTimeout : Option Timeout → Type 0
IsTimeout (Some (Milliseconds n)) = IsTrue (is_natural n)
IsTimeout t = Unit {0}

abbrev pub IsFetch : FetchForm → Type 0
IsFetch f = IsName f.app × IsVersion f.vsn × AllByRecursion IsName f.modules

abbrev pub IsSuspension : SuspensionForm → Type 0
IsSuspension s = IsName s.name × IsTimeout s.timeout

abbrev pub IsChange : ChangeForm → Type 0
IsChange c = IsName c.name

-- its names are names, its version is one, and its timeouts are not below 0
abbrev pub IsInstruction : Instruction → Type 0
IsInstruction (load_object_code f) = IsFetch f
IsInstruction (suspend ss) = AllByRecursion IsSuspension ss
IsInstruction (load p) = IsName p.name
IsInstruction (code_change c) = AllByRecursion IsChange c.changes
IsInstruction (resume names) = AllByRecursion IsName names
IsInstruction (remove p) = IsName p.name
IsInstruction (purge names) = AllByRecursion IsName names
IsInstruction (stop names) = AllByRecursion IsName names
IsInstruction (start names) = AllByRecursion IsName names
IsInstruction (apply c) = IsName c.name
IsInstruction i = Unit {0}

-- The list's members are the script. An empty list is the script of the point of no return alone.
abbrev pub SpellsScript : List Value → List Instruction → Type 0
SpellsScript [] script = script ≡ point_of_no_return ∷ []
SpellsScript (v ∷ vs) script = (v ∷ vs ≡ map instruction_term script) × AllByRecursion IsInstruction script
