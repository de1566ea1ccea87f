-- The terms that say appups (OTP: appup(4)). An instruction has one term that leaves nothing out; what is left out of another has
-- its default.
use Rattle.std.specs.Prelude.{◌≡◌, ℕ, List, Some, codes, if◌then◌else◌}
use Rattle.std.specs.List.{AllZip, AllByRecursion}
use Rattle.std.specs.Str.{bytes_eq}
use Rattle.erl_term.specs.Value.{Value, Values}
use Rattle.erl_term.specs.Value.Value.{atom, list, tuple, bin}
use Rattle.erl_term.specs.Value.Values.{no_values, value}
use Rattle.rel_files.specs.Form.{start_word}
use Rattle.rel_files.specs.Name.{IsName, IsVersion}
use Rattle.rel_files.specs.Parts.{is_word}
use Rattle.rel_files.specs.declared.release.StartType.TheVariants.{Permanent}
use Rattle.relup_instruction.specs.declared.instruction.PurgeMode.TheVariants.{Brutal}
use Rattle.relup_instruction.specs.declared.instruction.Timeout.TheVariants.{Default}
use Rattle.relup_instruction.specs.Form.{one, command, purge_word, timeout_term, IsTimeout, IsInstruction}
use Rattle.relup_instruction.specs.Form as relup
use Rattle.relup_file.specs.Form.{IsOuter}
use Rattle.appup_file.specs.declared.instruction.ModType.{ModType}
use Rattle.appup_file.specs.declared.instruction.ModType.TheVariants.{Static, Dynamic}
use Rattle.appup_file.specs.Instruction.{ChangeForm, AppupInstruction, VersionForm, AppupEntryForm, AppupForm}
use Rattle.appup_file.specs.Instruction.ChangeForm.{soft, advanced}
use Rattle.appup_file.specs.Instruction.AppupInstruction.{update, load_module, add_module, delete_module, add_application, remove_application, restart_application, low_level}
use Rattle.appup_file.specs.Instruction.VersionForm.{text, pattern}
use Rattle.rel_files.specs.Terms.{list_of, pair_term, text_term, atoms_term}

-- soft or {advanced, Extra}
abbrev pub change_term : ChangeForm → Value
change_term soft = atom (codes "soft")
change_term (advanced extra) = pair_term (atom (codes "advanced")) extra

abbrev pub mod_type_word : ModType → List ℕ
mod_type_word Static = codes "static"
mod_type_word Dynamic = codes "dynamic"

-- PrePurge, PostPurge, DepMods
abbrev pub purge_members : Value → Value → Value → Values
purge_members pre post deps = value pre (value post (one deps))

-- ModType, Timeout, Change, PrePurge, PostPurge, DepMods
abbrev pub update_members : Value → Value → Value → Value → Value → Value → Values
update_members mod_type timeout change pre post deps = value mod_type (value timeout (value change (purge_members pre post deps)))

-- a word, and a name with what stands after it
abbrev pub named : List ℕ → List ℕ → Values → Value
named word name vs = command word (value (atom name) vs)

-- the term of an instruction that leaves nothing out
abbrev pub full_term : AppupInstruction → Value
full_term (update u) = named (codes "update") u.name
    (update_members (atom (mod_type_word u.mod_type)) (timeout_term u.timeout) (change_term u.change) (atom (purge_word u.pre)) (atom (purge_word u.post)) (atoms_term u.dep_mods))
full_term (load_module l) = named (codes "load_module") l.name (purge_members (atom (purge_word l.pre)) (atom (purge_word l.post)) (atoms_term l.dep_mods))
full_term (add_module d) = named (codes "add_module") d.name (one (atoms_term d.dep_mods))
full_term (delete_module d) = named (codes "delete_module") d.name (one (atoms_term d.dep_mods))
full_term (add_application a) = named (codes "add_application") a.name (one (atom (start_word a.start)))
full_term (remove_application name) = named (codes "remove_application") name no_values
full_term (restart_application name) = named (codes "restart_application") name no_values
full_term (low_level i) = relup.instruction_term i

-- the defaults
abbrev pub dynamic : Value
dynamic = atom (mod_type_word Dynamic)

abbrev pub static : Value
static = atom (mod_type_word Static)

abbrev pub brutal : Value
brutal = atom (purge_word Brutal)

abbrev pub nothing : Value
nothing = list no_values

-- what the word `supervisor` stands for after a module (OTP: appup(4))
abbrev pub supervisor_members : Values
supervisor_members = update_members static (timeout_term Default) (change_term (advanced nothing)) brutal brutal nothing

-- a change that is written alone after a module
abbrev pub full_change : Value → Values
full_change (list vs) = update_members dynamic (timeout_term Default) (change_term soft) brutal brutal (list vs)
full_change c = if is_word (codes "supervisor") c then supervisor_members else update_members dynamic (timeout_term Default) c brutal brutal nothing

-- what stands after the module of an update, with the defaults of what is left out
abbrev pub full_update : Values → Values
full_update no_values = update_members dynamic (timeout_term Default) (change_term soft) brutal brutal nothing
full_update (value x no_values) = full_change x
full_update (value c (value d no_values)) = update_members dynamic (timeout_term Default) c brutal brutal d
full_update (value c (value p (value q (value d no_values)))) = update_members dynamic (timeout_term Default) c p q d
full_update (value t (value c (value p (value q (value d no_values))))) = update_members dynamic t c p q d
full_update vs = vs

-- what stands after the module of a load_module
abbrev pub full_load : Values → Values
full_load no_values = purge_members brutal brutal nothing
full_load (value d no_values) = purge_members brutal brutal d
full_load vs = vs

-- what stands after a module that is added or deleted
abbrev pub full_dependent : Values → Values
full_dependent no_values = one nothing
full_dependent vs = vs

-- what stands after an application that is added
abbrev pub full_added : Values → Values
full_added no_values = one (atom (start_word Permanent))
full_added vs = vs

abbrev pub full_members : List ℕ → Values → Values
full_members word vs =
    if bytes_eq word (codes "update") then full_update vs
    else if bytes_eq word (codes "load_module") then full_load vs
    else if bytes_eq word (codes "add_module") then full_dependent vs
    else if bytes_eq word (codes "delete_module") then full_dependent vs
    else if bytes_eq word (codes "add_application") then full_added vs
    else vs

-- a term with the defaults of what is left out
abbrev pub in_full : Value → Value
in_full (tuple (value (atom word) (value name vs))) = tuple (value (atom word) (value name (full_members word vs)))
in_full v = v

-- its names are names, and its timeouts are not below 0
abbrev pub IsAppupInstruction : AppupInstruction → Type 0
IsAppupInstruction (update u) = IsName u.name × IsTimeout (Some u.timeout) × AllByRecursion IsName u.dep_mods
IsAppupInstruction (load_module l) = IsName l.name × AllByRecursion IsName l.dep_mods
IsAppupInstruction (add_module d) = IsName d.name × AllByRecursion IsName d.dep_mods
IsAppupInstruction (delete_module d) = IsName d.name × AllByRecursion IsName d.dep_mods
IsAppupInstruction (add_application a) = IsName a.name
IsAppupInstruction (remove_application name) = IsName name
IsAppupInstruction (restart_application name) = IsName name
IsAppupInstruction (low_level i) = IsInstruction i

-- The term is this instruction's.
abbrev pub Spells : Value → AppupInstruction → Type 0
Spells v i = (in_full v ≡ full_term i) × IsAppupInstruction i

-- The term is this version: a text, or the bytes of a regular expression.
abbrev pub IsOther : Value → VersionForm → Type 0
IsOther v (text s) = (v ≡ text_term s) × IsVersion s
IsOther v (pattern bs) = v ≡ bin bs

-- {Vsn, [Instr]}
pub record IsEntryTerm (v : Value) (e : AppupEntryForm) : Type 0 where
  pub vsn : Value
  pub instrs : List Value
  pub is : v ≡ pair_term vsn (list_of instrs)
  pub version : IsOther vsn e.vsn
  pub each : AllZip Spells instrs e.instrs

-- {Vsn, [{UpFromVsn, [Instr]}], [{DownToVsn, [Instr]}]}
pub record IsAppupTerm (v : Value) (a : AppupForm) : Type 0 where
  pub ups : List Value
  pub downs : List Value
  pub outer : IsOuter v a.vsn ups downs
  pub each_up : AllZip IsEntryTerm ups a.ups
  pub each_down : AllZip IsEntryTerm downs a.downs
