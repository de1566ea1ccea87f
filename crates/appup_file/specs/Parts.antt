-- What is read of the terms of an appup.
use Rattle.std.specs.Prelude.{ℕ, List, [], Option, None, Some, codes, if◌then◌else◌}
use Rattle.std.specs.Option.{option_map, option_and_then}
use Rattle.std.specs.Str.{bytes_eq}
use Rattle.erl_term.specs.Value.{Value, Values}
use Rattle.erl_term.specs.Value.Value.{atom, list, tuple, bin}
use Rattle.erl_term.specs.Value.Values.{no_values, value}
use Rattle.rel_files.specs.declared.release.StartType.{StartType}
use Rattle.rel_files.specs.declared.release.StartType.TheVariants.{Permanent}
use Rattle.rel_files.specs.Parts.{list_in, pair_in, is_word, word_in}
use Rattle.rel_files.specs.Sketch.{name_in, start_of, version_in, names_in}
use Rattle.relup_instruction.specs.declared.instruction.Timeout.TheVariants.{Default}
use Rattle.relup_instruction.specs.declared.instruction.PurgeMode.TheVariants.{Brutal}
use Rattle.relup_instruction.specs.Parts.{all_in, purge_mode_in, timeout_in, instruction_in}
use Rattle.relup_file.specs.Parts.{Outer, outer_in}
use Rattle.appup_file.specs.declared.instruction.ModType.{ModType}
use Rattle.appup_file.specs.declared.instruction.ModType.TheVariants.{Static, Dynamic}
use Rattle.appup_file.specs.Instruction.{ChangeForm, UpdateForm, LoadForm, DependentForm, AddedForm, AppupInstruction, VersionForm, AppupEntryForm, AppupForm}
use Rattle.appup_file.specs.Instruction.ChangeForm.{soft, advanced}
use Rattle.appup_file.specs.Instruction.AppupInstruction.{update, load_module, add_module, delete_module, add_application, remove_application, restart_application, low_level}
use Rattle.appup_file.specs.Instruction.VersionForm.{text, pattern}

-- {advanced, Extra}
abbrev pub advanced_in : Value × Value → Option ChangeForm
advanced_in p = if is_word (codes "advanced") p.0 then Some (advanced p.1) else None

-- soft or {advanced, Extra}
abbrev pub change_in : Value → Option ChangeForm
change_in v = if is_word (codes "soft") v then Some soft else option_and_then advanced_in (pair_in v)

abbrev pub mod_type_of : List ℕ → Option ModType
mod_type_of s =
    if bytes_eq s (codes "static") then Some Static
    else if bytes_eq s (codes "dynamic") then Some Dynamic
    else None

abbrev pub mod_type_in : Value → Option ModType
mod_type_in v = option_and_then mod_type_of (word_in v)

-- an update of which nothing else is written
abbrev pub plain : List ℕ → UpdateForm
plain name = record { name = name; mod_type = Dynamic; timeout = Default; change = soft; pre = Brutal; post = Brutal; dep_mods = [] }

-- an update, with one thing that is written of it
abbrev pub with_change : Value → UpdateForm → Option UpdateForm
with_change v u = option_map (λ c. record u { change = c }) (change_in v)

abbrev pub with_dep_mods : Value → UpdateForm → Option UpdateForm
with_dep_mods v u = option_map (λ ns. record u { dep_mods = ns }) (names_in v)

abbrev pub with_pre : Value → UpdateForm → Option UpdateForm
with_pre v u = option_map (λ m. record u { pre = m }) (purge_mode_in v)

abbrev pub with_post : Value → UpdateForm → Option UpdateForm
with_post v u = option_map (λ m. record u { post = m }) (purge_mode_in v)

abbrev pub with_timeout : Value → UpdateForm → Option UpdateForm
with_timeout v u = option_map (λ t. record u { timeout = t }) (timeout_in v)

abbrev pub with_mod_type : Value → UpdateForm → Option UpdateForm
with_mod_type v u = option_map (λ k. record u { mod_type = k }) (mod_type_in v)

-- what the word `supervisor` stands for: the code is static, and the supervisor is asked for its children again
abbrev pub of_supervisor : UpdateForm → UpdateForm
of_supervisor u = record u { mod_type = Static; change = advanced (list no_values) }

-- a change, the word `supervisor` or DepMods
abbrev pub with_last : Value → UpdateForm → Option UpdateForm
with_last (list vs) u = with_dep_mods (list vs) u
with_last v u = if is_word (codes "supervisor") v then Some (of_supervisor u) else with_change v u

-- a change and DepMods
abbrev pub with_ending : Value → Value → UpdateForm → Option UpdateForm
with_ending c d u = option_and_then (with_dep_mods d) (with_change c u)

-- a change, purge words and DepMods
abbrev pub with_purges : Value → Value → Value → Value → UpdateForm → Option UpdateForm
with_purges c p q d u = option_and_then (with_ending c d) (option_and_then (with_post q) (with_pre p u))

-- a timeout, and the rest
abbrev pub with_timed : Value → Value → Value → Value → Value → UpdateForm → Option UpdateForm
with_timed t c p q d u = option_and_then (with_purges c p q d) (with_timeout t u)

-- whether its code is static or dynamic, and the rest
abbrev pub with_typed : Value → Value → Value → Value → Value → Value → UpdateForm → Option UpdateForm
with_typed k t c p q d u = option_and_then (with_timed t c p q d) (with_mod_type k u)

-- what is written after the module of an update
abbrev pub update_row : Values → UpdateForm → Option UpdateForm
update_row no_values u = Some u
update_row (value x no_values) u = with_last x u
update_row (value c (value d no_values)) u = with_ending c d u
update_row (value c (value p (value q (value d no_values)))) u = with_purges c p q d u
update_row (value t (value c (value p (value q (value d no_values))))) u = with_timed t c p q d u
update_row (value k (value t (value c (value p (value q (value d no_values)))))) u = with_typed k t c p q d u
update_row vs u = None

abbrev pub update_in : List ℕ → Values → Option AppupInstruction
update_in name vs = option_map update (update_row vs (plain name))

-- DepMods, none where they are not written
abbrev pub dep_mods_in : Values → Option (List (List ℕ))
dep_mods_in no_values = Some []
dep_mods_in (value d no_values) = names_in d
dep_mods_in vs = None

-- a module that is loaded, with default purge words
abbrev pub plain_load : List ℕ → List (List ℕ) → LoadForm
plain_load name ns = record { name = name; pre = Brutal; post = Brutal; dep_mods = ns }

abbrev pub purged_load : List ℕ → Value → Value → Value → Option LoadForm
purged_load name p q d =
    option_and_then (λ pre. option_and_then (λ post. option_map (λ ns. record { name = name; pre = pre; post = post; dep_mods = ns }) (names_in d)) (purge_mode_in q)) (purge_mode_in p)

-- what is written after the module of a load_module
abbrev pub load_in : List ℕ → Values → Option LoadForm
load_in name no_values = Some (plain_load name [])
load_in name (value d no_values) = option_map (plain_load name) (names_in d)
load_in name (value p (value q (value d no_values))) = purged_load name p q d
load_in name vs = None

abbrev pub dependent_in : List ℕ → Values → Option DependentForm
dependent_in name vs = option_map (λ ns. record { name = name; dep_mods = ns }) (dep_mods_in vs)

-- a start type; permanent where no type is written
abbrev pub start_in : Values → Option StartType
start_in no_values = Some Permanent
start_in (value v no_values) = option_and_then start_of (word_in v)
start_in vs = None

abbrev pub added_in : List ℕ → Values → Option AddedForm
added_in name vs = option_map (λ start. record { name = name; start = start }) (start_in vs)

-- an application alone
abbrev pub app_in : List ℕ → List ℕ → Values → Option AppupInstruction
app_in s name no_values =
    if bytes_eq s (codes "remove_application") then Some (remove_application name)
    else if bytes_eq s (codes "restart_application") then Some (restart_application name)
    else None
app_in s name vs = None

-- a word after the first three, a name and terms
abbrev pub other_named_in : List ℕ → List ℕ → Values → Option AppupInstruction
other_named_in s name vs =
    if bytes_eq s (codes "delete_module") then option_map delete_module (dependent_in name vs)
    else if bytes_eq s (codes "add_application") then option_map add_application (added_in name vs)
    else app_in s name vs

-- a word, the name of a module or an application, and terms
abbrev pub named_in : List ℕ → List ℕ → Values → Option AppupInstruction
named_in s name vs =
    if bytes_eq s (codes "update") then update_in name vs
    else if bytes_eq s (codes "load_module") then option_map load_module (load_in name vs)
    else if bytes_eq s (codes "add_module") then option_map add_module (dependent_in name vs)
    else other_named_in s name vs

-- what stands after the word of an instruction that only an appup may have
abbrev pub headed_in : List ℕ → Values → Option AppupInstruction
headed_in s no_values = None
headed_in s (value v vs) = option_and_then (λ name. named_in s name vs) (name_in v)

abbrev pub high_level_in : Value → Option AppupInstruction
high_level_in (tuple (value (atom s) vs)) = headed_in s vs
high_level_in v = None

abbrev pub or_low_level : Value → Option AppupInstruction → Option AppupInstruction
or_low_level v (Some i) = Some i
or_low_level v None = option_map low_level (instruction_in v)

abbrev pub appup_instruction_in : Value → Option AppupInstruction
appup_instruction_in v = or_low_level v (high_level_in v)

-- a text of a version, or any binary
abbrev pub other_version_in : Value → Option VersionForm
other_version_in (bin bs) = Some (pattern bs)
other_version_in v = option_map text (version_in v)

-- {Vsn, [Instr]}
abbrev pub entry_in : Value → Option AppupEntryForm
entry_in v = option_and_then (λ p. option_and_then (λ vsn. option_and_then (λ vs. option_map (λ is'. record { vsn = vsn; instrs = is' }) (all_in appup_instruction_in vs)) (list_in p.1)) (other_version_in p.0)) (pair_in v)

abbrev pub from_outer : Outer → Option AppupForm
from_outer o = option_and_then (λ ups. option_map (λ downs. record { vsn = o.vsn; ups = ups; downs = downs }) (all_in entry_in o.downs)) (all_in entry_in o.ups)

-- {Vsn, [{UpFromVsn, [Instr]}], [{DownToVsn, [Instr]}]}
abbrev pub appup_in : Value → Option AppupForm
appup_in v = option_and_then from_outer (outer_in v)
