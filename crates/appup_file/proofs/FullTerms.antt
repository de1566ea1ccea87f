-- The term of an instruction that leaves nothing out is read as that instruction.
use Rattle.std.proofs.Common.{◌≡◌, ℕ, Bool, List, Option, Some, None, codes, if◌then◌else◌, refl, ap, ◌∙◌}
use Rattle.std.specs.List.{AllByRecursion}
use Rattle.std.specs.Option.{option_map, option_and_then}
use Rattle.erl_term.specs.Value.{Value, Values}
use Rattle.erl_term.specs.Value.Value.{atom, list}
use Rattle.erl_term.specs.Value.Values.{no_values, value}
use Rattle.rel_files.specs.declared.release.StartType.{StartType}
use Rattle.rel_files.specs.Name.{IsName}
use Rattle.rel_files.specs.Form.{start_word}
use Rattle.rel_files.specs.Sketch.{name_in, names_in}
use Rattle.rel_files.proofs.Endings.{start_of-start_word}
use Rattle.relup_instruction.specs.declared.instruction.Direction.{Direction}
use Rattle.relup_instruction.specs.declared.instruction.Direction.TheVariants.{Up, Down}
use Rattle.relup_instruction.specs.declared.instruction.Timeout.{Timeout}
use Rattle.relup_instruction.specs.declared.instruction.PurgeMode.{PurgeMode}
use Rattle.relup_instruction.specs.Instruction.{Instruction}
use Rattle.relup_instruction.specs.Instruction.Instruction.{load_object_code, point_of_no_return, suspend, load, code_change, resume, remove, purge, stop, start, apply, sync_nodes, restart_new_emulator, restart_emulator}
use Rattle.relup_instruction.specs.Form.{one, command, purge_word, timeout_term, mode_members, instruction_term, IsTimeout}
use Rattle.relup_instruction.specs.Parts.{purge_mode_in}
use Rattle.rel_files.proofs.TermParts.{names_in-atoms}
use Rattle.relup_instruction.proofs.Pieces.{purge_mode_of-word, timeout_in-term}
use Rattle.relup_instruction.proofs.InstructionLemmas.{instruction_in-term}
use Rattle.appup_file.specs.declared.instruction.ModType.{ModType}
use Rattle.appup_file.specs.declared.instruction.ModType.TheVariants.{Static, Dynamic}
use Rattle.appup_file.specs.Instruction.{ChangeForm, UpdateForm, LoadForm, DependentForm, AddedForm, AppupInstruction}
use Rattle.appup_file.specs.Instruction.ChangeForm.{soft, advanced}
use Rattle.appup_file.specs.Instruction.AppupInstruction.{update, load_module, add_module, delete_module, add_application, remove_application, restart_application, low_level}
use Rattle.appup_file.specs.Form.{change_term, mod_type_word, purge_members, update_members, named, full_term, in_full, IsAppupInstruction}
use Rattle.appup_file.specs.Parts.{change_in, mod_type_in, plain, with_dep_mods, with_post, with_ending, with_purges, with_timed, with_typed, purged_load, app_in, named_in, headed_in, high_level_in, or_low_level, appup_instruction_in}
use Rattle.appup_file.proofs.Defaults.{silent}
use Rattle.rel_files.specs.Terms.{atoms_term}

mod_type_in-word : (k : ModType) → mod_type_in (atom (mod_type_word k)) ≡ Some k
mod_type_in-word Static = refl
mod_type_in-word Dynamic = refl

change_in-term : (c : ChangeForm) → change_in (change_term c) ≡ Some c
change_in-term soft = refl
change_in-term (advanced extra) = refl

-- all that is written of an update
full_update_in : (u : UpdateForm) → IsTimeout (Some u.timeout) → AllByRecursion IsName u.dep_mods
    → with_typed (atom (mod_type_word u.mod_type)) (timeout_term u.timeout) (change_term u.change) (atom (purge_word u.pre)) (atom (purge_word u.post)) (atoms_term u.dep_mods) (plain u.name)
    ≡ Some u
full_update_in u timed names =
    let t : Value = timeout_term u.timeout in
    let c : Value = change_term u.change in
    let p : Value = atom (purge_word u.pre) in
    let q : Value = atom (purge_word u.post) in
    let d : Value = atoms_term u.dep_mods in
    let u1 : UpdateForm = record (plain u.name) { mod_type = u.mod_type } in
    let u2 : UpdateForm = record u1 { timeout = u.timeout } in
    let u3 : UpdateForm = record u2 { pre = u.pre } in
    let u4 : UpdateForm = record u3 { post = u.post } in
    let u5 : UpdateForm = record u4 { change = u.change } in
    ap (λ (o : Option ModType). option_and_then (with_timed t c p q d) (option_map (λ (x : ModType). record (plain u.name) { mod_type = x }) o)) (mod_type_in-word u.mod_type)
    ∙ ap (λ (o : Option Timeout). option_and_then (with_purges c p q d) (option_map (λ (x : Timeout). record u1 { timeout = x }) o)) (timeout_in-term u.timeout timed)
    ∙ ap (λ (o : Option PurgeMode). option_and_then (with_ending c d) (option_and_then (with_post q) (option_map (λ (x : PurgeMode). record u2 { pre = x }) o))) (purge_mode_of-word u.pre)
    ∙ ap (λ (o : Option PurgeMode). option_and_then (with_ending c d) (option_map (λ (x : PurgeMode). record u3 { post = x }) o)) (purge_mode_of-word u.post)
    ∙ ap (λ (o : Option ChangeForm). option_and_then (with_dep_mods d) (option_map (λ (x : ChangeForm). record u4 { change = x }) o)) (change_in-term u.change)
    ∙ ap (option_map (λ (ns : List (List ℕ)). record u5 { dep_mods = ns })) (names_in-atoms u.dep_mods names)

abbrev pub loaded : List ℕ → PurgeMode → PurgeMode → List (List ℕ) → LoadForm
loaded name pre post ns = record { name = name; pre = pre; post = post; dep_mods = ns }

full_load_in : (l : LoadForm) → AllByRecursion IsName l.dep_mods → purged_load l.name (atom (purge_word l.pre)) (atom (purge_word l.post)) (atoms_term l.dep_mods) ≡ Some l
full_load_in l names =
    let d : Option (List (List ℕ)) = names_in (atoms_term l.dep_mods) in
    let q : Option PurgeMode = purge_mode_in (atom (purge_word l.post)) in
    ap (option_and_then (λ (m : PurgeMode). option_and_then (λ (n : PurgeMode). option_map (loaded l.name m n) d) q)) (purge_mode_of-word l.pre)
    ∙ ap (option_and_then (λ (n : PurgeMode). option_map (loaded l.name l.pre n) d)) (purge_mode_of-word l.post)
    ∙ ap (option_map (loaded l.name l.pre l.post)) (names_in-atoms l.dep_mods names)

abbrev pub depending : List ℕ → List (List ℕ) → DependentForm
depending name ns = record { name = name; dep_mods = ns }

abbrev pub added : List ℕ → StartType → AddedForm
added name s = record { name = name; start = s }

named_read : (word name : List ℕ) (vs : Values) (i : AppupInstruction) → IsName name → named_in word name vs ≡ Some i → appup_instruction_in (named word name vs) ≡ Some i
named_read word name vs i h e =
    ap (λ (b : Bool). or_low_level (named word name vs) (option_and_then (λ (n : List ℕ). named_in word n vs) (if b then Some name else None))) h
    ∙ ap (or_low_level (named word name vs)) e

-- no low-level instruction is one that only an appup may have
no_app : (name : List ℕ) (vs : Values) → app_in (codes "sync_nodes") name vs ≡ None
no_app name no_values = refl
no_app name (value v vs) = refl

no_conversion : (mode : Option Direction) (vs : Values) → headed_in (codes "code_change") (mode_members mode (list vs)) ≡ None
no_conversion None vs = refl
no_conversion (Some Up) vs = refl
no_conversion (Some Down) vs = refl

not_high : (i : Instruction) → high_level_in (instruction_term i) ≡ None
not_high (load_object_code f) = refl
not_high point_of_no_return = refl
not_high (suspend ss) = refl
not_high (load p) = refl
not_high (code_change c) = no_conversion c.mode _
not_high (resume ns) = refl
not_high (remove p) = refl
not_high (purge ns) = refl
not_high (stop ns) = refl
not_high (start ns) = refl
not_high (apply c) = refl
not_high (sync_nodes no_values) = refl
not_high (sync_nodes (value v vs)) = silent (λ (name : List ℕ). named_in (codes "sync_nodes") name vs) (λ name. no_app name vs) (name_in v)
not_high restart_new_emulator = refl
not_high restart_emulator = refl

pub full : (i : AppupInstruction) → IsAppupInstruction i → appup_instruction_in (full_term i) ≡ Some i
full (update u) h =
    named_read (codes "update") u.name
    (update_members (atom (mod_type_word u.mod_type)) (timeout_term u.timeout) (change_term u.change) (atom (purge_word u.pre)) (atom (purge_word u.post)) (atoms_term u.dep_mods))
    (update u) h.0 (ap (option_map update) (full_update_in u h.1 h.2))
full (load_module l) h =
    named_read (codes "load_module") l.name (purge_members (atom (purge_word l.pre)) (atom (purge_word l.post)) (atoms_term l.dep_mods)) (load_module l) h.0
    (ap (option_map load_module) (full_load_in l h.1))
full (add_module d) h =
    named_read (codes "add_module") d.name (one (atoms_term d.dep_mods)) (add_module d) h.0
    (ap (λ (o : Option (List (List ℕ))). option_map add_module (option_map (depending d.name) o)) (names_in-atoms d.dep_mods h.1))
full (delete_module d) h =
    named_read (codes "delete_module") d.name (one (atoms_term d.dep_mods)) (delete_module d) h.0
    (ap (λ (o : Option (List (List ℕ))). option_map delete_module (option_map (depending d.name) o)) (names_in-atoms d.dep_mods h.1))
full (add_application a) h =
    named_read (codes "add_application") a.name (one (atom (start_word a.start))) (add_application a) h
    (ap (λ (o : Option StartType). option_map add_application (option_map (added a.name) o)) (start_of-start_word a.start))
full (remove_application name) h = named_read (codes "remove_application") name no_values (remove_application name) h refl
full (restart_application name) h = named_read (codes "restart_application") name no_values (restart_application name) h refl
full (low_level i) h = ap (or_low_level (instruction_term i)) (not_high i) ∙ ap (option_map low_level) (instruction_in-term i h)

-- a low-level instruction leaves nothing out
full_conversion : (mode : Option Direction) (vs : Values) → in_full (command (codes "code_change") (mode_members mode (list vs))) ≡ command (codes "code_change") (mode_members mode (list vs))
full_conversion None vs = refl
full_conversion (Some Up) vs = refl
full_conversion (Some Down) vs = refl

pub low_in_full : (i : Instruction) → in_full (instruction_term i) ≡ instruction_term i
low_in_full (code_change c) = full_conversion c.mode _
low_in_full (sync_nodes no_values) = refl
low_in_full (sync_nodes (value v vs)) = refl
low_in_full (load_object_code f) = refl
low_in_full point_of_no_return = refl
low_in_full (suspend ss) = refl
low_in_full (load p) = refl
low_in_full (resume ns) = refl
low_in_full (remove p) = refl
low_in_full (purge ns) = refl
low_in_full (stop ns) = refl
low_in_full (start ns) = refl
low_in_full (apply c) = refl
low_in_full restart_new_emulator = refl
low_in_full restart_emulator = refl
