-- Instructions and scripts, both ways: what is read of an instruction's term is that instruction, and only of its term.
use Rattle.std.proofs.Common.{◌≡◌, ℕ, List, [], ◌∷◌, map, Option, Some, None, codes, refl, sym, ap, subst, ◌∙◌}
use Rattle.std.specs.List.{AllByRecursion}
use Rattle.std.specs.Option.{option_map, option_and_then}
use Rattle.erl_term.specs.Value.{Value, Values, values_of}
use Rattle.erl_term.specs.Value.Value.{atom, tuple}
use Rattle.erl_term.specs.Value.Values.{no_values, value}
use Rattle.rel_files.specs.Name.{IsName}
use Rattle.rel_files.proofs.Options.{mapped, chained, choose}
use Rattle.rel_files.specs.Sketch.{names_in}
use Rattle.rel_files.specs.Terms.{atoms_term}
use Rattle.relup_instruction.specs.Instruction.{Instruction}
use Rattle.relup_instruction.specs.Instruction.Instruction.{load_object_code, point_of_no_return, suspend, load, code_change, resume, remove, purge, stop, start, apply, sync_nodes, restart_new_emulator, restart_emulator}
use Rattle.relup_instruction.specs.Form.{one, command, instruction_term, IsInstruction, SpellsScript}
use Rattle.relup_instruction.specs.Parts.{all_in, one_in, fetch_in, suspensions_in, purging_in, conversion_in, call_in, bare_in, over_modules, single_in, tagged_in, instruction_in, script_in}
use Rattle.rel_files.proofs.TermParts.{names_in-atoms, from_names_in}
use Rattle.relup_instruction.proofs.Pieces.{from_one}
use Rattle.relup_instruction.proofs.Rows.{all_in-terms, from_all}
use Rattle.relup_instruction.proofs.PayloadLemmas.{fetch_in-term, from_fetch, suspensions_in-term, from_suspensions, purging_in-term, from_purging, conversion_in-term, from_conversion, call_in-term, from_call}

pub instruction_in-term : (i : Instruction) → IsInstruction i → instruction_in (instruction_term i) ≡ Some i
instruction_in-term (load_object_code f) h = ap (option_map load_object_code) (fetch_in-term f h)
instruction_in-term point_of_no_return h = refl
instruction_in-term (suspend ss) h = ap (option_map suspend) (suspensions_in-term ss h)
instruction_in-term (load p) h = ap (option_map load) (purging_in-term p h)
instruction_in-term (code_change c) h = ap (option_map code_change) (conversion_in-term c h)
instruction_in-term (resume ns) h = ap (option_and_then (over_modules (codes "resume"))) (names_in-atoms ns h)
instruction_in-term (remove p) h = ap (option_map remove) (purging_in-term p h)
instruction_in-term (purge ns) h = ap (option_and_then (over_modules (codes "purge"))) (names_in-atoms ns h)
instruction_in-term (stop ns) h = ap (option_and_then (over_modules (codes "stop"))) (names_in-atoms ns h)
instruction_in-term (start ns) h = ap (option_and_then (over_modules (codes "start"))) (names_in-atoms ns h)
instruction_in-term (apply c) h = ap (option_map apply) (call_in-term c h)
instruction_in-term (sync_nodes vs) h = refl
instruction_in-term restart_new_emulator h = refl
instruction_in-term restart_emulator h = refl

-- The term is this instruction's.
abbrev pub Spells : Value → Instruction → Type 0
Spells v i = (v ≡ instruction_term i) × IsInstruction i

from_bare : (s : List ℕ) (i : Instruction) → bare_in s ≡ Some i → Spells (atom s) i
from_bare s i e =
    let P : Type 0 = Spells (atom s) i in
    choose P s (codes "point_of_no_return") (Some point_of_no_return) _ i (λ is here. let same : point_of_no_return ≡ i = cc in subst (Spells (atom s)) same (ap atom is, tt))
    (λ e2. choose P s (codes "restart_new_emulator") (Some restart_new_emulator) _ i (λ is here. let same : restart_new_emulator ≡ i = cc in subst (Spells (atom s)) same (ap atom is, tt))
    (λ e3. choose P s (codes "restart_emulator") (Some restart_emulator) None i (λ is here. let same : restart_emulator ≡ i = cc in subst (Spells (atom s)) same (ap atom is, tt))
    (λ none. absurd cc) e3) e2) e

from_over : (s : List ℕ) (ns : List (List ℕ)) (i : Instruction) → AllByRecursion IsName ns → over_modules s ns ≡ Some i → Spells (command s (one (atoms_term ns))) i
from_over s ns i h e =
    let v : Value = command s (one (atoms_term ns)) in
    let P : Type 0 = Spells v i in
    choose P s (codes "resume") (Some (resume ns)) _ i (λ is here. let same : resume ns ≡ i = cc in subst (Spells v) same (ap (λ (w : List ℕ). command w (one (atoms_term ns))) is, h))
    (λ e2. choose P s (codes "purge") (Some (purge ns)) _ i (λ is here. let same : purge ns ≡ i = cc in subst (Spells v) same (ap (λ (w : List ℕ). command w (one (atoms_term ns))) is, h))
    (λ e3. choose P s (codes "stop") (Some (stop ns)) _ i (λ is here. let same : stop ns ≡ i = cc in subst (Spells v) same (ap (λ (w : List ℕ). command w (one (atoms_term ns))) is, h))
    (λ e4. choose P s (codes "start") (Some (start ns)) None i (λ is here. let same : start ns ≡ i = cc in subst (Spells v) same (ap (λ (w : List ℕ). command w (one (atoms_term ns))) is, h))
    (λ none. absurd cc) e4) e3) e2) e

-- an instruction of one word, with what stands after it
of_one : {A : Type 0} (word s : List ℕ) (make : A → Instruction) (term : A → Value) (P : A → Type 0)
    → ((a : A) → instruction_term (make a) ≡ command word (one (term a))) → ((a : A) → P a → IsInstruction (make a))
    → (v : Value) (o : Option A) → ((a : A) → o ≡ Some a → (v ≡ term a) × P a) → (i : Instruction) → s ≡ word → option_map make o ≡ Some i
    → Spells (command s (one v)) i
of_one {A} word s make term P spelled fits v o each i is e =
    let a = mapped make o i e in
    let read = each a.0 a.1 in
    subst (Spells (command s (one v))) a.2 ((λ j. command (is j) (one (read.0 j))) ∙ sym (spelled a.0), fits a.0 read.1)

from_single : (s : List ℕ) (v : Value) (i : Instruction) → single_in s v ≡ Some i → Spells (command s (one v)) i
from_single s v i e =
    let P : Type 0 = Spells (command s (one v)) i in
    choose P s (codes "load_object_code") _ _ i (λ is here. of_one (codes "load_object_code") s load_object_code _ _ (λ a. refl) (λ a h. h) v (fetch_in v) (from_fetch v) i is here)
    (λ e2. choose P s (codes "suspend") _ _ i (λ is here. of_one (codes "suspend") s suspend _ _ (λ a. refl) (λ a h. h) v (suspensions_in v) (from_suspensions v) i is here)
    (λ e3. choose P s (codes "load") _ _ i (λ is here. of_one (codes "load") s load _ _ (λ a. refl) (λ a h. h) v (purging_in v) (from_purging v) i is here)
    (λ e4. choose P s (codes "remove") _ _ i (λ is here. of_one (codes "remove") s remove _ _ (λ a. refl) (λ a h. h) v (purging_in v) (from_purging v) i is here)
    (λ e5. choose P s (codes "apply") _ _ i (λ is here. of_one (codes "apply") s apply _ _ (λ a. refl) (λ a h. h) v (call_in v) (from_call v) i is here)
    (λ e6. let names = chained (over_modules s) (names_in v) i e6 in
    let read = from_names_in v names.0 names.1 in
    let there = from_over s names.0 i read.1 names.2 in
    ((λ j. command s (one (read.0 j))) ∙ there.0, there.1)) e5) e4) e3) e2) e

from_tagged : (s : List ℕ) (vs : Values) (i : Instruction) → tagged_in s vs ≡ Some i → Spells (command s vs) i
from_tagged s vs i e =
    let P : Type 0 = Spells (command s vs) i in
    choose P s (codes "sync_nodes") (Some (sync_nodes vs)) _ i (λ is here. let same : sync_nodes vs ≡ i = cc in subst (Spells (command s vs)) same (ap (λ (w : List ℕ). command w vs) is, tt))
    (λ e2. choose P s (codes "code_change") _ _ i (λ is here.
    let c = mapped code_change (conversion_in vs) i here in
    let read = from_conversion vs c.0 c.1 in
    subst (Spells (command s vs)) c.2 ((λ j. command (is j) (read.0 j)), read.1))
    (λ e3. let only = chained (single_in s) (one_in vs) i e3 in
    let there = from_single s only.0 i only.2 in
    (ap (command s) (from_one vs only.0 only.1) ∙ there.0, there.1)) e2) e

pub from_instruction : (v : Value) (i : Instruction) → instruction_in v ≡ Some i → (v ≡ instruction_term i) × IsInstruction i
from_instruction (atom s) i e = from_bare s i e
from_instruction (tuple (value (atom s) vs)) i e = from_tagged s vs i e
from_instruction v i e = absurd cc

-- a script
pub script_in-terms : (vs : List Value) (is : List Instruction) → SpellsScript vs is → script_in (values_of vs) ≡ Some is
script_in-terms [] is h = ap Some (sym h)
script_in-terms (v ∷ vs) is h =
    ap (λ (ws : List Value). all_in instruction_in (values_of ws)) h.0 ∙ all_in-terms instruction_in instruction_term IsInstruction instruction_in-term is h.1

-- the values as a list
pub list_of_values : (vs : Values) → (ws : List Value) × (vs ≡ values_of ws)
list_of_values no_values = ([], refl)
list_of_values (value v vs) = let rest = list_of_values vs in (v ∷ rest.0, ap (value v) rest.1)

pub from_script : (vs : Values) (is : List Instruction) → script_in vs ≡ Some is → (ws : List Value) × (vs ≡ values_of ws) × SpellsScript ws is
from_script no_values is e = let same : point_of_no_return ∷ [] ≡ is = cc in ([], refl, sym same)
from_script (value v vs) is e =
    let each = from_all instruction_in instruction_term IsInstruction from_instruction (value v vs) is e in spelled is each.0 each.1
  where
    spelled : (is' : List Instruction) → value v vs ≡ values_of (map instruction_term is') → AllByRecursion IsInstruction is'
        → (ws : List Value) × (value v vs ≡ values_of ws) × SpellsScript ws is'
    spelled [] same h = absurd cc
    spelled (i ∷ rest) same h = (map instruction_term (i ∷ rest), same, (refl, h))
