-- What is read of a term is what is read of it with the defaults of what is left out.
use Rattle.std.proofs.Common.{◌≡◌, ℕ, Bool, true, false, List, Option, Some, None, codes, if◌then◌else◌, refl, sym, ap, ◌∙◌}
use Rattle.std.specs.Option.{option_map, option_and_then}
use Rattle.std.specs.Str.{bytes_eq}
use Rattle.std.proofs.lemmas.Slice.Eq.{bytes_eq-Decides}
use Rattle.erl_term.specs.Value.{Value, Values}
use Rattle.erl_term.specs.Value.Value.{atom, tuple}
use Rattle.erl_term.specs.Value.Values.{no_values, value}
use Rattle.rel_files.specs.Sketch.{name_in, names_in}
use Rattle.relup_instruction.specs.Form.{one, timeout_term}
use Rattle.relup_instruction.specs.declared.instruction.Timeout.TheVariants.{Default}
use Rattle.relup_instruction.specs.Parts.{one_in, over_modules, single_in, tagged_in, instruction_in}
use Rattle.appup_file.specs.Instruction.{ChangeForm, UpdateForm, AppupInstruction}
use Rattle.appup_file.specs.Instruction.AppupInstruction.{update, load_module, add_module, delete_module, add_application, low_level}
use Rattle.appup_file.specs.Form.{update_members, dynamic, brutal, nothing, full_change, full_update, supervisor_members, full_load, full_dependent, full_added, full_members, in_full}
use Rattle.appup_file.specs.Parts.{change_in, of_supervisor, plain, with_dep_mods, update_in, load_in, dependent_in, added_in, app_in, named_in, headed_in, or_low_level, appup_instruction_in}

abbrev changed : List ℕ → ChangeForm → UpdateForm
changed name c = record (plain name) { change = c }

-- a change with no modules after it
alone : (name : List ℕ) (o : Option ChangeForm) → option_map (changed name) o ≡ option_and_then (with_dep_mods nothing) (option_map (changed name) o)
alone name None = refl
alone name (Some c) = refl

atom_alone : (name s : List ℕ) → update_in name (one (atom s)) ≡ update_in name (full_change (atom s))
atom_alone name s = go (bytes_eq s (codes "supervisor")) refl
  where
    in_full_by : Bool → Option AppupInstruction
    in_full_by b = update_in name (if b then supervisor_members else update_members dynamic (timeout_term Default) (atom s) brutal brutal nothing)

    read : {b : Bool} → bytes_eq s (codes "supervisor") ≡ b → update_in name (one (atom s)) ≡ option_map update (if b then Some (of_supervisor (plain name)) else option_map (changed name) (change_in (atom s)))
    read is = ap (λ (b : Bool). option_map update (if b then Some (of_supervisor (plain name)) else option_map (changed name) (change_in (atom s)))) is

    go : (b : Bool) → bytes_eq s (codes "supervisor") ≡ b → update_in name (one (atom s)) ≡ update_in name (full_change (atom s))
    go true is = read is ∙ ap in_full_by (sym is)
    go false is = read is ∙ ap (option_map update) (alone name (change_in (atom s))) ∙ ap in_full_by (sym is)

pub update_defaults : (name : List ℕ) (vs : Values) → update_in name vs ≡ update_in name (full_update vs)
update_defaults name (value (atom s) no_values) = atom_alone name s
update_defaults name (value (tuple ws) no_values) = ap (option_map update) (alone name (change_in (tuple ws)))
update_defaults name no_values = refl
update_defaults name (value a no_values) = refl
update_defaults name (value a (value b no_values)) = refl
update_defaults name (value a (value b (value c no_values))) = refl
update_defaults name (value a (value b (value c (value d no_values)))) = refl
update_defaults name (value a (value b (value c (value d (value e no_values))))) = refl
update_defaults name (value a (value b (value c (value d (value e (value f vs)))))) = refl

load_defaults : (name : List ℕ) (vs : Values) → load_in name vs ≡ load_in name (full_load vs)
load_defaults name no_values = refl
load_defaults name (value a no_values) = refl
load_defaults name (value a (value b vs)) = refl

dependent_defaults : (name : List ℕ) (vs : Values) → dependent_in name vs ≡ dependent_in name (full_dependent vs)
dependent_defaults name no_values = refl
dependent_defaults name (value a vs) = refl

added_defaults : (name : List ℕ) (vs : Values) → added_in name vs ≡ added_in name (full_added vs)
added_defaults name no_values = refl
added_defaults name (value a vs) = refl

-- by which word of five an instruction begins
abbrev filled : Bool → Bool → Bool → Bool → Bool → Values → Values
filled a b c d e vs =
    if a then full_update vs
    else if b then full_load vs
    else if c then full_dependent vs
    else if d then full_dependent vs
    else if e then full_added vs
    else vs

abbrev chosen : Bool → Bool → Bool → Bool → Bool → List ℕ → List ℕ → Values → Option AppupInstruction
chosen a b c d e s name vs =
    if a then update_in name vs
    else if b then option_map load_module (load_in name vs)
    else if c then option_map add_module (dependent_in name vs)
    else if d then option_map delete_module (dependent_in name vs)
    else if e then option_map add_application (added_in name vs)
    else app_in s name vs

chosen_defaults : (a b c d e : Bool) (s name : List ℕ) (vs : Values) → chosen a b c d e s name vs ≡ chosen a b c d e s name (filled a b c d e vs)
chosen_defaults true b c d e s name vs = update_defaults name vs
chosen_defaults false true c d e s name vs = ap (option_map load_module) (load_defaults name vs)
chosen_defaults false false true d e s name vs = ap (option_map add_module) (dependent_defaults name vs)
chosen_defaults false false false true e s name vs = ap (option_map delete_module) (dependent_defaults name vs)
chosen_defaults false false false false true s name vs = ap (option_map add_application) (added_defaults name vs)
chosen_defaults false false false false false s name vs = refl

named_defaults : (s name : List ℕ) (vs : Values) → named_in s name vs ≡ named_in s name (full_members s vs)
named_defaults s name vs =
    chosen_defaults (bytes_eq s (codes "update")) (bytes_eq s (codes "load_module")) (bytes_eq s (codes "add_module")) (bytes_eq s (codes "delete_module"))
    (bytes_eq s (codes "add_application")) s name vs

headed_defaults : (s : List ℕ) (m : Value) (vs : Values) → headed_in s (value m vs) ≡ headed_in s (value m (full_members s vs))
headed_defaults s m vs = go (name_in m)
  where
    go : (o : Option (List ℕ)) → option_and_then (λ (name : List ℕ). named_in s name vs) o ≡ option_and_then (λ (name : List ℕ). named_in s name (full_members s vs)) o
    go None = refl
    go (Some name) = named_defaults s name vs

pub silent : {A B : Type 0} (f : A → Option B) → ((a : A) → f a ≡ None) → (o : Option A) → option_and_then f o ≡ None
silent f none None = refl
silent f none (Some a) = none a

-- the five words begin no low-level instruction
no_update : (vs : Values) → tagged_in (codes "update") vs ≡ None
no_update vs = silent (single_in (codes "update")) (λ v. silent (over_modules (codes "update")) (λ ns. refl) (names_in v)) (one_in vs)

no_load_module : (vs : Values) → tagged_in (codes "load_module") vs ≡ None
no_load_module vs = silent (single_in (codes "load_module")) (λ v. silent (over_modules (codes "load_module")) (λ ns. refl) (names_in v)) (one_in vs)

no_add_module : (vs : Values) → tagged_in (codes "add_module") vs ≡ None
no_add_module vs = silent (single_in (codes "add_module")) (λ v. silent (over_modules (codes "add_module")) (λ ns. refl) (names_in v)) (one_in vs)

no_delete_module : (vs : Values) → tagged_in (codes "delete_module") vs ≡ None
no_delete_module vs = silent (single_in (codes "delete_module")) (λ v. silent (over_modules (codes "delete_module")) (λ ns. refl) (names_in v)) (one_in vs)

no_add_application : (vs : Values) → tagged_in (codes "add_application") vs ≡ None
no_add_application vs = silent (single_in (codes "add_application")) (λ v. silent (over_modules (codes "add_application")) (λ ns. refl) (names_in v)) (one_in vs)

quiet : (s w : List ℕ) → ((vs : Values) → tagged_in w vs ≡ None) → s ≡ w → (vs ws : Values) → tagged_in s vs ≡ tagged_in s ws
quiet s w none is vs ws = ap (λ (r : List ℕ). tagged_in r vs) is ∙ (none vs ∙ (sym (none ws) ∙ ap (λ (r : List ℕ). tagged_in r ws) (sym is)))

-- whether a text is a word
whether : (P : Type 0) (s w : List ℕ) → (s ≡ w → P) → (bytes_eq s w ≡ false → P) → P
whether P s w hit other = go (bytes_eq s w) refl
  where
    go : (b : Bool) → bytes_eq s w ≡ b → P
    go true is = hit ((bytes_eq-Decides s w).0 is)
    go false is = other is

low_defaults : (s : List ℕ) (m : Value) (vs : Values) → tagged_in s (value m vs) ≡ tagged_in s (value m (full_members s vs))
low_defaults s m vs =
    let ws : Values = full_members s vs in
    let P : Type 0 = tagged_in s (value m vs) ≡ tagged_in s (value m ws) in
    whether P s (codes "update") (λ is. quiet s (codes "update") no_update is (value m vs) (value m ws))
    (λ a. whether P s (codes "load_module") (λ is. quiet s (codes "load_module") no_load_module is (value m vs) (value m ws))
    (λ b. whether P s (codes "add_module") (λ is. quiet s (codes "add_module") no_add_module is (value m vs) (value m ws))
    (λ c. whether P s (codes "delete_module") (λ is. quiet s (codes "delete_module") no_delete_module is (value m vs) (value m ws))
    (λ d. whether P s (codes "add_application") (λ is. quiet s (codes "add_application") no_add_application is (value m vs) (value m ws))
    (λ e. sym (λ j. tagged_in s (value m (filled (a j) (b j) (c j) (d j) (e j) vs))))))))

both : (v w : Value) (x y : Option AppupInstruction) → x ≡ y → instruction_in v ≡ instruction_in w → or_low_level v x ≡ or_low_level w y
both v w x y same low = go x ∙ ap (or_low_level w) same
  where
    go : (z : Option AppupInstruction) → or_low_level v z ≡ or_low_level w z
    go None = ap (option_map low_level) low
    go (Some i) = refl

pub defaults : (v : Value) → appup_instruction_in v ≡ appup_instruction_in (in_full v)
defaults (tuple (value (atom s) (value m vs))) =
    both (tuple (value (atom s) (value m vs))) (tuple (value (atom s) (value m (full_members s vs)))) (headed_in s (value m vs)) (headed_in s (value m (full_members s vs)))
    (headed_defaults s m vs) (low_defaults s m vs)
defaults v = refl
