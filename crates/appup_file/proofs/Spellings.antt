-- A term that is read as an instruction is a term of it.
use Rattle.std.proofs.Common.{◌≡◌, ℕ, Bool, true, false, List, [], Option, Some, None, codes, if◌then◌else◌, refl, sym, ap, subst, ◌∙◌}
use Rattle.std.specs.List.{AllByRecursion}
use Rattle.std.specs.Option.{option_map, option_and_then}
use Rattle.std.specs.Str.{bytes_eq}
use Rattle.erl_term.specs.Value.{Value, Values}
use Rattle.erl_term.specs.Value.Value.{atom, list, tuple}
use Rattle.erl_term.specs.Value.Values.{no_values, value}
use Rattle.rel_files.specs.declared.release.StartType.TheVariants.{Permanent}
use Rattle.rel_files.specs.Name.{IsName}
use Rattle.rel_files.specs.Form.{start_word}
use Rattle.rel_files.specs.Parts.{pair_in, is_word, word_in}
use Rattle.rel_files.specs.Sketch.{name_in, start_of, names_in}
use Rattle.rel_files.proofs.Endings.{from_start}
use Rattle.rel_files.proofs.Options.{mapped, chained, passed, choose}
use Rattle.relup_instruction.specs.declared.instruction.Timeout.{Timeout}
use Rattle.relup_instruction.specs.declared.instruction.Timeout.TheVariants.{Default}
use Rattle.relup_instruction.specs.declared.instruction.PurgeMode.{PurgeMode}
use Rattle.relup_instruction.specs.Form.{one, purge_word, timeout_term, IsTimeout}
use Rattle.relup_instruction.specs.Parts.{purge_mode_in, timeout_in, instruction_in}
use Rattle.rel_files.proofs.TermParts.{from_pair, from_word, from_name, from_names_in, from_is_word}
use Rattle.relup_instruction.proofs.Pieces.{from_purge_mode, from_timeout}
use Rattle.relup_instruction.proofs.InstructionLemmas.{from_instruction}
use Rattle.appup_file.specs.declared.instruction.ModType.{ModType}
use Rattle.appup_file.specs.declared.instruction.ModType.TheVariants.{Static, Dynamic}
use Rattle.appup_file.specs.Instruction.{ChangeForm, UpdateForm, LoadForm, DependentForm, AddedForm, AppupInstruction}
use Rattle.appup_file.specs.Instruction.ChangeForm.{soft, advanced}
use Rattle.appup_file.specs.Instruction.AppupInstruction.{update, load_module, add_module, delete_module, add_application, remove_application, restart_application, low_level}
use Rattle.appup_file.specs.Form.{change_term, mod_type_word, purge_members, update_members, named, full_term, supervisor_members, dynamic, static, brutal, nothing, full_change, full_update, full_load, full_dependent, full_added, full_members, in_full, IsAppupInstruction, Spells}
use Rattle.appup_file.specs.Parts.{advanced_in, change_in, mod_type_of, mod_type_in, plain, with_change, with_dep_mods, with_pre, with_post, with_timeout, with_mod_type, with_ending, with_purges, with_timed, with_typed, update_in, purged_load, load_in, dependent_in, start_in, added_in, app_in, named_in, headed_in, high_level_in, or_low_level, appup_instruction_in}
use Rattle.appup_file.proofs.Defaults.{update_defaults}
use Rattle.appup_file.proofs.FullTerms.{loaded, depending, added, low_in_full}
use Rattle.rel_files.specs.Terms.{pair_term, atoms_term}

from_change : (v : Value) (c : ChangeForm) → change_in v ≡ Some c → v ≡ change_term c
from_change (atom s) c e =
    choose (atom s ≡ change_term c) s (codes "soft") (Some soft) None c (λ is here. let same : soft ≡ c = cc in ap atom is ∙ ap change_term same) (λ none. absurd cc) e
from_change (tuple vs) c e =
    let p = chained advanced_in (pair_in (tuple vs)) c e in
    let word = passed (is_word (codes "advanced") p.0.0) (Some (advanced p.0.1)) c p.2 in
    let same : advanced p.0.1 ≡ c = let some : Some (advanced p.0.1) ≡ Some c = word.1 in cc in
    from_pair (tuple vs) p.0 p.1 ∙ (ap (λ (w : Value). pair_term w p.0.1) (from_is_word (codes "advanced") p.0.0 word.0) ∙ ap change_term same)
from_change v c e = absurd cc

from_mod_type_of : (s : List ℕ) (k : ModType) → mod_type_of s ≡ Some k → s ≡ mod_type_word k
from_mod_type_of s k e =
    choose (s ≡ mod_type_word k) s (codes "static") (Some Static) _ k (λ is here. let same : Static ≡ k = cc in is ∙ ap mod_type_word same)
    (λ later. choose (s ≡ mod_type_word k) s (codes "dynamic") (Some Dynamic) None k (λ is here. let same : Dynamic ≡ k = cc in is ∙ ap mod_type_word same)
    (λ none. absurd cc) later) e

from_mod_type : (v : Value) (k : ModType) → mod_type_in v ≡ Some k → v ≡ atom (mod_type_word k)
from_mod_type v k e =
    let word = chained mod_type_of (word_in v) k e in
    from_word v word.0 word.1 ∙ ap atom (from_mod_type_of word.0 k word.2)

-- all that is written of an update
abbrev written : UpdateForm → Values
written u = update_members (atom (mod_type_word u.mod_type)) (timeout_term u.timeout) (change_term u.change) (atom (purge_word u.pre)) (atom (purge_word u.post)) (atoms_term u.dep_mods)

abbrev IsWritten : List ℕ → Values → UpdateForm → Type 0
IsWritten name vs u = (vs ≡ written u) × (u.name ≡ name) × IsTimeout (Some u.timeout) × AllByRecursion IsName u.dep_mods

from_typed : (name : List ℕ) (k t c p q d : Value) (u : UpdateForm) → with_typed k t c p q d (plain name) ≡ Some u → IsWritten name (update_members k t c p q d) u
from_typed name k t c p q d u e =
    let u1 = chained (with_timed t c p q d) (with_mod_type k (plain name)) u e in
    let k' = mapped (λ (x : ModType). record (plain name) { mod_type = x }) (mod_type_in k) u1.0 u1.1 in
    let u2 = chained (with_purges c p q d) (with_timeout t u1.0) u u1.2 in
    let t' = mapped (λ (x : Timeout). record u1.0 { timeout = x }) (timeout_in t) u2.0 u2.1 in
    let u4 = chained (with_ending c d) (option_and_then (with_post q) (with_pre p u2.0)) u u2.2 in
    let u3 = chained (with_post q) (with_pre p u2.0) u4.0 u4.1 in
    let p' = mapped (λ (x : PurgeMode). record u2.0 { pre = x }) (purge_mode_in p) u3.0 u3.1 in
    let q' = mapped (λ (x : PurgeMode). record u3.0 { post = x }) (purge_mode_in q) u4.0 u3.2 in
    let u5 = chained (with_dep_mods d) (with_change c u4.0) u u4.2 in
    let c' = mapped (λ (x : ChangeForm). record u4.0 { change = x }) (change_in c) u5.0 u5.1 in
    let d' = mapped (λ (x : List (List ℕ)). record u5.0 { dep_mods = x }) (names_in d) u u5.2 in
    let same =
    ap (λ (x : UpdateForm). record x { dep_mods = d'.0 })
    (ap (λ (x : UpdateForm). record x { change = c'.0 })
    (ap (λ (x : UpdateForm). record x { post = q'.0 })
    (ap (λ (x : UpdateForm). record x { pre = p'.0 })
    (ap (λ (x : UpdateForm). record x { timeout = t'.0 }) k'.2 ∙ t'.2) ∙ p'.2) ∙ q'.2) ∙ c'.2) ∙ d'.2 in
    let kt = from_mod_type k k'.0 k'.1 in
    let tt' = from_timeout t t'.0 t'.1 in
    let ct = from_change c c'.0 c'.1 in
    let pt = from_purge_mode p p'.0 p'.1 in
    let qt = from_purge_mode q q'.0 q'.1 in
    let dt = from_names_in d d'.0 d'.1 in
    subst (IsWritten name (update_members k t c p q d)) same ((λ j. update_members (kt j) (tt'.0 j) (ct j) (pt j) (qt j) (dt.0 j)), refl, tt'.1, dt.1)

-- what stands after a name is, with defaults, all that is written of an instruction
abbrev IsNamed : List ℕ → List ℕ → Values → AppupInstruction → Type 0
IsNamed word name vs i = (named word name vs ≡ full_term i) × IsAppupInstruction i

of_typed : (name : List ℕ) (k t c p q d : Value) (i : AppupInstruction) → IsName name → option_map update (with_typed k t c p q d (plain name)) ≡ Some i
    → IsNamed (codes "update") name (update_members k t c p q d) i
of_typed name k t c p q d i h e =
    let u = mapped update (with_typed k t c p q d (plain name)) i e in
    let r = from_typed name k t c p q d u.0 u.1 in
    subst (IsNamed (codes "update") name (update_members k t c p q d)) u.2
    ((λ j. named (codes "update") (sym r.1 j) (r.0 j)), (subst IsName (sym r.1) h, r.2, r.3))

of_atom : (name s : List ℕ) (i : AppupInstruction) → IsName name → update_in name (one (atom s)) ≡ Some i → IsNamed (codes "update") name (full_change (atom s)) i
of_atom name s i h e = go (bytes_eq s (codes "supervisor")) refl
  where
    six : Values
    six = update_members dynamic (timeout_term Default) (atom s) brutal brutal nothing

    -- what is written in full is read as the atom is
    reported : (vs : Values) → vs ≡ full_change (atom s) → (update_in name vs ≡ Some i → IsNamed (codes "update") name vs i) → IsNamed (codes "update") name (full_change (atom s)) i
    reported vs is from =
        subst (λ (ws : Values). IsNamed (codes "update") name ws i) is
        (from (ap (update_in name) is ∙ (sym (update_defaults name (one (atom s))) ∙ e)))

    go : (b : Bool) → bytes_eq s (codes "supervisor") ≡ b → IsNamed (codes "update") name (full_change (atom s)) i
    go true is = reported supervisor_members (ap (λ (b : Bool). if b then supervisor_members else six) (sym is)) (of_typed name static (timeout_term Default) (change_term (advanced nothing)) brutal brutal nothing i h)
    go false is = reported six (ap (λ (b : Bool). if b then supervisor_members else six) (sym is)) (of_typed name dynamic (timeout_term Default) (atom s) brutal brutal nothing i h)

from_update : (name : List ℕ) (vs : Values) (i : AppupInstruction) → IsName name → update_in name vs ≡ Some i → IsNamed (codes "update") name (full_update vs) i
from_update name no_values i h e = of_typed name dynamic (timeout_term Default) (change_term soft) brutal brutal nothing i h e
from_update name (value (atom s) no_values) i h e = of_atom name s i h e
from_update name (value (list ws) no_values) i h e = of_typed name dynamic (timeout_term Default) (change_term soft) brutal brutal (list ws) i h e
from_update name (value (tuple ws) no_values) i h e =
    of_typed name dynamic (timeout_term Default) (tuple ws) brutal brutal nothing i h (sym (update_defaults name (one (tuple ws))) ∙ e)
from_update name (value v no_values) i h e = absurd cc
from_update name (value c (value d no_values)) i h e = of_typed name dynamic (timeout_term Default) c brutal brutal d i h e
from_update name (value a (value b (value c no_values))) i h e = absurd cc
from_update name (value c (value p (value q (value d no_values)))) i h e = of_typed name dynamic (timeout_term Default) c p q d i h e
from_update name (value t (value c (value p (value q (value d no_values))))) i h e = of_typed name dynamic t c p q d i h e
from_update name (value k (value t (value c (value p (value q (value d no_values)))))) i h e = of_typed name k t c p q d i h e
from_update name (value k (value t (value c (value p (value q (value d (value x vs))))))) i h e = absurd cc

of_purged : (name : List ℕ) (p q d : Value) (l : LoadForm) → IsName name → purged_load name p q d ≡ Some l → IsNamed (codes "load_module") name (purge_members p q d) (load_module l)
of_purged name p q d l h e =
    let p' = chained (λ (m : PurgeMode). option_and_then (λ (n : PurgeMode). option_map (loaded name m n) (names_in d)) (purge_mode_in q)) (purge_mode_in p) l e in
    let q' = chained (λ (n : PurgeMode). option_map (loaded name p'.0 n) (names_in d)) (purge_mode_in q) l p'.2 in
    let d' = mapped (loaded name p'.0 q'.0) (names_in d) l q'.2 in
    let pt = from_purge_mode p p'.0 p'.1 in
    let qt = from_purge_mode q q'.0 q'.1 in
    let dt = from_names_in d d'.0 d'.1 in
    let P : LoadForm → Type 0 = λ m. IsNamed (codes "load_module") name (purge_members p q d) (load_module m) in
    subst P d'.2 ((λ j. named (codes "load_module") name (purge_members (pt j) (qt j) (dt.0 j))), (h, dt.1))

from_load : (name : List ℕ) (vs : Values) (l : LoadForm) → IsName name → load_in name vs ≡ Some l → IsNamed (codes "load_module") name (full_load vs) (load_module l)
from_load name no_values l h e = of_purged name brutal brutal nothing l h e
from_load name (value d no_values) l h e = of_purged name brutal brutal d l h e
from_load name (value a (value b no_values)) l h e = absurd cc
from_load name (value p (value q (value d no_values))) l h e = of_purged name p q d l h e
from_load name (value a (value b (value c (value d vs)))) l h e = absurd cc

-- what stands after a module that is added or deleted
abbrev IsDependent : List ℕ → Values → DependentForm → Type 0
IsDependent name vs d = (vs ≡ one (atoms_term d.dep_mods)) × (d.name ≡ name) × AllByRecursion IsName d.dep_mods

from_dependent : (name : List ℕ) (vs : Values) (d : DependentForm) → dependent_in name vs ≡ Some d → IsDependent name (full_dependent vs) d
from_dependent name no_values d e = let same : depending name [] ≡ d = cc in subst (IsDependent name (one nothing)) same (refl, refl, tt)
from_dependent name (value v no_values) d e =
    let ns = mapped (depending name) (names_in v) d e in
    let read = from_names_in v ns.0 ns.1 in
    subst (IsDependent name (one v)) ns.2 (ap one read.0, refl, read.1)
from_dependent name (value v (value w vs)) d e = absurd cc

-- what stands after an application that is added
abbrev IsAdded : List ℕ → Values → AddedForm → Type 0
IsAdded name vs a = (vs ≡ one (atom (start_word a.start))) × (a.name ≡ name)

from_added : (name : List ℕ) (vs : Values) (a : AddedForm) → added_in name vs ≡ Some a → IsAdded name (full_added vs) a
from_added name no_values a e = let same : added name Permanent ≡ a = cc in subst (IsAdded name (one (atom (start_word Permanent)))) same (refl, refl)
from_added name (value v no_values) a e =
    let start = mapped (added name) (start_in (one v)) a e in
    let word = chained start_of (word_in v) start.0 start.1 in
    subst (IsAdded name (one v)) start.2 (ap one (from_word v word.0 word.1 ∙ ap atom (from_start word.0 start.0 word.2)), refl)
from_added name (value v (value w vs)) a e = absurd cc

of_dependent : (word name : List ℕ) (make : DependentForm → AppupInstruction) (vs : Values) (i : AppupInstruction)
    → ((d : DependentForm) → full_term (make d) ≡ named word d.name (one (atoms_term d.dep_mods))) → ((d : DependentForm) → IsName d.name × AllByRecursion IsName d.dep_mods → IsAppupInstruction (make d))
    → IsName name → option_map make (dependent_in name vs) ≡ Some i → IsNamed word name (full_dependent vs) i
of_dependent word name make vs i spelled fits h e =
    let d = mapped make (dependent_in name vs) i e in
    let r = from_dependent name vs d.0 d.1 in
    subst (IsNamed word name (full_dependent vs)) d.2 ((λ j. named word (sym r.1 j) (r.0 j)) ∙ sym (spelled d.0), fits d.0 (subst IsName (sym r.1) h, r.2))

of_added : (name : List ℕ) (vs : Values) (i : AppupInstruction) → IsName name → option_map add_application (added_in name vs) ≡ Some i
    → IsNamed (codes "add_application") name (full_added vs) i
of_added name vs i h e =
    let a = mapped add_application (added_in name vs) i e in
    let r = from_added name vs a.0 a.1 in
    subst (IsNamed (codes "add_application") name (full_added vs)) a.2 ((λ j. named (codes "add_application") (sym r.1 j) (r.0 j)), subst IsName (sym r.1) h)

of_load : (name : List ℕ) (vs : Values) (i : AppupInstruction) → IsName name → option_map load_module (load_in name vs) ≡ Some i → IsNamed (codes "load_module") name (full_load vs) i
of_load name vs i h e =
    let l = mapped load_module (load_in name vs) i e in
    subst (IsNamed (codes "load_module") name (full_load vs)) l.2 (from_load name vs l.0 h l.1)

from_app : (s name : List ℕ) (vs : Values) (i : AppupInstruction) → IsName name → app_in s name vs ≡ Some i → IsNamed s name (full_members s vs) i
from_app s name no_values i h e =
    let P : Type 0 = IsNamed s name (full_members s no_values) i in
    let Q : List ℕ → Type 0 = λ w. IsNamed w name (full_members w no_values) i in
    choose P s (codes "remove_application") (Some (remove_application name)) _ i (λ is here.
    let same : remove_application name ≡ i = cc in
    subst Q (sym is) (subst (IsNamed (codes "remove_application") name no_values) same (refl, h)))
    (λ later. choose P s (codes "restart_application") (Some (restart_application name)) None i (λ is here.
    let same : restart_application name ≡ i = cc in
    subst Q (sym is) (subst (IsNamed (codes "restart_application") name no_values) same (refl, h)))
    (λ none. absurd cc) later) e
from_app s name (value v vs) i h e = absurd cc

from_named : (s name : List ℕ) (vs : Values) (i : AppupInstruction) → IsName name → named_in s name vs ≡ Some i → IsNamed s name (full_members s vs) i
from_named s name vs i h e =
    let P : Type 0 = IsNamed s name (full_members s vs) i in
    let Q : List ℕ → Type 0 = λ w. IsNamed w name (full_members w vs) i in
    choose P s (codes "update") (update_in name vs) _ i (λ is here. subst Q (sym is) (from_update name vs i h here))
    (λ e2. choose P s (codes "load_module") (option_map load_module (load_in name vs)) _ i (λ is here. subst Q (sym is) (of_load name vs i h here))
    (λ e3. choose P s (codes "add_module") (option_map add_module (dependent_in name vs)) _ i
    (λ is here. subst Q (sym is) (of_dependent (codes "add_module") name add_module vs i (λ d. refl) (λ d p. p) h here))
    (λ e4. choose P s (codes "delete_module") (option_map delete_module (dependent_in name vs)) _ i
    (λ is here. subst Q (sym is) (of_dependent (codes "delete_module") name delete_module vs i (λ d. refl) (λ d p. p) h here))
    (λ e5. choose P s (codes "add_application") (option_map add_application (added_in name vs)) _ i (λ is here. subst Q (sym is) (of_added name vs i h here))
    (λ e6. from_app s name vs i h e6) e5) e4) e3) e2) e

from_headed : (s : List ℕ) (m : Value) (vs : Values) (i : AppupInstruction) → headed_in s (value m vs) ≡ Some i → Spells (tuple (value (atom s) (value m vs))) i
from_headed s m vs i e =
    let name = chained (λ (n : List ℕ). named_in s n vs) (name_in m) i e in
    let is = from_name m name.0 name.1 in
    let r = from_named s name.0 vs i is.1 name.2 in
    ((λ j. tuple (value (atom s) (value (is.0 j) (full_members s vs)))) ∙ r.0, r.1)

from_high : (v : Value) (i : AppupInstruction) → high_level_in v ≡ Some i → Spells v i
from_high (tuple (value (atom s) (value m vs))) i e = from_headed s m vs i e
from_high (tuple (value (atom s) no_values)) i e = absurd cc
from_high v i e = absurd cc

from_low : (v : Value) (i : AppupInstruction) → option_map low_level (instruction_in v) ≡ Some i → Spells v i
from_low v i e =
    let low = mapped low_level (instruction_in v) i e in
    let r = from_instruction v low.0 low.1 in
    subst (Spells v) low.2 (ap in_full r.0 ∙ (low_in_full low.0 ∙ sym r.0) ∙ r.0, r.1)

pub spelled : (v : Value) (i : AppupInstruction) → appup_instruction_in v ≡ Some i → Spells v i
spelled v i e = go (high_level_in v) refl e
  where
    go : (o : Option AppupInstruction) → high_level_in v ≡ o → or_low_level v o ≡ Some i → Spells v i
    go (Some j) is f = from_high v i (is ∙ f)
    go None is f = from_low v i f
