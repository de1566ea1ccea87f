-- What stands after the word of an instruction, both ways.
use Rattle.std.proofs.Common.{◌≡◌, ℕ, List, map, Option, Some, None, ap, subst, ◌∙◌}
use Rattle.std.specs.List.{AllByRecursion}
use Rattle.std.specs.Option.{option_map, option_and_then}
use Rattle.erl_term.specs.Value.{Value, Values}
use Rattle.erl_term.specs.Value.Value.{atom, list}
use Rattle.erl_term.specs.Value.Values.{no_values, value}
use Rattle.rel_files.specs.Name.{IsName}
use Rattle.rel_files.specs.Parts.{list_in, pair_in, triple_in, word_in}
use Rattle.rel_files.specs.Sketch.{name_in, version_in, names_in}
use Rattle.rel_files.proofs.Options.{mapped, chained}
use Rattle.rel_files.specs.Terms.{list_of, pair_term, triple_term, text_term, atoms_term}
use Rattle.relup_instruction.specs.declared.instruction.Direction.{Direction}
use Rattle.relup_instruction.specs.declared.instruction.Timeout.{Timeout}
use Rattle.relup_instruction.specs.declared.instruction.PurgeMode.{PurgeMode}
use Rattle.relup_instruction.specs.Instruction.{FetchForm, SuspensionForm, PurgingForm, ChangeForm, ConversionForm, CallForm}
use Rattle.relup_instruction.specs.Form.{one, purge_word, timeout_term, limited_term, fetch_term, suspension_term, purging_term, change_term, mode_members, conversion_members, call_term, IsFetch, IsSuspension, IsChange}
use Rattle.relup_instruction.specs.Parts.{all_in, one_in, purge_mode_in, mode_in, timeout_in, fetch_in, limited_in, suspension_in, suspensions_in, purging_in, change_in, changes_in, with_changes, with_mode, conversion_in, call_in}
use Rattle.rel_files.proofs.TermParts.{from_list, from_pair, from_triple, from_word, name_in-atom, from_name, names_in-atoms, from_names_in, version_in-text, from_version}
use Rattle.relup_instruction.proofs.Pieces.{from_one, purge_mode_of-word, from_purge_mode, direction_of-word, from_mode, timeout_in-term, from_timeout}
use Rattle.relup_instruction.proofs.Rows.{all_in-terms, from_all}

abbrev fetched : List ℕ → List ℕ → List (List ℕ) → FetchForm
fetched app vsn modules = record { app = app; vsn = vsn; modules = modules }

pub fetch_in-term : (f : FetchForm) → IsFetch f → fetch_in (fetch_term f) ≡ Some f
fetch_in-term f h =
    let modules = names_in (atoms_term f.modules) in
    ap (option_and_then (λ (app : List ℕ). option_and_then (λ (vsn : List ℕ). option_map (fetched app vsn) modules) (version_in (text_term f.vsn)))) (name_in-atom f.app h.0)
    ∙ ap (option_and_then (λ (vsn : List ℕ). option_map (fetched f.app vsn) modules)) (version_in-text f.vsn h.1)
    ∙ ap (option_map (fetched f.app f.vsn)) (names_in-atoms f.modules h.2)

pub from_fetch : (v : Value) (f : FetchForm) → fetch_in v ≡ Some f → (v ≡ fetch_term f) × IsFetch f
from_fetch v f e =
    let P : FetchForm → Type 0 = λ g. (v ≡ fetch_term g) × IsFetch g in
    let t = chained (λ (t : Value × Value × Value). option_and_then (λ (app : List ℕ). option_and_then (λ (vsn : List ℕ). option_map (fetched app vsn) (names_in t.2)) (version_in t.1)) (name_in t.0)) (triple_in v) f e in
    let app = chained (λ (app : List ℕ). option_and_then (λ (vsn : List ℕ). option_map (fetched app vsn) (names_in t.0.2)) (version_in t.0.1)) (name_in t.0.0) f t.2 in
    let vsn = chained (λ (vsn : List ℕ). option_map (fetched app.0 vsn) (names_in t.0.2)) (version_in t.0.1) f app.2 in
    let modules = mapped (fetched app.0 vsn.0) (names_in t.0.2) f vsn.2 in
    let a = from_name t.0.0 app.0 app.1 in
    let b = from_version t.0.1 vsn.0 vsn.1 in
    let c = from_names_in t.0.2 modules.0 modules.1 in
    subst P modules.2 (from_triple v t.0 t.1 ∙ (λ j. triple_term (a.0 j) (b.0 j) (c.0 j)), (a.1, b.1, c.1))

abbrev timed : List ℕ → Timeout → SuspensionForm
timed name t = record { name = name; timeout = Some t }

abbrev untimed : List ℕ → SuspensionForm
untimed name = record { name = name; timeout = None }

limited : (name : List ℕ) (o : Option Timeout) → IsSuspension (record { name = name; timeout = o })
    → suspension_in (limited_term name o) ≡ Some (record { name = name; timeout = o })
limited name None h = ap (option_map untimed) (name_in-atom name h.0)
limited name (Some t) h =
    ap (option_and_then (λ (n : List ℕ). option_map (timed n) (timeout_in (timeout_term t)))) (name_in-atom name h.0)
    ∙ ap (option_map (timed name)) (timeout_in-term t h.1)

pub suspension_in-term : (s : SuspensionForm) → IsSuspension s → suspension_in (suspension_term s) ≡ Some s
suspension_in-term s h = limited s.name s.timeout h

from_limited : (v : Value) (s : SuspensionForm) → option_and_then limited_in (pair_in v) ≡ Some s → (v ≡ suspension_term s) × IsSuspension s
from_limited v s e =
    let P : SuspensionForm → Type 0 = λ r. (v ≡ suspension_term r) × IsSuspension r in
    let p = chained limited_in (pair_in v) s e in
    let name = chained (λ (n : List ℕ). option_map (timed n) (timeout_in p.0.1)) (name_in p.0.0) s p.2 in
    let t = mapped (timed name.0) (timeout_in p.0.1) s name.2 in
    let a = from_name p.0.0 name.0 name.1 in
    let b = from_timeout p.0.1 t.0 t.1 in
    subst P t.2 (from_pair v p.0 p.1 ∙ (λ j. pair_term (a.0 j) (b.0 j)), (a.1, b.1))

pub from_suspension : (v : Value) (s : SuspensionForm) → suspension_in v ≡ Some s → (v ≡ suspension_term s) × IsSuspension s
from_suspension (atom w) s e =
    let P : SuspensionForm → Type 0 = λ r. (atom w ≡ suspension_term r) × IsSuspension r in
    let name = mapped untimed (name_in (atom w)) s e in
    let a = from_name (atom w) name.0 name.1 in
    subst P name.2 (a.0, (a.1, tt))
from_suspension v s e = from_limited v s e

pub suspensions_in-term : (ss : List SuspensionForm) → AllByRecursion IsSuspension ss → suspensions_in (list_of (map suspension_term ss)) ≡ Some ss
suspensions_in-term ss h = all_in-terms suspension_in suspension_term IsSuspension suspension_in-term ss h

pub from_suspensions : (v : Value) (ss : List SuspensionForm) → suspensions_in v ≡ Some ss → (v ≡ list_of (map suspension_term ss)) × AllByRecursion IsSuspension ss
from_suspensions v ss e =
    let listed = chained (all_in suspension_in) (list_in v) ss e in
    let each = from_all suspension_in suspension_term IsSuspension from_suspension listed.0 ss listed.2 in
    (from_list v listed.0 listed.1 ∙ ap list each.0, each.1)

abbrev purged : List ℕ → PurgeMode → PurgeMode → PurgingForm
purged name pre post = record { name = name; pre = pre; post = post }

pub purging_in-term : (p : PurgingForm) → IsName p.name → purging_in (purging_term p) ≡ Some p
purging_in-term p h =
    let pre = purge_mode_in (atom (purge_word p.pre)) in
    let post = purge_mode_in (atom (purge_word p.post)) in
    ap (option_and_then (λ (n : List ℕ). option_and_then (λ (m : PurgeMode). option_map (purged n m) post) pre)) (name_in-atom p.name h)
    ∙ ap (option_and_then (λ (m : PurgeMode). option_map (purged p.name m) post)) (purge_mode_of-word p.pre)
    ∙ ap (option_map (purged p.name p.pre)) (purge_mode_of-word p.post)

pub from_purging : (v : Value) (p : PurgingForm) → purging_in v ≡ Some p → (v ≡ purging_term p) × IsName p.name
from_purging v p e =
    let P : PurgingForm → Type 0 = λ q. (v ≡ purging_term q) × IsName q.name in
    let t = chained (λ (t : Value × Value × Value). option_and_then (λ (n : List ℕ). option_and_then (λ (m : PurgeMode). option_map (purged n m) (purge_mode_in t.2)) (purge_mode_in t.1)) (name_in t.0)) (triple_in v) p e in
    let name = chained (λ (n : List ℕ). option_and_then (λ (m : PurgeMode). option_map (purged n m) (purge_mode_in t.0.2)) (purge_mode_in t.0.1)) (name_in t.0.0) p t.2 in
    let pre = chained (λ (m : PurgeMode). option_map (purged name.0 m) (purge_mode_in t.0.2)) (purge_mode_in t.0.1) p name.2 in
    let post = mapped (purged name.0 pre.0) (purge_mode_in t.0.2) p pre.2 in
    let a = from_name t.0.0 name.0 name.1 in
    let b = from_purge_mode t.0.1 pre.0 pre.1 in
    let c = from_purge_mode t.0.2 post.0 post.1 in
    subst P post.2 (from_triple v t.0 t.1 ∙ (λ j. triple_term (a.0 j) (b j) (c j)), a.1)

abbrev changed : Value → List ℕ → ChangeForm
changed extra name = record { name = name; extra = extra }

pub change_in-term : (c : ChangeForm) → IsChange c → change_in (change_term c) ≡ Some c
change_in-term c h = ap (option_map (changed c.extra)) (name_in-atom c.name h)

pub from_change : (v : Value) (c : ChangeForm) → change_in v ≡ Some c → (v ≡ change_term c) × IsChange c
from_change v c e =
    let P : ChangeForm → Type 0 = λ d. (v ≡ change_term d) × IsChange d in
    let p = chained (λ (p : Value × Value). option_map (changed p.1) (name_in p.0)) (pair_in v) c e in
    let name = mapped (changed p.0.1) (name_in p.0.0) c p.2 in
    let a = from_name p.0.0 name.0 name.1 in
    subst P name.2 (from_pair v p.0 p.1 ∙ (λ j. pair_term (a.0 j) p.0.1), a.1)

changes_in-term : (cs : List ChangeForm) → AllByRecursion IsChange cs → changes_in (list_of (map change_term cs)) ≡ Some cs
changes_in-term cs h = all_in-terms change_in change_term IsChange change_in-term cs h

from_changes : (v : Value) (cs : List ChangeForm) → changes_in v ≡ Some cs → (v ≡ list_of (map change_term cs)) × AllByRecursion IsChange cs
from_changes v cs e =
    let listed = chained (all_in change_in) (list_in v) cs e in
    let each = from_all change_in change_term IsChange from_change listed.0 cs listed.2 in
    (from_list v listed.0 listed.1 ∙ ap list each.0, each.1)

abbrev converted : Option Direction → List ChangeForm → ConversionForm
converted mode cs = record { mode = mode; changes = cs }

moded : (mode : Option Direction) (cs : List ChangeForm) → AllByRecursion IsChange cs
    → conversion_in (mode_members mode (list_of (map change_term cs))) ≡ Some (converted mode cs)
moded None cs h = ap (option_map (converted None)) (changes_in-term cs h)
moded (Some d) cs h =
    ap (option_and_then (λ (m : Direction). with_changes (Some m) (list_of (map change_term cs)))) (direction_of-word d)
    ∙ ap (option_map (converted (Some d))) (changes_in-term cs h)

pub conversion_in-term : (c : ConversionForm) → AllByRecursion IsChange c.changes → conversion_in (conversion_members c) ≡ Some c
conversion_in-term c h = moded c.mode c.changes h

abbrev IsConversion : Values → ConversionForm → Type 0
IsConversion vs c = (vs ≡ conversion_members c) × AllByRecursion IsChange c.changes

from_mode_members : (m : Value) (vs : Values) (c : ConversionForm) → with_mode m vs ≡ Some c → IsConversion (value m vs) c
from_mode_members m vs c e =
    let only = chained (λ (v : Value). option_and_then (λ (d : Direction). with_changes (Some d) v) (mode_in m)) (one_in vs) c e in
    let d = chained (λ (d : Direction). with_changes (Some d) only.0) (mode_in m) c only.2 in
    let cs = mapped (converted (Some d.0)) (changes_in only.0) c d.2 in
    let a = from_mode m d.0 d.1 in
    let b = from_changes only.0 cs.0 cs.1 in
    let members = from_one vs only.0 only.1 ∙ ap one b.0 in
    subst (IsConversion (value m vs)) cs.2 ((λ j. value (a j) (members j)), b.1)

pub from_conversion : (vs : Values) (c : ConversionForm) → conversion_in vs ≡ Some c → (vs ≡ conversion_members c) × AllByRecursion IsChange c.changes
from_conversion no_values c e = absurd cc
from_conversion (value v no_values) c e =
    let cs = mapped (converted None) (changes_in v) c e in
    let b = from_changes v cs.0 cs.1 in
    subst (IsConversion (one v)) cs.2 (ap one b.0, b.1)
from_conversion (value m (value v vs)) c e = from_mode_members m (value v vs) c e

abbrev called : List ℕ → List ℕ → Values → CallForm
called name function args = record { name = name; function = function; args = args }

pub call_in-term : (c : CallForm) → IsName c.name → call_in (call_term c) ≡ Some c
call_in-term c h = ap (option_and_then (λ (n : List ℕ). Some (called n c.function c.args))) (name_in-atom c.name h)

pub from_call : (v : Value) (c : CallForm) → call_in v ≡ Some c → (v ≡ call_term c) × IsName c.name
from_call v c e =
    let P : CallForm → Type 0 = λ d. (v ≡ call_term d) × IsName d.name in
    let t = chained (λ (t : Value × Value × Value). option_and_then (λ (n : List ℕ). option_and_then (λ (f : List ℕ). option_map (called n f) (list_in t.2)) (word_in t.1)) (name_in t.0)) (triple_in v) c e in
    let name = chained (λ (n : List ℕ). option_and_then (λ (f : List ℕ). option_map (called n f) (list_in t.0.2)) (word_in t.0.1)) (name_in t.0.0) c t.2 in
    let function = chained (λ (f : List ℕ). option_map (called name.0 f) (list_in t.0.2)) (word_in t.0.1) c name.2 in
    let args = mapped (called name.0 function.0) (list_in t.0.2) c function.2 in
    let a = from_name t.0.0 name.0 name.1 in
    let b = from_word t.0.1 function.0 function.1 in
    let d = from_list t.0.2 args.0 args.1 in
    subst P args.2 (from_triple v t.0 t.1 ∙ (λ j. triple_term (a.0 j) (b j) (d j)), a.1)
