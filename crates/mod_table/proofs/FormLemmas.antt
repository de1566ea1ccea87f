-- Tables and their terms, both ways: what is read of the term of a table is that table, and only of its term.
use Rattle.std.proofs.Common.{◌≡◌, inl, inr, ℕ, pos, Bool, true, false, ◌&&◌, ◌||◌, List, [], ◌∷◌, Option, Some, None, codes, if◌then◌else◌, refl, sym, ap, subst, ◌∙◌}
use Rattle.std.specs.Option.{option_map, option_and_then}
use Rattle.std.specs.Str.{bytes_eq}
use Rattle.std.proofs.lemmas.Slice.Eq.{bytes_eq-Decides}
use Rattle.erl_term.specs.Value.{Value, Values, values_of}
use Rattle.erl_term.specs.Value.Value.{int, atom, list, tuple}
use Rattle.erl_term.specs.Value.Values.{no_values, value}
use Rattle.rel_files.specs.Name.{is_text, IsName}
use Rattle.rel_files.specs.Parts.{list_in, three, triple_in, word_in}
use Rattle.rel_files.specs.Sketch.{name_in, version_or_empty}
use Rattle.rel_files.specs.Terms.{tuple_of, list_of, triple_term, text_term, atoms_term}
use Rattle.rel_files.proofs.Options.{mapped, chained, passed, both, both_true, choose}
use Rattle.rel_files.proofs.TermParts.{from_list, from_triple, from_word, name_in-atom, from_name, version_or_empty-text, from_version_or_empty}
use Rattle.worker_table.specs.Table.{WorkerTable}
use Rattle.worker_table.specs.Headed.{worker_in}
use Rattle.worker_table.specs.Form.{worker_term, IsWorker}
use Rattle.worker_table.proofs.FormLemmas.{from_three, worker_in-members, worker_has_versions, from_worker}
use Rattle.mod_table.specs.declared.child.Restart.{Restart}
use Rattle.mod_table.specs.declared.child.Restart.TheVariants.{Permanent, Transient, Temporary}
use Rattle.mod_table.specs.declared.child.ChildKind.{ChildKind}
use Rattle.mod_table.specs.declared.child.ChildKind.TheVariants as kind
use Rattle.mod_table.specs.declared.table.Table.{Table}
use Rattle.mod_table.specs.declared.table.Table.TheVariants.{Worker, Super}
use Rattle.mod_table.specs.Table.{ChildSpec, SuperTable}
use Rattle.mod_table.specs.Children.{start_in, restart_of, restart_in, is_shutdown, kind_of, kind_in, lists_only, ChildParts, child_parts, child_of_parts, child_in, children_in}
use Rattle.mod_table.specs.Headed.{super_in}
use Rattle.mod_table.specs.File.{table_in, versions_of, IsTableTerm}
use Rattle.mod_table.specs.Form.{restart_word, kind_word, IsShutdown, IsChildTerm, AreChildTerms, IsSuperTerm, IsTableForm}

-- words
restart_of-word : (r : Restart) → restart_of (restart_word r) ≡ Some r
restart_of-word Permanent = refl
restart_of-word Transient = refl
restart_of-word Temporary = refl

from_restart_of : (s : List ℕ) (r : Restart) → restart_of s ≡ Some r → s ≡ restart_word r
from_restart_of s r e =
    let P : Type 0 = s ≡ restart_word r in
    choose P s (codes "permanent") (Some Permanent) _ r (λ is here. let same : Permanent ≡ r = cc in is ∙ ap restart_word same)
    (λ e2. choose P s (codes "transient") (Some Transient) _ r (λ is here. let same : Transient ≡ r = cc in is ∙ ap restart_word same)
    (λ e3. choose P s (codes "temporary") (Some Temporary) None r (λ is here. let same : Temporary ≡ r = cc in is ∙ ap restart_word same)
    (λ none. absurd cc) e3) e2) e

from_restart : (v : Value) (r : Restart) → restart_in v ≡ Some r → v ≡ atom (restart_word r)
from_restart v r e =
    let word = chained restart_of (word_in v) r e in
    from_word v word.0 word.1 ∙ ap atom (from_restart_of word.0 r word.2)

kind_of-word : (k : ChildKind) → kind_of (kind_word k) ≡ Some k
kind_of-word kind.Worker = refl
kind_of-word kind.Supervisor = refl

from_kind_of : (s : List ℕ) (k : ChildKind) → kind_of s ≡ Some k → s ≡ kind_word k
from_kind_of s k e =
    let P : Type 0 = s ≡ kind_word k in
    choose P s (codes "worker") (Some kind.Worker) _ k (λ is here. let same : kind.Worker ≡ k = cc in is ∙ ap kind_word same)
    (λ e2. choose P s (codes "supervisor") (Some kind.Supervisor) None k (λ is here. let same : kind.Supervisor ≡ k = cc in is ∙ ap kind_word same)
    (λ none. absurd cc) e2) e

from_kind : (v : Value) (k : ChildKind) → kind_in v ≡ Some k → v ≡ atom (kind_word k)
from_kind v k e =
    let word = chained kind_of (word_in v) k e in
    from_word v word.0 word.1 ∙ ap atom (from_kind_of word.0 k word.2)

-- ways to end
is_shutdown-form : (v : Value) → IsShutdown v → is_shutdown v ≡ true
is_shutdown-form v (inl is) = ap is_shutdown is
is_shutdown-form v (inr (inl is)) = ap is_shutdown is
is_shutdown-form v (inr (inr n)) = ap is_shutdown n.1

from_either : (s : List ℕ) (b : Bool) → bytes_eq s (codes "brutal_kill") ≡ b → (b || bytes_eq s (codes "infinity")) ≡ true → IsShutdown (atom s)
from_either s true is e = inl (ap atom ((bytes_eq-Decides s (codes "brutal_kill")).0 is))
from_either s false is e = inr (inl (ap atom ((bytes_eq-Decides s (codes "infinity")).0 e)))

from_shutdown : (v : Value) → is_shutdown v ≡ true → IsShutdown v
from_shutdown (int (pos n)) e = inr (inr (n, refl))
from_shutdown (atom s) e = from_either s (bytes_eq s (codes "brutal_kill")) refl e
from_shutdown v e = absurd cc

-- the list of one atom
lists_only-atom : (s : List ℕ) → lists_only s (atoms_term (s ∷ [])) ≡ true
lists_only-atom s = (bytes_eq-Decides s s).1 refl

from_lists_only : (s : List ℕ) (v : Value) → lists_only s v ≡ true → v ≡ atoms_term (s ∷ [])
from_lists_only s (list (value (atom t) no_values)) e = ap (λ (u : List ℕ). atoms_term (u ∷ [])) ((bytes_eq-Decides t s).0 e)
from_lists_only s v e = absurd cc

-- the module of {M, F, A}
from_start : (v : Value) (s : List ℕ) → start_in v ≡ Some s → (function : Value) × (args : Value) × (v ≡ triple_term (atom s) function args) × IsName s
from_start v s e =
    let m = chained (λ (m : Value × Value × Value). name_in m.0) (triple_in v) s e in
    let name = from_name m.0.0 s m.2 in
    (m.0.1, m.0.2, from_triple v m.0 m.1 ∙ (λ j. triple_term (name.0 j) m.0.1 m.0.2), name.1)

-- children
abbrev of_child : Option (List ℕ) → Option (List ℕ) → Option Restart → Option ChildKind → (List ℕ → Bool) → Option ChildSpec
of_child id start restart kind fits =
    option_and_then (λ (i : List ℕ). option_and_then (λ (s : List ℕ). option_and_then (λ (r : Restart). option_and_then (λ (k : ChildKind).
    if fits s then Some (record { id = i; start = s; restart = r; kind = k }) else None) kind) restart) start) id

child_in-form : (v : Value) (c : ChildSpec) → IsChildTerm v c → child_in v ≡ Some c
child_in-form v c is =
    ap child_in is.is
    ∙ (λ j. of_child (Some c.id) (name_in-atom c.start is.start j) (restart_of-word c.restart j) (kind_of-word c.kind j)
    (λ (s : List ℕ). is_shutdown is.shutdown && lists_only s (atoms_term (c.start ∷ []))))
    ∙ ap (λ (b : Bool). if b then Some c else None)
    (both_true (is_shutdown is.shutdown) (lists_only c.start (atoms_term (c.start ∷ []))) (is_shutdown-form is.shutdown is.shuts_down) (lists_only-atom c.start))

abbrev parts_term : ChildParts → Value
parts_term p = tuple_of (p.id ∷ p.start ∷ p.restart ∷ p.shutdown ∷ p.kind ∷ p.modules ∷ [])

from_parts : (v : Value) (p : ChildParts) → child_parts v ≡ Some p → v ≡ parts_term p
from_parts (tuple (value i (value s (value r (value d (value k (value m no_values))))))) p e =
    let here : ChildParts = record { id = i; start = s; restart = r; shutdown = d; kind = k; modules = m } in
    let same : here ≡ p = cc in ap parts_term same
from_parts v p e = absurd cc

child_spelled : (v : Value) (p : ChildParts) (c : ChildSpec) (id start : List ℕ) (restart : Restart) (k : ChildKind) (function args : Value) → v ≡ parts_term p
    → p.id ≡ atom id → p.start ≡ triple_term (atom start) function args → IsName start → p.restart ≡ atom (restart_word restart) → IsShutdown p.shutdown
    → p.kind ≡ atom (kind_word k) → p.modules ≡ atoms_term (start ∷ []) → record { id = id; start = start; restart = restart; kind = k } ≡ c → IsChildTerm v c
child_spelled v p c id start restart k function args parts a b name d ends e m same =
    subst (IsChildTerm v) same (record {
      function = function;
      args = args;
      shutdown = p.shutdown;
      is = parts ∙ (λ j. parts_term (record { id = a j; start = b j; restart = d j; shutdown = p.shutdown; kind = e j; modules = m j }));
      start = name;
      shuts_down = ends;
    })

from_child : (v : Value) (c : ChildSpec) → child_in v ≡ Some c → IsChildTerm v c
from_child v c e =
    let parts = chained child_of_parts (child_parts v) c e in
    let p : ChildParts = parts.0 in
    let made : List ℕ → List ℕ → Restart → ChildKind → ChildSpec = λ i s r k. record { id = i; start = s; restart = r; kind = k } in
    let kept : List ℕ → List ℕ → Restart → ChildKind → Option ChildSpec = λ i s r k. if is_shutdown p.shutdown && lists_only s p.modules then Some (made i s r k) else None in
    let id = chained (λ (i : List ℕ). option_and_then (λ (s : List ℕ). option_and_then (λ (r : Restart). option_and_then (kept i s r) (kind_in p.kind)) (restart_in p.restart)) (start_in p.start)) (word_in p.id) c parts.2 in
    let start = chained (λ (s : List ℕ). option_and_then (λ (r : Restart). option_and_then (kept id.0 s r) (kind_in p.kind)) (restart_in p.restart)) (start_in p.start) c id.2 in
    let restart = chained (λ (r : Restart). option_and_then (kept id.0 start.0 r) (kind_in p.kind)) (restart_in p.restart) c start.2 in
    let kind = chained (kept id.0 start.0 restart.0) (kind_in p.kind) c restart.2 in
    let valid = passed (is_shutdown p.shutdown && lists_only start.0 p.modules) (Some (made id.0 start.0 restart.0 kind.0)) c kind.2 in
    let same : made id.0 start.0 restart.0 kind.0 ≡ c = let some : Some (made id.0 start.0 restart.0 kind.0) ≡ Some c = valid.1 in cc in
    let ends = both (is_shutdown p.shutdown) (lists_only start.0 p.modules) valid.0 in
    let call = from_start p.start start.0 start.1 in
    child_spelled v p c id.0 start.0 restart.0 kind.0 call.0 call.1 (from_parts v p parts.1) (from_word p.id id.0 id.1) call.2 call.3
    (from_restart p.restart restart.0 restart.1) (from_shutdown p.shutdown ends.0) (from_kind p.kind kind.0 kind.1) (from_lists_only start.0 p.modules ends.1) same

children_in-forms : (vs : List Value) (cs : List ChildSpec) → AreChildTerms vs cs → children_in (values_of vs) ≡ Some cs
children_in-forms [] [] each = refl
children_in-forms (v ∷ vs) (c ∷ cs) each =
    λ j. option_and_then (λ (d : ChildSpec). option_map (λ (ds : List ChildSpec). d ∷ ds) (children_in-forms vs cs each.1 j)) (child_in-form v c each.0 j)
children_in-forms vs cs each = absurd each

from_children : (vs : Values) (cs : List ChildSpec) → children_in vs ≡ Some cs → (terms : List Value) × (vs ≡ values_of terms) × AreChildTerms terms cs
from_children no_values cs e = let same : [] ≡ cs = cc in ([], refl, subst (AreChildTerms []) same tt)
from_children (value v vs) cs e =
    let first = chained (λ (d : ChildSpec). option_map (λ (ds : List ChildSpec). d ∷ ds) (children_in vs)) (child_in v) cs e in
    let more = mapped (λ (ds : List ChildSpec). first.0 ∷ ds) (children_in vs) cs first.2 in
    let rest = from_children vs more.0 more.1 in
    (v ∷ rest.0, ap (value v) rest.1, subst (AreChildTerms (v ∷ rest.0)) more.2 (from_child v first.0 first.1, rest.2))

-- supervisors
abbrev of_super : Option (List ℕ) → Option (List ℕ) → Option (List ChildSpec) → Option SuperTable
of_super name vsn children =
    option_and_then (λ (n : List ℕ). option_and_then (λ (v : List ℕ).
    option_map (λ (cs : List ChildSpec). record { name = n; vsn = v; children = cs }) children) vsn) name

super_read : (v : Value) (s : SuperTable) → IsSuperTerm v s → IsTableTerm v (Super s)
super_read v s is = record {
  shape = ap table_in is.is
      ∙ (λ j. option_map Super (of_super (name_in-atom s.name is.name j) (version_or_empty-text s.vsn is.vsn j) (children_in-forms is.children s.children is.each j)));
  distinct = is.distinct;
  versions = is.vsn;
}

worker_read : (v : Value) (w : WorkerTable) → v ≡ worker_term w → IsWorker w → IsTableTerm v (Worker w)
worker_read v w is h = record { shape = ap table_in is ∙ ap (option_map Worker) (worker_in-members w h); distinct = tt; versions = worker_has_versions w h }

-- a term of a table's form says that table
pub table_in-form : (v : Value) (t : Table) → IsTableForm v t → IsTableTerm v t
table_in-form v (Worker w) is = worker_read v w is.0 is.1
table_in-form v (Super s) is = super_read v s is

abbrev super_members : List ℕ → List ℕ → List Value → Values
super_members name vsn children = value (atom name) (value (text_term vsn) (value (list_of children) no_values))

-- what stands after the first word of a supervisor's term
abbrev IsSuperTail : Values → SuperTable → Type 0
IsSuperTail vs s = (children : List Value) × (vs ≡ super_members s.name s.vsn children) × IsName s.name × AreChildTerms children s.children

super_spelled : (vs : Values) (m : Value × Value × Value) (s : SuperTable) (name vsn : List ℕ) (terms : Values) (children : List Value) (cs : List ChildSpec)
    → vs ≡ value m.0 (value m.1 (value m.2 no_values)) → (m.0 ≡ atom name) × IsName name → m.1 ≡ text_term vsn → m.2 ≡ list terms → terms ≡ values_of children
    → AreChildTerms children cs → record { name = name; vsn = vsn; children = cs } ≡ s → IsSuperTail vs s
super_spelled vs m s name vsn terms children cs parts a b listed are each same =
    subst (IsSuperTail vs) same (children, parts ∙ (λ j. value (a.0 j) (value (b j) (value ((listed ∙ ap list are) j) no_values))), a.1, each)

super_valid : (name vsn : List ℕ) (cs : List ChildSpec) (s : SuperTable) → record { name = name; vsn = vsn; children = cs } ≡ s → is_text 0x21 s.vsn ≡ true
    → is_text 0x21 vsn ≡ true
super_valid name vsn cs s same h = ap (λ (x : SuperTable). is_text 0x21 x.vsn) same ∙ h

from_super : (vs : Values) (s : SuperTable) → super_in vs ≡ Some s → is_text 0x21 s.vsn ≡ true → IsSuperTail vs s
from_super vs s e h =
    let made : List ℕ → List ℕ → List ChildSpec → SuperTable = λ n v cs. record { name = n; vsn = v; children = cs } in
    let m = chained (λ (m : Value × Value × Value). of_super (name_in m.0) (version_or_empty m.1) (option_and_then children_in (list_in m.2))) (three vs) s e in
    let name = chained (λ (n : List ℕ). option_and_then (λ (v : List ℕ). option_map (made n v) (option_and_then children_in (list_in m.0.2))) (version_or_empty m.0.1)) (name_in m.0.0) s m.2 in
    let vsn = chained (λ (v : List ℕ). option_map (made name.0 v) (option_and_then children_in (list_in m.0.2))) (version_or_empty m.0.1) s name.2 in
    let children = mapped (made name.0 vsn.0) (option_and_then children_in (list_in m.0.2)) s vsn.2 in
    let listed = chained children_in (list_in m.0.2) children.0 children.1 in
    let valid = super_valid name.0 vsn.0 children.0 s children.2 h in
    let each = from_children listed.0 children.0 listed.2 in
    super_spelled vs m.0 s name.0 vsn.0 listed.0 each.0 children.0 (from_three vs m.0 m.1) (from_name m.0.0 name.0 name.1)
    (from_version_or_empty m.0.1 vsn.0 vsn.1 valid) (from_list m.0.2 listed.0 listed.1) each.1 each.2 children.2

-- a tuple that begins with this word
abbrev command : List ℕ → Values → Value
command word vs = tuple (value (atom word) vs)

of_worker : (s : List ℕ) (vs : Values) (t : Table) → s ≡ codes "worker" → option_map Worker (worker_in vs) ≡ Some t → versions_of t ≡ true
    → IsTableForm (command s vs) t
of_worker s vs t is e h =
    let w = mapped Worker (worker_in vs) t e in
    let form = from_worker vs w.0 w.1 (ap versions_of w.2 ∙ h) in
    subst (IsTableForm (command s vs)) w.2 ((λ j. command (is j) (form.0 j)), form.1)

of_supervisor : (k : List ℕ) (vs : Values) (t : Table) → k ≡ codes "supervisor" → option_map Super (super_in vs) ≡ Some t → IsTableTerm (command k vs) t
    → IsTableForm (command k vs) t
of_supervisor k vs t is e says =
    let s = mapped Super (super_in vs) t e in
    let same : IsTableTerm (command k vs) (Super s.0) = subst (IsTableTerm (command k vs)) (sym s.2) says in
    let form = from_super vs s.0 s.1 same.versions in
    subst (IsTableForm (command k vs)) s.2 (record {
      children = form.0;
      is = λ j. command (is j) (form.1 j);
      name = form.2;
      vsn = same.versions;
      each = form.3;
      distinct = same.distinct;
    })

-- a term that says a table has its form
pub from_table : (v : Value) (t : Table) → IsTableTerm v t → IsTableForm v t
from_table (tuple (value (atom s) vs)) t says =
    let P : Type 0 = IsTableForm (command s vs) t in
    choose P s (codes "worker") (option_map Worker (worker_in vs)) _ t (λ is here. of_worker s vs t is here says.versions)
    (λ later. choose P s (codes "supervisor") (option_map Super (super_in vs)) None t (λ is here. of_supervisor s vs t is here says)
    (λ none. absurd cc) later) says.shape
from_table v t says = let none : None ≡ Some t = says.shape in absurd cc
