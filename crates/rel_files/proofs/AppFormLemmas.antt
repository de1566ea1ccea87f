-- Applications and their terms, both ways: what is read of the term of an application is that application, and only of its term.
use Rattle.std.proofs.Common.{◌≡◌, inl, inr, ℕ, Bool, true, false, List, [], map, Option, Some, None, codes, if◌then◌else◌, refl, sym, ap, subst, ◌∙◌}
use Rattle.std.specs.Option.{option_map, option_and_then}
use Rattle.erl_term.specs.Value.{Value}
use Rattle.erl_term.specs.Value.Value.{atom, list}
use Rattle.erl_term.specs.Value.Values.{no_values}
use Rattle.rel_files.specs.Name.{is_text, IsName, IsVersion, AreDistinct}
use Rattle.rel_files.specs.Parts.{list_in, pair_in, triple_in, is_word}
use Rattle.rel_files.specs.Sketch.{name_in, version_or_empty}
use Rattle.rel_files.specs.Terms.{list_of, pair_term, triple_term, text_term}
use Rattle.rel_files.proofs.Options.{mapped, chained, passed}
use Rattle.rel_files.proofs.TermParts.{from_pair, from_triple, from_is_word, name_in-atom, from_name, names_in-atoms, from_names_in, version_or_empty-text, from_version_or_empty}
use Rattle.rel_files.specs.AppParts.{pairs_in, Entries, entries_in, value_at, vsn_in, modules_at, module_in, names_none, top_at, Contents, contents, contents_in}
use Rattle.rel_files.specs.AppFile.{Specification, with_term, IsAppTerm}
use Rattle.rel_files.specs.AppForm.{entry_term, app_term, HasFirst, HasVsn, HasModules, HasTop, IsAppForm}
use Rattle.rel_files.proofs.AppPairLemmas.{pairs_in-entries, from_pair_list, value_at-first, value_at-lacking, from_value, from_no_value}
use Rattle.rel_files.proofs.AppReadings.{of_its_keys, read}

-- versions
vsn_in-first : (pairs : List (Value × Value)) (vsn : List ℕ) → HasVsn pairs vsn → vsn_in pairs ≡ Some vsn
vsn_in-first pairs vsn has =
    ap (option_and_then version_or_empty) (value_at-first (codes "vsn") pairs (text_term vsn) has.0) ∙ version_or_empty-text vsn has.1

from_vsn : (pairs : List (Value × Value)) (vsn : List ℕ) → vsn_in pairs ≡ Some vsn → IsVersion vsn → HasVsn pairs vsn
from_vsn pairs vsn e h =
    let v = chained version_or_empty (value_at (codes "vsn") pairs) vsn e in
    (subst (HasFirst pairs (codes "vsn")) (from_version_or_empty v.0 vsn v.2 h) (from_value (codes "vsn") pairs v.0 v.1), h)

-- modules
modules_at-key : (pairs : List (Value × Value)) (ms : List (List ℕ)) → HasModules pairs ms → modules_at (value_at (codes "modules") pairs) ≡ Some ms
modules_at-key pairs ms (inl has) = ap modules_at (value_at-first (codes "modules") pairs _ has.0) ∙ names_in-atoms ms has.1
modules_at-key pairs ms (inr none) = ap modules_at (value_at-lacking (codes "modules") pairs none.0) ∙ ap Some (sym none.1)

from_modules : (pairs : List (Value × Value)) (o : Option Value) (ms : List (List ℕ)) → value_at (codes "modules") pairs ≡ o → modules_at o ≡ Some ms
    → HasModules pairs ms
from_modules pairs None ms is e = let same : [] ≡ ms = cc in inr (from_no_value (codes "modules") pairs is, sym same)
from_modules pairs (Some v) ms is e =
    let names = from_names_in v ms e in
    inl (subst (HasFirst pairs (codes "modules")) names.0 (from_value (codes "modules") pairs v is), names.1)

-- the module that starts it
top_at-key : (pairs : List (Value × Value)) (top : Option (List ℕ)) → HasTop pairs top → top_at (value_at (codes "mod") pairs) ≡ Some top
top_at-key pairs (Some m) has = ap top_at (value_at-first (codes "mod") pairs _ has.0.1) ∙ ap (option_map Some) (name_in-atom m has.1)
top_at-key pairs None (inl has) = ap top_at (value_at-first (codes "mod") pairs (list_of []) has)
top_at-key pairs None (inr none) = ap top_at (value_at-lacking (codes "mod") pairs none)

from_none : (v : Value) → names_none v ≡ true → v ≡ list_of []
from_none (list no_values) e = refl
from_none v e = absurd cc

from_module : (v : Value) (m : List ℕ) → module_in v ≡ Some m → ((args : Value) × (v ≡ pair_term (atom m) args)) × IsName m
from_module v m e =
    let p = chained (λ (p : Value × Value). name_in p.0) (pair_in v) m e in
    let name = from_name p.0.0 m p.2 in
    ((p.0.1, from_pair v p.0 p.1 ∙ (λ j. pair_term (name.0 j) p.0.1)), name.1)

from_top : (pairs : List (Value × Value)) (o : Option Value) (top : Option (List ℕ)) → value_at (codes "mod") pairs ≡ o → top_at o ≡ Some top → HasTop pairs top
from_top pairs None top is e = let same : None ≡ top = cc in subst (HasTop pairs) same (inr (from_no_value (codes "mod") pairs is))
from_top pairs (Some v) top is e = go (names_none v) refl e
  where
    has : HasFirst pairs (codes "mod") v
    has = from_value (codes "mod") pairs v is

    go : (b : Bool) → names_none v ≡ b → (if b then Some None else option_map Some (module_in v)) ≡ Some top → HasTop pairs top
    go true none f = let same : None ≡ top = cc in subst (HasTop pairs) same (inl (subst (HasFirst pairs (codes "mod")) (from_none v none) has))
    go false some f =
        let m = mapped Some (module_in v) top f in
        let read = from_module v m.0 m.1 in
        subst (HasTop pairs) m.2 ((read.0.0, subst (HasFirst pairs (codes "mod")) read.0.1 has), read.1)

-- the name and the pairs
entries_in-term : (name : List ℕ) (pairs : List (Value × Value)) → IsName name → entries_in (app_term name pairs) ≡ Some (record { name = name; pairs = pairs })
entries_in-term name pairs h =
    let made : List ℕ → List (Value × Value) → Entries = λ n ps. record { name = n; pairs = ps } in
    λ j. option_and_then (λ (n : List ℕ). option_map (made n) (pairs_in-entries pairs j)) (name_in-atom name h j)

-- the name and the pairs of a term whose first word is known
abbrev named_in : Value → Value → Option Entries
named_in v w = option_and_then (λ name. option_map (λ pairs. record { name = name; pairs = pairs }) (option_and_then pairs_in (list_in w))) (name_in v)

abbrev AreNamed : Value → Value → Entries → Type 0
AreNamed v w e = (v ≡ atom e.name) × IsName e.name × (w ≡ list_of (map entry_term e.pairs))

from_named : (v w : Value) (e : Entries) → named_in v w ≡ Some e → AreNamed v w e
from_named v w e is =
    let made : List ℕ → List (Value × Value) → Entries = λ n ps. record { name = n; pairs = ps } in
    let name = chained (λ (n : List ℕ). option_map (made n) (option_and_then pairs_in (list_in w))) (name_in v) e is in
    let pairs = mapped (made name.0) (option_and_then pairs_in (list_in w)) e name.2 in
    let read = from_name v name.0 name.1 in
    subst (AreNamed v w) pairs.2 (read.0, read.1, from_pair_list w pairs.0 pairs.1)

entries_spelled : (v : Value) (m : Value × Value × Value) (e : Entries) → v ≡ triple_term m.0 m.1 m.2 → m.0 ≡ atom (codes "application") → AreNamed m.1 m.2 e
    → (v ≡ app_term e.name e.pairs) × IsName e.name
entries_spelled v m e is word named = (is ∙ (λ j. triple_term (word j) (named.0 j) (named.2 j)), named.1)

from_entries : (v : Value) (e : Entries) → entries_in v ≡ Some e → (v ≡ app_term e.name e.pairs) × IsName e.name
from_entries v e is =
    let m = chained (λ (m : Value × Value × Value). if is_word (codes "application") m.0 then named_in m.1 m.2 else None) (triple_in v) e is in
    let word = passed (is_word (codes "application") m.0.0) (named_in m.0.1 m.0.2) e m.2 in
    entries_spelled v m.0 e (from_triple v m.0 m.1) (from_is_word (codes "application") m.0.0 word.0) (from_named m.0.1 m.0.2 e word.1)

-- what each key says, from what all of them say
pub record AreItsKeys (e : Entries) (c : Contents) : Type 0 where
  pub name : e.name ≡ c.name
  pub vsn : vsn_in e.pairs ≡ Some c.vsn
  pub modules : modules_at (value_at (codes "modules") e.pairs) ≡ Some c.modules
  pub top : top_at (value_at (codes "mod") e.pairs) ≡ Some c.top

from_contents : (e : Entries) (c : Contents) → contents e ≡ Some c → AreItsKeys e c
from_contents e c is =
    let modules_of : Option (List (List ℕ)) = modules_at (value_at (codes "modules") e.pairs) in
    let top_of : Option (Option (List ℕ)) = top_at (value_at (codes "mod") e.pairs) in
    let made : List ℕ → List (List ℕ) → Option (List ℕ) → Contents = λ v ms t. record { name = e.name; vsn = v; modules = ms; top = t } in
    let vsn = chained (λ (v : List ℕ). option_and_then (λ (ms : List (List ℕ)). option_map (made v ms) top_of) modules_of) (vsn_in e.pairs) c is in
    let modules = chained (λ (ms : List (List ℕ)). option_map (made vsn.0 ms) top_of) modules_of c vsn.2 in
    let top = mapped (made vsn.0 modules.0) top_of c modules.2 in
    record {
      name = ap (λ (d : Contents). d.name) top.2;
      vsn = vsn.1 ∙ ap (λ (d : Contents). Some d.vsn) top.2;
      modules = modules.1 ∙ ap (λ (d : Contents). Some d.modules) top.2;
      top = top.1 ∙ ap (λ (d : Contents). Some d.top) top.2;
    }

-- a term of an application's form says that application
pub app_in-form : (v : Value) (a : Specification) → IsAppForm v a → IsAppTerm v a
app_in-form v a is =
    let e : Entries = record { name = a.name; pairs = is.pairs } in
    let c : Contents = record { name = a.name; vsn = a.vsn; modules = a.modules; top = a.top } in
    let keys : Some c ≡ contents e = of_its_keys e a.name a.vsn a.modules a.top refl (sym (vsn_in-first is.pairs a.vsn is.vsn))
    (sym (modules_at-key is.pairs a.modules is.modules)) (sym (top_at-key is.pairs a.top is.top)) in
    let read_so : contents_in v ≡ Some c =
    ap contents_in is.is ∙ (ap (option_and_then contents) (entries_in-term a.name is.pairs is.name) ∙ sym keys) in
    record {
      shape = read v c (sym read_so)
          ∙ (λ j. Some (record { name = a.name; vsn = a.vsn; modules = a.modules; top = a.top; whole = sym is.whole j }));
      distinct = is.distinct;
      versions = is.vsn.1;
    }

-- a term that says an application has its form
of_contents : (v : Value) (c : Contents) → contents_in v ≡ Some c → AreDistinct c.modules → IsVersion c.vsn → IsAppForm v (with_term v c)
of_contents v c is distinct version =
    let e = chained contents (entries_in v) c is in
    let entries = from_entries v e.0 e.1 in
    let keys = from_contents e.0 c e.2 in
    record {
      pairs = e.0.pairs;
      is = entries.0 ∙ ap (λ (n : List ℕ). app_term n e.0.pairs) keys.name;
      name = subst IsName keys.name entries.1;
      vsn = from_vsn e.0.pairs c.vsn keys.vsn version;
      modules = from_modules e.0.pairs (value_at (codes "modules") e.0.pairs) c.modules refl keys.modules;
      top = from_top e.0.pairs (value_at (codes "mod") e.0.pairs) c.top refl keys.top;
      distinct = distinct;
      whole = refl;
    }

pub from_app : (v : Value) (a : Specification) → IsAppTerm v a → IsAppForm v a
from_app v a says =
    let c = mapped (with_term v) (contents_in v) a says.shape in
    subst (IsAppForm v) c.2 (of_contents v c.0 c.1 (subst (λ (b : Specification). AreDistinct b.modules) (sym c.2) says.distinct)
    (ap (λ (b : Specification). is_text 0x21 b.vsn) c.2 ∙ says.versions))
