-- Terms that are made of parts, and the parts that are read of them: each is what the other was made of.
use Rattle.std.proofs.Common.{◌≡◌, ℕ, Bool, true, List, Some, None, codes, if◌then◌else◌, ap, subst, ◌∙◌, false, [], Option, unwrap_or, refl}
use Rattle.std.specs.List.{AllByRecursion}
use Rattle.std.specs.Option.{option_map, option_and_then}
use Rattle.std.proofs.lemmas.Slice.Eq.{bytes_eq-Decides}
use Rattle.erl_term.specs.Value.{Value, Values}
use Rattle.erl_term.specs.Value.Value.{atom, list, tuple}
use Rattle.erl_term.specs.Value.Values.{no_values, value}
use Rattle.rel_files.specs.Name.{is_name, IsName, IsVersion, is_text}
use Rattle.rel_files.specs.Parts.{list_in, pair_in, triple_in, four_in, word_in, is_word, AppParts, app_parts, Title, title_in, erts_in, RelParts, rel_parts}
use Rattle.rel_files.specs.Sketch.{name_in, names_of, text_in, version_in, names_in, are_numbers, version_or_empty}
use Rattle.rel_files.specs.Terms.{pair_term, triple_term, text_term, atoms_term, numbers_of}
use Rattle.rel_files.proofs.Options.{mapped, chained, passed}
use Rattle.rel_files.proofs.Texts.{names_of-atoms, from_names, text_in-numbers, from_text, numbers, are_numbers-numbers}

pub from_list : (v : Value) (vs : Values) → list_in v ≡ Some vs → v ≡ list vs
from_list (list ws) vs e = let same : ws ≡ vs = cc in ap list same
from_list v vs e = absurd cc

pub from_pair : (v : Value) (p : Value × Value) → pair_in v ≡ Some p → v ≡ pair_term p.0 p.1
from_pair (tuple (value v (value w no_values))) p e = let same : (v, w) ≡ p = cc in ap (λ (q : Value × Value). pair_term q.0 q.1) same
from_pair v p e = absurd cc

pub from_triple : (v : Value) (t : Value × Value × Value) → triple_in v ≡ Some t → v ≡ triple_term t.0 t.1 t.2
from_triple (tuple (value v (value w (value x no_values)))) t e =
    let same : (v, w, x) ≡ t = cc in ap (λ (q : Value × Value × Value). triple_term q.0 q.1 q.2) same
from_triple v t e = absurd cc

pub from_word : (v : Value) (s : List ℕ) → word_in v ≡ Some s → v ≡ atom s
from_word (atom t) s e = let same : t ≡ s = cc in ap atom same
from_word v s e = absurd cc

pub from_four : (v : Value) (p : Value × Value × Value × Value) → four_in v ≡ Some p → v ≡ tuple (value p.0 (value p.1 (value p.2 (value p.3 no_values))))
from_four (tuple (value v (value w (value x (value y no_values))))) p e =
    let same : (v, w, x, y) ≡ p = cc in ap (λ (q : Value × Value × Value × Value). tuple (value q.0 (value q.1 (value q.2 (value q.3 no_values))))) same
from_four v p e = absurd cc

pub from_is_word : (word : List ℕ) (v : Value) → is_word word v ≡ true → v ≡ atom word
from_is_word word (atom s) e = ap atom ((bytes_eq-Decides s word).0 e)
from_is_word word v e = absurd cc

pub name_in-atom : (s : List ℕ) → IsName s → name_in (atom s) ≡ Some s
name_in-atom s h = ap (λ (b : Bool). if b then Some s else None) h

pub from_name : (v : Value) (s : List ℕ) → name_in v ≡ Some s → (v ≡ atom s) × IsName s
from_name (atom t) s e =
    let valid = passed (is_name t) (Some t) s e in
    let same : t ≡ s = let some : Some t ≡ Some s = valid.1 in cc in
    (ap atom same, subst IsName same valid.0)
from_name v s e = absurd cc

pub names_in-atoms : (ns : List (List ℕ)) → AllByRecursion IsName ns → names_in (atoms_term ns) ≡ Some ns
names_in-atoms ns h = names_of-atoms ns h

pub from_names_in : (v : Value) (ns : List (List ℕ)) → names_in v ≡ Some ns → (v ≡ atoms_term ns) × AllByRecursion IsName ns
from_names_in v ns e =
    let listed = chained names_of (list_in v) ns e in
    let names = from_names listed.0 ns listed.2 in
    (from_list v listed.0 listed.1 ∙ ap list names.0, names.1)

pub version_in-text : (s : List ℕ) → IsVersion s → version_in (text_term s) ≡ Some s
version_in-text s h = text_in-numbers 0x21 s h

pub from_version : (v : Value) (s : List ℕ) → version_in v ≡ Some s → (v ≡ text_term s) × IsVersion s
from_version v s e =
    let listed = chained (text_in 0x21) (list_in v) s e in
    let text = from_text 0x21 listed.0 s listed.2 in
    (from_list v listed.0 listed.1 ∙ ap list text.0, text.1)

pub version_or_empty-text : (s : List ℕ) → IsVersion s → version_or_empty (text_term s) ≡ Some s
version_or_empty-text s h =
    ap (λ (b : Bool). if b then Some (unwrap_or (text_in 0x21 (numbers (numbers_of s))) []) else None) (are_numbers-numbers (numbers_of s))
    ∙ ap (λ (o : Option (List ℕ)). Some (unwrap_or o [])) (text_in-numbers 0x21 s h)

text_or_empty : (vs : Values) (o : Option (List ℕ)) (s : List ℕ) → text_in 0x21 vs ≡ o → unwrap_or o [] ≡ s → IsVersion s → vs ≡ numbers (numbers_of s)
text_or_empty vs (Some t) s read same h = let is : t ≡ s = same in (from_text 0x21 vs t read).0 ∙ ap (λ (u : List ℕ). numbers (numbers_of u)) is
text_or_empty vs None s read same h = let none : [] ≡ s = same in let bad : false ≡ true = ap (is_text 0x21) none ∙ h in absurd cc

-- a version that is one is that of its text
pub from_version_or_empty : (v : Value) (s : List ℕ) → version_or_empty v ≡ Some s → IsVersion s → v ≡ text_term s
from_version_or_empty v s e h =
    let listed = chained (λ (vs : Values). if are_numbers vs then Some (unwrap_or (text_in 0x21 vs) []) else None) (list_in v) s e in
    let read = passed (are_numbers listed.0) (Some (unwrap_or (text_in 0x21 listed.0) [])) s listed.2 in
    let same : unwrap_or (text_in 0x21 listed.0) [] ≡ s = let some : Some (unwrap_or (text_in 0x21 listed.0) []) ≡ Some s = read.1 in cc in
    from_list v listed.0 listed.1 ∙ ap list (text_or_empty listed.0 (text_in 0x21 listed.0) s refl same h)

pub from_app_parts : (v : Value) (p : AppParts) → app_parts v ≡ Some p → v ≡ tuple (value (atom p.name) (value (list p.vsn) p.ending))
from_app_parts (tuple (value (atom s) (value (list vs) ws))) p e =
    let here : AppParts = record { name = s; vsn = vs; ending = ws } in
    let same : here ≡ p = cc in ap (λ (q : AppParts). tuple (value (atom q.name) (value (list q.vsn) q.ending))) same
from_app_parts v p e = absurd cc

-- {Name, Vsn}
abbrev pub title_term : Title → Value
title_term t = pair_term (list t.name) (list t.vsn)

from_title : (v : Value) (t : Title) → title_in v ≡ Some t → v ≡ title_term t
from_title v t e =
    let titled : Values → Values → Title = λ name vsn. record { name = name; vsn = vsn } in
    let pair = chained (λ (p : Value × Value). option_and_then (λ (name : Values). option_map (titled name) (list_in p.1)) (list_in p.0)) (pair_in v) t e in
    let name = chained (λ (name : Values). option_map (titled name) (list_in pair.0.1)) (list_in pair.0.0) t pair.2 in
    let vsn = mapped (titled name.0) (list_in pair.0.1) t name.2 in
    from_pair v pair.0 pair.1
    ∙ (λ j. pair_term (from_list pair.0.0 name.0 name.1 j) (from_list pair.0.1 vsn.0 vsn.1 j))
    ∙ ap title_term vsn.2

-- {erts, EVsn}
abbrev pub erts_term : Values → Value
erts_term vs = pair_term (atom (codes "erts")) (list vs)

from_erts : (v : Value) (vs : Values) → erts_in v ≡ Some vs → v ≡ erts_term vs
from_erts v vs e =
    let pair = chained (λ (p : Value × Value). if is_word (codes "erts") p.0 then list_in p.1 else None) (pair_in v) vs e in
    let word = passed (is_word (codes "erts") pair.0.0) (list_in pair.0.1) vs pair.2 in
    from_pair v pair.0 pair.1
    ∙ (λ j. pair_term (from_is_word (codes "erts") pair.0.0 word.0 j) (from_list pair.0.1 vs word.1 j))

-- {release, {Name, Vsn}, {erts, EVsn}, [AppSpec]}
abbrev pub rel_term : RelParts → Value
rel_term p = tuple (value (atom (codes "release")) (value (title_term p.title) (value (erts_term p.erts) (value (list p.apps) no_values))))

pub from_rel_parts : (v : Value) (p : RelParts) → rel_parts v ≡ Some p → v ≡ rel_term p
from_rel_parts v p e =
    let parted : Title → Values → Values → RelParts = λ t es as'. record { title = t; erts = es; apps = as' } in
    let four = chained (λ (m : Value × Value × Value × Value). if is_word (codes "release") m.0 then
    option_and_then (λ (t : Title). option_and_then (λ (es : Values). option_map (parted t es) (list_in m.3)) (erts_in m.2)) (title_in m.1)
    else None) (four_in v) p e in
    let word = passed (is_word (codes "release") four.0.0)
    (option_and_then (λ (t : Title). option_and_then (λ (es : Values). option_map (parted t es) (list_in four.0.3)) (erts_in four.0.2)) (title_in four.0.1)) p four.2 in
    let title = chained (λ (t : Title). option_and_then (λ (es : Values). option_map (parted t es) (list_in four.0.3)) (erts_in four.0.2)) (title_in four.0.1) p word.1 in
    let erts = chained (λ (es : Values). option_map (parted title.0 es) (list_in four.0.3)) (erts_in four.0.2) p title.2 in
    let apps = mapped (parted title.0 erts.0) (list_in four.0.3) p erts.2 in
    from_four v four.0 four.1
    ∙ (λ j. tuple (value (from_is_word (codes "release") four.0.0 word.0 j) (value (from_title four.0.1 title.0 title.1 j)
    (value (from_erts four.0.2 erts.0 erts.1 j) (value (from_list four.0.3 apps.0 apps.1 j) no_values)))))
    ∙ ap rel_term apps.2
