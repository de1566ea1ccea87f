-- What follows the version of an application, both ways.
use Rattle.std.proofs.Common.{◌≡◌, ◌⊎◌, inl, inr, ℕ, Bool, true, false, List, [], ◌∷◌, map, Option, Some, None, if◌then◌else◌, refl, sym, ap, subst, ◌∙◌}
use Rattle.std.specs.Option.{option_map, option_and_then}
use Rattle.std.specs.Str.{bytes_eq}
use Rattle.std.proofs.lemmas.Slice.Eq.{bytes_eq-Decides}
use Rattle.erl_term.specs.Value.{Value, Values, values_of}
use Rattle.erl_term.specs.Value.Value.{atom, list}
use Rattle.erl_term.specs.Value.Values.{no_values, value}
use Rattle.rel_files.specs.declared.release.StartType.{StartType}
use Rattle.rel_files.specs.declared.release.StartType.TheVariants.{Permanent, Transient, Temporary, Load, Unloaded}
use Rattle.rel_files.specs.Form.{start_word, ListsIncluded, IsEnding}
use Rattle.rel_files.specs.Sketch.{start_of, End, included_in, end_in, names_of}
use Rattle.rel_files.proofs.Options.{mapped, chained}
use Rattle.rel_files.proofs.Texts.{names_of-atoms, from_names}
use Rattle.rel_files.specs.Terms.{list_of}

pub start_of-start_word : (s : StartType) → start_of (start_word s) ≡ Some s
start_of-start_word Permanent = refl
start_of-start_word Transient = refl
start_of-start_word Temporary = refl
start_of-start_word Load = refl
start_of-start_word Unloaded = refl

-- one of several words
chosen : (w : List ℕ) (a s : StartType) (o : Option StartType) → (o ≡ Some s → w ≡ start_word s)
    → (if bytes_eq w (start_word a) then Some a else o) ≡ Some s → w ≡ start_word s
chosen w a s o others e = go (bytes_eq w (start_word a)) refl e
  where
    go : (b : Bool) → bytes_eq w (start_word a) ≡ b → (if b then Some a else o) ≡ Some s → w ≡ start_word s
    go true is f = let same : a ≡ s = cc in (bytes_eq-Decides w (start_word a)).0 is ∙ ap start_word same
    go false is f = others f

pub from_start : (w : List ℕ) (s : StartType) → start_of w ≡ Some s → w ≡ start_word s
from_start w s e =
    chosen w Permanent s _ (chosen w Transient s _ (chosen w Temporary s _ (chosen w Load s _ (chosen w Unloaded s None (λ f. absurd cc))))) e

-- the list of the included applications, where there is one
included_in-list : (start : StartType) (v : Value) (included : Option (List (List ℕ))) → ListsIncluded v included
    → included_in start (value v no_values) ≡ Some (record { start = start; included = included })
included_in-list start v None lists = absurd lists
included_in-list start v (Some names) lists =
    ap (λ (w : Value). included_in start (value w no_values)) lists.0
    ∙ ap (option_map (λ (ns : List (List ℕ)). record { start = start; included = Some ns })) (names_of-atoms names lists.1)

-- nothing is there, or a list of included applications alone
abbrev IsIncluded : StartType → Values → End → Type 0
IsIncluded start vs e = ((vs ≡ no_values) × (start ≡ e.start) × (e.included ≡ None)) ⊎ ((v : Value) × (vs ≡ value v no_values) × (start ≡ e.start) × ListsIncluded v e.included)

from_included : (start : StartType) (vs : Values) (e : End) → included_in start vs ≡ Some e → IsIncluded start vs e
from_included start no_values e is =
    let here : End = record { start = start; included = None } in
    let same : here ≡ e = cc in inl (refl, ap (λ (d : End). d.start) same, sym (ap (λ (d : End). d.included) same))
from_included start (value (list vs) no_values) e is =
    let listed = mapped (λ (ns : List (List ℕ)). record { start = start; included = Some ns }) (names_of vs) e is in
    let spelled = from_names vs listed.0 listed.1 in
    inr (list vs, refl, ap (λ (d : End). d.start) listed.2, subst (λ (d : End). ListsIncluded (list vs) d.included) listed.2 (ap list spelled.0, spelled.1))
from_included start vs e is = absurd cc

pub end_in-ending : (vs : List Value) (start : StartType) (included : Option (List (List ℕ))) → IsEnding vs start included
    → end_in (values_of vs) ≡ Some (record { start = start; included = included })
end_in-ending [] start included is = cc
end_in-ending (v ∷ []) start included (inl is) =
    ap (λ (w : Value). end_in (value w no_values)) is.0
    ∙ ap (option_and_then (λ (s : StartType). included_in s no_values)) (start_of-start_word start)
    ∙ cc
end_in-ending (v ∷ []) start None (inr is) = absurd is.1
end_in-ending (v ∷ []) start (Some names) (inr is) =
    ap (λ (w : Value). end_in (value w no_values)) is.1.0
    ∙ included_in-list Permanent (list_of (map atom names)) (Some names) (refl, is.1.1)
    ∙ cc
end_in-ending (v ∷ w ∷ []) start included is =
    ap (λ (u : Value). end_in (value u (value w no_values))) is.0
    ∙ ap (option_and_then (λ (s : StartType). included_in s (value w no_values))) (start_of-start_word start)
    ∙ included_in-list start w included is.1
end_in-ending (v ∷ w ∷ x ∷ vs) start included is = absurd is

pub from_end : (vs : Values) (e : End) → end_in vs ≡ Some e → (parts : List Value) × (vs ≡ values_of parts) × IsEnding parts e.start e.included
from_end no_values e is = none (from_included Permanent no_values e is)
  where
    none : IsIncluded Permanent no_values e → (parts : List Value) × (no_values ≡ values_of parts) × IsEnding parts e.start e.included
    none (inl h) = ([], refl, (sym h.1, h.2))
    none (inr h) = absurd cc
from_end (value (atom w) vs) e is =
    let first = chained (λ (s : StartType). included_in s vs) (start_of w) e is in
    typed first.0 (from_start w first.0 first.1) (from_included first.0 vs e first.2)
  where
    typed : (s : StartType) → w ≡ start_word s → IsIncluded s vs e → (parts : List Value) × (value (atom w) vs ≡ values_of parts) × IsEnding parts e.start e.included
    typed s word (inl h) = (atom w ∷ [], ap (value (atom w)) h.0, inl (ap atom (word ∙ ap start_word h.1), h.2))
    typed s word (inr h) = (atom w ∷ h.0 ∷ [], ap (value (atom w)) h.1, (ap atom (word ∙ ap start_word h.2), h.3))
from_end (value v vs) e is = untyped (from_included Permanent (value v vs) e is)
  where
    untyped : IsIncluded Permanent (value v vs) e → (parts : List Value) × (value v vs ≡ values_of parts) × IsEnding parts e.start e.included
    untyped (inl h) = absurd cc
    untyped (inr h) = (h.0 ∷ [], h.1, inr (sym h.2, h.3))
