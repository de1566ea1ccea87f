-- Entries, both ways, and the first that is none.
use Rattle.std.proofs.Common.{◌≡◌, ℕ, ◌+◌, suc, List, [], ◌∷◌, ◌++◌, length, Option, Some, None, Result, Ok, Err, refl, sym, ap, subst, ◌∙◌, arith}
use Rattle.std.specs.Option.{option_map, option_and_then}
use Rattle.erl_term.specs.Value.{Value, Values, values_of}
use Rattle.erl_term.specs.Value.Value.{list}
use Rattle.rel_files.specs.Parts.{list_in, triple_in}
use Rattle.rel_files.proofs.Options.{mapped, chained}
use Rattle.rel_files.specs.Sketch.{version_in}
use Rattle.rel_files.specs.Terms.{triple_term}
use Rattle.relup_instruction.specs.Instruction.{Instruction}
use Rattle.relup_instruction.specs.Parts.{script_in}
use Rattle.rel_files.proofs.TermParts.{from_list, from_triple, version_in-text, from_version}
use Rattle.relup_instruction.proofs.InstructionLemmas.{script_in-terms, from_script}
use Rattle.relup_file.specs.Relup.{EntryForm}
use Rattle.relup_file.specs.Form.{IsEntryTerm, AreEntryTerms}
use Rattle.relup_file.specs.Parts.{entry_in, put_entry, entries_in}

abbrev entered : Value → List ℕ → List Instruction → EntryForm
entered descr vsn script = record { vsn = vsn; descr = descr; script = script }

pub entry_in-term : (v : Value) (e : EntryForm) → IsEntryTerm v e → entry_in v ≡ Some e
entry_in-term v e h =
    ap entry_in h.is
    ∙ ap (option_and_then (λ (vsn : List ℕ). option_map (entered e.descr vsn) (script_in (values_of h.instrs)))) (version_in-text e.vsn h.vsn)
    ∙ ap (option_map (entered e.descr e.vsn)) (script_in-terms h.instrs e.script h.script)

pub from_entry : (v : Value) (e : EntryForm) → entry_in v ≡ Some e → IsEntryTerm v e
from_entry v e is =
    let t = chained (λ (t : Value × Value × Value). option_and_then (λ (vsn : List ℕ). option_and_then (λ (vs : Values). option_map (entered t.1 vsn) (script_in vs)) (list_in t.2)) (version_in t.0)) (triple_in v) e is in
    let vsn = chained (λ (vsn : List ℕ). option_and_then (λ (vs : Values). option_map (entered t.0.1 vsn) (script_in vs)) (list_in t.0.2)) (version_in t.0.0) e t.2 in
    let instrs = chained (λ (vs : Values). option_map (entered t.0.1 vsn.0) (script_in vs)) (list_in t.0.2) e vsn.2 in
    let script = mapped (entered t.0.1 vsn.0) (script_in instrs.0) e instrs.2 in
    let a = from_version t.0.0 vsn.0 vsn.1 in
    let ws = from_script instrs.0 script.0 script.1 in
    let b = from_list t.0.2 instrs.0 instrs.1 ∙ ap list ws.1 in
    let read : IsEntryTerm v (entered t.0.1 vsn.0 script.0) =
    record { instrs = ws.0; is = from_triple v t.0 t.1 ∙ (λ j. triple_term (a.0 j) t.0.1 (b j)); vsn = a.1; script = ws.2 } in
    subst (IsEntryTerm v) script.2 read

pub entries_in-terms : (n : ℕ) (vs : List Value) (es : List EntryForm) → AreEntryTerms vs es → entries_in n (values_of vs) ≡ Ok es
entries_in-terms n [] [] h = refl
entries_in-terms n (v ∷ vs) (e ∷ es) h = λ j. put_entry (n + 1) (entry_in-term v e h.0 j) (entries_in-terms (n + 1) vs es h.1 j)
entries_in-terms n vs es h = absurd h

pub from_entries : (n : ℕ) (vs : List Value) (es : List EntryForm) → entries_in n (values_of vs) ≡ Ok es → AreEntryTerms vs es
from_entries n [] es is = let same : [] ≡ es = cc in subst (AreEntryTerms []) same tt
from_entries n (v ∷ vs) es is = go (from_entries (n + 1) vs) (entry_in v) (entries_in (n + 1) (values_of vs)) refl refl is
  where
    go : ((later : List EntryForm) → entries_in (n + 1) (values_of vs) ≡ Ok later → AreEntryTerms vs later)
        → (o : Option EntryForm) (r : Result (List EntryForm) ℕ) → entry_in v ≡ o → entries_in (n + 1) (values_of vs) ≡ r
        → put_entry (n + 1) o r ≡ Ok es → AreEntryTerms (v ∷ vs) es
    go more None r a b q = absurd cc
    go more (Some e) (Err k) a b q = absurd cc
    go more (Some e) (Ok later) a b q = let same : e ∷ later ≡ es = cc in subst (AreEntryTerms (v ∷ vs)) same (from_entry v e a, more later b)

-- The first of these values that is no entry has this number, after so many.
pub record IsFirstBad (n : ℕ) (vs : List Value) (k : ℕ) : Type 0 where
  pub front : List Value
  pub bad : Value
  pub rest : List Value
  pub is : vs ≡ front ++ (bad ∷ rest)
  pub entries : List EntryForm
  pub good : AreEntryTerms front entries
  pub none : (e : EntryForm) → IsEntryTerm bad e → ⊥
  pub number : k ≡ n + (length front + 1)

pub from_bad : (n : ℕ) (vs : List Value) (k : ℕ) → entries_in n (values_of vs) ≡ Err k → IsFirstBad n vs k
from_bad n [] k is = absurd cc
from_bad n (v ∷ vs) k is = go (from_bad (n + 1) vs) (entry_in v) (entries_in (n + 1) (values_of vs)) refl refl is
  where
    go : ((m : ℕ) → entries_in (n + 1) (values_of vs) ≡ Err m → IsFirstBad (n + 1) vs m)
        → (o : Option EntryForm) (r : Result (List EntryForm) ℕ) → entry_in v ≡ o → entries_in (n + 1) (values_of vs) ≡ r
        → put_entry (n + 1) o r ≡ Err k → IsFirstBad n (v ∷ vs) k
    go more None r a b q =
        let same : n + 1 ≡ k = cc in
        record {
          front = [];
          bad = v;
          rest = vs;
          is = refl;
          entries = [];
          good = tt;
          none = λ e h. let some = entry_in-term v e h in absurd cc;
          number = sym same;
        }
    go more (Some e) (Ok later) a b q = absurd cc
    go more (Some e) (Err m) a b q =
        let same : m ≡ k = cc in
        let there = more m b in
        let number : k ≡ n + 1 + (length there.front + 1) = sym same ∙ there.number in
        record {
          front = v ∷ there.front;
          bad = there.bad;
          rest = there.rest;
          is = ap (λ (ws : List Value). v ∷ ws) there.is;
          entries = e ∷ there.entries;
          good = (from_entry v e a, there.good);
          none = there.none;
          number = omega (arith, number);
        }

none_in : (v : Value) → ((e : EntryForm) → IsEntryTerm v e → ⊥) → entry_in v ≡ None
none_in v none = go (entry_in v) refl
  where
    go : (o : Option EntryForm) → entry_in v ≡ o → entry_in v ≡ None
    go None is = is
    go (Some e) is = absurd (none e (from_entry v e is))

bad_in : (n : ℕ) (front : List Value) (es : List EntryForm) (bad : Value) (rest : List Value) → AreEntryTerms front es → ((e : EntryForm) → IsEntryTerm bad e → ⊥)
    → entries_in n (values_of (front ++ (bad ∷ rest))) ≡ Err (n + (length front + 1))
bad_in n [] [] bad rest good none = ap (λ (o : Option EntryForm). put_entry (n + 1) o (entries_in (n + 1) (values_of rest))) (none_in bad none)
bad_in n (v ∷ front) (e ∷ es) bad rest good none =
    let number : n + 1 + (length front + 1) ≡ n + (suc (length front) + 1) = omega arith in
    (λ j. put_entry (n + 1) (entry_in-term v e good.0 j) (bad_in (n + 1) front es bad rest good.1 none j)) ∙ ap Err number
bad_in n front es bad rest good none = absurd good

pub entries_in-bad : (n : ℕ) (vs : List Value) (k : ℕ) → IsFirstBad n vs k → entries_in n (values_of vs) ≡ Err k
entries_in-bad n vs k h =
    ap (λ (ws : List Value). entries_in n (values_of ws)) h.is
    ∙ (bad_in n h.front h.entries h.bad h.rest h.good h.none ∙ ap Err (sym h.number))
