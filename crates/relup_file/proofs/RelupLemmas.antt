-- Relups, both ways: what is read of a term is what it says, or its fault.
use Rattle.std.proofs.Common.{◌≡◌, ◌≢◌, ℕ, ◌+◌, suc, List, [], ◌∷◌, ◌++◌, length, map, Option, Some, None, Result, Ok, Err, IfOk, IfErr, MatchResult, inl, inr, refl, sym, ap, subst, ◌∙◌, arith}
use Rattle.std.specs.List.{AllByRecursion}
use Rattle.std.specs.Option.{option_map, option_and_then}
use Rattle.erl_term.specs.Value.{Value, Values, values_of}
use Rattle.erl_term.specs.Value.Value.{list}
use Rattle.rel_files.specs.Parts.{list_in, triple_in}
use Rattle.rel_files.specs.Sketch.{count, version_in}
use Rattle.rel_files.proofs.Options.{mapped, chained}
use Rattle.rel_files.specs.Terms.{triple_term}
use Rattle.relup_instruction.specs.Instruction.{Instruction}
use Rattle.relup_instruction.specs.Form.{instruction_term, SpellsScript}
use Rattle.rel_files.proofs.TermParts.{from_list, from_triple, version_in-text, from_version}
use Rattle.relup_instruction.proofs.InstructionLemmas.{list_of_values}
use Rattle.relup_file.specs.declared.fault.RelupFault.{RelupFault}
use Rattle.relup_file.specs.declared.fault.RelupFault.TheVariants.{BadTerm, BadShape, NoMemory}
use Rattle.relup_file.specs.declared.relup.Relup.{Relup}
use Rattle.relup_file.specs.Relup.{EntryForm, RelupForm, relup_of}
use Rattle.relup_file.specs.Form.{entry_term, relup_term, IsEntryTerm, AreEntryTerms, IsOuter, IsRelupTerm, IsScript, IsEntry, IsRelup}
use Rattle.relup_file.specs.Parts.{entry_in, put_entry, entries_in, Outer, outer_in, join, from_outer, relup_in, ReportsBad}
use Rattle.relup_file.specs.File.{HasBadEntry, HasTermFault, IsTermFault}
use Rattle.relup_file.proofs.EntryLemmas.{entries_in-terms, from_entries, IsFirstBad, from_bad, entries_in-bad}

abbrev pub lined : List ℕ → Values → Values → Outer
lined vsn ups downs = record { vsn = vsn; ups = ups; downs = downs }

pub outer_in-term : (v : Value) (vsn : List ℕ) (ups downs : List Value) → IsOuter v vsn ups downs → outer_in v ≡ Some (lined vsn (values_of ups) (values_of downs))
outer_in-term v vsn ups downs h =
    ap outer_in h.is ∙ ap (option_and_then (λ (s : List ℕ). Some (lined s (values_of ups) (values_of downs)))) (version_in-text vsn h.version)

-- the lists of an outer shape
pub record HasLists (v : Value) (o : Outer) : Type 0 where
  pub ups : List Value
  pub downs : List Value
  pub ups_are : o.ups ≡ values_of ups
  pub downs_are : o.downs ≡ values_of downs
  pub outer : IsOuter v o.vsn ups downs

pub from_outer_in : (v : Value) (o : Outer) → outer_in v ≡ Some o → HasLists v o
from_outer_in v o e =
    let t = chained (λ (t : Value × Value × Value). option_and_then (λ (vsn : List ℕ). option_and_then (λ (ups : Values). option_map (lined vsn ups) (list_in t.2)) (list_in t.1)) (version_in t.0)) (triple_in v) o e in
    let vsn = chained (λ (vsn : List ℕ). option_and_then (λ (ups : Values). option_map (lined vsn ups) (list_in t.0.2)) (list_in t.0.1)) (version_in t.0.0) o t.2 in
    let ups = chained (λ (ups : Values). option_map (lined vsn.0 ups) (list_in t.0.2)) (list_in t.0.1) o vsn.2 in
    let downs = mapped (lined vsn.0 ups.0) (list_in t.0.2) o ups.2 in
    let a = from_version t.0.0 vsn.0 vsn.1 in
    let us = list_of_values ups.0 in
    let ds = list_of_values downs.0 in
    let b = from_list t.0.1 ups.0 ups.1 ∙ ap list us.1 in
    let d = from_list t.0.2 downs.0 downs.1 ∙ ap list ds.1 in
    let has : HasLists v (lined vsn.0 ups.0 downs.0) = record {
      ups = us.0;
      downs = ds.0;
      ups_are = us.1;
      downs_are = ds.1;
      outer = record { is = from_triple v t.0 t.1 ∙ (λ j. triple_term (a.0 j) (b j) (d j)); version = a.1 };
    } in
    subst (HasLists v) downs.2 has

count-values_of : (vs : List Value) → count (values_of vs) ≡ length vs
count-values_of [] = refl
count-values_of (v ∷ vs) = ap suc (count-values_of vs)

-- a relup's term is read as that relup
pub relup_in-term : (v : Value) (r : RelupForm) → IsRelupTerm v r → relup_in v ≡ Ok r
relup_in-term v r h =
    ap from_outer (outer_in-term v r.vsn h.ups h.downs h.outer)
    ∙ (λ j. join r.vsn (entries_in-terms 0 h.ups r.ups h.each_up j) (entries_in-terms (count (values_of h.ups)) h.downs r.downs h.each_down j))

pub from_relup : (v : Value) (r : RelupForm) → relup_in v ≡ Ok r → IsRelupTerm v r
from_relup v r e = go (outer_in v) refl e
  where
    both : (o : Outer) → HasLists v o → (us ds : Result (List EntryForm) ℕ) → entries_in 0 o.ups ≡ us → entries_in (count o.ups) o.downs ≡ ds
        → join o.vsn us ds ≡ Ok r → IsRelupTerm v r
    both o h (Ok us) (Ok ds) a b q =
        let made : RelupForm = record { vsn = o.vsn; ups = us; downs = ds } in
        let same : made ≡ r = cc in
        let is : IsRelupTerm v made = record {
          ups = h.ups;
          downs = h.downs;
          outer = h.outer;
          each_up = from_entries 0 h.ups us (ap (entries_in 0) (sym h.ups_are) ∙ a);
          each_down = from_entries (count o.ups) h.downs ds (ap (entries_in (count o.ups)) (sym h.downs_are) ∙ b);
        } in
        subst (IsRelupTerm v) same is
    both o h (Ok us) (Err k) a b q = absurd cc
    both o h (Err k) ds a b q = absurd cc

    go : (o : Option Outer) → outer_in v ≡ o → from_outer o ≡ Ok r → IsRelupTerm v r
    go None is q = absurd cc
    go (Some o) is q = both o (from_outer_in v o is) (entries_in 0 o.ups) (entries_in (count o.ups) o.downs) refl refl q

-- all entries of both lists
abbrev merge : Result (List EntryForm) ℕ → Result (List EntryForm) ℕ → Result (List EntryForm) ℕ
merge (Ok us) (Ok ds) = Ok (us ++ ds)
merge (Ok us) (Err k) = Err k
merge (Err k) ds = Err k

merge-nothing : (d : Result (List EntryForm) ℕ) → merge (Ok []) d ≡ d
merge-nothing (Ok ds) = refl
merge-nothing (Err k) = refl

put_entry-merge : (n : ℕ) (o : Option EntryForm) (u d : Result (List EntryForm) ℕ) → put_entry n o (merge u d) ≡ merge (put_entry n o u) d
put_entry-merge n None u d = refl
put_entry-merge n (Some e) (Ok us) (Ok ds) = refl
put_entry-merge n (Some e) (Ok us) (Err k) = refl
put_entry-merge n (Some e) (Err k) d = refl

entries_in-append : (n : ℕ) (us ds : List Value) → entries_in n (values_of (us ++ ds)) ≡ merge (entries_in n (values_of us)) (entries_in (n + length us) (values_of ds))
entries_in-append n [] ds =
    let same : n ≡ n + 0 = omega arith in
    ap (λ (m : ℕ). entries_in m (values_of ds)) same ∙ sym (merge-nothing (entries_in (n + 0) (values_of ds)))
entries_in-append n (v ∷ us) ds =
    let same : n + 1 + length us ≡ n + suc (length us) = omega arith in
    ap (put_entry (n + 1) (entry_in v)) (entries_in-append (n + 1) us ds)
    ∙ (put_entry-merge (n + 1) (entry_in v) (entries_in (n + 1) (values_of us)) (entries_in (n + 1 + length us) (values_of ds))
    ∙ ap (λ (m : ℕ). merge (put_entry (n + 1) (entry_in v) (entries_in (n + 1) (values_of us))) (entries_in m (values_of ds))) same)

joined_bad : (vsn : List ℕ) (u d : Result (List EntryForm) ℕ) (k : ℕ) → join vsn u d ≡ Err k → merge u d ≡ Err k
joined_bad vsn (Ok us) (Ok ds) k e = absurd cc
joined_bad vsn (Ok us) (Err m) k e = let same : m ≡ k = cc in ap Err same
joined_bad vsn (Err m) d k e = let same : m ≡ k = cc in ap Err same

bad_joined : (vsn : List ℕ) (u d : Result (List EntryForm) ℕ) (k : ℕ) → merge u d ≡ Err k → join vsn u d ≡ Err k
bad_joined vsn (Ok us) (Ok ds) k e = absurd cc
bad_joined vsn (Ok us) (Err m) k e = let same : m ≡ k = cc in ap Err same
bad_joined vsn (Err m) d k e = let same : m ≡ k = cc in ap Err same

-- the entries of both lists of an outer shape
rows : (ups downs : List Value) → entries_in 0 (values_of (ups ++ downs)) ≡ merge (entries_in 0 (values_of ups)) (entries_in (count (values_of ups)) (values_of downs))
rows ups downs =
    let same : 0 + length ups ≡ count (values_of ups) = omega (arith, count-values_of ups) in
    entries_in-append 0 ups downs ∙ ap (λ (m : ℕ). merge (entries_in 0 (values_of ups)) (entries_in m (values_of downs))) same

-- what is reported of a term is its fault
pub from_fault : (v : Value) (n : ℕ) → relup_in v ≡ Err n → HasTermFault v n
from_fault v n e = go (outer_in v) refl e
  where
    bad : (o : Outer) → HasLists v o → from_outer (Some o) ≡ Err n → HasBadEntry v n
    bad o h q =
        let lists : from_outer (Some o) ≡ join o.vsn (entries_in 0 (values_of h.ups)) (entries_in (count (values_of h.ups)) (values_of h.downs)) =
        (λ j. join o.vsn (entries_in 0 (h.ups_are j)) (entries_in (count (h.ups_are j)) (h.downs_are j))) in
        let there = from_bad 0 (h.ups ++ h.downs) n (rows h.ups h.downs
        ∙ joined_bad o.vsn (entries_in 0 (values_of h.ups)) (entries_in (count (values_of h.ups)) (values_of h.downs)) n (sym lists ∙ q)) in
        let number : n ≡ 0 + (length there.front + 1) = there.number in
        record {
          vsn = o.vsn;
          ups = h.ups;
          downs = h.downs;
          outer = h.outer;
          front = there.front;
          bad = there.bad;
          rest = there.rest;
          is = there.is;
          entries = there.entries;
          good = there.good;
          none = there.none;
          number = omega (arith, number);
        }

    go : (o : Option Outer) → outer_in v ≡ o → from_outer o ≡ Err n → HasTermFault v n
    go None is q =
        let zero_is : 0 ≡ n = cc in
        inl (sym zero_is, λ vsn ups downs h. let some = outer_in-term v vsn ups downs h in absurd cc)
    go (Some o) is q = inr (bad o (from_outer_in v o is) q)

pub relup_in-fault : (v : Value) (n : ℕ) → HasTermFault v n → relup_in v ≡ Err n
relup_in-fault v n (inl (zero_is, none)) = go (outer_in v) refl
  where
    go : (o : Option Outer) → outer_in v ≡ o → relup_in v ≡ Err n
    go None is = ap from_outer is ∙ ap Err (sym zero_is)
    go (Some o) is = let h = from_outer_in v o is in absurd (none o.vsn h.ups h.downs h.outer)
relup_in-fault v n (inr h) =
    let number : n ≡ 0 + (length h.front + 1) = omega (arith, h.number) in
    let first : IsFirstBad 0 (h.ups ++ h.downs) n =
    record { front = h.front; bad = h.bad; rest = h.rest; is = h.is; entries = h.entries; good = h.good; none = h.none; number = number } in
    ap from_outer (outer_in-term v h.vsn h.ups h.downs h.outer)
    ∙ bad_joined h.vsn (entries_in 0 (values_of h.ups)) (entries_in (count (values_of h.ups)) (values_of h.downs)) n
    (sym (rows h.ups h.downs) ∙ entries_in-bad 0 (h.ups ++ h.downs) n first)

-- What a term says has names, versions and scripts.
is_script : (vs : List Value) (is' : List Instruction) → SpellsScript vs is' → IsScript is'
is_script [] is' h = subst IsScript (sym h) (tt, tt)
is_script (v ∷ vs) [] h = let none = h.0 in absurd cc
is_script (v ∷ vs) (i ∷ is') h = h.1

are_entries : (vs : List Value) (es : List EntryForm) → AreEntryTerms vs es → AllByRecursion IsEntry es
are_entries [] [] h = tt
are_entries (v ∷ vs) (e ∷ es) h = let first : IsEntryTerm v e = h.0 in ((first.vsn, is_script first.instrs e.script first.script), are_entries vs es h.1)
are_entries vs es h = absurd h

pub is_relup : (v : Value) (r : RelupForm) → IsRelupTerm v r → IsRelup r
is_relup v r h = record { version = h.outer.version; ups = are_entries h.ups r.ups h.each_up; downs = are_entries h.downs r.downs h.each_down }

-- What has names, versions and scripts is said by its term.
spells : (is' : List Instruction) → IsScript is' → SpellsScript (map instruction_term is') is'
spells [] h = absurd h
spells (i ∷ is') h = (refl, h)

entry_terms : (es : List EntryForm) → AllByRecursion IsEntry es → AreEntryTerms (map entry_term es) es
entry_terms [] h = tt
entry_terms (e ∷ es) h =
    let first : IsEntryTerm (entry_term e) e = record { instrs = map instruction_term e.script; is = refl; vsn = h.0.0; script = spells e.script h.0.1 } in
    (first, entry_terms es h.1)

pub is_said : (r : RelupForm) → IsRelup r → IsRelupTerm (relup_term r) r
is_said r h = record {
  ups = map entry_term r.ups;
  downs = map entry_term r.downs;
  outer = record { is = refl; version = h.version };
  each_up = entry_terms r.ups h.ups;
  each_down = entry_terms r.downs h.downs;
}

abbrev Answers : Value → Result Relup RelupFault → Type 0
Answers v result = MatchResult result (λ r. relup_in v ≡ Ok (relup_of r)) (ReportsBad (relup_in v))

-- The clauses of a function that answers so.
pub says : (v : Value) (result : Result Relup RelupFault) → Answers v result → IfOk result (λ r. IsRelupTerm v (relup_of r))
says v (Ok r) h = from_relup v (relup_of r) h
says v (Err f) h = tt

pub fits : (v : Value) (result : Result Relup RelupFault) → Answers v result → IfOk result (λ r. IsRelup (relup_of r))
fits v (Ok r) h = is_relup v (relup_of r) (from_relup v (relup_of r) h)
fits v (Err f) h = tt

memory_alone : (o : Result RelupForm ℕ) (r : RelupForm) (f : RelupFault) → o ≡ Ok r → ReportsBad o f → f ≡ NoMemory
memory_alone o r (BadTerm e) is h = absurd h
memory_alone (Ok s) r (BadShape n) is h = absurd h
memory_alone (Err k) r (BadShape n) is h = absurd cc
memory_alone o r NoMemory is h = refl

pub only : (v : Value) (result : Result Relup RelupFault) → Answers v result → (r : RelupForm) → IsRelupTerm v r
    → MatchResult result (λ relup. relup_of relup ≡ r) (λ f. f ≡ NoMemory)
only v (Ok x) h r is = let same : Ok (relup_of x) ≡ Ok r = sym h ∙ relup_in-term v r is in cc
only v (Err f) h r is = memory_alone (relup_in v) r f (relup_in-term v r is) h

reported : (v : Value) (o : Result RelupForm ℕ) (f : RelupFault) → relup_in v ≡ o → ReportsBad o f → f ≢ NoMemory → IsTermFault v f
reported v o (BadTerm e) is h other = absurd h
reported v (Ok r) (BadShape n) is h other = absurd h
reported v (Err k) (BadShape n) is h other = from_fault v n (is ∙ ap Err (sym h))
reported v o NoMemory is h other = absurd (other refl)

pub fault : (v : Value) (result : Result Relup RelupFault) → Answers v result → IfErr result (λ f. f ≢ NoMemory → IsTermFault v f)
fault v (Ok r) h = tt
fault v (Err f) h = reported v (relup_in v) f refl h
