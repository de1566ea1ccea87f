-- Tables in the places of their modules, and the row of those that are there.
use Rattle.std.proofs.Common.{◌≡◌, ◌⊎◌, inl, inr, ℕ, suc, ◌++◌, List, [], ◌∷◌, map, Bool, true, false, if◌then◌else◌, Option, None, Some, Contains, refl, sym, ap, subst, ◌∙◌, append_assoc, arith}
use Rattle.std.specs.Option.{option_map}
use Rattle.std.specs.Str.{bytes_eq}
use Rattle.std.specs.List.{AllByRecursion}
use Rattle.std.proofs.lemmas.List.{append-nil}
use Rattle.std.proofs.lemmas.Slice.Eq.{bytes_eq-Decides}
use Rattle.erl_term.specs.Value.{Value, Values, values_of}
use Rattle.rel_files.specs.Name.{AreDistinct}
use Rattle.rel_files.proofs.Options.{mapped}
use Rattle.mod_table.specs.File.{IsTableTerm, name_of}
use Rattle.library.specs.Library.{TableTerm, HaveTables, tables_there}
use Rattle.library.specs.Reading.{AreTables, taken, placed}

listed_more : (n m : List ℕ) (ms : List (List ℕ)) → Contains ms m → Contains (n ∷ ms) m
listed_more n m ms p = (suc p.0, omega (arith, p.1), p.2)

listed_first : (n m : List ℕ) (ms : List (List ℕ)) → n ≡ m → Contains (n ∷ ms) m
listed_first n m ms e = (0, omega arith, e)

-- the next table is that of the module, or it isn't
abbrev pub Taken : List ℕ → TableTerm → List TableTerm → Type 0
Taken m t ts = ((name_of t.table ≡ m) × (taken m (t ∷ ts) ≡ (Some t, ts))) ⊎ (((name_of t.table ≡ m) → ⊥) × (taken m (t ∷ ts) ≡ (None, t ∷ ts)))

takes : (m : List ℕ) (t : TableTerm) (ts : List TableTerm) → Taken m t ts
takes m t ts = by (bytes_eq (name_of t.table) m) refl
  where
    by : (b : Bool) → bytes_eq (name_of t.table) m ≡ b → Taken m t ts
    by true e = inl ((bytes_eq-Decides (name_of t.table) m).0 e, ap (λ (c : Bool). if c then (Some t, ts) else (None, t ∷ ts)) e)
    by false e =
        let other : (name_of t.table ≡ m) → ⊥ = λ same. let yes : bytes_eq (name_of t.table) m ≡ true = (bytes_eq-Decides (name_of t.table) m).1 same in absurd cc in
        inr (other, ap (λ (c : Bool). if c then (Some t, ts) else (None, t ∷ ts)) e)

-- the next table isn't that of a module that stands before those of the tables
takes_none : (m : List ℕ) (ms : List (List ℕ)) (ts : List (Option TableTerm)) → (Contains ms m → ⊥) → HaveTables ms ts → taken m (tables_there ts) ≡ (None, tables_there ts)
takes_none m [] [] other has = refl
takes_none m [] (t ∷ ts) other has = absurd has
takes_none m (n ∷ ms) [] other has = absurd has
takes_none m (n ∷ ms) (None ∷ ts) other has = takes_none m ms ts (λ p. other (listed_more n m ms p)) has
takes_none m (n ∷ ms) (Some t ∷ ts) other has = by (takes m t (tables_there ts))
  where
    by : Taken m t (tables_there ts) → taken m (t ∷ tables_there ts) ≡ (None, t ∷ tables_there ts)
    by (inl is) = absurd (other (listed_first n m ms (sym has.1 ∙ is.0)))
    by (inr is) = is.1

-- what is placed from after a taken table
abbrev pub behind : List (List ℕ) → Option TableTerm × List TableTerm → Option (List (Option TableTerm))
behind ms p = option_map (λ (us : List (Option TableTerm)). p.0 ∷ us) (placed ms p.1)

-- tables are placed where they were
pub placed_there : (ms : List (List ℕ)) (ts : List (Option TableTerm)) → AreDistinct ms → HaveTables ms ts → placed ms (tables_there ts) ≡ Some ts
placed_there [] [] distinct has = refl
placed_there [] (t ∷ ts) distinct has = absurd has
placed_there (m ∷ ms) [] distinct has = absurd has
placed_there (m ∷ ms) (None ∷ ts) distinct has =
    ap (behind ms) (takes_none m ms ts distinct.0 has) ∙ ap (option_map (λ (us : List (Option TableTerm)). None ∷ us)) (placed_there ms ts distinct.1 has)
placed_there (m ∷ ms) (Some t ∷ ts) distinct has = by (placed_there ms ts distinct.1 has.2) (takes m t (tables_there ts))
  where
    by : placed ms (tables_there ts) ≡ Some ts → Taken m t (tables_there ts) → placed (m ∷ ms) (t ∷ tables_there ts) ≡ Some (Some t ∷ ts)
    by later (inl is) = ap (behind ms) is.1 ∙ ap (option_map (λ (us : List (Option TableTerm)). Some t ∷ us)) later
    by later (inr is) = absurd (is.0 has.1)

-- each of them is what its term says
abbrev pub AreTrue : List TableTerm → Type 0
AreTrue ts = AllByRecursion (λ (t : TableTerm). IsTableTerm t.term t.table) ts

pub are_true : (vs : Values) (ts : List TableTerm) → AreTables vs ts → AreTrue ts
are_true Values.no_values [] a = tt
are_true Values.no_values (t ∷ ts) a = absurd a
are_true (Values.value v vs) [] a = absurd a
are_true (Values.value v vs) (t ∷ ts) a = (subst (λ (w : Value). IsTableTerm w t.table) (sym a.0.0) a.0.1, are_true vs ts a.1)

-- what is placed are the tables of the modules, and all of them
abbrev pub IsPlaced : List (List ℕ) → List (Option TableTerm) → List TableTerm → Type 0
IsPlaced ms ts us = HaveTables ms ts × (tables_there ts ≡ us)

pub placed_says : (ms : List (List ℕ)) (us : List TableTerm) (ts : List (Option TableTerm)) → AreTrue us → placed ms us ≡ Some ts → IsPlaced ms ts us
placed_says [] [] ts true_ e = let same : [] ≡ ts = cc in subst (λ (l : List (Option TableTerm)). IsPlaced [] l []) same (tt, refl)
placed_says [] (u ∷ us) ts true_ e = absurd cc
placed_says (m ∷ ms) [] ts true_ e =
    let (rest, found, same) = mapped (λ (vs : List (Option TableTerm)). None ∷ vs) (placed ms []) ts e in
    subst (λ (l : List (Option TableTerm)). IsPlaced (m ∷ ms) l []) same (placed_says ms [] rest tt found)
placed_says (m ∷ ms) (u ∷ us) ts true_ e =
    by (λ (rest : List (Option TableTerm)) (found : placed ms us ≡ Some rest). placed_says ms us rest true_.1 found)
    (λ (rest : List (Option TableTerm)) (found : placed ms (u ∷ us) ≡ Some rest). placed_says ms (u ∷ us) rest true_ found) (takes m u us)
  where
    by : ((rest : List (Option TableTerm)) → placed ms us ≡ Some rest → IsPlaced ms rest us)
        → ((rest : List (Option TableTerm)) → placed ms (u ∷ us) ≡ Some rest → IsPlaced ms rest (u ∷ us)) → Taken m u us → IsPlaced (m ∷ ms) ts (u ∷ us)
    by fewer all (inl is) =
        let (rest, found, same) = mapped (λ (vs : List (Option TableTerm)). Some u ∷ vs) (placed ms us) ts (sym (ap (behind ms) is.1) ∙ e) in
        let later : IsPlaced ms rest us = fewer rest found in
        subst (λ (l : List (Option TableTerm)). IsPlaced (m ∷ ms) l (u ∷ us)) same ((true_.0, is.0, later.0), ap (λ (l : List TableTerm). u ∷ l) later.1)
    by fewer all (inr is) =
        let (rest, found, same) = mapped (λ (vs : List (Option TableTerm)). None ∷ vs) (placed ms (u ∷ us)) ts (sym (ap (behind ms) is.1) ∙ e) in
        let later : IsPlaced ms rest (u ∷ us) = all rest found in
        subst (λ (l : List (Option TableTerm)). IsPlaced (m ∷ ms) l (u ∷ us)) same later

-- the row of a library's tables
pub there_are : (ms : List (List ℕ)) (ts : List (Option TableTerm)) → HaveTables ms ts → AreTables (values_of (map (λ (t : TableTerm). t.term) (tables_there ts))) (tables_there ts)
there_are [] [] has = tt
there_are [] (t ∷ ts) has = absurd has
there_are (m ∷ ms) [] has = absurd has
there_are (m ∷ ms) (None ∷ ts) has = there_are ms ts has
there_are (m ∷ ms) (Some t ∷ ts) has = ((refl, has.0), there_are ms ts has.2)

-- one table more is placed
pub placed_more : (done : List (Option TableTerm)) (o : Option TableTerm) (r : Option (List (Option TableTerm)))
    → option_map (λ rest. (done ++ o ∷ []) ++ rest) r ≡ option_map (λ rest. done ++ rest) (option_map (λ rest. o ∷ rest) r)
placed_more done o None = refl
placed_more done o (Some rest) = ap Some (append_assoc done (o ∷ []) rest)

pub placed_on : (ms : List (List ℕ)) (m : List ℕ) (later : List (List ℕ)) (old new : List (Option TableTerm)) (o : Option TableTerm) (ts us : List TableTerm) (whole : Option (List (Option TableTerm)))
    → ms ≡ m ∷ later → (o, us) ≡ taken m ts → new ≡ old ++ o ∷ [] → option_map (λ rest. old ++ rest) (placed ms ts) ≡ whole → option_map (λ rest. new ++ rest) (placed later us) ≡ whole
placed_on ms m later old new o ts us whole split takes_ grown so_far =
    ap (λ (front : List (Option TableTerm)). option_map (λ (rest : List (Option TableTerm)). front ++ rest) (placed later us)) grown
    ∙ (placed_more old o (placed later us)
    ∙ (ap (λ (p : Option TableTerm × List TableTerm). option_map (λ (rest : List (Option TableTerm)). old ++ rest) (behind later p)) takes_
    ∙ (ap (λ (ns : List (List ℕ)). option_map (λ (rest : List (Option TableTerm)). old ++ rest) (placed ns ts)) (sym split) ∙ so_far)))

added_to_none : (r : Option (List (Option TableTerm))) → option_map (λ rest. [] ++ rest) r ≡ r
added_to_none None = refl
added_to_none (Some rest) = refl

-- before the first is placed
pub placed_first : (ms : List (List ℕ)) (done : List (Option TableTerm)) (ts : List TableTerm) → done ≡ [] → option_map (λ rest. done ++ rest) (placed ms ts) ≡ placed ms ts
placed_first ms done ts none =
    ap (λ (front : List (Option TableTerm)). option_map (λ (rest : List (Option TableTerm)). front ++ rest) (placed ms ts)) none ∙ added_to_none (placed ms ts)

-- each module has its place, and no table is left
pub placed_all : (ms : List (List ℕ)) (done : List (Option TableTerm)) (ts : List TableTerm) (whole : Option (List (Option TableTerm)))
    → ms ≡ [] → ts ≡ [] → option_map (λ rest. done ++ rest) (placed ms ts) ≡ whole → Some done ≡ whole
placed_all ms done ts whole ended none so_far =
    ap Some (sym (append-nil done)) ∙ ((λ j. option_map (λ (rest : List (Option TableTerm)). done ++ rest) (placed (sym ended j) (sym none j))) ∙ so_far)
