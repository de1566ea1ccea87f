-- Terms one after another, of each of which something is read.
use Rattle.std.proofs.Common.{◌≡◌, ℕ, ◌+◌, ◌<◌, ◌≤◌, ◌++◌, Bool, true, List, [], ◌∷◌, length, map, take, drop, get_or, Option, Some, None, sym, ap, subst, ◌∙◌, append_assoc, refl}
use Rattle.std.specs.List.{AllByRecursion, list_all}
use Rattle.std.specs.Option.{option_map, option_and_then}
use Rattle.std.proofs.lemmas.List.{append-nil, drop_all, drop_more, map-append, take_all, take_more}
use Rattle.erl_term.specs.declared.term.Term.{Term}
use Rattle.erl_term.specs.Value.{Value, Values, value_of, values_of, members_of}
use Rattle.erl_term.specs.Value.Values.{no_values, value}
use Rattle.rel_files.proofs.Options.{mapped, chained, both}

-- what a row of values gives: what each of them gives, one after another, if each gives something
pub record ReadsEach {B : Type 0} (f : Value → Option B) (all : Values → Option (List B)) : Type 0 where
  pub none : all no_values ≡ Some []
  pub more : (v : Value) (vs : Values) → all (value v vs) ≡ option_and_then (λ (b : B). option_map (λ (bs : List B). b ∷ bs) (all vs)) (f v)

-- one more in front of what follows, or after what is there
pub joined : {B : Type 0} (front : List B) (y : B) (o : Option (List B))
    → option_map (λ rest. front ++ rest) (option_map (λ bs. y ∷ bs) o) ≡ option_map (λ rest. (front ++ y ∷ []) ++ rest) o
joined front y None = refl
joined front y (Some rest) = ap Some (sym (append_assoc front (y ∷ []) rest))

-- one step on
pub row_more : {B : Type 0} (f : Value → Option B) (all : Values → Option (List B)) (each : ReadsEach f all) (items : List Term) (i : ℕ) (item : Term)
    (old new : List B) (y : B) (whole : Option (List B)) → i < length items → item ≡ get_or items i item → Some y ≡ f (value_of item) → new ≡ old ++ y ∷ []
    → option_map (λ rest. old ++ rest) (all (members_of (drop i items))) ≡ whole
    → option_map (λ rest. new ++ rest) (all (members_of (drop (i + 1) items))) ≡ whole
row_more {B} f all each items i item old new y whole within at read grown so_far =
    let later : Values = members_of (drop (i + 1) items) in
    let split : drop i items ≡ item ∷ drop (i + 1) items = drop_more items i item within ∙ ap (λ (t : Term). t ∷ drop (i + 1) items) (sym at) in
    ap (λ (front : List B). option_map (λ (rest : List B). front ++ rest) (all later)) grown
    ∙ (sym (joined old y (all later))
    ∙ (ap (λ (o : Option B). option_map (λ (rest : List B). old ++ rest) (option_and_then (λ (b : B). option_map (λ (bs : List B). b ∷ bs) (all later)) o)) read
    ∙ (ap (option_map (λ (rest : List B). old ++ rest)) (sym (each.more (value_of item) later))
    ∙ (ap (λ (ts : List Term). option_map (λ (rest : List B). old ++ rest) (all (members_of ts))) (sym split) ∙ so_far))))

-- an item gives nothing
pub row_none : {B : Type 0} (f : Value → Option B) (all : Values → Option (List B)) (each : ReadsEach f all) (items : List Term) (i : ℕ) (item : Term)
    (read : List B) (whole : Option (List B)) → i < length items → item ≡ get_or items i item → None ≡ f (value_of item)
    → option_map (λ rest. read ++ rest) (all (members_of (drop i items))) ≡ whole → None ≡ whole
row_none {B} f all each items i item read whole within at none so_far =
    let later : Values = members_of (drop (i + 1) items) in
    let split : drop i items ≡ item ∷ drop (i + 1) items = drop_more items i item within ∙ ap (λ (t : Term). t ∷ drop (i + 1) items) (sym at) in
    ap (λ (o : Option B). option_map (λ (rest : List B). read ++ rest) (option_and_then (λ (b : B). option_map (λ (bs : List B). b ∷ bs) (all later)) o)) none
    ∙ (ap (option_map (λ (rest : List B). read ++ rest)) (sym (each.more (value_of item) later))
    ∙ (ap (λ (ts : List Term). option_map (λ (rest : List B). read ++ rest) (all (members_of ts))) (sym split) ∙ so_far))

-- no step is left
pub row_all : {B : Type 0} (f : Value → Option B) (all : Values → Option (List B)) (each : ReadsEach f all) (items : List Term) (i : ℕ) (read : List B)
    → length items ≤ i → option_map (λ rest. read ++ rest) (all (members_of (drop i items))) ≡ all (members_of items) → Some read ≡ all (members_of items)
row_all {B} f all each items i read past so_far =
    ap Some (sym (append-nil read))
    ∙ (ap (option_map (λ (rest : List B). read ++ rest)) (sym each.none)
    ∙ (ap (λ (ts : List Term). option_map (λ (rest : List B). read ++ rest) (all (members_of ts))) (sym (drop_all i items past)) ∙ so_far))

-- What is read of the terms of a row is that row, if each is what is read of its term.
pub each_read : {A : Type 0} (f : Value → Option A) (all : Values → Option (List A)) → ReadsEach f all → (g : A → Value) (P : A → Type 0)
    → ((a : A) → P a → f (g a) ≡ Some a) → (row : List A) → AllByRecursion P row → all (values_of (map g row)) ≡ Some row
each_read f all reads g P each [] h = reads.none
each_read {A} f all reads g P each (a ∷ row) h =
    reads.more (g a) (values_of (map g row))
    ∙ (λ j. option_and_then (λ (b : A). option_map (λ (bs : List A). b ∷ bs) (each_read f all reads g P each row h.1 j)) (each a h.0 j))

-- And it is read of these terms only, where each is read of its own only. valid: what of it is tested after the reading.
pub from_each_valid : {A : Type 0} (f : Value → Option A) (all : Values → Option (List A)) → ReadsEach f all → (g : A → Value) (valid : A → Bool)
    (P : A → Type 0) → ((v : Value) (a : A) → f v ≡ Some a → valid a ≡ true → (v ≡ g a) × P a)
    → (vs : Values) (row : List A) → all vs ≡ Some row → list_all valid row ≡ true → (vs ≡ values_of (map g row)) × AllByRecursion P row
from_each_valid {A} f all reads g valid P each no_values row e h =
    let Q : List A → Type 0 = λ bs. (no_values ≡ values_of (map g bs)) × AllByRecursion P bs in
    let none : Some [] ≡ Some row = sym reads.none ∙ e in
    let same : [] ≡ row = cc in subst Q same (refl, tt)
from_each_valid {A} f all reads g valid P each (value v vs) row e h =
    let Q : List A → Type 0 = λ bs. (value v vs ≡ values_of (map g bs)) × AllByRecursion P bs in
    let first = chained (λ (b : A). option_map (λ (bs : List A). b ∷ bs) (all vs)) (f v) row (sym (reads.more v vs) ∙ e) in
    let more = mapped (λ (bs : List A). first.0 ∷ bs) (all vs) row first.2 in
    let fit = both (valid first.0) (list_all valid more.0) (ap (list_all valid) more.2 ∙ h) in
    let here = each v first.0 first.1 fit.0 in
    let rest = from_each_valid f all reads g valid P each vs more.0 more.1 fit.1 in
    subst Q more.2 ((λ j. value (here.0 j) (rest.0 j)), (here.1, rest.1))

untested : {A : Type 0} (row : List A) → list_all (λ (a : A). true) row ≡ true
untested [] = refl
untested (a ∷ row) = untested row

pub from_each : {A : Type 0} (f : Value → Option A) (all : Values → Option (List A)) → ReadsEach f all → (g : A → Value) (P : A → Type 0)
    → ((v : Value) (a : A) → f v ≡ Some a → (v ≡ g a) × P a) → (vs : Values) (row : List A) → all vs ≡ Some row
    → (vs ≡ values_of (map g row)) × AllByRecursion P row
from_each {A} f all reads g P each vs row e =
    from_each_valid f all reads g (λ (a : A). true) P (λ v a f h. each v a f) vs row e (untested row)

-- what stands for one more item
pub viewed : {A B : Type 0} (view : A → B) (old new : List A) (x : A) → new ≡ old ++ x ∷ [] → map view new ≡ map view old ++ view x ∷ []
viewed view old new x grown = ap (map view) grown ∙ map-append view old (x ∷ [])

-- one thing more is made, of the item in its place
pub made_more : {A B C : Type 0} (view : A → C) (own : B → C) (items : List A) (i : ℕ) (item : A) (old new : List B) (x : B)
    → i < length items → item ≡ get_or items i item → own x ≡ view item → new ≡ old ++ x ∷ []
    → map own old ≡ map view (take i items) → map own new ≡ map view (take (i + 1) items)
made_more {A} view own items i item old new x within at made grown so_far =
    let split : take (i + 1) items ≡ take i items ++ item ∷ [] = take_more items i item within ∙ ap (λ (y : A). take i items ++ y ∷ []) (sym at) in
    viewed own old new x grown
    ∙ ((λ j. so_far j ++ made j ∷ []) ∙ sym (ap (map view) split ∙ map-append view (take i items) (item ∷ [])))

-- of each item something is made
pub made_all : {A B C : Type 0} (view : A → C) (own : B → C) (items : List A) (i : ℕ) (made : List B) → length items ≤ i
    → map own made ≡ map view (take i items) → map own made ≡ map view items
made_all view own items i made past so_far = so_far ∙ ap (map view) (take_all i items past)
