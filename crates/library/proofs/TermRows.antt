-- Terms one after another, each of which says its own: a table or a library.
use Rattle.std.proofs.Common.{◌≡◌, ◌⊎◌, inl, inr, ℕ, ◌+◌, ◌<◌, ◌≤◌, ◌++◌, List, [], ◌∷◌, length, map, drop, get_or, Some, refl, sym, ap, subst, ◌∙◌, append_assoc}
use Rattle.std.proofs.lemmas.List.{append-nil, drop_all, drop_more}
use Rattle.erl_term.specs.declared.term.Term.{Term}
use Rattle.erl_term.specs.Value.{Value, Values, value_of, values_of, members_of}
use Rattle.erl_term.specs.Value.Values.{no_values, value}
use Rattle.mod_table.specs.declared.table.Table.{Table}
use Rattle.mod_table.specs.File.{table_in, IsTableTerm}
use Rattle.library.specs.Library.{TableTerm}
use Rattle.library.specs.Reading.{AreTables, EachSays, SaysTableTerm}

-- What has been read of the terms from this place on, where this was read before it.
pub record AreReadTo {X : Type 0} (says : Value → X → Type 0) (terms : List Term) (i : ℕ) (done : List X) : Type 0 where
  pub joins : (xs : List X) → EachSays says (members_of (drop i terms)) xs → EachSays says (members_of terms) (done ++ xs)
  pub goes_on : (xs : List X) → EachSays says (members_of terms) xs → (ys : List X) × EachSays says (members_of (drop i terms)) ys

module _ {X : Type 0} (says : Value → X → Type 0) where
  -- they say one row where each says one at most
  pub says_one_row : ((v : Value) (x y : X) → says v x → says v y → x ≡ y) → (vs : Values) (xs ys : List X) → EachSays says vs xs → EachSays says vs ys → xs ≡ ys
  says_one_row one no_values [] [] a b = refl
  says_one_row one no_values [] (y ∷ ys) a b = absurd b
  says_one_row one no_values (x ∷ xs) ys a b = absurd a
  says_one_row one (value v vs) [] ys a b = absurd a
  says_one_row one (value v vs) (x ∷ xs) [] a b = absurd b
  says_one_row one (value v vs) (x ∷ xs) (y ∷ ys) a b =
      let same : x ≡ y = one v x y a.0 b.0 in
      let rest : xs ≡ ys = says_one_row one vs xs ys a.1 b.1 in
      λ j. same j ∷ rest j

  -- the first of a row, and what is after it
  first_of : (v : Value) (vs : Values) (xs : List X) → EachSays says (value v vs) xs → ((x : X) × says v x) × ((ys : List X) × EachSays says vs ys)
  first_of v vs [] a = absurd a
  first_of v vs (x ∷ xs) a = ((x, a.0), (xs, a.1))

  -- they say a row, or none, where each says something or nothing
  abbrev pub RowOrNot : Values → Type 0
  RowOrNot vs = ((xs : List X) × EachSays says vs xs) ⊎ ((xs : List X) → EachSays says vs xs → ⊥)

  pub row_or_not : ((v : Value) → ((x : X) × says v x) ⊎ ((x : X) → says v x → ⊥)) → (vs : Values) → RowOrNot vs
  row_or_not either no_values = inl ([], tt)
  row_or_not either (value v vs) = by (either v) (row_or_not either vs)
    where
      by : ((x : X) × says v x) ⊎ ((x : X) → says v x → ⊥) → RowOrNot vs → RowOrNot (value v vs)
      by (inl (x, is)) (inl (xs, are)) = inl (x ∷ xs, (is, are))
      by (inl (x, is)) (inr never) = inr (λ ys a. let (ws, b) = (first_of v vs ys a).1 in never ws b)
      by (inr never) later = inr (λ ys a. let (x, is) = (first_of v vs ys a).0 in never x is)

  pub starts : (terms : List Term) → AreReadTo says terms 0 []
  starts terms = record { joins = λ xs a. a; goes_on = λ xs a. (xs, a) }

  split : (terms : List Term) (i : ℕ) (term : Term) → i < length terms → term ≡ get_or terms i term → drop i terms ≡ term ∷ drop (i + 1) terms
  split terms i term within at = drop_more terms i term within ∙ ap (λ (t : Term). t ∷ drop (i + 1) terms) (sym at)

  pub reads_more : (terms : List Term) (i : ℕ) (term : Term) (done new : List X) (x : X) → i < length terms → term ≡ get_or terms i term
      → says (value_of term) x → new ≡ done ++ x ∷ [] → AreReadTo says terms i done → AreReadTo says terms (i + 1) new
  reads_more terms i term done new x within at is grown so_far = record {
    joins = λ xs a.
        let here : EachSays says (members_of (drop i terms)) (x ∷ xs) =
        subst (λ (l : List Term). EachSays says (members_of l) (x ∷ xs)) (sym (split terms i term within at)) (is, a) in
        subst (λ (l : List X). EachSays says (members_of terms) l) (sym (append_assoc done (x ∷ []) xs) ∙ ap (λ (l : List X). l ++ xs) (sym grown)) (so_far.joins (x ∷ xs) here);
    goes_on = λ xs a.
        let (ys, b) = so_far.goes_on xs a in
        (first_of (value_of term) (members_of (drop (i + 1) terms)) ys (subst (λ (l : List Term). EachSays says (members_of l) ys) (split terms i term within at) b)).1;
  }

  -- one of them that says nothing
  pub reads_none : (terms : List Term) (i : ℕ) (term : Term) (done : List X) → i < length terms → term ≡ get_or terms i term
      → ((x : X) → says (value_of term) x → ⊥) → AreReadTo says terms i done → (xs : List X) → EachSays says (members_of terms) xs → ⊥
  reads_none terms i term done within at none so_far xs a =
      let (ys, b) = so_far.goes_on xs a in
      let (x, is) = (first_of (value_of term) (members_of (drop (i + 1) terms)) ys (subst (λ (l : List Term). EachSays says (members_of l) ys) (split terms i term within at) b)).0 in
      none x is

  -- no term is left
  pub reads_all : (terms : List Term) (i : ℕ) (done : List X) → length terms ≤ i → AreReadTo says terms i done → EachSays says (members_of terms) done
  reads_all terms i done past so_far =
      subst (λ (l : List X). EachSays says (members_of terms) l) (append-nil done)
      (so_far.joins [] (subst (λ (l : List Term). EachSays says (members_of l) []) (sym (drop_all i terms past)) tt))

-- a term says one table
pub one_table : (v w : Value) (t u : Table) → v ≡ w → IsTableTerm v t → IsTableTerm w u → t ≡ u
one_table v w t u e a b = let same : Some t ≡ Some u = sym a.shape ∙ ap table_in e ∙ b.shape in cc

one_table_term : (v : Value) (t u : TableTerm) → SaysTableTerm v t → SaysTableTerm v u → t ≡ u
one_table_term v t u a b =
    let terms : t.term ≡ u.term = a.0 ∙ sym b.0 in
    let tables : t.table ≡ u.table = one_table v v t.table u.table refl a.1 b.1 in
    λ j. record { term = terms j; table = tables j }

pub tables_unique : (vs : Values) (ts us : List TableTerm) → AreTables vs ts → AreTables vs us → ts ≡ us
tables_unique vs ts us a b = says_one_row SaysTableTerm one_table_term vs ts us a b

-- the terms are those of their tables
pub are_terms : (vs : Values) (ts : List TableTerm) → AreTables vs ts → values_of (map (λ (t : TableTerm). t.term) ts) ≡ vs
are_terms no_values [] a = refl
are_terms no_values (t ∷ ts) a = absurd a
are_terms (value v vs) [] a = absurd a
are_terms (value v vs) (t ∷ ts) a = let rest = are_terms vs ts a.1 in λ j. value (a.0.0 j) (rest j)
