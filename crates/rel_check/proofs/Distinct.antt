-- Names that are distinct, and the tables of modules with such names.
use Rattle.std.proofs.Common.{◌≡◌, ℕ, Bool, true, false, ◌||◌, List, [], ◌∷◌, map, Option, None, Some, ◌++◌, Contains, ◌⊎◌, inl, inr, if◌then◌else◌, refl, sym, ap, subst, ◌∙◌, true≢false}
use Rattle.std.specs.Option.{option_or}
use Rattle.std.specs.Str.{bytes_eq}
use Rattle.std.proofs.lemmas.Bool.{or_cases, or_parts, or_from, or_left, or_right}
use Rattle.std.proofs.lemmas.Slice.Eq.{bytes_eq-Decides}
use Rattle.rel_files.specs.Name.{AreDistinct}
use Rattle.rel_check.specs.Modules.{Module, modules_in, table_of}
use Rattle.rel_check.specs.Names.{Named, first_met, first_again, module_names}
use Rattle.rel_check.specs.Laws.{NoneAgainWhereDistinct, IsFirstAgain, FindsFirstAgain, EachHasItsTable}
use Rattle.rel_check.proofs.Joins.{or_none}
use Rattle.rel_check.proofs.Members.{no_member, first_member, later_member, member_cases}

abbrev named : List Named → List (List ℕ)
named ns = map (λ (n : Named). n.name) ns

itself : (n : List ℕ) → bytes_eq n n ≡ true
itself n = (bytes_eq-Decides n n).1 refl

not_none : {X : Type 0} (b : Bool) (x : X) (o : Option X) → (if b then Some x else o) ≡ None → (b ≡ false) × (o ≡ None)
not_none true x o is = absurd cc
not_none false x o is = (refl, is)

-- no name that follows was met before
new_all : (met : List ℕ → Bool) (ns : List Named) → first_met met ns ≡ None → (q : List ℕ) → Contains (named ns) q → met q ≡ false
new_all met [] none q member = absurd (no_member q member)
new_all met (n ∷ ns) none q member =
    go (member_cases n.name (named ns) q member) (not_none (met n.name) n (first_met (λ m. bytes_eq n.name m || met m) ns) none) (new_all (λ m. bytes_eq n.name m || met m) ns)
  where
    go : (n.name ≡ q) ⊎ Contains (named ns) q → (met n.name ≡ false) × (first_met (λ m. bytes_eq n.name m || met m) ns ≡ None)
        → (first_met (λ m. bytes_eq n.name m || met m) ns ≡ None → (p : List ℕ) → Contains (named ns) p → (bytes_eq n.name p || met p) ≡ false) → met q ≡ false
    go (inl same) parts rest = subst (λ z. met z ≡ false) same parts.0
    go (inr later) parts rest = (or_parts (bytes_eq n.name q) (met q) (rest parts.1 q later)).1

distinct_all : (met : List ℕ → Bool) (ns : List Named) → first_met met ns ≡ None → AreDistinct (named ns)
distinct_all met [] none = tt
distinct_all met (n ∷ ns) none =
    let rest = (not_none (met n.name) n (first_met (λ m. bytes_eq n.name m || met m) ns) none).1 in (
      λ again. true≢false (sym (itself n.name) ∙ (or_parts (bytes_eq n.name n.name) (met n.name) (new_all (λ m. bytes_eq n.name m || met m) ns rest n.name again)).0),
      distinct_all (λ m. bytes_eq n.name m || met m) ns rest,
    )

differ : (a b : List ℕ) → (a ≡ b → ⊥) → bytes_eq a b ≡ false
differ a b apart = go (bytes_eq a b) refl
  where
    go : (x : Bool) → bytes_eq a b ≡ x → x ≡ false
    go true is = absurd (apart ((bytes_eq-Decides a b).0 is))
    go false is = refl

none_where_new : (met : List ℕ → Bool) (ns : List Named) → AreDistinct (named ns) → ((q : List ℕ) → Contains (named ns) q → met q ≡ false) → first_met met ns ≡ None
none_where_new met [] distinct new = refl
none_where_new met (n ∷ ns) distinct new =
    ap (λ b. if b then Some n else first_met (λ m. bytes_eq n.name m || met m) ns) (new n.name (first_member n.name (named ns)))
    ∙ none_where_new (λ m. bytes_eq n.name m || met m) ns distinct.1
    (λ q member. or_from (bytes_eq n.name q) (met q)
    (differ n.name q (λ same. distinct.0 (subst (Contains (named ns)) (sym same) member))) (new q (later_member n.name (named ns) q member)))

pub none_again : NoneAgainWhereDistinct
none_again ns = (distinct_all (λ m. false) ns, λ distinct. none_where_new (λ m. false) ns distinct (λ q member. refl))

-- A name is met where it was before, or where it stands among these.
abbrev IsMet : (List ℕ → Bool) → List Named → List ℕ → Type 0
IsMet met ns q = (met q ≡ true) ⊎ Contains (named ns) q

met_in_front : (met : List ℕ → Bool) (n : Named) (ns : List Named) (q : List ℕ) → IsMet (λ m. bytes_eq n.name m || met m) ns q → IsMet met (n ∷ ns) q
met_in_front met n ns q (inl is) = go (or_cases (bytes_eq n.name q) (met q) is)
  where
    go : (bytes_eq n.name q ≡ true) ⊎ (met q ≡ true) → IsMet met (n ∷ ns) q
    go (inl same) = inr (subst (Contains (named (n ∷ ns))) ((bytes_eq-Decides n.name q).0 same) (first_member n.name (named ns)))
    go (inr was) = inl was
met_in_front met n ns q (inr later) = inr (later_member n.name (named ns) q later)

met_behind : (met : List ℕ → Bool) (n : Named) (ns : List Named) (q : List ℕ) → IsMet met (n ∷ ns) q → IsMet (λ m. bytes_eq n.name m || met m) ns q
met_behind met n ns q (inl was) = inl (or_right (bytes_eq n.name q) (met q) was)
met_behind met n ns q (inr member) = go (member_cases n.name (named ns) q member)
  where
    go : (n.name ≡ q) ⊎ Contains (named ns) q → IsMet (λ m. bytes_eq n.name m || met m) ns q
    go (inl same) = inl (or_left (bytes_eq n.name q) (met q) ((bytes_eq-Decides n.name q).1 same))
    go (inr later) = inr later

-- The first name that was met stands after names of which none was met when it came.
record Meets (met : List ℕ → Bool) (ns : List Named) (n : Named) : Type 0 where
  before : List Named
  after : List Named
  is : ns ≡ before ++ (n ∷ after)
  new : first_met met before ≡ None
  again : IsMet met before n.name

finds_met : (met : List ℕ → Bool) (ns : List Named) (n : Named) → first_met met ns ≡ Some n → Meets met ns n
finds_met met [] n found = absurd cc
finds_met met (x ∷ ns) n found = go (met x.name) refl found (finds_met (λ m. bytes_eq x.name m || met m) ns n)
  where
    go : (b : Bool) → met x.name ≡ b → (if b then Some x else first_met (λ m. bytes_eq x.name m || met m) ns) ≡ Some n
        → (first_met (λ m. bytes_eq x.name m || met m) ns ≡ Some n → Meets (λ m. bytes_eq x.name m || met m) ns n) → Meets met (x ∷ ns) n
    go true is here rest =
        let same : x ≡ n = cc in
        record { before = []; after = ns; is = λ j. same j ∷ ns; new = refl; again = inl (subst (λ (z : Named). met z.name ≡ true) same is) }
    go false is later rest =
        let there = rest later in record {
          before = x ∷ there.before;
          after = there.after;
          is = λ j. x ∷ there.is j;
          new = ap (λ b. if b then Some x else first_met (λ m. bytes_eq x.name m || met m) there.before) is ∙ there.new;
          again = met_in_front met x there.before n.name there.again;
        }

met_is_found : (met : List ℕ → Bool) (before after : List Named) (n : Named) → first_met met before ≡ None → IsMet met before n.name
    → first_met met (before ++ (n ∷ after)) ≡ Some n
met_is_found met [] after n new (inl was) = ap (λ b. if b then Some n else first_met (λ m. bytes_eq n.name m || met m) after) was
met_is_found met [] after n new (inr none) = absurd (no_member n.name none)
met_is_found met (x ∷ before) after n new again =
    let parts = not_none (met x.name) x (first_met (λ m. bytes_eq x.name m || met m) before) new in
    ap (λ b. if b then Some x else first_met (λ m. bytes_eq x.name m || met m) (before ++ (n ∷ after))) parts.0
    ∙ met_is_found (λ m. bytes_eq x.name m || met m) before after n parts.1 (met_behind met x before n.name again)

stands_there : (ns : List Named) (q : List ℕ) → IsMet (λ m. false) ns q → Contains (named ns) q
stands_there ns q (inl was) = absurd cc
stands_there ns q (inr member) = member

pub finds_first_again : FindsFirstAgain
finds_first_again ns n = (to, from)
  where
    to : first_again ns ≡ Some n → IsFirstAgain ns n
    to found =
        let there = finds_met (λ m. false) ns n found in record {
          before = there.before;
          after = there.after;
          is = there.is;
          distinct = (none_again there.before).0 there.new;
          again = stands_there there.before n.name there.again;
        }

    from : IsFirstAgain ns n → first_again ns ≡ Some n
    from first = ap first_again first.is ∙ met_is_found (λ m. false) first.before first.after n ((none_again first.before).1 first.distinct) (inr first.again)

-- modules

no_table : (ms : List Module) (q : List ℕ) → (Contains (named (module_names ms)) q → ⊥) → table_of ms q ≡ None
no_table [] q none = refl
no_table (m ∷ ms) q none =
    let later = no_table ms q (λ member. none (later_member m.name (named (module_names ms)) q member)) in
    let here = differ m.name q (λ same. none (subst (Contains (named (module_names (m ∷ ms)))) same (first_member m.name (named (module_names ms))))) in
    λ j. option_or (later j) (if here j then m.table else None)

named_member : (ms : List Module) (m : Module) → Contains ms m → Contains (named (module_names ms)) m.name
named_member [] m member = absurd (no_member m member)
named_member (x ∷ ms) m member = go (member_cases x ms m member) (named_member ms m)
  where
    go : (x ≡ m) ⊎ Contains ms m → (Contains ms m → Contains (named (module_names ms)) m.name) → Contains (named (module_names (x ∷ ms))) m.name
    go (inl same) rest = subst (λ (z : Module). Contains (named (module_names (x ∷ ms))) z.name) same (first_member x.name (named (module_names ms)))
    go (inr later) rest = later_member x.name (named (module_names ms)) m.name (rest later)

own : (ms : List Module) (m : Module) → AreDistinct (named (module_names ms)) → Contains ms m → table_of ms m.name ≡ m.table
own [] m distinct member = absurd (no_member m member)
own (x ∷ ms) m distinct member = go (member_cases x ms m member) (own ms m distinct.1)
  where
    go : (x ≡ m) ⊎ Contains ms m → (Contains ms m → table_of ms m.name ≡ m.table) → table_of (x ∷ ms) m.name ≡ m.table
    go (inl same) rest =
        let others = no_table ms x.name distinct.0 in
        let here : table_of (x ∷ ms) x.name ≡ x.table = λ j. option_or (others j) (if itself x.name j then x.table else None) in
        subst (λ (z : Module). table_of (x ∷ ms) z.name ≡ z.table) same here
    go (inr later) rest =
        let found = rest later in
        let apart = differ x.name m.name (λ same. distinct.0 (subst (Contains (named (module_names ms))) (sym same) (named_member ms m later))) in
        (λ j. option_or (found j) (if apart j then x.table else None)) ∙ or_none m.table

pub own_table : EachHasItsTable
own_table ps m none member = own (modules_in ps) m (distinct_all (λ q. false) (module_names (modules_in ps)) none) member
