-- Names in the order of their bytes, each once: there is one such list of the names for which a test holds.
use Rattle.std.proofs.Common.{◌≡◌, ℕ, Bool, true, false, ◌||◌, List, [], ◌∷◌, map, Ordering, Less, Equal, Greater, refl, sym, ap, subst, ◌∙◌}
use Rattle.std.specs.BTreeMap.{insert_entry}
use Rattle.std.specs.Cmp.Lexicographic.{slice_cmp}
use Rattle.std.specs.List.{AllByRecursion, list_any}
use Rattle.std.specs.List.Sorted.{IsStrictlySortedBy}
use Rattle.std.specs.Ordering.{nat_cmp, is_eq, match_ordering, ordering_reverse}
use Rattle.std.specs.Str.{bytes_eq}
use Rattle.std.proofs.lemmas.Cmp.{nat_list_cmp_total}
use Rattle.std.proofs.lemmas.Map.Text.{is_eq-slice_cmp}
use Rattle.std.proofs.lemmas.Slice.Eq.{bytes_eq-Decides}
use Rattle.node_upgrade.specs.Names.{is_among, AreNamesWith, with_name, names_in_order, sorted_names}
use Rattle.loaded_modules.proofs.NamedLemmas.{itself, same_name}

-- a name isn't below itself
not_below_itself : (name : List ℕ) → slice_cmp nat_cmp name name ≡ Less → ⊥
not_below_itself name below = let no = sym (ap is_eq below) ∙ (is_eq-slice_cmp name name ∙ itself name) in cc

turned : (x y : List ℕ) (r : Ordering) → slice_cmp nat_cmp x y ≡ r → slice_cmp nat_cmp y x ≡ ordering_reverse r
turned x y r is = nat_list_cmp_total.antisymm y x ∙ ap ordering_reverse is

-- a name that is below all is below each of them
below_each : (x q : List ℕ) (xs : List (List ℕ)) → AllByRecursion (λ y. slice_cmp nat_cmp x y ≡ Less) xs → is_among q xs ≡ true → slice_cmp nat_cmp x q ≡ Less
below_each x q [] all among = absurd (cc)
below_each x q (y ∷ ys) all among = by (bytes_eq q y) refl among (below_each x q ys all.1)
  where
    by : (b : Bool) → bytes_eq q y ≡ b → (b || is_among q ys) ≡ true → (is_among q ys ≡ true → slice_cmp nat_cmp x q ≡ Less) → slice_cmp nat_cmp x q ≡ Less
    by true is _ behind = ap (slice_cmp nat_cmp x) ((bytes_eq-Decides q y).0 is) ∙ all.0
    by false is later behind = behind later

-- the first of names in order isn't among those after it
not_behind : (x : List ℕ) (xs : List (List ℕ)) → IsStrictlySortedBy (slice_cmp nat_cmp) (x ∷ xs) → is_among x xs ≡ false
unfolding IsStrictlySortedBy
not_behind x xs ordered = by (is_among x xs) refl
  where
    by : (b : Bool) → is_among x xs ≡ b → is_among x xs ≡ false
    by true is = absurd (not_below_itself x (below_each x x xs ordered.0 is))
    by false is = is

-- the first of names in order is below none of others with the same names
not_lower : (x y : List ℕ) (ys : List (List ℕ)) → IsStrictlySortedBy (slice_cmp nat_cmp) (y ∷ ys) → is_among x (y ∷ ys) ≡ true → slice_cmp nat_cmp x y ≡ Less → ⊥
unfolding IsStrictlySortedBy
not_lower x y ys ordered among below = by (bytes_eq x y) refl among
  where
    by : (b : Bool) → bytes_eq x y ≡ b → (b || is_among x ys) ≡ true → ⊥
    by true is _ = not_below_itself x (ap (slice_cmp nat_cmp x) ((bytes_eq-Decides x y).0 is) ∙ below)
    by false is later = let no = sym (turned x y Less below) ∙ below_each y x ys ordered.0 later in cc

first_among : (x : List ℕ) (xs : List (List ℕ)) → is_among x (x ∷ xs) ≡ true
first_among x xs = ap (λ b. b || is_among x xs) (itself x)

-- after one first name the same names are left
same_behind : (x : List ℕ) (xs ys : List (List ℕ)) → is_among x xs ≡ false → is_among x ys ≡ false → ((q : List ℕ) → is_among q (x ∷ xs) ≡ is_among q (x ∷ ys)) → (q : List ℕ) → is_among q xs ≡ is_among q ys
same_behind x xs ys none_x none_y same q = by (bytes_eq q x) refl (same q)
  where
    by : (b : Bool) → bytes_eq q x ≡ b → (b || is_among q xs) ≡ (b || is_among q ys) → is_among q xs ≡ is_among q ys
    by true is _ = let e : q ≡ x = (bytes_eq-Decides q x).0 is in ap (λ n. is_among n xs) e ∙ (none_x ∙ (sym none_y ∙ ap (λ n. is_among n ys) (sym e)))
    by false is later = later

same_names : (xs ys : List (List ℕ)) → IsStrictlySortedBy (slice_cmp nat_cmp) xs → IsStrictlySortedBy (slice_cmp nat_cmp) ys → ((q : List ℕ) → is_among q xs ≡ is_among q ys) → xs ≡ ys
unfolding IsStrictlySortedBy
same_names [] [] a b same = refl
same_names [] (y ∷ ys) a b same = absurd (let no = same y ∙ first_among y ys in cc)
same_names (x ∷ xs) [] a b same = absurd (let no = sym (same x) ∙ first_among x xs in cc)
same_names (x ∷ xs) (y ∷ ys) a b same = by (slice_cmp nat_cmp x y) refl (same_names xs ys a.1 b.1)
  where
    by : (r : Ordering) → slice_cmp nat_cmp x y ≡ r → (((q : List ℕ) → is_among q xs ≡ is_among q ys) → xs ≡ ys) → x ∷ xs ≡ y ∷ ys
    by Less is behind = absurd (not_lower x y ys b (sym (same x) ∙ first_among x xs) is)
    by Greater is behind = absurd (not_lower y x xs a (same y ∙ first_among y ys) (turned x y Greater is))
    by Equal is behind =
        let e : y ≡ x = sym (same_name x y is) in
        let ordered = subst (λ n. IsStrictlySortedBy (slice_cmp nat_cmp) (n ∷ ys)) e b in
        let rest = behind
        (same_behind x xs ys (not_behind x xs a) (not_behind x ys ordered) (λ q. same q ∙ ap (λ n. is_among q (n ∷ ys)) e)) in
        λ j. sym e j ∷ rest j

-- Two ordered lists of the names for which a test holds are one list.
pub names_determined : (test : List ℕ → Bool) (xs ys : List (List ℕ)) → AreNamesWith test xs → AreNamesWith test ys → xs ≡ ys
names_determined test xs ys a b = same_names xs ys a.ordered b.ordered (λ q. a.same q ∙ sym (b.same q))

-- a name among names in their order

names_of : List (List ℕ × Unit {0}) → List (List ℕ)
names_of es = map (λ (n : List ℕ × Unit {0}). n.0) es

all_with : (P : List ℕ → Type 0) (name : List ℕ) (es : List (List ℕ × Unit {0})) → P name → AllByRecursion P (names_of es) → AllByRecursion P (names_of (with_name name es))
unfolding names_of
all_with P name [] here all = (here, tt)
all_with P name (e ∷ es) here all = by (slice_cmp nat_cmp name e.0) (all_with P name es here all.1)
  where
    by : (r : Ordering) → AllByRecursion P (names_of (with_name name es)) → AllByRecursion P (names_of (match_ordering r ((name, tt) ∷ e ∷ es) ((e.0, tt) ∷ es) (e ∷ with_name name es)))
    by Less later = (here, all)
    by Equal later = all
    by Greater later = (all.0, later)

lower_all : (x y : List ℕ) (ys : List (List ℕ)) → slice_cmp nat_cmp x y ≡ Less → AllByRecursion (λ z. slice_cmp nat_cmp y z ≡ Less) ys → AllByRecursion (λ z. slice_cmp nat_cmp x z ≡ Less) ys
lower_all x y [] below all = tt
lower_all x y (z ∷ zs) below all = (nat_list_cmp_total.trans x y z below all.0, lower_all x y zs below all.1)

ordered_with : (name : List ℕ) (es : List (List ℕ × Unit {0})) → IsStrictlySortedBy (slice_cmp nat_cmp) (names_of es) → IsStrictlySortedBy (slice_cmp nat_cmp) (names_of (with_name name es))
unfolding IsStrictlySortedBy names_of
ordered_with name [] ordered = (tt, tt)
ordered_with name (e ∷ es) ordered = by (slice_cmp nat_cmp name e.0) refl (ordered_with name es ordered.1)
  where
    by : (r : Ordering) → slice_cmp nat_cmp name e.0 ≡ r → IsStrictlySortedBy (slice_cmp nat_cmp) (names_of (with_name name es))
        → IsStrictlySortedBy (slice_cmp nat_cmp) (names_of (match_ordering r ((name, tt) ∷ e ∷ es) ((e.0, tt) ∷ es) (e ∷ with_name name es)))
    by Less is later = ((is, lower_all name e.0 (names_of es) is ordered.0), ordered)
    by Equal is later = ordered
    by Greater is later = (all_with (λ y. slice_cmp nat_cmp e.0 y ≡ Less) name es (turned name e.0 Greater is) ordered.0, later)

-- a name is among those where one was put in if it was, or if it is that one
pub among_inserted : {X : Type 0} (name q : List ℕ) (v : X) (es : List (List ℕ × X))
    → is_among q (map (λ (e : List ℕ × X). e.0) (insert_entry (slice_cmp nat_cmp) es name v)) ≡ (bytes_eq q name || is_among q (map (λ (e : List ℕ × X). e.0) es))
among_inserted {X} name q v [] = refl
among_inserted {X} name q v (e ∷ es) = by (slice_cmp nat_cmp name e.0) refl (among_inserted name q v es)
  where
    names : List (List ℕ × X) → List (List ℕ)
    names = map (λ (e : List ℕ × X). e.0)

    twice : (b c : Bool) → (b || c) ≡ (b || (b || c))
    twice true c = refl
    twice false c = refl

    swapped : (a b c : Bool) → (a || (b || c)) ≡ (b || (a || c))
    swapped true true c = refl
    swapped true false c = refl
    swapped false b c = refl

    by : (r : Ordering) → slice_cmp nat_cmp name e.0 ≡ r → is_among q (names (insert_entry (slice_cmp nat_cmp) es name v)) ≡ (bytes_eq q name || is_among q (names es))
        → is_among q (names (match_ordering r ((name, v) ∷ e ∷ es) ((e.0, v) ∷ es) (e ∷ insert_entry (slice_cmp nat_cmp) es name v))) ≡ (bytes_eq q name || (bytes_eq q e.0 || is_among q (names es)))
    by Less is later = refl
    by Equal is later = twice (bytes_eq q e.0) (is_among q (names es)) ∙ ap (λ n. bytes_eq q n || (bytes_eq q e.0 || is_among q (names es))) (sym (same_name name e.0 is))
    by Greater is later = ap (λ b. bytes_eq q e.0 || b) later ∙ swapped (bytes_eq q e.0) (bytes_eq q name) (is_among q (names es))

in_order : (ns : List (List ℕ)) → IsStrictlySortedBy (slice_cmp nat_cmp) (names_of (names_in_order ns))
unfolding IsStrictlySortedBy names_of
in_order [] = tt
in_order (n ∷ ns) = ordered_with n (names_in_order ns) (in_order ns)

among_sorted : (q : List ℕ) (ns : List (List ℕ)) → is_among q (names_of (names_in_order ns)) ≡ is_among q ns
unfolding names_of
among_sorted q [] = refl
among_sorted q (n ∷ ns) = among_inserted n q tt (names_in_order ns) ∙ ap (λ b. bytes_eq q n || b) (among_sorted q ns)

pub sorted_are_names : (ns : List (List ℕ)) → AreNamesWith (λ m. is_among m ns) (sorted_names ns)
unfolding names_of
sorted_are_names ns = record { ordered = in_order ns; same = λ q. among_sorted q ns }

-- the names of a list are in order where what they are read of is

read_in_order : {K L : Type 0} (R : K → K → Ordering) (S : L → L → Ordering) (f : K → L) → ((a b : K) → R a b ≡ S (f a) (f b)) → (k : K) (ks : List K)
    → AllByRecursion (λ x. R k x ≡ Less) ks → AllByRecursion (λ x. S (f k) x ≡ Less) (map f ks)
read_in_order R S f same k [] all = tt
read_in_order R S f same k (x ∷ xs) all = (sym (same k x) ∙ all.0, read_in_order R S f same k xs all.1)

pub sorted-read : {K L : Type 0} (R : K → K → Ordering) (S : L → L → Ordering) (f : K → L) → ((a b : K) → R a b ≡ S (f a) (f b)) → (ks : List K)
    → IsStrictlySortedBy R ks → IsStrictlySortedBy S (map f ks)
unfolding IsStrictlySortedBy
sorted-read R S f same [] sorted = sorted
sorted-read R S f same (k ∷ ks) sorted = (read_in_order R S f same k ks sorted.0, sorted-read R S f same ks sorted.1)

pub list_any-read : {K L : Type 0} (test : K → Bool) (test' : L → Bool) (f : K → L) → ((k : K) → test k ≡ test' (f k)) → (ks : List K) → list_any test ks ≡ list_any test' (map f ks)
list_any-read test test' f same [] = refl
list_any-read test test' f same (k ∷ ks) = λ j. same k j || list_any-read test test' f same ks j
