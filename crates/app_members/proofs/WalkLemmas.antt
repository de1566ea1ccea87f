-- What is found through a number of supervisors in each other, and through more or fewer.
use Rattle.std.proofs.Common.{◌≡◌, ℕ, zero, suc, ◌+◌, ◌-◌, ◌≤◌, List, [], ◌∷◌, ◌++◌, length, Bool, true, false, cond, nat_le, Option, Some, None, if◌then◌else◌, Result, Ok, Err, IsErr, IsErrAnd, refl, ap, sym, subst, ◌∙◌, add-zero, add-one, arith, append_assoc}
use Rattle.std.specs.List.{flat_map}
use Rattle.std.specs.Option.{option_or, option_and_then}
use Rattle.std.proofs.lemmas.Bool.Decides.{nat_tests}
use Rattle.mod_table.specs.declared.table.Table.{Table}
use Rattle.mod_table.specs.declared.table.Table.TheVariants.{Worker, Super}
use Rattle.mod_table.specs.Table.{ChildSpec, SuperTable}
use Rattle.std.specs.Borrow.{Bor}
use Rattle.std.specs.BTreeMap.{BTreeMap}
use Rattle.std.specs.Str.{bytes_eq}
use Rattle.std.proofs.lemmas.Slice.Eq.{bytes_eq-Decides}
use Rattle.mod_table.specs.Tables.{Tables, first_of, child_table}
use Rattle.app_members.specs.declared.walk.Below.{Below}
use Rattle.app_members.specs.Walk.{NewMember, StartFault, child_fault, child_members, children_fault, children_members, fault_from, members_from}
use Rattle.app_members.specs.Walk.StartFault.{unsupported}
use Rattle.app_members.specs.declared.error.MembersError.{MembersError}
use Rattle.app_members.specs.declared.error.MembersError.TheVariants.{NoTable, Unsupported, NoMemory}
use Rattle.app_members.specs.InMemory.{counted, known_through, noted_in, AreCounted, IsBelow, FaultIs}

-- none of two is there where none is found
pub or_none : {X : Type 0} (o p : Option X) → option_or o p ≡ None → (o ≡ None) × (p ≡ None)
or_none None p e = (refl, e)
or_none (Some x) p e = absurd cc

pub none_too : {C X : Type 0} (f g : C → Option X) → ((c : C) → f c ≡ None → g c ≡ None) → (cs : List C) → first_of f cs ≡ None → first_of g cs ≡ None
none_too f g too [] e = refl
none_too f g too (c ∷ cs) e =
    let parts = or_none (f c) (first_of f cs) e in
    ap (λ o. option_or o (first_of g cs)) (too c parts.0) ∙ none_too f g too cs parts.1

child_deeper : (below below' : List ChildSpec → Option StartFault) → ((cs : List ChildSpec) → below cs ≡ None → below' cs ≡ None)
    → (c : ChildSpec) (t : Option Table) → child_fault below c t ≡ None → child_fault below' c t ≡ None
child_deeper below below' too c None e = absurd cc
child_deeper below below' too c (Some (Worker w)) e = refl
child_deeper below below' too c (Some (Super s)) e = too s.children e

-- nothing is wrong through one more
one_deeper : (tables : Tables) (n : ℕ) (cs : List ChildSpec) → children_fault n tables cs ≡ None → children_fault (suc n) tables cs ≡ None
unfolding children_fault
one_deeper tables zero cs e = absurd cc
one_deeper tables (suc n) cs e =
    none_too (λ (c : ChildSpec). child_fault (children_fault n tables) c (child_table tables c)) (λ (c : ChildSpec). child_fault (children_fault (suc n) tables) c (child_table tables c))
    (λ c. child_deeper (children_fault n tables) (children_fault (suc n) tables) (one_deeper tables n) c (child_table tables c)) cs e

so_many_deeper : (tables : Tables) (n k : ℕ) (cs : List ChildSpec) → children_fault n tables cs ≡ None → children_fault (n + k) tables cs ≡ None
so_many_deeper tables n zero cs e = ap (λ m. children_fault m tables cs) (add-zero n) ∙ e
so_many_deeper tables n (suc k) cs e =
    ap (λ m. children_fault m tables cs) (let s : n + suc k ≡ suc (n + k) = omega arith in s) ∙ one_deeper tables (n + k) cs (so_many_deeper tables n k cs e)

-- nothing is wrong through as many, or more
pub sound_deeper : (tables : Tables) (n m : ℕ) (cs : List ChildSpec) → n ≤ m → children_fault n tables cs ≡ None → children_fault m tables cs ≡ None
sound_deeper tables n m cs within e =
    subst (λ k. children_fault k tables cs ≡ None) (let s : n + (m - n) ≡ m = omega (arith, within) in s) (so_many_deeper tables n (m - n) cs e)

-- those of children of which each has none wrong are the same
same_too : {C X Y : Type 0} (fault : C → Option X) (f g : C → List Y) → ((c : C) → fault c ≡ None → f c ≡ g c) → (cs : List C) → first_of fault cs ≡ None → flat_map f cs ≡ flat_map g cs
same_too fault f g same [] e = refl
same_too fault f g same (c ∷ cs) e =
    let parts = or_none (fault c) (first_of fault cs) e in
    let here = same c parts.0 in
    let later = same_too fault f g same cs parts.1 in
    λ j. here j ++ later j

members_of_child : (fault : List ChildSpec → Option StartFault) (below below' : List ChildSpec → List NewMember)
    → ((cs : List ChildSpec) → fault cs ≡ None → below cs ≡ below' cs)
    → (depth : ℕ) (c : ChildSpec) (t : Option Table) → child_fault fault c t ≡ None → child_members below depth c t ≡ child_members below' depth c t
members_of_child fault below below' same depth c None e = refl
members_of_child fault below below' same depth c (Some (Worker w)) e = refl
members_of_child fault below below' same depth c (Some (Super s)) e = ap (λ ms. record { depth = depth; child = c; table = Super s } ∷ ms) (same s.children e)

-- where nothing is wrong, a walk through one more finds the same members
members_deeper : (tables : Tables) (n depth : ℕ) (cs : List ChildSpec) → children_fault n tables cs ≡ None → children_members (suc n) tables depth cs ≡ children_members n tables depth cs
unfolding children_fault children_members
members_deeper tables zero depth cs e = absurd cc
members_deeper tables (suc n) depth cs e =
    same_too (λ (c : ChildSpec). child_fault (children_fault n tables) c (child_table tables c))
    (λ (c : ChildSpec). child_members (children_members (suc n) tables (suc depth)) depth c (child_table tables c))
    (λ (c : ChildSpec). child_members (children_members n tables (suc depth)) depth c (child_table tables c))
    (λ c. members_of_child (children_fault n tables) (children_members (suc n) tables (suc depth)) (children_members n tables (suc depth)) (members_deeper tables n (suc depth))
    depth c (child_table tables c)) cs e

members_so_deep : (tables : Tables) (n k depth : ℕ) (cs : List ChildSpec) → children_fault n tables cs ≡ None → children_members (n + k) tables depth cs ≡ children_members n tables depth cs
members_so_deep tables n zero depth cs e = ap (λ m. children_members m tables depth cs) (add-zero n)
members_so_deep tables n (suc k) depth cs e =
    ap (λ m. children_members m tables depth cs) (let s : n + suc k ≡ suc (n + k) = omega arith in s)
    ∙ (members_deeper tables (n + k) depth cs (so_many_deeper tables n k cs e) ∙ members_so_deep tables n k depth cs e)

-- through as many, or more
same_members : (tables : Tables) (n m depth : ℕ) (cs : List ChildSpec) → n ≤ m → children_fault n tables cs ≡ None → children_members m tables depth cs ≡ children_members n tables depth cs
same_members tables n m depth cs within e =
    ap (λ k. children_members k tables depth cs) (let s : m ≡ n + (m - n) = omega (arith, within) in s) ∙ members_so_deep tables n (m - n) depth cs e

-- from one number to the next

pub none_left : (n : ℕ) → (1 ≤ n → ⊥) → n ≡ 0
none_left zero never = refl
none_left (suc n) never = absurd (never (omega arith))

pub deepest : (tables : Tables) (n : ℕ) (cs : List ChildSpec) → n ≡ 0 → children_fault n tables cs ≡ Some unsupported
unfolding children_fault
deepest tables n cs is = ap (λ m. children_fault m tables cs) is

pub fault_below : (tables : Tables) (n m : ℕ) (cs : List ChildSpec) → n ≡ m + 1 → children_fault n tables cs ≡ first_of (fault_from m tables) cs
unfolding children_fault
fault_below tables n m cs is = ap (λ k. children_fault k tables cs) (is ∙ add-one m)

pub deepest_members : (tables : Tables) (n depth : ℕ) (cs : List ChildSpec) → n ≡ 0 → children_members n tables depth cs ≡ []
unfolding children_members
deepest_members tables n depth cs is = ap (λ m. children_members m tables depth cs) is

pub members_one_below : (tables : Tables) (n m depth : ℕ) (cs : List ChildSpec) → n ≡ m + 1 → children_members n tables depth cs ≡ flat_map (members_from m tables depth) cs
unfolding children_members
members_one_below tables n m depth cs is = ap (λ k. children_members k tables depth cs) (is ∙ add-one m)

-- children one after another

pub fault_here : {C X : Type 0} (f : C → Option X) (left rest : List C) (c : C) (o r : Option X) (x : X) → left ≡ c ∷ rest → f c ≡ o → o ≡ Some x → first_of f left ≡ r → r ≡ Some x
fault_here f left rest c o r x split at here so_far = sym so_far ∙ (ap (first_of f) split ∙ ap (λ p. option_or p (first_of f rest)) (at ∙ here))

pub no_fault_here : {C X : Type 0} (f : C → Option X) (left rest : List C) (c : C) (o r : Option X) → left ≡ c ∷ rest → f c ≡ o → o ≡ None → first_of f left ≡ r → first_of f rest ≡ r
no_fault_here f left rest c o r split at here so_far = sym (ap (first_of f) split ∙ ap (λ p. option_or p (first_of f rest)) (at ∙ here)) ∙ so_far

pub all_here : {C X : Type 0} (f : C → List X) (old new : List X) (left rest : List C) (c : C) (xs r : List X) → left ≡ c ∷ rest → f c ≡ xs → new ≡ old ++ xs
    → old ++ flat_map f left ≡ r → new ++ flat_map f rest ≡ r
all_here f old new left rest c xs r split at is so_far =
    ap (λ l. l ++ flat_map f rest) is
    ∙ (append_assoc old xs (flat_map f rest) ∙ (ap (λ l. old ++ (l ++ flat_map f rest)) (sym at) ∙ (ap (λ l. old ++ flat_map f l) (sym split) ∙ so_far)))

-- an error that is passed on
pub passed_on : {X E : Type 0} (P : Result X E → Type 0) (r : Result X E) (e : E) → IsErr r × IsErrAnd r (λ f. f ≡ e) → P (Err e) → P r
passed_on P (Ok x) e is h = absurd is.1
passed_on P (Err f) e is h = subst (λ g. P (Err g)) (sym is.1) h

-- an error that is the fault of the first child that has one
pub fault_passed : (f : ChildSpec → Option StartFault) (left rest : List ChildSpec) (c : ChildSpec) (r : Option StartFault) (e : MembersError)
    → left ≡ c ∷ rest → first_of f left ≡ r → FaultIs e (f c) → FaultIs e r
fault_passed f left rest c r (NoTable m) split so_far is = fault_here f left rest c (f c) r _ split refl is so_far
fault_passed f left rest c r Unsupported split so_far is = fault_here f left rest c (f c) r _ split refl is so_far
fault_passed f left rest c r NoMemory split so_far is = tt

-- a supervisor is noted
pub count_noted : (tables : Tables) (old new : BTreeMap (Bor (List ℕ)) Below) (name : List ℕ) (b : Below) (s : SuperTable)
    → tables name ≡ Some (Super s) → IsBelow tables s.children b
    → ((q : List ℕ) → noted_in new q ≡ cond (bytes_eq name q) (Some b) (noted_in old q)) → AreCounted tables old → AreCounted tables new
count_noted tables old new name b s there below is so_far q d t noted at = go (bytes_eq name q) refl (sym (is q) ∙ noted)
  where
    go : (e : Bool) → bytes_eq name q ≡ e → cond e (Some b) (noted_in old q) ≡ Some d → IsBelow tables t.children d
    go true same e =
        let q_is : name ≡ q = (bytes_eq-Decides name q).0 same in
        let t_is : s ≡ t = let both = sym there ∙ (ap tables q_is ∙ at) in cc in
        let d_is : b ≡ d = cc in
        subst (λ (d : Below). IsBelow tables t.children d) d_is (subst (λ (u : SuperTable). IsBelow tables u.children b) t_is below)
    go false same e = so_far q d t e at

-- nothing is wrong below a supervisor of which that is known, and so many members stand there
pub record IsKnown (tables : Tables) (n : ℕ) (cs : List ChildSpec) (count : ℕ) : Type 0 where
  pub sound : children_fault n tables cs ≡ None
  pub members : (depth : ℕ) → count ≡ counted (length (children_members n tables depth cs))

pub count_known : (tables : Tables) (noted : BTreeMap (Bor (List ℕ)) Below) (name : List ℕ) (n count : ℕ) (s : SuperTable) → AreCounted tables noted → tables name ≡ Some (Super s)
    → option_and_then (known_through n) (noted_in noted name) ≡ Some count → IsKnown tables n s.children count
count_known tables noted name n count s are there known = go (noted_in noted name) refl known
  where
    through : (b : Below) (e : Bool) → nat_le b.through n ≡ e → IsBelow tables s.children b → (if e then Some b.members else None) ≡ Some count → IsKnown tables n s.children count
    through b false le below e = absurd cc
    through b true le below e =
        let within : b.through ≤ n = grind (arith, nat_tests) in
        let count_is : b.members ≡ count = cc in record {
          sound = sound_deeper tables b.through n s.children within below.sound;
          members = λ depth. sym count_is ∙ (below.members depth ∙ ap (λ ms. counted (length ms)) (sym (same_members tables b.through n depth s.children within below.sound)));
        }

    go : (o : Option Below) → noted_in noted name ≡ o → option_and_then (known_through n) o ≡ Some count → IsKnown tables n s.children count
    go None is e = absurd cc
    go (Some b) is e = through b (nat_le b.through n) refl (are name b s is there) e

-- a member and so many below it
pub one_counted : (n count : ℕ) → count ≡ counted n → counted (count + 1) ≡ counted (suc n)
one_counted n count is = omega arith

-- children one after another, where so many were counted
pub more_counted : (so_far count more here left all : ℕ) → counted (so_far + (here + left)) ≡ counted all → more ≡ counted here → count ≡ counted (so_far + more) → counted (count + left) ≡ counted all
more_counted so_far count more here left all before one is = omega arith

-- what is counted fits
pub fits_so : (count n : ℕ) → count ≡ counted n → count ≡ counted count
fits_so count n is = omega arith
