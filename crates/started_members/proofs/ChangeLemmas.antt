-- Members that are put in front of branches, the last first.
use Rattle.std.proofs.Common.{◌≡◌, ℕ, ◌-◌, ◌<◌, List, [], ◌∷◌, ◌++◌, length, map, reverse, get_or, Option, Some, if◌then◌else◌, refl, ap, sym, subst, ◌∙◌, arith}
use Rattle.std.specs.List.{slice_get}
use Rattle.std.specs.Prelude.{option_to_list}
use Rattle.std.proofs.lemmas.Bool.{lt-ltb}
use Rattle.std.proofs.lemmas.List.{map_push, reverse-append}
use Rattle.std.proofs.lemmas.Option.{get_or_from_slice_get, slice_get_within}
use Rattle.mod_table.specs.Table.{ChildSpec}
use Rattle.started_members.specs.declared.member.Member.{Member}
use Rattle.started_members.specs.declared.changes.Branch as stored
use Rattle.started_members.specs.Changes.{Branch, TakesDeeper, behind_deeper, branch_of, branches, branches_of, deeper, with_member}

-- these members in front of branches
abbrev pub onto : List ℕ → List ChildSpec → List Member → List Branch → List Branch
onto name cs [] bs = bs
onto name cs (m ∷ ms) bs = with_member name cs m (onto name cs ms bs)

pub onto-none : (name : List ℕ) (cs : List ChildSpec) (ms : List Member) → onto name cs ms [] ≡ branches name cs ms
onto-none name cs [] = refl
onto-none name cs (m ∷ ms) = ap (with_member name cs m) (onto-none name cs ms)

pub onto-last : (name : List ℕ) (cs : List ChildSpec) (ms : List Member) (m : Member) (bs : List Branch)
    → onto name cs (ms ++ m ∷ []) bs ≡ onto name cs ms (with_member name cs m bs)
onto-last name cs [] m bs = refl
onto-last name cs (n ∷ ms) m bs = ap (with_member name cs n) (onto-last name cs ms m bs)

-- the last of them is the first of them in the other order
pub last-first : (bs : List stored.Branch) (b : stored.Branch) → reverse (branches_of (bs ++ b ∷ [])) ≡ branch_of b ∷ reverse (branches_of bs)
last-first bs b = ap reverse (map_push branch_of bs b) ∙ reverse-append (branches_of bs) (branch_of b ∷ [])

pub map-reverse : {A B : Type 0} (f : A → B) (xs : List A) → map f (reverse xs) ≡ reverse (map f xs)
map-reverse f [] = refl
map-reverse f (x ∷ xs) =
    ap (map f) (reverse-append (x ∷ []) xs)
    ∙ (map_push f (reverse xs) x ∙ (ap (λ ys. ys ++ f x ∷ []) (map-reverse f xs) ∙ sym (reverse-append (f x ∷ []) (map f xs))))

-- the branch in front, which stands last, was taken out
pub takes_last : (depth n : ℕ) (all left : List stored.Branch) (r : Option stored.Branch) (b : stored.Branch) → n ≡ length all → slice_get all (length all - 1) ≡ Some b
    → (0 < n → r ≡ Some (get_or all (n - 1) b)) → all ≡ left ++ option_to_list r → depth < b.member.depth
    → TakesDeeper depth (reverse (branches_of all)) r (reverse (branches_of left))
takes_last depth n all left r b long last value split deep =
    let inside : length all - 1 < length all = slice_get_within all (length all - 1) b last in
    let is : r ≡ Some b = value (omega (arith, inside, long)) ∙ (ap (λ k. Some (get_or all (k - 1) b)) long ∙ ap Some (get_or_from_slice_get all (length all - 1) b b last)) in
    let first : reverse (branches_of all) ≡ branch_of b ∷ reverse (branches_of left) =
    ap (λ (bs : List stored.Branch). reverse (branches_of bs)) (split ∙ ap (λ (o : Option stored.Branch). left ++ option_to_list o) is) ∙ last-first left b in
    let rest = reverse (branches_of left) in
    subst (λ (o : Option stored.Branch). TakesDeeper depth (reverse (branches_of all)) o rest) (sym is) (
      ap (deeper depth) first ∙ ap (λ t. if t then branch_of b ∷ deeper depth rest else []) (lt-ltb depth b.member.depth deep),
      ap (behind_deeper depth) first ∙ ap (λ t. if t then behind_deeper depth rest else branch_of b ∷ rest) (lt-ltb depth b.member.depth deep),
    )
