-- Where a child stands among members.
use Rattle.std.proofs.Common.{◌≡◌, ℕ, zero, suc, ◌+◌, ◌-◌, ◌<◌, ◌≤◌, ◌==◌, Bool, true, false, ◌&&◌, List, [], ◌∷◌, ◌++◌, length, take, drop, nat_lt, Option, Some, None, if◌then◌else◌, slice_index_or, refl, ap, ap₂, sym, subst, ◌∙◌, arith, append_assoc, length-append}
use Rattle.std.specs.List.{remove_range}
use Rattle.std.specs.Option.{option_map, option_map_or}
use Rattle.std.specs.Str.{bytes_eq}
use Rattle.std.proofs.lemmas.Bool.Decides.{nat_tests}
use Rattle.std.proofs.lemmas.List.{drop_more, get_or_read, length-drop, length-take-le, take-append-drop, take_rest}
use Rattle.std.proofs.Math.Seq.{drop-append_seam, get_or-append_seam, take-append_seam}
use Rattle.started_members.specs.declared.member.Member.{Member}
use Rattle.started_members.specs.Changes.{one_deeper}
use Rattle.started_members.specs.Places.{AreAt, IsRange, Place, behind_members, child_at, child_in, deeper_members, ended_child, first_place, nothing_kept, one_further, place_at, replaced, specification_kept, with_below, in_place}
use Rattle.started_members.specs.Members.{is_supervisor}

-- the same place, where more members stand in front
abbrev pub in_front : List Member → Option Place → Option Place
in_front ms o = option_map (λ (p : Place). record p { before = ms ++ p.before }) o

pub in_front-none : (o : Option Place) → in_front [] o ≡ o
in_front-none None = refl
in_front-none (Some p) = refl

in_front-more : (m : Member) (ms : List Member) (o : Option Place) → one_further m (in_front ms o) ≡ in_front (m ∷ ms) o
in_front-more m ms None = refl
in_front-more m ms (Some p) = refl

-- a place is found so many members further on
pub place_further : (ms ns : List Member) (n k : ℕ) → k ≡ length ms + n → place_at k (ms ++ ns) ≡ in_front ms (place_at n ns)
place_further [] ns n k is = ap (λ j. place_at j ns) (let same : k ≡ n = omega (arith, is) in same) ∙ sym (in_front-none (place_at n ns))
place_further (m ∷ ms) ns n zero is = absurd (omega (arith, is))
place_further (m ∷ ms) ns n (suc k) is = ap (one_further m) (place_further ms ns n k (omega (arith, is))) ∙ in_front-more m ms (place_at n ns)

both_parts : (depth : ℕ) (ms : List Member) → deeper_members depth ms ++ behind_members depth ms ≡ ms
both_parts depth [] = refl
both_parts depth (m ∷ ms) = by (nat_lt depth m.depth) (both_parts depth ms)
  where
    by : (b : Bool) → deeper_members depth ms ++ behind_members depth ms ≡ ms
        → (if b then m ∷ deeper_members depth ms else []) ++ (if b then behind_members depth ms else m ∷ ms) ≡ m ∷ ms
    by true both = ap (λ ns. m ∷ ns) both
    by false both = refl

-- what is known of the member after so many others
pub record IsPlace (n : ℕ) (ms : List Member) (p : Place) : Type 0 where
  pub is : ms ≡ p.before ++ (with_below p ++ p.behind)
  pub counted : n ≡ length p.before
  pub child : (d : Member) → slice_index_or ms n d ≡ p.child
  pub below : deeper_members p.child.depth (drop (suc n) ms) ≡ p.below

pub place_is : (n : ℕ) (ms : List Member) (p : Place) → place_at n ms ≡ Some p → IsPlace n ms p
place_is n [] p is = absurd cc
place_is zero (m ∷ ms) p is =
    let first : first_place m ms ≡ p = cc is in
    subst (IsPlace zero (m ∷ ms)) first (record { is = ap (λ ns. m ∷ ns) (sym (both_parts m.depth ms)); counted = refl; child = λ d. refl; below = refl })
place_is (suc n) (m ∷ ms) p is = by (place_at n ms) (place_is n ms) is
  where
    by : (o : Option Place) → ((q : Place) → o ≡ Some q → IsPlace n ms q) → one_further m o ≡ Some p → IsPlace (suc n) (m ∷ ms) p
    by None found is = absurd cc
    by (Some q) found is =
        let before = found q refl in
        let further : record q { before = m ∷ q.before } ≡ p = cc is in
        subst (IsPlace (suc n) (m ∷ ms)) further
        (record { is = ap (λ ns. m ∷ ns) before.is; counted = ap suc before.counted; child = before.child; below = before.below })

-- there is a member after so many others
pub is_there : (n : ℕ) (ms : List Member) → n < length ms → (p : Place) × (place_at n ms ≡ Some p)
is_there n [] inside = absurd (omega (arith, inside))
is_there zero (m ∷ ms) inside = (first_place m ms, refl)
is_there (suc n) (m ∷ ms) inside =
    let later = is_there n ms (omega (arith, inside)) in
    (record later.0 { before = m ∷ later.0.before }, ap (one_further m) later.1)

-- a place after so many members is found among all
pub placed_at : (ms : List Member) (i n k : ℕ) → i ≤ length ms → k ≡ i + n → in_front (take i ms) (place_at n (drop i ms)) ≡ place_at k ms
placed_at ms i n k few is =
    let long = length-take-le i ms few in
    sym (place_further (take i ms) (drop i ms) n k (omega (arith, is, long))) ∙ ap (place_at k) (take-append-drop i ms)

not_less : (a b : ℕ) → b ≤ a → nat_lt a b ≡ false
not_less a b never = grind (arith, nat_tests)

same_number : (a b : ℕ) → a ≡ b → (a == b) ≡ true
same_number a b same = grind (arith, nat_tests)

-- the child is the first of those that are left
pub child_here : (depth : ℕ) (id : List ℕ) (ms : List Member) (i : ℕ) (m : Member) → i < length ms → m ≡ slice_index_or ms i m → depth ≤ m.depth → m.depth ≡ depth → bytes_eq m.id id ≡ true
    → place_at i ms ≡ in_front (take i ms) (child_at depth id (drop i ms))
child_here depth id ms i m inside at deep same named =
    let rest = drop (i + 1) ms in
    let split : drop i ms ≡ m ∷ rest = drop_more ms i m inside ∙ ap (λ x. x ∷ rest) (sym at) in
    let found : child_at depth id (m ∷ rest) ≡ Some (first_place m rest) =
    ap (λ b. if b then None else if (m.depth == depth) && bytes_eq m.id id then Some (first_place m rest) else one_further m (child_at depth id rest)) (not_less m.depth depth deep)
    ∙ ap₂ (λ a b. if a && b then Some (first_place m rest) else one_further m (child_at depth id rest)) (same_number m.depth depth same) named in
    sym (placed_at ms i 0 i (omega (arith, inside)) (omega arith)) ∙ ap (in_front (take i ms)) (ap (place_at 0) split ∙ (sym found ∙ ap (child_at depth id) (sym split)))

-- the members after this one
abbrev pub behind_place : ℕ → List Member → List Member
behind_place i ms = take (length ms - (i + 1)) (drop (i + 1) ms)

-- the supervisor is the first of those that are left
pub child_below : (name id : List ℕ) (ms : List Member) (i n k : ℕ) (m : Member) → i < length ms → m ≡ slice_index_or ms i m → is_supervisor name m.state ≡ true
    → place_at n (behind_place i ms) ≡ child_at (one_deeper m.depth) id (behind_place i ms) → k ≡ i + 1 + n → place_at k ms ≡ in_front (take i ms) (child_in name id (drop i ms))
child_below name id ms i n k m inside at super found is =
    let rest = drop (i + 1) ms in
    let split : drop i ms ≡ m ∷ rest = drop_more ms i m inside ∙ ap (λ x. x ∷ rest) (sym at) in
    sym (placed_at ms i (suc n) k (omega (arith, inside)) (omega (arith, is)))
    ∙ ap (in_front (take i ms))
    (ap (place_at (suc n)) split
    ∙ (ap (one_further m) (ap (place_at n) (sym (take_rest ms (i + 1))) ∙ found ∙ ap (child_at (one_deeper m.depth) id) (take_rest ms (i + 1)) ∙ ap (λ b. if b then child_at (one_deeper m.depth) id rest else child_in name id rest) (sym super))
    ∙ ap (child_in name id) (sym split)))

few_deeper : (depth : ℕ) (ms : List Member) → length (deeper_members depth ms) ≤ length ms
few_deeper depth [] = omega arith
few_deeper depth (m ∷ ms) = by (nat_lt depth m.depth) (few_deeper depth ms)
  where
    by : (b : Bool) → length (deeper_members depth ms) ≤ length ms → length (if b then m ∷ deeper_members depth ms else []) ≤ suc (length ms)
    by true few = omega (arith, few)
    by false few = omega arith

-- there are fewer below a member than after it
pub few_below : (depth start : ℕ) (ms : List Member) → start < length ms → start + 1 + length (deeper_members depth (behind_place start ms)) ≤ length ms
few_below depth start ms inside =
    let few = few_deeper depth (behind_place start ms) in
    let long : length (behind_place start ms) ≡ length ms - (start + 1) = ap length (take_rest ms (start + 1)) ∙ length-drop (start + 1) ms in
    omega (arith, few, long, inside)

-- a member with those below it stands there
pub ranged : (ms : List Member) (o : Option Place) (start below : ℕ) (m : Member) → start < length ms → place_at start ms ≡ o
    → below ≡ length (deeper_members (slice_index_or ms start m).depth (behind_place start ms)) → AreAt o ms (Some (start, start + 1 + below))
ranged ms o start below m inside there counted =
    let found = is_there start ms inside in
    let p = found.0 in
    let place = place_is start ms p found.1 in
    let next : start + 1 ≡ suc start = omega arith in
    let long : below ≡ length p.below =
    counted ∙ ((λ j. length (deeper_members (place.child m j).depth (take_rest ms (start + 1) j))) ∙ ((λ j. length (deeper_members p.child.depth (drop (next j) ms))) ∙ ap length place.below)) in
    subst (λ q. AreAt q ms (Some (start, start + 1 + below))) (sym found.1 ∙ there) (record { is = place.is; start_is = place.counted; end_is = omega (arith, long) })

-- what stands in front of a range, in it first, and after it
pub record Around (p : Place) (ms : List Member) (start end : ℕ) : Type 0 where
  pub before : take start ms ≡ p.before
  pub child : slice_index_or ms start p.child ≡ p.child
  pub behind : drop end ms ≡ p.behind

pub around : (p : Place) (ms : List Member) (start end : ℕ) → IsRange ms p start end → Around p ms start end
around p ms start end at =
    let all : ms ≡ (p.before ++ with_below p) ++ p.behind = at.is ∙ sym (append_assoc p.before (with_below p) p.behind) in
    let long : end ≡ length (p.before ++ with_below p) = at.end_is ∙ ((λ j. at.start_is j + length (with_below p)) ∙ sym (length-append p.before (with_below p))) in
    record {
      before = (λ j. take (at.start_is j) (at.is j)) ∙ take-append_seam p.before (with_below p ++ p.behind);
      child = (λ j. slice_index_or (at.is j) (at.start_is j) p.child) ∙ get_or-append_seam p.before p.child (p.below ++ p.behind) p.child;
      behind = (λ j. drop (long j) (all j)) ∙ drop-append_seam (p.before ++ with_below p) p.behind;
    }

-- of what stands from start on, up to end, what is kept of a child that has ended is left
pub ended_there : (o : Option Place) (ms : List Member) (start end : ℕ) (new : List Member) → AreAt o ms (Some (start, end))
    → ((d : Member) → new ≡ take start ms ++ (ended_child (slice_index_or ms start d) ++ drop end ms)) → new ≡ option_map_or (replaced specification_kept) o ms
ended_there None ms start end new at kept = absurd at
ended_there (Some p) ms start end new at kept =
    let parts = around p ms start end at in
    kept p.child ∙ (λ j. parts.before j ++ (ended_child (parts.child j) ++ parts.behind j))

-- or nothing is
pub gone_there : (o : Option Place) (ms : List Member) (start end : ℕ) (new : List Member) → AreAt o ms (Some (start, end))
    → new ≡ remove_range ms start end → new ≡ option_map_or (replaced nothing_kept) o ms
gone_there None ms start end new at kept = absurd at
gone_there (Some p) ms start end new at kept =
    let parts = around p ms start end at in
    kept ∙ (λ j. parts.before j ++ parts.behind j)

-- the child is the first member of the range
pub first_is : (p : Place) (ms : List Member) (start end : ℕ) (m : Member) → IsRange ms p start end → m ≡ slice_index_or ms start m → m ≡ p.child
first_is p ms start end m at is =
    let long : length ms ≡ length p.before + suc (length (p.below ++ p.behind)) = ap length at.is ∙ length-append p.before (with_below p ++ p.behind) in
    get_or_read ms start m (omega (arith, long, at.start_is)) is p.child ∙ (around p ms start end at).child

-- there is a child where there is a range
pub range_there : (o : Option Place) (ms : List Member) (start end : ℕ) → AreAt o ms (Some (start, end)) → (p : Place) × (o ≡ Some p) × IsRange ms p start end
range_there None ms start end at = absurd at
range_there (Some p) ms start end at = (p, refl, at)

-- a range was taken out, and others were put in there
pub put_there : (p : Place) (ms left new all : List Member) (start end : ℕ) → IsRange ms p start end → left ≡ remove_range ms start end → all ≡ take start left ++ (new ++ drop start left)
    → all ≡ replaced (in_place new) p
put_there p ms left new all start end at is put =
    let parts = around p ms start end at in
    let both : left ≡ p.before ++ p.behind = is ∙ (λ j. parts.before j ++ parts.behind j) in
    put ∙ (λ j. ((λ k. take (at.start_is k) (both k)) ∙ take-append_seam p.before p.behind) j ++ (new ++ ((λ k. drop (at.start_is k) (both k)) ∙ drop-append_seam p.before p.behind) j))

pub fewer_left : (p : Place) (ms left : List Member) (start end : ℕ) → IsRange ms p start end → left ≡ remove_range ms start end → length left ≤ length ms
fewer_left p ms left start end at is =
    let parts = around p ms start end at in
    let long : length ms ≡ length p.before + length (with_below p ++ p.behind) = ap length at.is ∙ length-append p.before (with_below p ++ p.behind) in
    let behind : length (with_below p ++ p.behind) ≡ length (with_below p) + length p.behind = length-append (with_below p) p.behind in
    let short : length left ≡ length p.before + length p.behind = ap length (is ∙ (λ j. parts.before j ++ parts.behind j)) ∙ length-append p.before p.behind in
    omega (arith, long, behind, short)
