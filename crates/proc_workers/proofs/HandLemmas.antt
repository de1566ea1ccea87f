-- Each step of an end keeps what a mailbox keeps, and so nothing is lost.
use Rattle.std.proofs.Common.{◌≡◌, ◌≢◌, ◌⊎◌, ◌≤◌, ◌<◌, ◌==◌, ℕ, zero, suc, ◌+◌, Bool, true, false, if◌then◌else◌, List, [], ◌∷◌, ◌++◌, length, map, set, sym, refl, ap, ◌∙◌, subst, subst₂, inl, inr, ⊎_elim, append_assoc, append-nil, arith, length-set, length-append}
use Rattle.std.proofs.lemmas.Bool.Decides.{nat_tests}
use mathlib.Core.Option.{some, some-injective, some-ne-none}
use mathlib.Core.Logic.{dite}
use native.Mathlib.Decide.{ℕ_discrete}
use lib.ListN.{get_elem?}
use Rattle.atomic_table.proofs.Lists.{at_set, set_here, set_else, at_last, at_longer}
use Rattle.crossbeam_channel.specs.Fifo.{Pushes, Pops, Forks}
use Rattle.proc_workers.specs.declared.hand.Hand.{Hand}
use Rattle.proc_workers.specs.declared.note.Note.{Note}
use Rattle.proc_workers.specs.Hands.{first_hand, next_hand, with_end_made, with_note_sent, with_note_taken, Added, notes_of, FitsHand, IsHandOf, AreWhole, HaveMakers, Delivers, AreHandsOf, weigh, weigh_all, NothingIsLost, NothingWaits}

-- ---- the notes of one end
notes_more : (n : ℕ) (order : List Added) (m : ℕ) (x : Note) → notes_of n (order ++ (m, x) ∷ []) ≡ notes_of n order ++ (if m == n then x ∷ [] else [])
notes_more n [] m x = refl
notes_more n (a ∷ more) m x = go (a.0 == n) (notes_more n more m x)
  where
    go : (b : Bool) → notes_of n (more ++ (m, x) ∷ []) ≡ notes_of n more ++ (if m == n then x ∷ [] else [])
        → (if b then a.1 ∷ notes_of n (more ++ (m, x) ∷ []) else notes_of n (more ++ (m, x) ∷ [])) ≡ (if b then a.1 ∷ notes_of n more else notes_of n more) ++ (if m == n then x ∷ [] else [])
    go true e = ap (λ (l : List Note). a.1 ∷ l) e
    go false e = e

own_more : (n : ℕ) (order : List Added) (x : Note) → notes_of n (order ++ (n, x) ∷ []) ≡ notes_of n order ++ x ∷ []
own_more n order x =
    let yes : (n == n) ≡ true = grind (arith, nat_tests) in
    notes_more n order n x ∙ ap (λ (b : Bool). notes_of n order ++ (if b then x ∷ [] else [])) yes

others_same : (n : ℕ) (order : List Added) (m : ℕ) (x : Note) → n ≢ m → notes_of n (order ++ (m, x) ∷ []) ≡ notes_of n order
others_same n order m x ne =
    let no : (m == n) ≡ false = grind (arith, nat_tests) in
    notes_more n order m x ∙ (ap (λ (b : Bool). notes_of n order ++ (if b then x ∷ [] else [])) no ∙ append-nil (notes_of n order))

all_more : (order : List Added) (m : ℕ) (x : Note) → map (λ (a : Added). a.1) (order ++ (m, x) ∷ []) ≡ map (λ (a : Added). a.1) order ++ x ∷ []
all_more [] m x = refl
all_more (a ∷ more) m x = ap (λ (l : List Note). a.1 ∷ l) (all_more more m x)

-- ---- ends by their numbers
within : (l : List Hand) (n : ℕ) (v : Hand) → get_elem? l n ≡ some v → n < length l
within [] n v e = absurd (some-ne-none v (sym e))
within (x ∷ xs) zero v e = omega arith
within (x ∷ xs) (suc n) v e = let h = within xs n v e in omega arith

hand_at : (l : List Hand) (n : ℕ) → n < length l → (v : Hand) × (get_elem? l n ≡ some v)
hand_at [] n lt = absurd (omega arith)
hand_at (x ∷ xs) zero lt = (x, refl)
hand_at (x ∷ xs) (suc n) lt = hand_at xs n (omega arith)

below_or : (n m : ℕ) → (n < m) ⊎ (m ≤ n)
below_or n zero = inr (omega arith)
below_or zero (suc m) = inl (omega arith)
below_or (suc n) (suc m) = ⊎_elim (λ h. inl (omega arith)) (λ h. inr (omega arith)) (below_or n m)

at_end : (l : List Hand) (a b : Hand) (n : ℕ) → get_elem? (l ++ a ∷ []) n ≡ some b → (get_elem? l n ≡ some b) ⊎ ((n ≡ length l) × (a ≡ b))
at_end [] a b zero e = inr (refl, some-injective a b e)
at_end [] a b (suc n) e = absurd (some-ne-none b (sym e))
at_end (x ∷ xs) a b zero e = inl e
at_end (x ∷ xs) a b (suc n) e = ⊎_elim (λ h. inl h) (λ h. inr (ap suc h.0, h.1)) (at_end xs a b n e)

-- ends with one name are one end
same_hand : (hands : List Hand) → AreWhole hands → (v w : Hand) → IsHandOf hands v → IsHandOf hands w → v.name ≡ w.name → v ≡ w
same_hand hands whole v w a b e =
    let is = whole.differ a.0 b.0 v w a.1 b.1 e in
    some-injective v w (sym (subst (λ (k : ℕ). get_elem? hands k ≡ some v) is a.1) ∙ b.1)

-- ---- an end that changed kept its name
end_before : (hands : List Hand) (n : ℕ) (v w : Hand) → get_elem? hands n ≡ some v → w.name ≡ v.name → w.made ≤ v.made → (m : ℕ) (u : Hand) → get_elem? (set hands n w) m ≡ some u
    → (old : Hand) × (get_elem? hands m ≡ some old) × (old.name ≡ u.name) × (u.made ≤ old.made)
end_before hands n v w at name made m u e = ⊎_elim
    (λ (x : (m ≡ n) × (w ≡ u)). (v, subst (λ k. get_elem? hands k ≡ some v) (sym x.0) at, sym name ∙ ap (λ (y : Hand). y.name) x.1, subst (λ (y : Hand). y.made ≤ v.made) x.1 made))
    (λ (x : (m ≢ n) × (get_elem? hands m ≡ some u)). (u, x.1, refl, omega arith)) (at_set hands n m w u e)

end_after : (hands : List Hand) (n : ℕ) (v w : Hand) → get_elem? hands n ≡ some v → w.name ≡ v.name → v.made ≤ w.made → (m : ℕ) (u : Hand) → get_elem? hands m ≡ some u
    → (new : Hand) × (get_elem? (set hands n w) m ≡ some new) × (new.name ≡ u.name) × (u.made ≤ new.made)
end_after hands n v w at name made m u e = dite (ℕ_discrete m n)
    (λ is.
    let same : v ≡ u = some-injective v u (sym at ∙ subst (λ (k : ℕ). get_elem? hands k ≡ some u) is e) in
    let here = set_here hands n w (within hands n v at) in (
      w,
      subst (λ (k : ℕ). get_elem? (set hands n w) k ≡ some w) (sym is) here,
      name ∙ ap (λ (y : Hand). y.name) same,
      subst (λ (y : Hand). y.made ≤ w.made) same made,
    ))
    (λ ne. (u, set_else hands n m w ne ∙ e, refl, omega arith))

whole_still : (hands : List Hand) (n : ℕ) (v w : Hand) → get_elem? hands n ≡ some v → w.name ≡ v.name → w.made ≡ v.made → AreWhole hands → AreWhole (set hands n w)
whole_still hands n v w at name made whole = record { differ = differ; first = first; made = all_made }
  where
    before : (m : ℕ) (u : Hand) → get_elem? (set hands n w) m ≡ some u → (old : Hand) × (get_elem? hands m ≡ some old) × (old.name ≡ u.name) × (u.made ≤ old.made)
    before = end_before hands n v w at name (omega arith)

    after : (m : ℕ) (u : Hand) → get_elem? hands m ≡ some u → (new : Hand) × (get_elem? (set hands n w) m ≡ some new) × (new.name ≡ u.name) × (u.made ≤ new.made)
    after = end_after hands n v w at name (omega arith)

    differ : (i j : ℕ) (x y : Hand) → get_elem? (set hands n w) i ≡ some x → get_elem? (set hands n w) j ≡ some y → x.name ≡ y.name → i ≡ j
    differ i j x y ex ey e = let a = before i x ex in let b = before j y ey in whole.differ i j a.0 b.0 a.1 b.1 (a.2 ∙ (e ∙ sym b.2))

    first : (u : Hand) × IsHandOf (set hands n w) u × (u.name ≡ [])
    first = let f = whole.first in let b = after f.1.0 f.0 f.1.1 in (b.0, (f.1.0, b.1), b.2 ∙ f.2)

    all_made : (x : Hand) (k : ℕ) → IsHandOf (set hands n w) x → k < x.made → (y : Hand) × IsHandOf (set hands n w) y × (y.name ≡ k ∷ x.name)
    all_made x k here lt =
        let a = before here.0 x here.1 in
        let le = a.3 in
        let f = whole.made a.0 k (here.0, a.1) (omega arith) in
        let b = after f.1.0 f.0 f.1.1 in
        (b.0, (f.1.0, b.1), b.2 ∙ (f.2 ∙ ap (λ (l : List ℕ). k ∷ l) a.2))

makers_still : (hands : List Hand) (n : ℕ) (v w : Hand) → get_elem? hands n ≡ some v → w.name ≡ v.name → w.made ≡ v.made → HaveMakers hands → HaveMakers (set hands n w)
makers_still hands n v w at name made makers x k of here e =
    let a = end_before hands n v w at name (omega arith) here.0 x here.1 in
    let f = makers a.0 k of (here.0, a.1) (a.2 ∙ e) in
    let b = end_after hands n v w at name (omega arith) f.1.0 f.0 f.1.1 in
    let lt = f.3 in
    let le = b.3 in
    (b.0, (f.1.0, b.1), b.2 ∙ f.2, omega arith)

-- ---- the steps
pub adds : (k n : ℕ) (v : Hand) (x : Note) → Pushes Delivers k n v x (λ w. w ≡ with_note_sent x v)
adds k n v x waiting hands room d at = (w, record { order = order; each = each; known = known; whole = whole_still hands n v w at refl refl d.whole; makers = makers_still hands n v w at refl refl d.makers }, refl)
  where
    w : Hand
    w = with_note_sent x v

    order : List Added
    order = d.order ++ (n, x) ∷ []

    taken_more : (taken : List Note) → map (λ (a : Added). a.1) d.order ≡ taken ++ waiting → map (λ (a : Added). a.1) order ≡ taken ++ (waiting ++ x ∷ [])
    taken_more taken e = all_more d.order n x ∙ (ap (λ (l : List Note). l ++ x ∷ []) e ∙ append_assoc taken waiting (x ∷ []))

    mine : FitsHand order (waiting ++ x ∷ []) n w
    mine = let fits = d.each n v at in record {
      sent = own_more n d.order x ∙ ap (λ (l : List Note). l ++ x ∷ []) fits.sent;
      taken = λ r. taken_more v.taken (fits.taken r);
    }

    each : (m : ℕ) (u : Hand) → get_elem? (set hands n w) m ≡ some u → FitsHand order (waiting ++ x ∷ []) m u
    each m u e = ⊎_elim
        (λ (is : (m ≡ n) × (w ≡ u)). subst₂ (λ (i : ℕ) (y : Hand). FitsHand order (waiting ++ x ∷ []) i y) (sym is.0) is.1 mine)
        (λ (other : (m ≢ n) × (get_elem? hands m ≡ some u)). let fits = d.each m u other.1 in record {
          sent = others_same m d.order n x other.0 ∙ fits.sent;
          taken = λ r. taken_more u.taken (fits.taken r);
        }) (at_set hands n m w u e)

    known : (m : ℕ) → length (set hands n w) ≤ m → notes_of m order ≡ []
    known m le =
        let long = length-set hands n w in
        let here = within hands n v at in
        others_same m d.order n x (λ e. omega arith) ∙ d.known m (omega arith)

pub takes : (n : ℕ) (v : Hand) → v.name ≡ [] → Pops Delivers n v (λ x w. w ≡ with_note_taken x v)
takes n v reads x waiting hands d at = (w, record { order = d.order; each = each; known = known; whole = whole_still hands n v w at refl refl d.whole; makers = makers_still hands n v w at refl refl d.makers }, refl)
  where
    w : Hand
    w = with_note_taken x v

    mine : FitsHand d.order waiting n w
    mine = let fits = d.each n v at in record {
      sent = fits.sent;
      taken = λ r. fits.taken r ∙ sym (append_assoc v.taken (x ∷ []) waiting);
    }

    each : (m : ℕ) (u : Hand) → get_elem? (set hands n w) m ≡ some u → FitsHand d.order waiting m u
    each m u e = ⊎_elim
        (λ (is : (m ≡ n) × (w ≡ u)). subst₂ (λ (i : ℕ) (y : Hand). FitsHand d.order waiting i y) (sym is.0) is.1 mine)
        (λ (other : (m ≢ n) × (get_elem? hands m ≡ some u)). let fits = d.each m u other.1 in record {
          sent = fits.sent;
          taken = λ r. absurd (other.0 (d.whole.differ m n u v other.1 at (r ∙ sym reads)));
        }) (at_set hands n m w u e)

    known : (m : ℕ) → length (set hands n w) ≤ m → notes_of m d.order ≡ []
    known m le = let long = length-set hands n w in d.known m (omega arith)

-- The end was there before one more was made: its hand is as it was, but that its maker counts one more.
abbrev IsOld : List Hand → Hand → ℕ → Hand → Type 0
IsOld hands v m u = (old : Hand) × (get_elem? hands m ≡ some old) × (old.name ≡ u.name) × (old.sent ≡ u.sent) × (old.taken ≡ u.taken)
    × ((k : ℕ) → k < u.made → (k < old.made) ⊎ ((k ≡ v.made) × (old.name ≡ v.name)))

pub forks : (n : ℕ) (v : Hand) → Forks Delivers n v (with_end_made v) (next_hand v)
forks n v waiting hands d at = record { order = d.order; each = each; known = known; whole = record { differ = differ; first = first; made = all_made }; makers = makers }
  where
    left : Hand
    left = with_end_made v

    right : Hand
    right = next_hand v

    ends : List Hand
    ends = set hands n left ++ right ∷ []

    long : length (set hands n left) ≡ length hands
    long = length-set hands n left

    old_left : IsOld hands v n left
    old_left = (v, at, refl, refl, refl, λ k lt. dite (ℕ_discrete k v.made) (λ is. inr (is, refl)) (λ ne. inl (omega arith)))

    before : (m : ℕ) (u : Hand) → get_elem? ends m ≡ some u → IsOld hands v m u ⊎ ((m ≡ length hands) × (right ≡ u))
    before m u e = ⊎_elim
        (λ h. inl (⊎_elim
        (λ (is : (m ≡ n) × (left ≡ u)). subst₂ (IsOld hands v) (sym is.0) is.1 old_left)
        (λ (other : (m ≢ n) × (get_elem? hands m ≡ some u)). (u, other.1, refl, refl, refl, λ k lt. inl lt)) (at_set hands n m left u h)))
        (λ (is : (m ≡ length (set hands n left)) × (right ≡ u)). inr (is.0 ∙ long, is.1))
        (at_end (set hands n left) right u m e)

    after : (m : ℕ) (u : Hand) → get_elem? hands m ≡ some u → (new : Hand) × (get_elem? ends m ≡ some new) × (new.name ≡ u.name) × (u.made ≤ new.made)
    after m u e =
        let f = end_after hands n v left at refl (omega arith) m u e in
        (f.0, at_longer (set hands n left) (right ∷ []) m f.0 f.1, f.2, f.3)

    fresh : FitsHand d.order waiting (length hands) right
    fresh = record { sent = d.known (length hands) (omega arith); taken = λ r. let e : (v.made ∷ v.name) ≡ [] = r in absurd (cc) }

    each : (m : ℕ) (u : Hand) → get_elem? ends m ≡ some u → FitsHand d.order waiting m u
    each m u e = ⊎_elim
        (λ (a : IsOld hands v m u). let fits = d.each m a.0 a.1 in record {
          sent = fits.sent ∙ a.3;
          taken = λ r. fits.taken (a.2 ∙ r) ∙ ap (λ (l : List Note). l ++ waiting) a.4;
        })
        (λ (is : (m ≡ length hands) × (right ≡ u)). subst₂ (λ (i : ℕ) (y : Hand). FitsHand d.order waiting i y) (sym is.0) is.1 fresh)
        (before m u e)

    known : (m : ℕ) → length ends ≤ m → notes_of m d.order ≡ []
    known m le = let more = length-append (set hands n left) (right ∷ []) in d.known m (omega (arith, long, more, le))

    is_new : (m : ℕ) (u : Hand) → get_elem? hands m ≡ some u → u.name ≡ v.made ∷ v.name → ⊥
    is_new m u e is =
        let f = d.makers u v.made v.name (m, e) is in
        let lt : v.made < v.made = subst (λ (y : Hand). v.made < y.made) (same_hand hands d.whole f.0 v f.1 (n, at) f.2) f.3 in
        omega arith

    differ : (i j : ℕ) (x y : Hand) → get_elem? ends i ≡ some x → get_elem? ends j ≡ some y → x.name ≡ y.name → i ≡ j
    differ i j x y ex ey e = ⊎_elim
        (λ (a : IsOld hands v i x). ⊎_elim
        (λ (b : IsOld hands v j y). d.whole.differ i j a.0 b.0 a.1 b.1 (a.2 ∙ (e ∙ sym b.2)))
        (λ (b : (j ≡ length hands) × (right ≡ y)). absurd (is_new i a.0 a.1 (a.2 ∙ (e ∙ sym (ap (λ (u : Hand). u.name) b.1)))))
        (before j y ey))
        (λ (a : (i ≡ length hands) × (right ≡ x)). ⊎_elim
        (λ (b : IsOld hands v j y). absurd (is_new j b.0 b.1 (b.2 ∙ (sym e ∙ sym (ap (λ (u : Hand). u.name) a.1)))))
        (λ (b : (j ≡ length hands) × (right ≡ y)). a.0 ∙ sym b.0)
        (before j y ey))
        (before i x ex)

    first : (u : Hand) × IsHandOf ends u × (u.name ≡ [])
    first = let f = d.whole.first in let b = after f.1.0 f.0 f.1.1 in (b.0, (f.1.0, b.1), b.2 ∙ f.2)

    all_made : (x : Hand) (k : ℕ) → IsHandOf ends x → k < x.made → (y : Hand) × IsHandOf ends y × (y.name ≡ k ∷ x.name)
    all_made x k here lt = ⊎_elim
        (λ (a : IsOld hands v here.0 x). ⊎_elim
        (λ (less : k < a.0.made).
        let f = d.whole.made a.0 k (here.0, a.1) less in
        let b = after f.1.0 f.0 f.1.1 in
        (b.0, (f.1.0, b.1), b.2 ∙ (f.2 ∙ ap (λ (l : List ℕ). k ∷ l) a.2)))
        (λ (is : (k ≡ v.made) × (a.0.name ≡ v.name)).
        let name : (v.made ∷ v.name) ≡ k ∷ x.name = ap (λ (z : ℕ). z ∷ v.name) (sym is.0) ∙ ap (λ (l : List ℕ). k ∷ l) (sym is.1 ∙ a.2) in
        (right, (length hands, at_last (set hands n left) right (length hands) long), name))
        (a.5 k lt))
        (λ (is : (here.0 ≡ length hands) × (right ≡ x)). let none : k < 0 = subst (λ (y : Hand). k < y.made) (sym is.1) lt in absurd (omega arith))
        (before here.0 x here.1)

    makers : HaveMakers ends
    makers x k name here e = ⊎_elim
        (λ (a : IsOld hands v here.0 x).
        let f = d.makers a.0 k name (here.0, a.1) (a.2 ∙ e) in
        let b = after f.1.0 f.0 f.1.1 in
        let lt = f.3 in
        let le = b.3 in
        (b.0, (f.1.0, b.1), b.2 ∙ f.2, omega arith))
        (λ (is : (here.0 ≡ length hands) × (right ≡ x)).
        let whole : (v.made ∷ v.name) ≡ k ∷ name = ap (λ (y : Hand). y.name) is.1 ∙ e in
        let number : v.made ≡ k = cc in
        let of : v.name ≡ name = cc in
        (left, (n, at_longer (set hands n left) (right ∷ []) n left (set_here hands n left (within hands n v at))), of, omega arith))
        (before here.0 x here.1)

-- ---- what is counted
weigh_append : (h : Note → ℕ) (xs ys : List Note) → weigh h (xs ++ ys) ≡ weigh h xs + weigh h ys
weigh_append h [] ys = omega arith
weigh_append h (x ∷ xs) ys = let e = weigh_append h xs ys in omega arith

-- ---- the numbers of ends
abbrev IsOneOf : ℕ → List ℕ → Type 0
IsOneOf n [] = ⊥
IsOneOf n (m ∷ more) = (n ≡ m) ⊎ IsOneOf n more

abbrev AreDistinct : List ℕ → Type 0
AreDistinct [] = Unit {0}
AreDistinct (m ∷ more) = ¬ IsOneOf m more × AreDistinct more

-- the notes of these ends
abbrev weigh_ends : (Note → ℕ) → List Added → List ℕ → ℕ
weigh_ends h order [] = 0
weigh_ends h order (n ∷ more) = weigh h (notes_of n order) + weigh_ends h order more

none_added : (h : Note → ℕ) (ends : List ℕ) → weigh_ends h [] ends ≡ 0
none_added h [] = refl
none_added h (n ∷ more) = let e = none_added h more in omega arith

-- a note more is that of its end
first_own : (h : Note → ℕ) (a : Added) (more : List Added) (n : ℕ) → a.0 ≡ n → weigh h (notes_of n (a ∷ more)) ≡ h a.1 + weigh h (notes_of n more)
first_own h a more n e =
    let yes : (a.0 == n) ≡ true = grind (arith, nat_tests) in
    ap (λ (b : Bool). weigh h (if b then a.1 ∷ notes_of n more else notes_of n more)) yes

first_other : (a : Added) (more : List Added) (n : ℕ) → a.0 ≢ n → notes_of n (a ∷ more) ≡ notes_of n more
first_other a more n ne =
    let no : (a.0 == n) ≡ false = grind (arith, nat_tests) in
    ap (λ (b : Bool). if b then a.1 ∷ notes_of n more else notes_of n more) no

added_elsewhere : (h : Note → ℕ) (a : Added) (more : List Added) (ends : List ℕ) → ¬ IsOneOf a.0 ends → weigh_ends h (a ∷ more) ends ≡ weigh_ends h more ends
added_elsewhere h a more [] out = refl
added_elsewhere h a more (n ∷ ends) out =
    let first : weigh h (notes_of n (a ∷ more)) ≡ weigh h (notes_of n more) = ap (weigh h) (first_other a more n (λ e. out (inl e))) in
    let rest = added_elsewhere h a more ends (λ i. out (inr i)) in
    omega arith

added_here : (h : Note → ℕ) (a : Added) (more : List Added) (ends : List ℕ) → AreDistinct ends → IsOneOf a.0 ends → weigh_ends h (a ∷ more) ends ≡ h a.1 + weigh_ends h more ends
added_here h a more [] distinct here = absurd here
added_here h a more (n ∷ ends) distinct here = dite (ℕ_discrete a.0 n)
    (λ e.
    let first = first_own h a more n e in
    let rest = added_elsewhere h a more ends (λ i. distinct.0 (subst (λ (m : ℕ). IsOneOf m ends) e i)) in
    omega arith)
    (λ ne.
    let first : weigh h (notes_of n (a ∷ more)) ≡ weigh h (notes_of n more) = ap (weigh h) (first_other a more n ne) in
    let rest = added_here h a more ends distinct.1 (⊎_elim (λ e. absurd (ne e)) (λ i. i) here) in
    omega arith)

-- the notes of all ends but those in the list are none
all_counted : (h : Note → ℕ) (order : List Added) (ends : List ℕ) → AreDistinct ends → ((n : ℕ) → ¬ IsOneOf n ends → notes_of n order ≡ []) → weigh_ends h order ends ≡ weigh h (map (λ (a : Added). a.1) order)
all_counted h [] ends distinct others = none_added h ends
all_counted h (a ∷ more) ends distinct others =
    let one = added_here h a more ends distinct (by_contradiction_here a.0 ends (λ out. added a more (others a.0 out))) in
    let rest = all_counted h more ends distinct (λ n out. sym (first_other a more n (λ e. added a more (others a.0 (subst (λ (m : ℕ). ¬ IsOneOf m ends) (sym e) out)))) ∙ others n out) in
    omega arith
  where
    added : (a : Added) (more : List Added) → notes_of a.0 (a ∷ more) ≡ [] → ⊥
    added a more none =
        let yes : (a.0 == a.0) ≡ true = grind (arith, nat_tests) in
        let e : (a.1 ∷ notes_of a.0 more) ≡ [] = sym (ap (λ (b : Bool). if b then a.1 ∷ notes_of a.0 more else notes_of a.0 more) yes) ∙ none in
        cc

    by_contradiction_here : (n : ℕ) (ends : List ℕ) → ¬ ¬ IsOneOf n ends → IsOneOf n ends
    by_contradiction_here n [] not = not (λ i. i)
    by_contradiction_here n (m ∷ more) not = dite (ℕ_discrete n m) (λ e. inl e) (λ ne. inr (by_contradiction_here n more (λ out. not (λ i. ⊎_elim (λ e. ne e) (λ j. out j) i))))

-- ---- the ends that somebody knows
abbrev numbers : (hands these : List Hand) → AreHandsOf hands these → List ℕ
numbers hands [] of = []
numbers hands (v ∷ more) of = (of v (0, refl)).0 ∷ numbers hands more (λ u at. of u (suc at.0, at.1))

number_of : (hands these : List Hand) (of : AreHandsOf hands these) (v : Hand) → IsHandOf these v → (n : ℕ) × IsOneOf n (numbers hands these of) × (get_elem? hands n ≡ some v)
number_of hands [] of v (n, e) = absurd (some-ne-none v (sym e))
number_of hands (x ∷ more) of v (zero, e) =
    let at = of x (0, refl) in
    (at.0, inl refl, subst (λ (y : Hand). get_elem? hands at.0 ≡ some y) (some-injective x v e) at.1)
number_of hands (x ∷ more) of v (suc n, e) =
    let f = number_of hands more (λ u at. of u (suc at.0, at.1)) v (n, e) in
    (f.0, inr f.1, f.2)

end_with : (hands these : List Hand) (of : AreHandsOf hands these) (n : ℕ) → IsOneOf n (numbers hands these of) → (i : ℕ) × (v : Hand) × (get_elem? these i ≡ some v) × (get_elem? hands n ≡ some v)
end_with hands [] of n i = absurd i
end_with hands (x ∷ more) of n i = ⊎_elim
    (λ e. let at = of x (0, refl) in (0, x, refl, subst (λ (m : ℕ). get_elem? hands m ≡ some x) (sym e) at.1))
    (λ j. let f = end_with hands more (λ u at. of u (suc at.0, at.1)) n j in (suc f.0, f.1, f.2, f.3)) i

distinct_numbers : (hands these : List Hand) (of : AreHandsOf hands these)
    → ((i j : ℕ) (v w : Hand) → get_elem? these i ≡ some v → get_elem? these j ≡ some w → v.name ≡ w.name → i ≡ j) → AreDistinct (numbers hands these of)
distinct_numbers hands [] of differ = tt
distinct_numbers hands (x ∷ more) of differ = (apart, distinct_numbers hands more (λ u at. of u (suc at.0, at.1)) later)
  where
    apart : ¬ IsOneOf (of x (0, refl)).0 (numbers hands more (λ u at. of u (suc at.0, at.1)))
    apart i =
        let at = of x (0, refl) in
        let f = end_with hands more (λ u at. of u (suc at.0, at.1)) at.0 i in
        let same : x ≡ f.1 = some-injective x f.1 (sym at.1 ∙ f.3) in
        let one : 0 ≡ suc f.0 = differ 0 (suc f.0) x f.1 refl f.2 (ap (λ (y : Hand). y.name) same) in
        absurd (omega arith)

    later : (i j : ℕ) (v w : Hand) → get_elem? more i ≡ some v → get_elem? more j ≡ some w → v.name ≡ w.name → i ≡ j
    later i j v w ei ej e = let one : suc i ≡ suc j = differ (suc i) (suc j) v w ei ej e in omega arith

known_weighed : (h : Note → ℕ) (order : List Added) (hands these : List Hand) (of : AreHandsOf hands these) → ((n : ℕ) (v : Hand) → get_elem? hands n ≡ some v → notes_of n order ≡ v.sent)
    → weigh_all h these ≡ weigh_ends h order (numbers hands these of)
known_weighed h order hands [] of fits = refl
known_weighed h order hands (v ∷ more) of fits =
    let at = of v (0, refl) in
    let first : weigh h (notes_of at.0 order) ≡ weigh h v.sent = ap (weigh h) (fits at.0 v at.1) in
    let rest = known_weighed h order hands more (λ u at. of u (suc at.0, at.1)) fits in
    omega arith

-- whoever knows the first end, and with an end those that it made, knows all
all_known : (waiting : List Note) (hands : List Hand) → Delivers waiting hands → (these : List Hand) → AreWhole these → AreHandsOf hands these → (name : List ℕ) (v : Hand) → IsHandOf hands v → v.name ≡ name
    → IsHandOf these v
all_known waiting hands d these whole of [] v at e =
    let f = whole.first in
    subst (λ (y : Hand). IsHandOf these y) (same_hand hands d.whole f.0 v (of f.0 f.1) at (f.2 ∙ sym e)) f.1
all_known waiting hands d these whole of (k ∷ name) v at e =
    let m = d.makers v k name at e in
    let f = whole.made m.0 k (all_known waiting hands d these whole of name m.0 m.1 m.2) m.3 in
    subst (λ (y : Hand). IsHandOf these y) (same_hand hands d.whole f.0 v (of f.0 f.1) at (f.2 ∙ (ap (λ (l : List ℕ). k ∷ l) m.2 ∙ sym e))) f.1

pub nothing_is_lost : NothingIsLost
nothing_is_lost waiting hands d these whole of v here reads h =
    let ends = known_weighed h d.order hands these of (λ n u e. (d.each n u e).sent) in
    let order = all_counted h d.order (numbers hands these of) (distinct_numbers hands these of whole.differ) others in
    let at = of v here in
    let both = ap (weigh h) ((d.each at.0 v at.1).taken reads) in
    let parts = weigh_append h v.taken waiting in
    omega arith
  where
    inside : (n : ℕ) → n < length hands → IsOneOf n (numbers hands these of)
    inside n lt =
        let u = hand_at hands n lt in
        let f = number_of hands these of u.0 (all_known waiting hands d these whole of u.0.name u.0 (n, u.1) refl) in
        subst (λ (m : ℕ). IsOneOf m (numbers hands these of)) (d.whole.differ f.0 n u.0 u.0 f.2 u.1 refl) f.1

    others : (n : ℕ) → ¬ IsOneOf n (numbers hands these of) → notes_of n d.order ≡ []
    others n out = ⊎_elim (λ lt. absurd (out (inside n lt))) (λ le. d.known n le) (below_or n (length hands))

-- ---- a new mailbox
pub begins : Delivers [] (first_hand ∷ [])
begins = record { order = []; each = each; known = λ n le. refl; whole = record { differ = differ; first = (first_hand, (0, refl), refl); made = made }; makers = makers }
  where
    at_first : (n : ℕ) (v : Hand) → get_elem? (first_hand ∷ []) n ≡ some v → (n ≡ 0) × (first_hand ≡ v)
    at_first zero v e = (refl, some-injective first_hand v e)
    at_first (suc n) v e = absurd (some-ne-none v (sym e))

    each : (n : ℕ) (v : Hand) → get_elem? (first_hand ∷ []) n ≡ some v → FitsHand [] [] n v
    each n v e = subst (λ (y : Hand). FitsHand [] [] n y) (at_first n v e).1 (record { sent = refl; taken = λ r. refl })

    differ : (n m : ℕ) (v w : Hand) → get_elem? (first_hand ∷ []) n ≡ some v → get_elem? (first_hand ∷ []) m ≡ some w → v.name ≡ w.name → n ≡ m
    differ n m v w a b e = (at_first n v a).0 ∙ sym (at_first m w b).0

    made : (v : Hand) (k : ℕ) → IsHandOf (first_hand ∷ []) v → k < v.made → (w : Hand) × IsHandOf (first_hand ∷ []) w × (w.name ≡ k ∷ v.name)
    made v k here lt = let none : k < 0 = subst (λ (y : Hand). k < y.made) (sym (at_first here.0 v here.1).1) lt in absurd (omega arith)

    makers : HaveMakers (first_hand ∷ [])
    makers v k name here e =
        let none : [] ≡ k ∷ name = ap (λ (y : Hand). y.name) (at_first here.0 v here.1).1 ∙ e in
        absurd (cc)

none_weighed : (ns : List Note) → 0 ≡ weigh (λ n. 1) ns → ns ≡ []
none_weighed [] e = refl
none_weighed (n ∷ ns) e = absurd (omega arith)

abbrev new_hands : List Hand
new_hands = with_end_made first_hand ∷ next_hand first_hand ∷ []

new_whole : AreWhole new_hands
new_whole = record { differ = differ; first = (with_end_made first_hand, (0, refl), refl); made = made }
  where
    unlike : (v w : Hand) → with_end_made first_hand ≡ v → next_hand first_hand ≡ w → v.name ≡ w.name → ⊥
    unlike v w is also e = let none : [] ≡ 0 ∷ [] = ap (λ (y : Hand). y.name) is ∙ (e ∙ sym (ap (λ (y : Hand). y.name) also)) in cc

    differ : (n m : ℕ) (v w : Hand) → get_elem? new_hands n ≡ some v → get_elem? new_hands m ≡ some w → v.name ≡ w.name → n ≡ m
    differ zero zero v w a b e = refl
    differ zero (suc zero) v w a b e = absurd (unlike v w (some-injective _ v a) (some-injective _ w b) e)
    differ (suc zero) zero v w a b e = absurd (unlike w v (some-injective _ w b) (some-injective _ v a) (sym e))
    differ (suc zero) (suc zero) v w a b e = refl
    differ (suc (suc n)) m v w a b e = absurd (some-ne-none v (sym a))
    differ n (suc (suc m)) v w a b e = absurd (some-ne-none w (sym b))

    made_at : (n : ℕ) (v : Hand) (k : ℕ) → get_elem? new_hands n ≡ some v → k < v.made → (w : Hand) × IsHandOf new_hands w × (w.name ≡ k ∷ v.name)
    made_at zero v k e lt =
        let is : with_end_made first_hand ≡ v = some-injective _ v e in
        let one : k < 1 = subst (λ (y : Hand). k < y.made) (sym is) lt in
        let name : (0 ∷ []) ≡ k ∷ v.name = ap (λ (z : ℕ). z ∷ []) (omega arith) ∙ ap (λ (y : Hand). k ∷ y.name) is in
        (next_hand first_hand, (1, refl), name)
    made_at (suc zero) v k e lt =
        let is : next_hand first_hand ≡ v = some-injective _ v e in
        let none : k < 0 = subst (λ (y : Hand). k < y.made) (sym is) lt in
        absurd (omega arith)
    made_at (suc (suc n)) v k e lt = absurd (some-ne-none v (sym e))

    made : (v : Hand) (k : ℕ) → IsHandOf new_hands v → k < v.made → (w : Hand) × IsHandOf new_hands w × (w.name ≡ k ∷ v.name)
    made v k here lt = made_at here.0 v k here.1 lt

new_empty : NothingWaits new_hands
new_empty waiting hands d of =
    let lost : 0 + (0 + 0) ≡ 0 + weigh (λ (n : Note). 1) waiting = nothing_is_lost waiting hands d new_hands new_whole of (with_end_made first_hand) (0, refl) refl (λ n. 1) in
    none_weighed waiting (omega arith)

pub nothing_waits : (first second : Hand) → first ≡ with_end_made first_hand → second ≡ next_hand first_hand → NothingWaits (first ∷ second ∷ [])
nothing_waits first second is also = subst₂ (λ (v w : Hand). NothingWaits (v ∷ w ∷ [])) (sym is) (sym also) new_empty
