-- What the handler follows of all slots.
use Rattle.std.proofs.Common.{◌≡◌, ◌≢◌, ℕ, ◌+◌, ◌<◌, ◌≤◌, true, false, if◌then◌else◌, nat_lt, List, Option, None, slice_index_or, slice_set, refl, ap, sym, subst, ◌∙◌, arith}
use Rattle.std.proofs.lemmas.Bool.Decides.{nat_tests}
use Rattle.std.proofs.Math.ListN.{length-set}
use Rattle.std.proofs.Common.{get_or-set_same, get_or-set_other, subst₂}
use native.Mathlib.Decide.{ℕ_discrete}
use mathlib.Core.Logic.{dite}
use Rattle.proc_table.specs.declared.view.View.{View}
use Rattle.proc_table.specs.Agrees.{slots}
use Rattle.proc_table.specs.Parts.{part_of}
use Rattle.held_processes.specs.Course.{Courses, Operation, ModulesBySlot, course_after, on_module, runs}
use Rattle.held_processes.specs.Following.{HeldForm, HeldSlots, Follows, AllFollow}
use Rattle.held_processes.specs.Operations.{up_to}
use Rattle.held_processes.specs.Slots.{SlotPast, IsFollowed, Steps}

-- a slot's past
abbrev pub past_of : View → Courses → ℕ → SlotPast
past_of first cs p = record { lent = first.lent; first = part_of first.parts p; course = cs p }

-- courses that are the same in each slot
pub follow_same : (first : View) (cs ds : Courses) (hs : HeldSlots) (v : View) → ((p : ℕ) → p < slots → cs p ≡ ds p) → AllFollow first cs hs v → AllFollow first ds hs v
follow_same first cs ds hs v same f = record {
  handler = f.handler;
  count = f.count;
  lent = f.lent;
  long = f.long;
  each = λ p inside. subst (λ d. Follows first.lent p (part_of first.parts p) d (part_of v.parts p) (slice_index_or hs p None)) (same p inside) (f.each p inside);
}

-- one slot of all
pub at_slot : (first : View) (begun cs : Courses) (hs : HeldSlots) (v : View) (p : ℕ) (place : Option HeldForm) → AllFollow first cs hs v → p < slots → cs p ≡ begun p → place ≡ slice_index_or hs p None
    → IsFollowed (past_of first begun p) p (begun p) v place
at_slot first begun cs hs v p place f inside same there = record {
  handler = f.handler;
  lent = f.lent;
  follows = subst₂ (λ d h. Follows first.lent p (part_of first.parts p) d (part_of v.parts p) h) same (sym there) (f.each p inside);
}

-- a step at one slot is one of all
pub step_all : (first : View) (begun cs ds : Courses) (hs : HeldSlots) (v w : View) (p : ℕ) (place : Option HeldForm) → AllFollow first cs hs v → p < slots
    → Steps (past_of first begun p) p (ds p) v place w → ((q : ℕ) → q ≢ p → ds q ≡ cs q) → AllFollow first ds (slice_set hs p place) w
step_all first begun cs ds hs v w p place f inside s others = record {
  handler = s.elsewhere.number ∙ f.handler;
  count = s.elsewhere.count ∙ f.count;
  lent = s.elsewhere.lent ∙ f.lent;
  long = length-set hs p place ∙ f.long;
  each = λ q below. dite (ℕ_discrete q p)
      (λ e. subst (λ z. Follows first.lent z (part_of first.parts z) (ds z) (part_of w.parts z) (slice_index_or (slice_set hs p place) z None)) (sym e)
      (subst (λ h. Follows first.lent p (part_of first.parts p) (ds p) (part_of w.parts p) h) (sym (get_or-set_same hs p place None (subst (λ n. p < n) (sym f.long) inside))) s.follows))
      (λ ne. let same : part_of w.parts q ≡ part_of v.parts q = s.elsewhere.others q ne in
      subst₂ (λ d h. Follows first.lent q (part_of first.parts q) d (part_of w.parts q) h) (sym (others q ne)) (sym (get_or-set_other hs p q place None ne))
      (subst (λ x. Follows first.lent q (part_of first.parts q) (cs q) x (slice_index_or hs q None)) (sym same) (f.each q below)));
}

-- courses that are changed up to a slot
pub up_to_none : (ds cs : Courses) (p : ℕ) → up_to 0 ds cs p ≡ cs p
up_to_none ds cs p = let none : nat_lt p 0 ≡ false = grind (arith, nat_tests) in rw none refl

pub up_to_all : (n : ℕ) (ds cs : Courses) (p : ℕ) → p < n → up_to n ds cs p ≡ ds p
up_to_all n ds cs p below = let all : nat_lt p n ≡ true = grind (arith, nat_tests) in rw all refl

pub up_to_here : (n : ℕ) (ds cs : Courses) → up_to n ds cs n ≡ cs n
up_to_here n ds cs = let none : nat_lt n n ≡ false = grind (arith, nat_tests) in rw none refl

pub up_to_more : (n : ℕ) (ds cs : Courses) → up_to (n + 1) ds cs n ≡ ds n
up_to_more n ds cs = let here : nat_lt n (n + 1) ≡ true = grind (arith, nat_tests) in rw here refl

pub up_to_others : (n : ℕ) (ds cs : Courses) (q : ℕ) → q ≢ n → up_to (n + 1) ds cs q ≡ up_to n ds cs q
up_to_others n ds cs q ne = let same : nat_lt q (n + 1) ≡ nat_lt q n = grind (arith, nat_tests) in rw same refl

-- a slot that is passed over
pub pass_over : (first : View) (ds cs : Courses) (hs : HeldSlots) (v : View) (n : ℕ) → ds n ≡ cs n → AllFollow first (up_to n ds cs) hs v → AllFollow first (up_to (n + 1) ds cs) hs v
pass_over first ds cs hs v n same f =
    follow_same first (up_to n ds cs) (up_to (n + 1) ds cs) hs v (λ p inside. dite (ℕ_discrete p n)
    (λ e. subst (λ q. up_to n ds cs q ≡ up_to (n + 1) ds cs q) (sym e) (up_to_here n ds cs ∙ (sym same ∙ sym (up_to_more n ds cs))))
    (λ ne. sym (up_to_others n ds cs p ne))) f

-- a slot in which a step is made
pub step_over : (first : View) (ds cs : Courses) (hs : HeldSlots) (v w : View) (n : ℕ) (place : Option HeldForm) → n < slots → AllFollow first (up_to n ds cs) hs v
    → Steps (past_of first cs n) n (ds n) v place w → AllFollow first (up_to (n + 1) ds cs) (slice_set hs n place) w
step_over first ds cs hs v w n place inside f s =
    step_all first cs (up_to n ds cs) (up_to (n + 1) ds cs) hs v w n place f inside (subst (λ d. Steps (past_of first cs n) n d v place w) (sym (up_to_more n ds cs)) s)
    (λ q ne. up_to_others n ds cs q ne)

-- a slot in which a step failed
pub step_none : (first : View) (ds cs : Courses) (hs : HeldSlots) (v w : View) (n : ℕ) (place : Option HeldForm) → n < slots → AllFollow first (up_to n ds cs) hs v
    → Steps (past_of first cs n) n (cs n) v place w → AllFollow first (up_to n ds cs) (slice_set hs n place) w
step_none first ds cs hs v w n place inside f s =
    step_all first cs (up_to n ds cs) (up_to n ds cs) hs v w n place f inside (subst (λ d. Steps (past_of first cs n) n d v place w) (sym (up_to_here n ds cs)) s) (λ q ne. refl)

-- no slot was reached yet, and each was
pub none_reached : (first : View) (ds cs : Courses) (hs : HeldSlots) (v : View) → AllFollow first cs hs v → AllFollow first (up_to 0 ds cs) hs v
none_reached first ds cs hs v f = follow_same first cs (up_to 0 ds cs) hs v (λ p inside. sym (up_to_none ds cs p)) f

pub all_reached : (first : View) (ds cs : Courses) (hs : HeldSlots) (v : View) (n : ℕ) → slots ≤ n → AllFollow first (up_to n ds cs) hs v → AllFollow first ds hs v
all_reached first ds cs hs v n far f = follow_same first (up_to n ds cs) ds hs v (λ p inside. up_to_all n ds cs p (omega arith)) f

-- whom an operation on a module is for
pub on_user : (users : ModulesBySlot) (name : List ℕ) (op : Operation) (cs : Courses) (p : ℕ) → runs name (users p) ≡ true → course_after op (cs p) ≡ on_module users name op cs p
on_user users name op cs p is = sym (ap (λ b. if b then course_after op (cs p) else cs p) is)

pub on_other : (users : ModulesBySlot) (name : List ℕ) (op : Operation) (cs : Courses) (p : ℕ) → runs name (users p) ≡ false → on_module users name op cs p ≡ cs p
on_other users name op cs p is = ap (λ b. if b then course_after op (cs p) else cs p) is
