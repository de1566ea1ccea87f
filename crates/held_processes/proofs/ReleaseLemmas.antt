-- Which processes are let go, and the end of a script.
use Rattle.std.proofs.Common.{◌≡◌, ◌≢◌, ℕ, ◌+◌, ◌<◌, ◌≤◌, true, false, List, [], ◌∷◌, ◌++◌, length, length-append, Option, Some, None, refl, ap, sym, subst, ◌∙◌, arith, slice_index_or}
use Rattle.std.proofs.lemmas.List.{get_or_append_left, get_or_push}
use native.Mathlib.Decide.{ℕ_discrete}
use mathlib.Core.Logic.{dite}
use Rattle.proc_table.specs.declared.view.View.{View}
use Rattle.proc_table.specs.Agrees.{slots}
use Rattle.proc_table.specs.Parts.{Part, part_of}
use Rattle.held_processes.specs.declared.processes.Which.{Which}
use Rattle.held_processes.specs.declared.processes.Which.TheVariants.{Of, UntilPoint}
use Rattle.held_processes.specs.Course.{Hold, Course, Courses, at_point, course_after, if_held, let_go}
use Rattle.held_processes.specs.Course.Hold.{not_held, until_point, until_resumed}
use Rattle.held_processes.specs.Course.Operation.{finish, resume}
use Rattle.held_processes.specs.Following.{HeldForm, HeldSlots, IsHeld, IsFree, Follows, AllFollow, IsLeft, AreLeft}
use Rattle.held_processes.specs.InMemory.{behind_release, is_released, is_until_point}
use Rattle.held_processes.specs.Operations.{modules_by_slot}
use Rattle.held_processes.specs.Slots.{IsFollowed, Steps, dropped}
use Rattle.held_processes.proofs.SlotLemmas.{free_case, held_case}
use Rattle.held_processes.proofs.FollowLemmas.{past_of, on_user, on_other}

at_the_point : (k : Hold) (c : Course) → is_until_point k ≡ true → if_held k (let_go c) c ≡ at_point k c
at_the_point not_held c e = absurd (cc)
at_the_point until_point c e = refl
at_the_point until_resumed c e = absurd (cc)

not_at_point : (k : Hold) (c : Course) → is_until_point k ≡ false → at_point k c ≡ c
not_at_point not_held c e = refl
not_at_point until_point c e = absurd (cc)
not_at_point until_resumed c e = refl

-- a process that is let go
pub is_let_go : (which : Which) (cs : Courses) (lent : List ℕ) (p : ℕ) (first x : Part) (place : Option HeldForm) → Follows lent p first (cs p) x place → is_released which p place ≡ true
    → course_after resume (cs p) ≡ behind_release which cs p
is_let_go (Of users) cs lent p first x place f e = on_user (modules_by_slot users.tree.now) users.module.now resume cs p e
is_let_go UntilPoint cs lent p first x None f e = absurd (cc)
is_let_go UntilPoint cs lent p first x (Some h) f e = let held : IsHeld p (cs p) x h = f.at in at_the_point (cs p).hold (cs p) (sym (ap is_until_point held.hold) ∙ e)

-- one that isn't
pub is_kept : (which : Which) (cs : Courses) (lent : List ℕ) (p : ℕ) (first x : Part) (place : Option HeldForm) → Follows lent p first (cs p) x place → is_released which p place ≡ false
    → behind_release which cs p ≡ cs p
is_kept (Of users) cs lent p first x place f e = on_other (modules_by_slot users.tree.now) users.module.now resume cs p e
is_kept UntilPoint cs lent p first x None f e = let free : IsFree (cs p) x = f.at in ap (λ k. at_point k (cs p)) free.hold
is_kept UntilPoint cs lent p first x (Some h) f e = let held : IsHeld p (cs p) x h = f.at in not_at_point (cs p).hold (cs p) (sym (ap is_until_point held.hold) ∙ e)

-- The places that are left of all are as their courses say, and what stood in the others is after the end of the script.
pub record IsEnding (first : View) (cs : Courses) (behind : Course → Course) (left : HeldSlots) (v : View) : Type 0 where
  pub handler : v.number ≡ 0
  pub count : v.count ≡ first.count
  pub lent : v.lent ≡ first.lent
  pub long : length left ≤ slots
  pub going : (p : ℕ) → p < length left → Follows first.lent p (part_of first.parts p) (cs p) (part_of v.parts p) (slice_index_or left p None)
  pub ended : (p : ℕ) → p < slots → length left ≤ p → IsLeft first.lent (part_of first.parts p) (behind (cs p)) (part_of v.parts p)

pub all_going : (first : View) (cs : Courses) (behind : Course → Course) (hs : HeldSlots) (v : View) → AllFollow first cs hs v → IsEnding first cs behind hs v
all_going first cs behind hs v f = record {
  handler = f.handler;
  count = f.count;
  lent = f.lent;
  long = omega (arith, f.long);
  going = λ p below. f.each p (omega (arith, f.long));
  ended = λ p inside past. absurd (omega (arith, f.long));
}

pub all_ended : (first : View) (cs : Courses) (behind : Course → Course) (hs : HeldSlots) (v : View) → length hs ≡ 0 → IsEnding first cs behind hs v → AreLeft first (λ p. behind (cs p)) v
all_ended first cs behind hs v none e = record {
  handler = e.handler;
  count = e.count;
  lent = e.lent;
  each = λ p inside. e.ended p inside (omega (arith, none));
}

-- what isn't held is left as it is
pub left_free : (lent : List ℕ) (p : ℕ) (first : Part) (c : Course) (x : Part) → Follows lent p first c x None → IsLeft lent first c x
left_free lent p first c x f = let free : IsFree c x = f.at in record { mine = f.mine; stand = f.stand; out = free.out }

-- the end of a script changes nothing of a process that isn't held
abbrev pub KeepsFree : (Course → Course) → Type 0
KeepsFree behind = (c : Course) → c.hold ≡ not_held → c.pending ≡ [] → behind c ≡ c

pub finish_keeps_free : KeepsFree (course_after finish)
finish_keeps_free c free none = free_case c.hold (let_go c) c free

pub dropped_keeps_free : KeepsFree dropped
dropped_keeps_free c free none = λ i. record { hold = sym free i; blocks = c.blocks; pending = sym none i }

-- one place fewer is left
one_fewer : (hs left : HeldSlots) (place : Option HeldForm) → hs ≡ left ++ place ∷ [] → length hs ≡ length left + 1
one_fewer hs left place is = ap length is ∙ length-append left (place ∷ [])

last_place : (hs left : HeldSlots) (place : Option HeldForm) → hs ≡ left ++ place ∷ [] → slice_index_or hs (length left) None ≡ place
last_place hs left place is = ap (λ (l : HeldSlots). slice_index_or l (length left) None) is ∙ get_or_push left place None (length left) refl

other_place : (hs left : HeldSlots) (place : Option HeldForm) (p : ℕ) → hs ≡ left ++ place ∷ [] → p < length left → slice_index_or hs p None ≡ slice_index_or left p None
other_place hs left place p is below = ap (λ (l : HeldSlots). slice_index_or l p None) is ∙ get_or_append_left left (place ∷ []) None p below

still_going : (first : View) (cs : Courses) (behind : Course → Course) (hs left : HeldSlots) (place : Option HeldForm) (v : View) → hs ≡ left ++ place ∷ [] → IsEnding first cs behind hs v → (p : ℕ) → p < length left
    → Follows first.lent p (part_of first.parts p) (cs p) (part_of v.parts p) (slice_index_or left p None)
still_going first cs behind hs left place v is e p below =
    subst (λ (h : Option HeldForm). Follows first.lent p (part_of first.parts p) (cs p) (part_of v.parts p) h) (other_place hs left place p is below)
    (e.going p (omega (arith, one_fewer hs left place is)))

last_going : (first : View) (cs : Courses) (behind : Course → Course) (hs left : HeldSlots) (place : Option HeldForm) (v : View) → hs ≡ left ++ place ∷ [] → IsEnding first cs behind hs v
    → Follows first.lent (length left) (part_of first.parts (length left)) (cs (length left)) (part_of v.parts (length left)) place
last_going first cs behind hs left place v is e =
    let p = length left in
    subst (λ (h : Option HeldForm). Follows first.lent p (part_of first.parts p) (cs p) (part_of v.parts p) h) (last_place hs left place is) (e.going p (omega (arith, one_fewer hs left place is)))

-- what is left of a place that isn't held
pub ends_free : (first : View) (cs : Courses) (behind : Course → Course) (hs left : HeldSlots) (v : View) → KeepsFree behind → hs ≡ left ++ None ∷ [] → IsEnding first cs behind hs v → IsEnding first cs behind left v
ends_free first cs behind hs left v keeps is e =
    let n = length left in
    let last = last_going first cs behind hs left None v is e in
    let free : IsFree (cs n) (part_of v.parts n) = last.at in record {
      handler = e.handler;
      count = e.count;
      lent = e.lent;
      long = omega (arith, e.long, one_fewer hs left None is);
      going = still_going first cs behind hs left None v is e;
      ended = λ p inside far. dite (ℕ_discrete p n)
          (λ here. subst (λ q. IsLeft first.lent (part_of first.parts q) (behind (cs q)) (part_of v.parts q)) (sym here)
          (subst (λ d. IsLeft first.lent (part_of first.parts n) d (part_of v.parts n)) (sym (keeps (cs n) free.hold free.pending))
          (left_free first.lent n (part_of first.parts n) (cs n) (part_of v.parts n) last)))
          (λ ne. e.ended p inside (omega (arith, one_fewer hs left None is)));
    }

-- what is left of a place whose process has ended
pub ends_held : (first : View) (cs : Courses) (behind : Course → Course) (hs left : HeldSlots) (h : HeldForm) (v w : View) → hs ≡ left ++ Some h ∷ [] → IsEnding first cs behind hs v
    → Steps (past_of first cs h.held.slot) h.held.slot (behind (cs h.held.slot)) v None w → IsEnding first cs behind left w
ends_held first cs behind hs left h v w is e s =
    let n = length left in
    let last = last_going first cs behind hs left (Some h) v is e in
    let held : IsHeld n (cs n) (part_of v.parts n) h = last.at in
    let there = subst (λ q. Steps (past_of first cs q) q (behind (cs q)) v None w) held.slot s in
    let same : (q : ℕ) → q ≢ n → part_of v.parts q ≡ part_of w.parts q = λ q ne. sym (there.elsewhere.others q ne) in record {
      handler = there.elsewhere.number ∙ e.handler;
      count = there.elsewhere.count ∙ e.count;
      lent = there.elsewhere.lent ∙ e.lent;
      long = omega (arith, e.long, one_fewer hs left (Some h) is);
      going = λ p below. subst (λ x. Follows first.lent p (part_of first.parts p) (cs p) x (slice_index_or left p None)) (same p (omega arith)) (still_going first cs behind hs left (Some h) v is e p below);
      ended = λ p inside far. dite (ℕ_discrete p n)
          (λ here. subst (λ q. IsLeft first.lent (part_of first.parts q) (behind (cs q)) (part_of w.parts q)) (sym here)
          (left_free first.lent n (part_of first.parts n) (behind (cs n)) (part_of w.parts n) there.follows))
          (λ ne. subst (λ x. IsLeft first.lent (part_of first.parts p) (behind (cs p)) x) (same p ne) (e.ended p inside (omega (arith, one_fewer hs left (Some h) is))));
    }

-- the process of the last place may end
pub may_end : (first : View) (cs : Courses) (behind : Course → Course) (hs left : HeldSlots) (h : HeldForm) (v : View) → hs ≡ left ++ Some h ∷ [] → IsEnding first cs behind hs v
    → IsFollowed (past_of first cs h.held.slot) h.held.slot (cs h.held.slot) v (Some h)
may_end first cs behind hs left h v is e =
    let n = length left in
    let last = last_going first cs behind hs left (Some h) v is e in
    let held : IsHeld n (cs n) (part_of v.parts n) h = last.at in
    subst (λ q. IsFollowed (past_of first cs q) q (cs q) v (Some h)) (sym held.slot) (record { handler = e.handler; lent = e.lent; follows = last })

-- what is given back as it was leaves the blocks
pub left_dropped : (first : View) (cs : Courses) (v : View) → AreLeft first (λ p. dropped (cs p)) v → AreLeft first cs v
left_dropped first cs v a = record {
  handler = a.handler;
  count = a.count;
  lent = a.lent;
  each = λ p inside. let x = a.each p inside in record { mine = x.mine; stand = x.stand; out = x.out };
}

-- a process that is let go at the end of a script
pub finish_let_go : (first : View) (cs : Courses) (hs left : HeldSlots) (h : HeldForm) (v w : View) → hs ≡ left ++ Some h ∷ [] → IsEnding first cs (course_after finish) hs v
    → Steps (past_of first cs h.held.slot) h.held.slot (let_go (cs h.held.slot)) v None w → Steps (past_of first cs h.held.slot) h.held.slot (course_after finish (cs h.held.slot)) v None w
finish_let_go first cs hs left h v w is e s =
    let now = may_end first cs (course_after finish) hs left h v is e in
    let slot = h.held.slot in
    let held : IsHeld slot (cs slot) (part_of v.parts slot) h = now.follows.at in
    subst (λ d. Steps (past_of first cs slot) slot d v None w) (sym (held_case (cs slot).hold (let_go (cs slot)) (cs slot) held.really)) s
