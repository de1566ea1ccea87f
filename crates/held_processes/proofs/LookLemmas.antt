-- A look at processes: whether one of a module is up.
use Rattle.std.proofs.Common.{◌≡◌, ◌≢◌, ℕ, ◌+◌, ◌<◌, ◌≤◌, Bool, ◌&&◌, not, true, false, true≢false, Option, None, is_some, slice_index_or, List, arith, ap, sym, subst, ⊎_elim, ◌∙◌}
use Rattle.std.proofs.lemmas.Bool.{cases_lt}
use native.Mathlib.Decide.{ℕ_discrete}
use mathlib.Core.Logic.{dite}
use Rattle.proc_history.specs.Histories.{replay, replay_from}
use Rattle.proc_history.specs.Values.{up_at}
use Rattle.proc_table.specs.declared.view.View.{View}
use Rattle.proc_table.specs.Parts.{Part, part_of}
use Rattle.proc_table.specs.Views.{seen}
use Rattle.proc_table.specs.Waits.{HasTaken}
use Rattle.held_processes.specs.Course.{Courses, ModulesBySlot, runs}
use Rattle.held_processes.specs.Course.Hold.{not_held}
use Rattle.held_processes.specs.Following.{AllFollow, AreLonger, Follows, HeldForm, HeldSlots}
use Rattle.held_processes.specs.Operations.{AreLookedAt, is_free_user, is_held, is_up_user, values_seen}
use Rattle.held_processes.specs.Slots.{IsLookedAt, Steps, value_with}
use Rattle.held_processes.proofs.AnyLemmas.{any_found}
use Rattle.held_processes.proofs.FollowLemmas.{past_of}
use Rattle.held_processes.proofs.TakenLemmas.{free_user, taken_later, taken_since}

-- all follow after a look at one slot
pub looked_at : (first : View) (cs : Courses) (hs : HeldSlots) (v w : View) (p : ℕ) (place : Option HeldForm) → AllFollow first cs hs v → place ≡ slice_index_or hs p None
    → Steps (past_of first cs p) p (cs p) v place w → AllFollow first cs hs w
looked_at first cs hs v w p place f there s = record {
  handler = s.elsewhere.number ∙ f.handler;
  count = s.elsewhere.count ∙ f.count;
  lent = s.elsewhere.lent ∙ f.lent;
  long = f.long;
  each = λ q inside. dite (ℕ_discrete q p)
      (λ is. subst (λ z. Follows first.lent z (part_of first.parts z) (cs z) (part_of w.parts z) (slice_index_or hs z None)) (sym is)
      (subst (λ (h : Option HeldForm). Follows first.lent p (part_of first.parts p) (cs p) (part_of w.parts p) h) there s.follows))
      (λ ne. subst (λ (x : Part). Follows first.lent q (part_of first.parts q) (cs q) x (slice_index_or hs q None)) (sym (s.elsewhere.others q ne)) (f.each q inside));
}

-- none of the slots so far has one, as they are seen after a look at another
pub looked_none : (users : ModulesBySlot) (name : List ℕ) (cs : Courses) (v w : View) (n : ℕ) → ((q : ℕ) → q ≢ n → part_of w.parts q ≡ part_of v.parts q)
    → ((p : ℕ) → p < n → is_up_user (values_seen v) users name cs p ≡ false) → is_up_user (values_seen w) users name cs n ≡ false
    → (p : ℕ) → p < n + 1 → is_up_user (values_seen w) users name cs p ≡ false
looked_none users name cs v w n others none here p below = dite (ℕ_discrete p n)
    (λ is. subst (λ q. is_up_user (values_seen w) users name cs q ≡ false) (sym is) here)
    (λ ne. ap (λ (x : Part). runs name (users p) && is_some (up_at (replay_from (replay x.seen) (cs p).pending).now)) (others p ne) ∙ none p (omega (arith, below)))

pub not_user : (users : ModulesBySlot) (name : List ℕ) (cs : Courses) (v : View) (p : ℕ) → runs name (users p) ≡ false → is_up_user (values_seen v) users name cs p ≡ false
not_user users name cs v p none = ap (λ (a : Bool). a && is_some (up_at (value_with (seen v p) (cs p)).now)) none

-- the slots of processes of the module that aren't held were taken, of so many lowest ones
abbrev pub AreTaken : ModulesBySlot → List ℕ → Courses → View → ℕ → View → Type 0
AreTaken users name cs v n w = (p : ℕ) → p < n → is_free_user users name cs p ≡ true → HasTaken p v w

-- The slots of the module's processes that aren't held were taken, with one slot more after a look at it.
pub one_taken : (first : View) (users : ModulesBySlot) (name : List ℕ) (cs : Courses) (v u w : View) (n : ℕ) → AreLonger v u → IsLookedAt (past_of first cs n) n u w → AreLonger u w → AreTaken users name cs v n u
    → AreTaken users name cs v (n + 1) w
one_taken first users name cs v u w n more looked later so_far p below free = dite (ℕ_discrete p n)
    (λ is. subst (λ q. HasTaken q v w) (sym is) (taken_since n v u w more (looked (subst (λ q. (cs q).hold ≡ not_held) is (free_user users name cs p free)))))
    (λ ne. taken_later p v u w (so_far p (omega (arith, below, ne)) free) later)

-- The slots of the module's processes that aren't held were taken, with one slot more that has no such process.
pub none_taken : (users : ModulesBySlot) (name : List ℕ) (cs : Courses) (v u : View) (n : ℕ) → runs name (users n) ≡ false → AreTaken users name cs v n u → AreTaken users name cs v (n + 1) u
none_taken users name cs v u n none so_far p below free = dite (ℕ_discrete p n)
    (λ is. let no : is_free_user users name cs p ≡ false = ap (λ (b : Bool). b && not (is_held (cs p).hold)) (subst (λ q. runs name (users q) ≡ false) (sym is) none) in absurd (true≢false (sym free ∙ no)))
    (λ ne. so_far p (omega (arith, below, ne)) free)

-- up to one that is up
pub taken_up_to : (first : View) (users : ModulesBySlot) (name : List ℕ) (cs : Courses) (v u w : View) (n : ℕ) → AreLonger v u → IsLookedAt (past_of first cs n) n u w → AreLonger u w → AreTaken users name cs v n u
    → is_up_user (values_seen w) users name cs n ≡ true → AreLookedAt users name cs v w
taken_up_to first users name cs v u w n more looked later so_far up p inside free none =
    ⊎_elim (λ (beyond : n < p). absurd (true≢false (sym (any_found (is_up_user (values_seen w) users name cs) p n beyond up) ∙ none)))
    (λ (near : p ≤ n). one_taken first users name cs v u w n more looked later so_far p (omega (arith, near)) free) (cases_lt n p)
