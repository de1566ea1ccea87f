-- A change of code at one slot, and at all.
use Rattle.std.proofs.Common.{◌≡◌, ℕ, Bool, ◌&&◌, not, true, false, List, Option, Some, None, refl, ap, ap₂, sym, subst, ◌∙◌, is_some}
use Rattle.erl_term.specs.Value as term
use Rattle.worker_table.specs.Table.{OldVersion}
use Rattle.proc_history.specs.declared.value.Value.{Value}
use Rattle.proc_history.specs.declared.value.Now.{Now}
use Rattle.proc_history.specs.declared.value.Standing.{Standing}
use Rattle.proc_history.specs.declared.value.Standing.TheVariants.{Up}
use Rattle.proc_history.specs.Changes.{finds_row, finds_row_at, finds_row_if}
use Rattle.proc_history.specs.Events.Event.{changed}
use Rattle.proc_history.specs.Histories.{replay, replay_from}
use Rattle.proc_history.specs.Values.{nothing, after, changes, moved_to, where_up}
use Rattle.proc_history.proofs.Entries.{replay-append}
use Rattle.proc_table.specs.Parts.{Part}
use Rattle.proc_history.proofs.ReleaseLemmas.{row_may_come}
use Rattle.proc_table.specs.declared.view.View.{View}
use Rattle.proc_table.specs.Holds.{Holding}
use Rattle.proc_table.specs.Views.{seen}
use Rattle.held_processes.specs.Course.{Hold, Course, Courses, ModulesBySlot, add, course_after, runs}
use Rattle.held_processes.specs.Course.Hold.{not_held, until_point, until_resumed}
use Rattle.held_processes.specs.Course.Operation.{change}
use Rattle.held_processes.specs.Following.{HeldForm, IsHeld, IsFree, Follows}
use Rattle.held_processes.specs.Operations.{is_held, is_held_user, lacks_row_at, now_in, values_seen}
use Rattle.held_processes.specs.Slots.{SlotPast, IsFollowed, Steps, ChangesAt}
use Rattle.held_processes.proofs.SlotLemmas.{stays, held_adds, free_case}

-- where no row is found, the value stays
moved_nowhere : (n : Now) (o : Option ℕ) → is_some o ≡ false → moved_to n o ≡ n
moved_nowhere n None e = refl
moved_nowhere n (Some s) e = absurd (cc)

stays_if : (old : OldVersion) (extra : term.Value) (n : Now) (s : Standing) → finds_row_if old extra n s ≡ false → where_up (λ m. moved_to m (changes m old extra)) n s ≡ n
stays_if old extra n Up e = moved_nowhere n (changes n old extra) e
stays_if old extra n s e = absurd (cc)

pub no_row_stays : (old : OldVersion) (extra : term.Value) (v : Value) → finds_row old extra v ≡ false → after v (changed old extra) ≡ v
no_row_stays old extra v e = go v.now e
  where
    go : (o : Option Now) → finds_row_at old extra o ≡ false → after (record { round = v.round; now = o }) (changed old extra) ≡ record { round = v.round; now = o }
    go None f = absurd (cc)
    go (Some n) f = ap (λ m. record { round = v.round; now = Some m }) (stays_if old extra n n.standing f)

-- a change of the process of one slot, and one that found no row
pub changes_at : (past : SlotPast) (p : ℕ) (v : View) (place : Option HeldForm) (old : OldVersion) (extra : term.Value) (b : Bool) (next : Option HeldForm) → IsFollowed past p past.course v place
    → ChangesAt old extra place b next → b ≡ true → Steps past p (course_after (change old extra) past.course) v next v
changes_at past p v None old extra b next f c found =
    let free : IsFree past.course _ = f.follows.at in
    let d = course_after (change old extra) past.course in
    subst (λ (h : Option HeldForm). Steps past p d v h v) (sym c.1) (subst (λ e. Steps past p e v None v) (sym (free_case past.course.hold (add (changed old extra) past.course) past.course free.hold))
    (record { follows = f.follows; elsewhere = stays p v }))
changes_at past p v (Some h) old extra b next f c found =
    let d = course_after (change old extra) past.course in
    let k : Holding = record { slot = h.held.slot; value = after h.held.value (changed old extra) } in
    subst (λ (k : Option HeldForm). Steps past p d v k v) (sym c.1)
    (held_adds past p v (Some h) h k (changed old extra) past.course f refl (λ z. z) (row_may_come old extra h.held.value (c.0 ∙ found)) refl)

pub changes_not : (past : SlotPast) (p : ℕ) (v : View) (place : Option HeldForm) (old : OldVersion) (extra : term.Value) (b : Bool) (next : Option HeldForm) → IsFollowed past p past.course v place
    → ChangesAt old extra place b next → b ≡ false → Steps past p past.course v next v
changes_not past p v None old extra b next f c lacks = absurd (cc (sym c.0 ∙ lacks))
changes_not past p v (Some h) old extra b next f c lacks =
    let same : next ≡ Some h = c.1 ∙ ap (λ (y : Value). Some (record h { held = record { slot = h.held.slot; value = y } })) (no_row_stays old extra h.held.value (c.0 ∙ lacks)) in
    subst (λ (k : Option HeldForm). Steps past p past.course v k v) (sym same) (record { follows = f.follows; elsewhere = stays p v })

-- what is said of holds
pub really_held : (k : Hold) → ((k ≡ not_held) → ⊥) → is_held k ≡ true
really_held not_held really = absurd (really refl)
really_held until_point really = refl
really_held until_resumed really = refl

-- a place is taken exactly where the course says so
pub taken_is_held : (lent : List ℕ) (p : ℕ) (first x : _) (c : Course) (place : Option HeldForm) → Follows lent p first c x place → is_some place ≡ is_held c.hold
taken_is_held lent p first x c None f = let free : IsFree c x = f.at in sym (ap is_held free.hold)
taken_is_held lent p first x c (Some h) f = let held : IsHeld p c x h = f.at in sym (really_held c.hold held.really)

-- what is held is what stands there
pub held_value : (p : ℕ) (c : Course) (x : Part) (h : HeldForm) → IsHeld p c x h → h.held.value ≡ replay_from (replay x.seen) c.pending
held_value p c x h held = held.value ∙ replay-append nothing x.seen c.pending

-- a change finds its row exactly where the process doesn't lack one
pub found_is : (users : ModulesBySlot) (name : List ℕ) (cs : Courses) (p : ℕ) (v : View) (past : SlotPast) (place : Option HeldForm) (old : OldVersion) (extra : term.Value) (b : Bool) (next : Option HeldForm)
    → past.course ≡ cs p → runs name (users p) ≡ true → IsFollowed past p past.course v place → ChangesAt old extra place b next → lacks_row_at old extra (values_seen v) users name cs p ≡ not b
found_is users name cs p v past None old extra b next is user f c =
    let free : IsFree past.course _ = f.follows.at in
    ap₂ (λ (a k : Bool). (a && k) && not (finds_row old extra (now_in (values_seen v) cs p))) user (ap (λ (d : Course). is_held d.hold) (sym is) ∙ ap is_held free.hold) ∙ ap not (sym c.0)
found_is users name cs p v past (Some h) old extra b next is user f c =
    let held : IsHeld p past.course _ h = f.follows.at in
    let here : is_held_user users name cs p ≡ true = ap₂ (λ (a k : Bool). a && k) user (ap (λ (d : Course). is_held d.hold) (sym is) ∙ really_held past.course.hold held.really) in
    let value : now_in (values_seen v) cs p ≡ h.held.value = ap (λ (d : Course). replay_from (replay (seen v p)) d.pending) (sym is) ∙ sym (held_value p past.course _ h held) in
    ap₂ (λ (a k : Bool). a && not k) here (ap (finds_row old extra) value ∙ c.0)

pub lacks_none : (users : ModulesBySlot) (name : List ℕ) (cs : Courses) (p : ℕ) (v : View) (old : OldVersion) (extra : term.Value) → runs name (users p) ≡ false → lacks_row_at old extra (values_seen v) users name cs p ≡ false
lacks_none users name cs p v old extra none = ap (λ (a : Bool). (a && is_held (cs p).hold) && not (finds_row old extra (now_in (values_seen v) cs p))) none
