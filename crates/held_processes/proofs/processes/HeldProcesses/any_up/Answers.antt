use Rattle.std.proofs.Common.{◌≡◌, ◌<◌, ◌≤◌, ◌&&◌, ◌∙◌, ℕ, Bool, Option, refl, ap, ap₂, sym, subst, arith, None, length, slice_index_or}
use Rattle.std.proofs.lemmas.List.{get_or_read_under}
use Rattle.proc_table.specs.Agrees.{slots}
use Rattle.held_processes.specs.Following.{HeldForm, HeldSlots}
use Rattle.held_processes.specs.Operations.{is_up_user, modules_by_slot, values_seen}
use Rattle.held_processes.proofs.AnyLemmas.{any_found, any_none}
use Rattle.held_processes.proofs.FollowLemmas.{at_slot}
use Rattle.held_processes.proofs.LookLemmas.{looked_at, looked_none, none_taken, not_user, one_taken, taken_up_to}
use Rattle.held_processes.proofs.SlotLemmas.{longer_both, longer_still}
use Rattle.held_processes.proofs.processes.HeldProcesses.any_up.Goals as goal
use Rattle.held_processes.proofs.processes.HeldProcesses.any_up.Goals.{then-include+else-is_up, else-include}

-- what is read of a place is what stands there
there : (hs all : HeldSlots) (slot : ℕ) (place : Option HeldForm) → all ≡ hs → slot < slots → length hs ≡ slots → place ≡ slice_index_or all slot place → place ≡ slice_index_or hs slot None
there hs all slot place is inside long read =
    get_or_read_under hs slot slots place None (read ∙ ap (λ (l : HeldSlots). slice_index_or l slot place) is) inside (sym long)

pub loop-slot-init : goal.loop-slot-init
loop-slot-init g c = (
  c.len-slot-end.ensures ∙ (c.self.inside.places.ok.0 ∙ (ap (λ (l : HeldSlots). length l) c.self.view_is ∙ c.requires.1.1.long)),
  c.requires.1.1,
  λ p below. absurd (omega (arith, below)),
  longer_still c.args.access.now,
  λ p below. absurd (omega (arith, below)),
)

pub is_up-requires : goal.is_up-requires
is_up-requires g c κs lives =
    let all = c.loop-slot.invariant.1 in
    let inside = subst (λ n. c.loop-slot.slot < n) c.loop-slot.invariant.0 c.loop-slot-test.true in (
      lives.0,
      (
        lives.1,
        at_slot g.followed.first g.followed.courses g.followed.courses c.args.self.now c.loop-slot.access c.loop-slot.slot c.index.result.now all inside refl
            (there c.args.self.now c.self.inside.places.items c.loop-slot.slot c.index.result.now c.self.view_is inside all.long c.index.ensures),
      ),
    )

pub returns-then-is_up-clause-reported : goal.returns-then-is_up-clause-reported
returns-then-is_up-clause-reported g c =
    let inside = subst (λ n. c.loop-slot.slot < n) c.loop-slot.invariant.0 c.loop-slot-test.true in
    sym (any_found (is_up_user (values_seen c.is_up.new.access) (modules_by_slot c.args.users.now.tree.now) c.args.users.now.module.now g.followed.courses) slots c.loop-slot.slot inside
    (ap₂ (λ (a b : Bool). a && b) (sym c.if-include.ensures) (sym c.if-is_up.ensures.reported)))

pub returns-then-is_up-clause-follow : goal.returns-then-is_up-clause-follow
returns-then-is_up-clause-follow g c =
    let all = c.loop-slot.invariant.1 in
    let inside = subst (λ n. c.loop-slot.slot < n) c.loop-slot.invariant.0 c.loop-slot-test.true in
    looked_at g.followed.first g.followed.courses c.args.self.now c.loop-slot.access c.is_up.new.access c.loop-slot.slot c.index.result.now all
    (there c.args.self.now c.self.inside.places.items c.loop-slot.slot c.index.result.now c.self.view_is inside all.long c.index.ensures) c.if-is_up.ensures.followed

pub loop-slot-preserved : goal.loop-slot-preserved
loop-slot-preserved g c =
    let users = modules_by_slot c.args.users.now.tree.now in
    let name = c.args.users.now.module.now in
    let cs = g.followed.courses in
    let slot = c.loop-slot.slot in
    let all = c.loop-slot.invariant.1 in
    let none = c.loop-slot.invariant.2 in
    let inside = subst (λ n. slot < n) c.loop-slot.invariant.0 c.loop-slot-test.true in
    elim c.if-include.branch [
      | then-include+else-is_up w ↦ rw w.access-is (
        c.loop-slot.invariant.0,
        looked_at g.followed.first cs c.args.self.now c.loop-slot.access w.is_up.new.access slot w.index.result.now all
            (there c.args.self.now c.self.inside.places.items slot w.index.result.now c.self.view_is inside all.long w.index.ensures) w.if-is_up.ensures.followed,
        looked_none users name cs c.loop-slot.access w.is_up.new.access slot w.if-is_up.ensures.followed.elsewhere.others none
            (ap₂ (λ (a b : Bool). a && b) (sym w.if-include.ensures) (sym w.if-is_up.ensures.reported)),
        longer_both c.args.access.now c.loop-slot.access w.is_up.new.access c.loop-slot.invariant.3 w.if-is_up.ensures.longer,
        one_taken g.followed.first users name cs c.args.access.now c.loop-slot.access w.is_up.new.access slot c.loop-slot.invariant.3 w.if-is_up.ensures.looked w.if-is_up.ensures.longer c.loop-slot.invariant.4,
      )
      | else-include w ↦ rw w.access-is (
        c.loop-slot.invariant.0,
        all,
        looked_none users name cs c.loop-slot.access c.loop-slot.access slot (λ q ne. refl) none (not_user users name cs c.loop-slot.access slot (sym w.if-include.ensures)),
        c.loop-slot.invariant.3,
        none_taken users name cs c.args.access.now c.loop-slot.access slot (sym w.if-include.ensures) c.loop-slot.invariant.4,
      )
    ]

pub returns-clause-reported : goal.returns-clause-reported
returns-clause-reported g c =
    let far : slots ≤ c.loop-slot.slot = omega (arith, c.loop-slot-test.false, c.loop-slot.invariant.0) in
    sym (any_none (is_up_user (values_seen c.loop-slot.access) (modules_by_slot c.args.users.now.tree.now) c.args.users.now.module.now g.followed.courses) slots
    (λ p inside. c.loop-slot.invariant.2 p (omega (arith, inside, far))))

pub returns-then-is_up-clause-longer : goal.returns-then-is_up-clause-longer
returns-then-is_up-clause-longer g c = longer_both c.args.access.now c.loop-slot.access c.is_up.new.access c.loop-slot.invariant.3 c.if-is_up.ensures.longer

pub returns-then-is_up-clause-looked : goal.returns-then-is_up-clause-looked
returns-then-is_up-clause-looked g c =
    let users = modules_by_slot c.args.users.now.tree.now in
    let name = c.args.users.now.module.now in
    let w = c.is_up.new.access in
    taken_up_to g.followed.first users name g.followed.courses c.args.access.now c.loop-slot.access w c.loop-slot.slot c.loop-slot.invariant.3 c.if-is_up.ensures.looked c.if-is_up.ensures.longer c.loop-slot.invariant.4
    (ap₂ (λ (a b : Bool). a && b) (sym c.if-include.ensures) (sym c.if-is_up.ensures.reported))

pub returns-clause-looked : goal.returns-clause-looked
returns-clause-looked g c =
    let far : slots ≤ c.loop-slot.slot = omega (arith, c.loop-slot-test.false, c.loop-slot.invariant.0) in
    λ p inside free none. c.loop-slot.invariant.4 p (omega (arith, inside, far)) free
