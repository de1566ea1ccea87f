-- Processes that began one after another.
use Rattle.std.proofs.Common.{◌≡◌, ◌≢◌, ℕ, suc, ◌+◌, ◌<◌, ◌≤◌, ⊎_elim, List, [], ◌∷◌, ◌++◌, length, map, Option, Some, None, refl, ap, sym, subst, ◌∙◌, arith, add-zero, append-nil, append_assoc}
use Rattle.std.proofs.lemmas.Bool.{cases_lt}
use Rattle.std.proofs.lemmas.List.{get_or-replicate}
use native.Mathlib.Decide.{ℕ_discrete}
use mathlib.Core.Logic.{dite}
use Rattle.mod_table.specs.declared.table.Table.{Table}
use Rattle.mod_table.specs.declared.table.Table.TheVariants.{Worker, Super}
use Rattle.proc_table.specs.Histories.{replay}
use Rattle.proc_table.specs.declared.view.View.{View}
use Rattle.proc_table.specs.declared.pid.Pid.{Pid}
use Rattle.proc_table.specs.Parts.{Part, part_of}
use Rattle.proc_table.specs.Free.{free_count, next_in, LowestFree}
use Rattle.proc_table.specs.Agrees.{slots}
use Rattle.proc_table.specs.Views.{handler_view}
use Rattle.proc_table.proofs.CountLemmas.{begins_take_one}
use Rattle.proc_table.proofs.FreeLemmas.{first_noted}
use Rattle.proc_table.proofs.BeginLemmas.{began_elsewhere, next_elsewhere, began_there, began_taken}
use Rattle.started_members.specs.declared.begins.NewProcess.{NewProcess}
use Rattle.started_members.specs.declared.begins.Preparation.{Preparation}
use Rattle.started_members.specs.declared.member.Member.{Member}
use Rattle.started_members.specs.declared.member.StartedProcess.{StartedProcess}
use Rattle.started_members.specs.Preparations.{process_in_table, preparation_of, to_begin, IsBegun, IsBegunWith, AllBegan}
use Rattle.started_members.specs.Begins.{beginning_of, member_with, state_at, left_behind, members_at, BeganInOrder}
use Rattle.started_members.specs.Members.{pids_of, process_and}
use Rattle.app_members.specs.Walk.{NewMember, Start, start_in, starts_among}
use Rattle.started_members.specs.Laws.{WhatBeganStands, FreeFrom, AreFrom, FirstSlots}

-- The processes of these members began in order, and the members stand so.
pub record MembersBegan (app : List ℕ) (ns : List NewMember) (v : View) (ms : List Member) (w : View) : Type 0 where
  pub processes : List StartedProcess
  pub began : BeganInOrder app (starts_among ns) v processes w
  pub members : ms ≡ members_at ns (pids_of processes)

-- the same with one in front of them whose module has this table
record MembersBeganBehind (app : List ℕ) (n : NewMember) (t : Table) (ns : List NewMember) (v : View) (m : Member) (ms : List Member) (w : View) : Type 0 where
  processes : List StartedProcess
  began : BeganInOrder app (start_in n.child t ++ starts_among ns) v processes w
  members : m ∷ ms ≡ member_with n (state_at t n.child (pids_of processes)) ∷ members_at ns (left_behind t (pids_of processes))

first_begun : (app : List ℕ) (n : NewMember) (t : Table) (ns : List NewMember) (v u : View) (m : Member) (ms : List Member) (w : View)
    → IsBegunWith (process_in_table app n.child t) (member_with n (state_at t n.child [])) v m u → MembersBegan app ns u ms w → MembersBeganBehind app n t ns v m ms w
first_begun app n (Worker x) ns v u m ms w (pid, began, is) later = record {
  processes = record { id = n.child.id; «module» = n.child.start; pid = pid } ∷ later.processes;
  began = (u, began, refl, later.began);
  members = λ j. is j ∷ later.members j;
}
first_begun app n (Super s) ns v u m ms w (is, same) later = record {
  processes = later.processes;
  began = subst (λ z. BeganInOrder app (starts_among ns) z later.processes w) same later.began;
  members = λ j. is j ∷ later.members j;
}

-- what is said of members for which memory was there is said of what they are made of
pub in_order : (app : List ℕ) (ns : List NewMember) (v : View) (ms : List Member) (w : View) → AllBegan (map (preparation_of app) ns) v ms w → MembersBegan app ns v ms w
in_order app [] v [] w all = record { processes = []; began = all; members = refl }
in_order app [] v (m ∷ ms) w all = absurd all
in_order app (n ∷ ns) v [] w all = absurd all
in_order app (n ∷ ns) v (m ∷ ms) w (u, begun, later) =
    let both = first_begun app n n.table ns v u m ms w begun (in_order app ns u ms w later) in
    record { processes = both.processes; began = both.began; members = both.members }

-- as many processes are to begin as start
pub as_many : (app : List ℕ) (ns : List NewMember) → length (to_begin (map (preparation_of app) ns)) ≡ length (starts_among ns)
as_many app [] = refl
as_many app (n ∷ ns) = one_more n.table (as_many app ns)
  where
    one_more : (t : Table) → length (to_begin (map (preparation_of app) ns)) ≡ length (starts_among ns)
        → length (process_and (process_in_table app n.child t) (to_begin (map (preparation_of app) ns))) ≡ length (start_in n.child t ++ starts_among ns)
    one_more (Worker w) same = ap suc same
    one_more (Super s) same = same

-- a process begins where one can
apart_from : (v : View) (pid : Pid) (q : ℕ) → LowestFree v pid → next_in v q ≡ None → q ≢ pid.slot
apart_from v pid q lowest none e = absurd (let same = sym none ∙ (ap (λ p. next_in v p) e ∙ lowest.next) in cc)

-- a slot in which none can begin stays as it is
stays : (app : List ℕ) (ss : List Start) (v w : View) (ps : List StartedProcess) → BeganInOrder app ss v ps w → (q : ℕ) → next_in v q ≡ None → part_of w.parts q ≡ part_of v.parts q
stays app [] v w [] is q none = ap (λ (z : View). part_of z.parts q) is
stays app [] v w (p ∷ ps) is q none = absurd is
stays app (s ∷ ss) v w [] is q none = absurd is
stays app (s ∷ ss) v w (p ∷ ps) (u, began, is, later) q none =
    let ne = apart_from v p.pid q began.0 none in
    let next : next_in u q ≡ None = next_elsewhere (beginning_of app s) v u p.pid began q ne ∙ none in
    stays app ss u w ps later q next ∙ began_elsewhere (beginning_of app s) v u p.pid began q ne

pub what_began_stands : WhatBeganStands
what_began_stands app [] v w [] is = tt
what_began_stands app [] v w (p ∷ ps) is = tt
what_began_stands app (s ∷ ss) v w [] is = absurd is
what_began_stands app (s ∷ ss) v w (p ∷ ps) (u, began, is, later) =
    let stays_so = stays app ss u w ps later p.pid.slot (began_taken (beginning_of app s) v u p.pid began) in (
      ap (λ (x : Part). replay x.seen) stays_so ∙ began_there (beginning_of app s) v u p.pid began,
      what_began_stands app ss u w ps later,
    )

-- the lowest slot of those from one on
not_lower : (n : ℕ) (v : View) (pid : Pid) → FreeFrom n v → LowestFree v pid → pid.slot < n → ⊥
not_lower n v pid free lowest lt = let same = sym lowest.next ∙ free.below pid.slot lt in absurd cc

not_higher : (n : ℕ) (v : View) (pid : Pid) → FreeFrom n v → LowestFree v pid → n < pid.slot → ⊥
not_higher n v pid free lowest lt =
    let inside = pid.inside in
    let same = sym (lowest.lower n lt) ∙ free.from n (omega arith) (omega (arith, lt, inside)) in absurd cc

lowest_slot : (n : ℕ) (v : View) (pid : Pid) → FreeFrom n v → LowestFree v pid → pid.slot ≡ n
lowest_slot n v pid free lowest =
    let low = not_lower n v pid free lowest in
    let high = not_higher n v pid free lowest in
    dite (ℕ_discrete pid.slot n) (λ e. e) (λ ne. absurd (⊎_elim low (λ within. high (omega (arith, within, ne))) (cases_lt pid.slot n)))

lowest_is : (n : ℕ) (v : View) (pid : Pid) → FreeFrom n v → LowestFree v pid → (pid.slot ≡ n) × (pid.round ≡ 1)
lowest_is n v pid free lowest =
    let slot = lowest_slot n v pid free lowest in
    let at : next_in v pid.slot ≡ Some 1 = free.from pid.slot (omega (arith, slot)) pid.inside in
    (slot, let same : Some pid.round ≡ Some 1 = sym lowest.next ∙ at in cc)

in_slots : (app : List ℕ) (ss : List Start) (n : ℕ) (v w : View) (ps : List StartedProcess) → FreeFrom n v → BeganInOrder app ss v ps w
    → AreFrom n ps × FreeFrom (n + length ps) w
in_slots app [] n v w [] free is = (tt, subst (FreeFrom (n + 0)) (sym is) (subst (λ m. FreeFrom m v) (sym (add-zero n)) free))
in_slots app [] n v w (p ∷ ps) free is = absurd is
in_slots app (s ∷ ss) n v w [] free is = absurd is
in_slots app (s ∷ ss) n v w (p ∷ ps) free (u, began, is, later) =
    let at = lowest_is n v p.pid free began.0 in
    let one_less : FreeFrom (suc n) u = record {
      below = λ q lt. dite (ℕ_discrete q p.pid.slot)
          (λ e. ap (λ k. next_in u k) e ∙ began_taken (beginning_of app s) v u p.pid began)
          (λ ne. next_elsewhere (beginning_of app s) v u p.pid began q ne ∙ free.below q (let slot = at.0 in omega (arith, lt, ne, slot)));
      from = λ q above inside. next_elsewhere (beginning_of app s) v u p.pid began q (λ e. absurd (let slot = at.0 in omega (arith, above, e, slot)))
          ∙ free.from q (omega (arith, above)) inside;
    } in
    let rest = in_slots app ss (suc n) u w ps one_less later in
    ((at.0, at.1, rest.0), subst (λ m. FreeFrom m w) (let e : suc n + length ps ≡ n + suc (length ps) = omega arith in e) rest.1)

all_free : FreeFrom 0 (handler_view slots)
all_free =
    let noted = first_noted slots refl in record {
      below = λ q lt. absurd (omega (arith, lt));
      from = λ q above inside. sym (noted.each q inside) ∙ get_or-replicate slots q (Some 1) None inside;
    }

pub first_slots : FirstSlots
first_slots = (all_free, in_slots)

-- there is a slot for each that is to begin
first_has_slot : (o : Option NewProcess) (ps : List Preparation) (free : ℕ) → length (process_and o (to_begin ps)) ≤ free → length (process_and o []) ≤ free
first_has_slot None ps free few = omega arith
first_has_slot (Some n) ps free few = omega (arith, few)

pub has_slot : (left rest : List Preparation) (p : Preparation) (v : View) → left ≡ p ∷ rest → length (to_begin left) ≤ free_count v → length (to_begin (p ∷ [])) ≤ free_count v
has_slot left rest p v split few = first_has_slot p.process rest (free_count v) (subst (λ l. length (to_begin l) ≤ free_count v) split few)

others_have_slots : (o : Option NewProcess) (ps : List Preparation) (m : Member) (v : View) (n : Member) (w : View) → IsBegunWith o m v n w
    → length (process_and o (to_begin ps)) ≤ free_count v → length (to_begin ps) ≤ free_count w
others_have_slots None ps m v n w (is, same) few = subst (λ z. length (to_begin ps) ≤ free_count z) (sym same) few
others_have_slots (Some p) ps m v n w (pid, began, is) few = let one = begins_take_one.0 p.begins v w pid began in omega (arith, one, few)

-- after one that began there is one for each that is left
pub slots_left : (left rest : List Preparation) (p : Preparation) (v : View) (m : Member) (w : View) → left ≡ p ∷ rest → IsBegun p v m w
    → length (to_begin left) ≤ free_count v → length (to_begin rest) ≤ free_count w
slots_left left rest p v m w split begun few =
    others_have_slots p.process rest p.member v m w begun (subst (λ l. length (to_begin l) ≤ free_count v) split few)

-- whatever begins of those that are left completes what began so far
abbrev pub Completes : List Preparation → View → List Member → List Preparation → View → Type 0
Completes all v old left u = (ms : List Member) (w : View) → AllBegan left u ms w → AllBegan all v (old ++ ms) w

-- one more began
pub one_began : (all left rest : List Preparation) (v u x : View) (old new : List Member) (p : Preparation) (m : Member)
    → left ≡ p ∷ rest → IsBegun p u m x → new ≡ old ++ m ∷ [] → Completes all v old left u → Completes all v new rest x
one_began all left rest v u x old new p m split begun more so_far ms w later =
    subst (λ l. AllBegan all v l w) (sym (ap (λ l. l ++ ms) more ∙ append_assoc old (m ∷ []) ms))
    (so_far (m ∷ ms) w (subst (λ ps. AllBegan ps u (m ∷ ms) w) (sym split) (x, begun, later)))

-- none is left
pub all_began : (all left : List Preparation) (v u : View) (old : List Member) → length left ≡ 0 → Completes all v old left u → AllBegan all v old u
all_began all [] v u old none so_far = subst (λ l. AllBegan all v l u) (append-nil old) (so_far [] u refl)
all_began all (p ∷ ps) v u old none so_far = absurd (omega (arith, none))

-- as many stand as began
pub all_stand : (ps : List Preparation) (v : View) (ms : List Member) (w : View) → AllBegan ps v ms w → length ms ≡ length ps
all_stand [] v [] w is = refl
all_stand [] v (m ∷ ms) w is = absurd is
all_stand (p ∷ ps) v [] w is = absurd is
all_stand (p ∷ ps) v (m ∷ ms) w (u, begun, later) = ap suc (all_stand ps u ms w later)
