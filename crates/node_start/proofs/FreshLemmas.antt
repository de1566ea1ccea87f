-- Processes that begin one after another in a new table stand in its first slots.
use Rattle.std.proofs.Common.{◌≡◌, ◌≢◌, ◌⊎◌, inl, inr, ℕ, zero, suc, ◌+◌, ◌<◌, ◌≤◌, List, [], ◌∷◌, ◌++◌, length, map, Option, None, Some, Ok, refl, ap, sym, subst, ◌∙◌, arith, append-nil, append_assoc, length-append, replicate}
use Rattle.std.specs.Prelude.{slice_get, slice_index_or}
use Rattle.std.proofs.lemmas.Bool.{cases_lt}
use Rattle.std.proofs.lemmas.List.{length-map}
use Rattle.std.specs.List.{range_with_len}
use native.Mathlib.Bridge.{le_prop}
use native.Mathlib.Decide.{ℕ_discrete}
use mathlib.Core.Logic.{dite}
use Rattle.proc_history.specs.declared.beginning.Beginning.{Beginning}
use Rattle.proc_history.specs.Events.{entry}
use Rattle.proc_history.specs.Events.Event.{begin}
use Rattle.proc_history.specs.Histories.{replay}
use Rattle.proc_table.specs.declared.view.View.{View}
use Rattle.proc_table.specs.declared.pid.Pid.{Pid}
use Rattle.proc_table.specs.Agrees.{slots}
use Rattle.proc_table.specs.Free.{BeganLowest}
use Rattle.proc_table.specs.Parts.{Part as Known, unseen}
use Rattle.proc_table.specs.Views.{seen, handler_view}
use Rattle.proc_table.proofs.AloneLemmas.{alone_sees_all}
use Rattle.proc_table.proofs.BeginLemmas.{began_elsewhere}
use Rattle.library.specs.Library.{Library}
use Rattle.rel_check.specs.Modules.{Part}
use Rattle.mod_table.specs.Tables.{Tables}
use Rattle.started_members.specs.declared.member.StartedProcess.{StartedProcess}
use Rattle.started_members.specs.Laws.{FreeFrom}
use Rattle.started_members.specs.Begins.{beginning_of, members_at, process_of, BeganInOrder}
use Rattle.sup_tree.specs.Tree.{App}
use Rattle.started_members.specs.Members.{pids_of}
use Rattle.app_members.specs.Walk.{Start, app_members}
use Rattle.started_members.proofs.BeginLemmas.{first_slots}
use Rattle.held_processes.specs.Applications.{match_pid}
use Rattle.node_processes.specs.Fresh.{first_value, first_values, first_pid, pid_if, pids_from, app_from, apps_from, beginnings, part_beginnings, part_starts, tables_in}
use Rattle.node_processes.specs.InMemory.{values_in}
use Rattle.node_start.specs.Begun.{HaveJustBegun, first_history}
use Rattle.node_start.specs.Starting.{StartedAll}
use Rattle.node_start.proofs.StartLemmas.{begin_lends_none}

-- Each of these began in the slot of its place, and nothing else has happened.
pub record HaveBegun (bs : List Beginning) (v : View) : Type 0 where
  pub free : FreeFrom (length bs) v
  pub alone : v.lent ≡ []
  pub each : HaveJustBegun bs v

-- what is found after the end of a list, and within it
get_last : (bs : List Beginning) (b : Beginning) → slice_get (bs ++ b ∷ []) (length bs) ≡ Some b
get_last [] b = refl
get_last (c ∷ bs) b = get_last bs b

get_other : (bs : List Beginning) (b : Beginning) (q : ℕ) → q ≢ length bs → slice_get (bs ++ b ∷ []) q ≡ slice_get bs q
get_other [] b zero ne = absurd (ne refl)
get_other [] b (suc q) ne = refl
get_other (c ∷ bs) b zero ne = refl
get_other (c ∷ bs) b (suc q) ne = get_other bs b q (λ e. ne (ap suc e))

get_none : (bs : List Beginning) → slice_get bs (length bs) ≡ None
get_none [] = refl
get_none (b ∷ bs) = get_none bs

-- the history of a process that began, where nothing had happened in its slot
history_there : (bs : List Beginning) (b : Beginning) (v u : View) (pid : Pid) → HaveBegun bs v → BeganLowest b v (Ok pid) u
    → pid.slot ≡ length bs → pid.round ≡ 1 → seen u pid.slot ≡ entry 0 (begin 1 b) ∷ []
history_there bs b v u pid so_far (lowest, began) slot round =
    let untouched : seen v pid.slot ≡ [] = so_far.each pid.slot ∙ ap first_history (ap (slice_get bs) slot ∙ get_none bs) in
    began.6.seen_is
    ∙ ((λ i. ((alone_sees_all pid.slot v began.0 began.1 began.2 so_far.alone).0 ∙ untouched) i ++ entry 0 (begin (round i) b) ∷ []))

-- what began last is found after the others, and a slot that is not its own as before
found_there : (bs : List Beginning) (b : Beginning) (u : View) (pid : Pid) → pid.slot ≡ length bs → seen u pid.slot ≡ entry 0 (begin 1 b) ∷ []
    → (q : ℕ) → q ≡ pid.slot → seen u q ≡ first_history (slice_get (bs ++ b ∷ []) q)
found_there bs b u pid slot there q at =
    ap (seen u) at ∙ there ∙ sym (ap first_history (ap (slice_get (bs ++ b ∷ [])) (at ∙ slot) ∙ get_last bs b))

abbrev pid_at : (n : ℕ) → n < slots → Pid
pid_at n inside = record { slot = n; round = 1; inside = inside }

-- a process that is there in round 1 is the one of its slot
same_pid : (n : ℕ) (inside : n < slots) (there : Pid) → there.slot ≡ n → there.round ≡ 1 → pid_at n inside ≡ there
same_pid n inside there slot round =
    subst (λ m. (within : m < slots) → pid_at m within ≡ there) slot
    (λ within i. record { slot = there.slot; round = sym round i; inside = le_prop within there.inside i }) inside

pid_found : (n : ℕ) (o : (n < slots) ⊎ (slots ≤ n)) (there : Pid) → there.slot ≡ n → there.round ≡ 1 → pid_if n o ≡ Some there
pid_found n (inl inside) there slot round = ap (λ (q : Pid). Some q) (same_pid n inside there slot round)
pid_found n (inr past) there slot round = absurd (let inside = there.inside in omega (arith, past, inside, slot))

first_is : (n : ℕ) (there : Pid) → there.slot ≡ n → there.round ≡ 1 → first_pid n ≡ Some there
first_is n there slot round = pid_found n (cases_lt n slots) there slot round

-- A process stands in the slot after those that began, and they and it have begun.
record BeginsNext (app : List ℕ) (s : Start) (bs : List Beginning) (u : View) (p : StartedProcess) : Type 0 where
  first : (more : List Pid) → p.pid ∷ more ≡ match_pid (first_pid (length bs)) (λ pid. pid ∷ more)
  begun : HaveBegun (bs ++ beginning_of app s ∷ []) u

one_begun : (app : List ℕ) (s : Start) (bs : List Beginning) (v u : View) (p : StartedProcess) → HaveBegun bs v
    → BeganLowest (beginning_of app s) v (Ok p.pid) u → p ≡ process_of s p.pid → BeginsNext app s bs u p
one_begun app s bs v u p so_far began is =
    let b = beginning_of app s in
    let (at, free) = first_slots.1 app (s ∷ []) (length bs) v u (p ∷ []) so_far.free (u, began, is, refl) in
    let slot = at.0 in
    let round = at.1 in
    let there = history_there bs b v u p.pid so_far began slot round in record {
      first = λ more. ap (λ (o : Option Pid). match_pid o (λ pid. pid ∷ more)) (sym (first_is (length bs) p.pid slot round));
      begun = record {
        free = subst (λ n. FreeFrom n u) (sym (length-append bs (b ∷ []))) free;
        alone = begin_lends_none app s v u p began ∙ so_far.alone;
        each = λ q. dite (ℕ_discrete q p.pid.slot)
            (found_there bs b u p.pid slot there q)
            (λ ne. ap (λ (x : Known). x.seen) (began_elsewhere b v u p.pid began q ne) ∙ so_far.each q
            ∙ sym (ap first_history (get_other bs b q (λ e. ne (e ∙ sym slot)))));
      };
    }

-- all that an application starts
all_begun : (app : List ℕ) (ss : List Start) (bs : List Beginning) (v w : View) (ps : List StartedProcess) → HaveBegun bs v → BeganInOrder app ss v ps w
    → (pids_of ps ≡ pids_from (length bs) (length ss)) × HaveBegun (bs ++ map (beginning_of app) ss) w
all_begun app [] bs v w [] so_far is = (refl, subst (λ l. HaveBegun l w) (sym (append-nil bs)) (subst (HaveBegun bs) (sym is) so_far))
all_begun app [] bs v w (p ∷ ps) so_far is = absurd is
all_begun app (s ∷ ss) bs v w [] so_far is = absurd is
all_begun app (s ∷ ss) bs v w (p ∷ ps) so_far (u, began, is, later) =
    let b = beginning_of app s in
    let one = one_begun app s bs v u p so_far began is in
    let rest = all_begun app ss (bs ++ b ∷ []) u w ps one.begun later in
    let longer : length (bs ++ b ∷ []) ≡ suc (length bs) = length-append bs (b ∷ []) ∙ (let e : length bs + 1 ≡ suc (length bs) = omega arith in e) in
    let behind : pids_of ps ≡ pids_from (suc (length bs)) (length ss) = rest.0 ∙ ap (λ n. pids_from n (length ss)) longer in (
      ap (λ (l : List Pid). p.pid ∷ l) behind ∙ one.first (pids_from (suc (length bs)) (length ss)),
      subst (λ l. HaveBegun l w) (append_assoc bs (b ∷ []) (map (beginning_of app) ss)) rest.1,
    )

-- all that applications start, one after another
pub apps_begun : (tables : Tables) (ps : List Part) (bs : List Beginning) (apps apps' : List App) (v w : View) → HaveBegun bs v → StartedAll tables ps apps v apps' w
    → (apps' ≡ apps ++ apps_from (length bs) tables ps) × HaveBegun (bs ++ beginnings tables ps) w
apps_begun tables [] bs apps apps' v w so_far (same, stays) = (
  same ∙ sym (append-nil apps),
  subst (λ l. HaveBegun l w) (sym (append-nil bs)) (subst (HaveBegun bs) (sym stays) so_far),
)
apps_begun tables (p ∷ ps) bs apps apps' v w so_far (mid, u, started, later) =
    let name = p.library.app.name in
    let ss = part_starts tables p in
    let own = part_beginnings tables p in
    let here = all_begun name ss bs v u started.processes so_far started.began in
    let rest = apps_begun tables ps (bs ++ own) mid apps' u w here.1 later in
    let longer : length (bs ++ own) ≡ length bs + length ss = length-append bs own ∙ ap (λ n. length bs + n) (length-map ss (beginning_of name)) in
    let one : mid ≡ apps ++ app_from (length bs) tables p ∷ [] =
    started.tree ∙ (λ i. apps ++ record { name = name; members = members_at (app_members tables p.library.app.top) (here.0 i) } ∷ []) in (
      rest.0 ∙ ((λ i. one i ++ apps_from (longer i) tables ps) ∙ append_assoc apps (app_from (length bs) tables p ∷ []) (apps_from (length bs + length ss) tables ps)),
      subst (λ l. HaveBegun l w) (append_assoc bs own (beginnings tables ps)) rest.1,
    )

unseen_all : (n q : ℕ) → slice_index_or (replicate n unseen) q unseen ≡ unseen
unseen_all zero q = refl
unseen_all (suc n) zero = refl
unseen_all (suc n) (suc q) = unseen_all n q

-- nothing began in a new table
pub none_begun : HaveBegun [] (handler_view slots)
none_begun = record { free = first_slots.0; alone = refl; each = λ q. ap (λ (x : Known). x.seen) (unseen_all slots q) }

-- what a process that began leaves in its slot
leaves_value : (o : Option Beginning) → replay (first_history o) ≡ first_value o
leaves_value None = refl
leaves_value (Some b) = refl

-- the values in all slots
pub begun_values : (bs : List Beginning) (v : View) → HaveJustBegun bs v → values_in v ≡ first_values bs
begun_values bs v each = (λ i. map (λ q. (ap replay (each q) ∙ leaves_value (slice_get bs q)) i) (range_with_len 0 slots))

-- The processes of a node after a boot are those that begin in a new table, and nothing else has happened in the table.
pub fresh_so : (ls : List Library) (ps : List Part) (apps : List App) (v w : View) → v ≡ handler_view slots → StartedAll (tables_in ls) ps [] v apps w
    → (values_in w ≡ first_values (beginnings (tables_in ls) ps)) × (apps ≡ apps_from 0 (tables_in ls) ps) × HaveJustBegun (beginnings (tables_in ls) ps) w
fresh_so ls ps apps v w new started =
    let begun = apps_begun (tables_in ls) ps [] [] apps (handler_view slots) w none_begun (subst (λ x. StartedAll (tables_in ls) ps [] x apps w) new started) in
    (begun_values (beginnings (tables_in ls) ps) w begun.1.each, begun.0, begun.1.each)
