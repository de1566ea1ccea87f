-- The spots of processes, one process more at a time.
use Rattle.std.proofs.Common.{◌≡◌, ◌≢◌, ◌==◌, ℕ, suc, ◌+◌, ◌<◌, ◌≤◌, Bool, true, false, if◌then◌else◌, List, [], ◌∷◌, ◌++◌, length, map, drop, replicate, Option, Some, None, slice_index_or, slice_set, refl, ap, sym, subst, ◌∙◌, arith, get_or-set_same, get_or-set_other, length-set}
use Rattle.std.specs.List.{find, slice_get}
use Rattle.std.specs.Option.{option_and_then, option_map, option_map_or}
use Rattle.std.specs.Str.{bytes_eq}
use Rattle.std.proofs.lemmas.Bool.Decides.{leb_tells, nat_tests}
use Rattle.std.proofs.lemmas.List.{drop_more, get_or_past}
use Rattle.std.proofs.lemmas.Option.{slice_get-get_or, slice_get-map}
use native.Mathlib.Decide.{ℕ_discrete}
use mathlib.Core.Logic.{dite, ⊎_elim}
use Rattle.proc_table.specs.Agrees.{slots}
use Rattle.proc_table.proofs.Slots.{slots_is}
use Rattle.started_members.specs.declared.member.Member.{Member}
use Rattle.started_members.specs.declared.member.StartedProcess.{StartedProcess}
use Rattle.started_members.specs.Members.{process_and, process_in, processes_among}
use Rattle.sup_tree.specs.declared.spots.Spot.{Spot}
use Rattle.sup_tree.specs.declared.tree.StartedApp.{StartedApp}
use Rattle.sup_tree.specs.Spots.{AreSpotsOf, IsPut, StandAt, module_at_spot, module_hash, module_of}
use Rattle.sup_tree.specs.Tree.{App, app_of, module_in}
use Rattle.sup_tree.proofs.SlotLemmas.{none_noted}

same_slot : (p q : ℕ) → q ≡ p → (p == q) ≡ true
same_slot p q e = grind (arith, nat_tests)

other_slot : (p q : ℕ) → q ≢ p → (p == q) ≡ false
other_slot p q ne = grind (arith, nat_tests)

-- before any process there is no spot
pub none_stand : (apps : List App) (ps : List StartedProcess) (spots : List (Option Spot)) → spots ≡ [] → ps ≡ [] → StandAt apps ps spots
none_stand apps ps spots bare none =
    subst (λ (l : List (Option Spot)). StandAt apps ps l) (sym bare)
    (subst (λ (qs : List StartedProcess). StandAt apps qs []) (sym none) (record { few = omega arith; found = λ p. refl; hashed = λ p. refl }))

-- a spot is put where there is a place for it
pub spot_put : (slot : ℕ) (s : Spot) (spots old : List (Option Spot)) → slot < length spots → length spots ≤ slots → ((p : ℕ) → slice_index_or spots p None ≡ slice_index_or old p None)
    → IsPut slot s old (slice_set spots slot (Some s))
spot_put slot s spots old inside few same = record {
  few = omega (arith, few, length-set spots slot (Some s));
  here = get_or-set_same spots slot (Some s) None inside;
  others = λ p ne. get_or-set_other spots slot p (Some s) None ne ∙ same p;
}

-- one process more, in front of those that stand at their spots
one_more : (apps : List App) (p : StartedProcess) (ps : List StartedProcess) (old new : List (Option Spot)) (s : Spot) → module_at_spot apps (Some s) ≡ Some p.module → s.hash ≡ module_hash p.module
    → IsPut p.pid.slot s old new → StandAt apps ps old → StandAt apps (p ∷ ps) new
one_more apps p ps old new s at hash put is =
    let slot = p.pid.slot in
    let chosen = λ (t : Bool) (q : ℕ). option_map (λ (x : StartedProcess). x.module) (if t then Some p else find (λ (x : StartedProcess). x.pid.slot == q) ps) in
    let hash_of = option_map (λ (x : Spot). x.hash) in
    record {
      few = put.few;
      found = λ q. dite (ℕ_discrete q slot)
          (λ e. ap (λ n. module_at_spot apps (slice_index_or new n None)) e ∙ (ap (module_at_spot apps) put.here ∙ (at ∙ sym (ap (λ t. chosen t q) (same_slot slot q e)))))
          (λ ne. ap (module_at_spot apps) (put.others q ne) ∙ (is.found q ∙ sym (ap (λ t. chosen t q) (other_slot slot q ne))));
      hashed = λ q. dite (ℕ_discrete q slot)
          (λ e. ap (λ n. hash_of (slice_index_or new n None)) e ∙ (ap hash_of put.here ∙ (ap Some hash ∙ sym (ap (λ t. option_map module_hash (chosen t q)) (same_slot slot q e)))))
          (λ ne. ap hash_of (put.others q ne) ∙ (is.hashed q ∙ sym (ap (λ t. option_map module_hash (chosen t q)) (other_slot slot q ne))));
    }

-- so it is where a member of an application has that process
pub member_stands : (apps : List StartedApp) (place member : ℕ) (a : StartedApp) (members : List Member) (m : Member) (p : StartedProcess) (later : List StartedProcess) (old new : List (Option Spot)) (s : Spot)
    → place < length apps → members ≡ (slice_index_or apps place a).members.items → member < length members → m ≡ slice_index_or members member m → process_in m ≡ Some p
    → s.app ≡ place → s.member ≡ member → s.hash ≡ module_hash p.module → IsPut p.pid.slot s old new
    → StandAt (map app_of apps) (processes_among (drop (member + 1) members) ++ later) old → StandAt (map app_of apps) (processes_among (drop member members) ++ later) new
member_stands apps place member a members m p later old new s inside are within at is in_app in_member same put so_far =
    let left = drop (member + 1) members in
    let split : drop member members ≡ m ∷ left = drop_more members member m within ∙ ap (λ x. x ∷ left) (sym at) in
    let whole : processes_among (drop member members) ≡ p ∷ processes_among left = ap processes_among split ∙ ap (λ o. process_and o (processes_among left)) is in
    let there : slice_get (map app_of apps) place ≡ Some (app_of (slice_index_or apps place a)) = slice_get-map app_of apps place ∙ ap (option_map app_of) (slice_get-get_or apps place a inside) in
    let own : slice_get members member ≡ Some m = slice_get-get_or members member m within ∙ ap Some (sym at) in
    let found : module_at_spot (map app_of apps) (Some s) ≡ Some p.module =
    (λ j. option_and_then (λ (x : App). option_and_then module_of (slice_get x.members (in_member j))) (slice_get (map app_of apps) (in_app j)))
    ∙ (ap (option_and_then (λ (x : App). option_and_then module_of (slice_get x.members member))) there
    ∙ (ap (λ ms. option_and_then module_of (slice_get ms member)) (sym are)
    ∙ (ap (option_and_then module_of) own ∙ ap (option_map (λ (x : StartedProcess). x.module)) is))) in
    subst (λ ps. StandAt (map app_of apps) (ps ++ later) new) (sym whole)
    (one_more (map app_of apps) p (processes_among left ++ later) old new s found same put so_far)

-- the slots below n are noted
pub record NotedBelow (name : List ℕ) (apps : List App) (n : ℕ) (used : List Bool) : Type 0 where
  pub long : length used ≡ slots
  pub noted : (p : ℕ) → p < n → slice_index_or used p false ≡ option_map_or (bytes_eq name) (module_in p apps) false
  pub rest : (p : ℕ) → n ≤ p → slice_index_or used p false ≡ false

-- none is
pub first_noted : (name : List ℕ) (apps : List App) → NotedBelow name apps 0 (replicate 256 false)
first_noted name apps = record { long = sym slots_is; noted = λ p below. absurd (omega (arith, below)); rest = λ p past. none_noted 256 p }

-- one slot more
pub slot_noted : (name : List ℕ) (apps : List App) (spots : List (Option Spot)) (n : ℕ) (used : List Bool) (o : Option Spot) (b : Bool) → AreSpotsOf apps spots → n < length spots
    → o ≡ slice_index_or spots n None → b ≡ option_map_or (bytes_eq name) (module_at_spot apps o) false → NotedBelow name apps n used → NotedBelow name apps (n + 1) (slice_set used n b)
slot_noted name apps spots n used o b are inside at is so_far =
    let few = are.few in
    let long = so_far.long in
    let within : n < length used = omega (arith, inside, few, long) in record {
      long = length-set used n b ∙ so_far.long;
      noted = λ p below. dite (ℕ_discrete p n)
          (λ e. ap (λ k. slice_index_or (slice_set used n b) k false) e ∙ (get_or-set_same used n b false within
          ∙ (is ∙ ap (λ m. option_map_or (bytes_eq name) m false) (ap (module_at_spot apps) at ∙ (are.found n ∙ sym (ap (λ k. module_in k apps) e))))))
          (λ ne. get_or-set_other used n p b false ne ∙ so_far.noted p (omega (arith, below, ne)));
      rest = λ p past.
          let ne : p ≢ n = λ e. omega (arith, e, past) in
          get_or-set_other used n p b false ne ∙ so_far.rest p (omega (arith, past));
    }

-- all slots, where those that have a spot are noted
pub all_noted : (name : List ℕ) (apps : List App) (spots : List (Option Spot)) (used : List Bool) → AreSpotsOf apps spots → NotedBelow name apps (length spots) used
    → (p : ℕ) → slice_index_or used p false ≡ option_map_or (bytes_eq name) (module_in p apps) false
all_noted name apps spots used are is p =
    ⊎_elim (λ test. is.noted p test.1)
    (λ test.
    let past : length spots ≤ p = omega (arith, test.1) in
    let none : module_in p apps ≡ None = sym (are.found p) ∙ ap (module_at_spot apps) (get_or_past spots p None past) in
    is.rest p past ∙ sym (ap (λ m. option_map_or (bytes_eq name) m false) none))
    (leb_tells (suc p) (length spots))
