-- Where the processes of applications stand, by the slots in which they began.
use Rattle.std.specs.Prelude.{◌≡◌, ◌≢◌, ℕ, ◌≤◌, List, length, slice_index_or, Option, Some, None, Vec, vec_capacity}
use Rattle.std.specs.declared.alloc.Global.{Global}
use Rattle.std.specs.Hash.FoldHasher as folding
use Rattle.std.specs.List.{slice_get}
use Rattle.std.specs.Option.{option_and_then, option_map}
use Rattle.proc_table.specs.Agrees.{slots}
use Rattle.started_members.specs.declared.member.Member.{Member}
use Rattle.started_members.specs.declared.member.StartedProcess.{StartedProcess}
use Rattle.started_members.specs.Members.{module_among, process_in}
use Rattle.sup_tree.specs.declared.spots.Spot.{Spot}
use Rattle.sup_tree.specs.Tree.{App, all_processes}

abbrev pub module_hash : List ℕ → ℕ
module_hash name = folding.finish (folding.write folding.initial name)

-- the module of the process that stands for a member, where one does
abbrev pub module_of : Member → Option (List ℕ)
module_of m = option_map (λ (p : StartedProcess). p.module) (process_in m)

-- the module of the process that stands there
abbrev pub module_at_spot : List App → Option Spot → Option (List ℕ)
module_at_spot apps None = None
module_at_spot apps (Some s) = option_and_then (λ (a : App). option_and_then module_of (slice_get a.members s.member)) (slice_get apps s.app)

-- The first of these processes that began in each slot stands at its spot, and where none did, there is none.
pub record StandAt (apps : List App) (ps : List StartedProcess) (spots : List (Option Spot)) : Type 0 where
  pub few : length spots ≤ slots
  pub found : (p : ℕ) → module_at_spot apps (slice_index_or spots p None) ≡ module_among p ps
  pub hashed : (p : ℕ) → option_map (λ (s : Spot). s.hash) (slice_index_or spots p None) ≡ option_map module_hash (module_among p ps)

-- the spots of all processes of these applications
abbrev pub AreSpotsOf : List App → List (Option Spot) → Type 0
AreSpotsOf apps spots = StandAt apps (all_processes apps) spots

-- Where spots are known, there is room for those of all slots.
abbrev pub HaveRoom : Option (Vec (Option Spot) Global) → Type 0
HaveRoom None = Unit {0}
HaveRoom (Some v) = slots ≤ vec_capacity v

-- Where spots are known, they are those of these applications.
abbrev pub KnowsSpots : List App → Option (Vec (Option Spot) Global) → Type 0
KnowsSpots apps None = Unit {0}
KnowsSpots apps (Some v) = AreSpotsOf apps v.items × (slots ≤ vec_capacity v)

-- The spot is put there, and the others stay.
pub record IsPut (slot : ℕ) (s : Spot) (old new : List (Option Spot)) : Type 0 where
  pub few : length new ≤ slots
  pub here : slice_index_or new slot None ≡ Some s
  pub others : (p : ℕ) → p ≢ slot → slice_index_or new p None ≡ slice_index_or old p None
