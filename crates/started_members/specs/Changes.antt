-- Members where the supervisors of a module have the children of another table, in order, and after them those that it doesn't
-- name (OTP: supervisor, code_change/3). No process begins or ends.
use Rattle.std.specs.Prelude.{◌≡◌, ℕ, ◌+◌, ◌<◌, Bool, List, [], ◌∷◌, length, map, min, nat_lt, remove, slice_index_or, Option, Some, None, if◌then◌else◌}
use Rattle.std.specs.List.{find, flat_map}
use Rattle.std.specs.Str.{bytes_eq}
use Rattle.mod_table.specs.Table.{ChildSpec}
use Rattle.started_members.specs.declared.member.Member.{Member}
use Rattle.started_members.specs.declared.member.MemberState.TheVariants.{Ended}
use Rattle.started_members.specs.declared.changes.Branch as stored
use Rattle.started_members.specs.Members.{is_supervisor}

-- a member, and those below it
pub record Branch : Type 0 where
  pub member : Member
  pub below : List Member

abbrev pub branch_of : stored.Branch → Branch
branch_of b = record { member = b.member; below = b.below.items }

abbrev pub branches_of : List stored.Branch → List Branch
branches_of bs = map branch_of bs

abbrev pub branch_members : Branch → List Member
branch_members b = b.member ∷ b.below

abbrev pub members_in : List Branch → List Member
members_in bs = flat_map branch_members bs

-- the first of them, up to one that doesn't stand deeper than this
abbrev pub deeper : ℕ → List Branch → List Branch
deeper depth [] = []
deeper depth (b ∷ bs) = if nat_lt depth b.member.depth then b ∷ deeper depth bs else []

-- that one, and those after it
abbrev pub behind_deeper : ℕ → List Branch → List Branch
behind_deeper depth [] = []
behind_deeper depth (b ∷ bs) = if nat_lt depth b.member.depth then behind_deeper depth bs else b ∷ bs

-- the depth of the children of a member; that of a member is far below the greatest number
abbrev pub one_deeper : ℕ → ℕ
one_deeper depth = min (depth + 1) 0xffff_ffff_ffff_ffff

-- an earlier child has the new specification; what stands for it stays
abbrev pub respecified : ChildSpec → Branch → Branch
respecified c b = record b { member = record b.member { «module» = c.start; restart = c.restart; kind = c.kind } }

-- nothing stands for a new child
abbrev pub new_child : ℕ → ChildSpec → Branch
new_child depth c = record { member = record { depth = depth; id = c.id; «module» = c.start; restart = c.restart; kind = c.kind; state = Ended }; below = [] }

abbrev pub child_for : ℕ → ChildSpec → Option Branch → Branch
child_for depth c None = new_child depth c
child_for depth c (Some b) = respecified c b

abbrev pub has_id : List ℕ → Branch → Bool
has_id id b = bytes_eq b.member.id id

-- all but the first with this id
abbrev pub without_id : List ℕ → List Branch → List Branch
without_id id [] = []
without_id id (b ∷ bs) = if has_id id b then bs else b ∷ without_id id bs

-- the children of the table, each with what stood under its id, and after them those that it doesn't name
abbrev pub new_children : ℕ → List ChildSpec → List Branch → List Branch
new_children depth [] bs = bs
new_children depth (c ∷ cs) bs = child_for depth c (find (has_id c.id) bs) ∷ new_children depth cs (without_id c.id bs)

-- those below a member: where it is a supervisor of this module, the new children
abbrev pub children_of : List ℕ → List ChildSpec → Member → List Branch → List Branch
children_of name cs m bs = if is_supervisor name m.state then new_children (one_deeper m.depth) cs bs else bs

-- a member in front of branches, the first of which stand below it
abbrev pub with_member : List ℕ → List ChildSpec → Member → List Branch → List Branch
with_member name cs m bs = record { member = m; below = members_in (children_of name cs m (deeper m.depth bs)) } ∷ behind_deeper m.depth bs

-- members as branches, those of the supervisors of this module with the new children
abbrev pub branches : List ℕ → List ChildSpec → List Member → List Branch
branches name cs [] = []
branches name cs (m ∷ ms) = with_member name cs m (branches name cs ms)

abbrev pub members_changed : List ℕ → List ChildSpec → List Member → List Member
members_changed name cs ms = members_in (branches name cs ms)

-- the first of these branches with this id stands after so many others
pub record StandsAtId (id : List ℕ) (bs : List stored.Branch) (place : ℕ) : Type 0 where
  pub inside : place < length bs
  pub there : (d : stored.Branch) → find (has_id id) (branches_of bs) ≡ Some (branch_of (slice_index_or bs place d))
  pub others : without_id id (branches_of bs) ≡ branches_of (remove bs place)

abbrev pub IsPlaceOfId : List ℕ → List stored.Branch → Option ℕ → Type 0
IsPlaceOfId id bs None = (find (has_id id) (branches_of bs) ≡ None) × (without_id id (branches_of bs) ≡ branches_of bs)
IsPlaceOfId id bs (Some place) = StandsAtId id bs place

-- The branch in front was taken out, if it stands deeper than this.
abbrev pub TakesDeeper : ℕ → List Branch → Option stored.Branch → List Branch → Type 0
TakesDeeper depth bs None bs' = (deeper depth bs ≡ []) × (behind_deeper depth bs ≡ bs) × (bs' ≡ bs)
TakesDeeper depth bs (Some b) bs' = (deeper depth bs ≡ branch_of b ∷ deeper depth bs') × (behind_deeper depth bs ≡ behind_deeper depth bs')
