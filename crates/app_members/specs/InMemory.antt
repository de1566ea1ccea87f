-- What lies in memory on the way through an application, without where it lies.
use Rattle.std.specs.Prelude.{◌≡◌, ℕ, ◌^◌, ◌-◌, min, List, [], ◌∷◌, length, map, nat_le, Option, Some, None, if◌then◌else◌, Result, Ok, Err, Vec}
use Rattle.std.specs.Borrow.{Bor}
use Rattle.std.specs.BTreeMap.{BTreeMap, get_by}
use Rattle.std.specs.Cmp.Lexicographic.{slice_cmp}
use Rattle.std.specs.Ordering.{nat_cmp}
use Rattle.std.specs.declared.alloc.Global.{Global}
use Rattle.mod_table.specs.declared.table.Table.TheVariants.{Super}
use Rattle.mod_table.specs.Table.{ChildSpec, SuperTable}
use Rattle.mod_table.specs.Tables.{Tables}
use Rattle.app_members.specs.declared.walk.Below.{Below}
use Rattle.app_members.specs.declared.walk.NewChild.{NewChild}
use Rattle.app_members.specs.declared.walk.NewMember.{NewMember}
use Rattle.app_members.specs.declared.error.MembersError.{MembersError}
use Rattle.app_members.specs.declared.error.MembersError.TheVariants.{NoTable, Unsupported, NoMemory}
use Rattle.app_members.specs.Walk as walk
use Rattle.app_members.specs.Walk.{StartFault, app_fault, app_members, children_fault, children_members, lone_fault, lone_members, members_below, super_children, top_children, worker_at_top}
use Rattle.app_members.specs.Walk.StartFault.{no_table, unsupported}

abbrev pub new_member_of : NewMember → walk.NewMember
new_member_of m = record {
  depth = m.depth;
  child = record { id = m.id.now; start = m.«module».now; restart = m.restart; kind = m.kind };
  table = m.table.now;
}

abbrev pub new_members_of : List NewMember → List walk.NewMember
new_members_of ms = map new_member_of ms

abbrev pub new_child_of : NewChild → ChildSpec
new_child_of c = record { id = c.id.now; start = c.«module».now; restart = c.restart; kind = c.kind }

-- a number, or the greatest that is counted
abbrev pub counted : ℕ → ℕ
counted n = min n (2 ^ 64 - 1)

-- what is noted of a module
abbrev pub noted_in : BTreeMap (Bor (List ℕ)) Below → List ℕ → Option Below
noted_in noted name = get_by (λ k. slice_cmp nat_cmp name k.now) noted

-- how many members stand below a supervisor, if it is known that nothing is wrong there through so many in each other
abbrev pub known_through : ℕ → Below → Option ℕ
known_through n b = if nat_le b.through n then Some b.members else None

-- Nothing is wrong among these children of a supervisor, nor below them through so many supervisors in each other, and so many
-- members stand there.
pub record IsBelow (tables : Tables) (cs : List ChildSpec) (b : Below) : Type 0 where
  pub sound : children_fault b.through tables cs ≡ None
  pub members : (depth : ℕ) → b.members ≡ counted (length (children_members b.through tables depth cs))

-- What is noted of a supervisor holds of its children.
abbrev pub AreCounted : Tables → BTreeMap (Bor (List ℕ)) Below → Type 0
AreCounted tables noted =
    (name : List ℕ) (b : Below) (s : SuperTable) → noted_in noted name ≡ Some b → tables name ≡ Some (Super s) → IsBelow tables s.children b

-- an error is this fault, or that no memory was left
abbrev pub FaultIs : MembersError → Option StartFault → Type 0
FaultIs (NoTable m) f = f ≡ Some (no_table m.now)
FaultIs Unsupported f = f ≡ Some unsupported
FaultIs NoMemory f = Unit {0}

-- A count has so many members, in however many supervisors they stand, if nothing is wrong; else an error reports what is.
abbrev pub Counts : Option StartFault → (ℕ → List walk.NewMember) → Result ℕ MembersError → Type 0
Counts fault members (Ok count) = (fault ≡ None) × ((depth : ℕ) → count ≡ counted (length (members depth)))
Counts fault members (Err e) = FaultIs e fault

-- the supervisor at the top of an application
pub record IsTop (tables : Tables) (top : Option (List ℕ)) (m : walk.NewMember) : Type 0 where
  pub sound : worker_at_top tables top ≡ None
  pub depth : m.depth ≡ 0
  pub children : top_children tables top ≡ super_children (Some m.table)
  pub members : app_members tables top ≡ m ∷ members_below (children_members 8 tables 1) m.table

-- the top, where it has the table of a supervisor
abbrev pub TopIs : Tables → Option (List ℕ) → Result (Option NewMember) MembersError → Type 0
TopIs tables top (Err e) = (f : StartFault) × (worker_at_top tables top ≡ Some f) × FaultIs e (Some f)
TopIs tables top (Ok None) = (worker_at_top tables top ≡ None) × (top_children tables top ≡ []) × (app_members tables top ≡ [])
TopIs tables top (Ok (Some m)) = IsTop tables top (new_member_of m)

-- The result has all these members where there is no fault; otherwise its error is the fault, or says that no memory was left.
abbrev pub AreUnlessFault : Option StartFault → List walk.NewMember → Result (Vec NewMember Global) MembersError → Type 0
AreUnlessFault fault all (Ok ms) = (fault ≡ None) × (new_members_of ms.items ≡ all)
AreUnlessFault fault all (Err e) = FaultIs e fault

-- The members of an application, if nothing is wrong with it.
abbrev pub AreMembers : Tables → Option (List ℕ) → Result (Vec NewMember Global) MembersError → Type 0
AreMembers tables top result = AreUnlessFault (app_fault tables top) (app_members tables top) result

-- The members with which a child starts alone, if nothing is wrong with it.
abbrev pub AreChildMembers : Tables → ℕ → ChildSpec → Result (Vec NewMember Global) MembersError → Type 0
AreChildMembers tables depth c result = AreUnlessFault (lone_fault tables depth c) (lone_members tables depth c) result
