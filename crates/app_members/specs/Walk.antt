-- What an application starts: its top, and below it the children of each supervisor in order, those of a supervisor before its
-- next sibling (OTP: supervisor, Principles). A number says how many supervisors in each other the walk goes through at most.
use Rattle.std.specs.Prelude.{◌+◌, ℕ, zero, suc, ◌-◌, List, [], ◌∷◌, nat_lt, Option, Some, None, if◌then◌else◌}
use Rattle.std.specs.List.{flat_map}
use Rattle.std.specs.Option.{option_or, option_and_then, option_map, option_map_or}
use Rattle.mod_table.specs.declared.child.ChildKind.TheVariants as kind
use Rattle.mod_table.specs.declared.child.Restart.TheVariants as restart
use Rattle.mod_table.specs.declared.table.Table.{Table}
use Rattle.mod_table.specs.declared.table.Table.TheVariants.{Worker, Super}
use Rattle.mod_table.specs.Table.{WorkerTable, ChildSpec}
use Rattle.mod_table.specs.Tables.{Tables, first_of, child_table}

-- why nothing starts: a module has no table of the kind that is asked of it, or supervisors stand too deep in each other
pub data StartFault : Type 0 where
  no_table : List ℕ → StartFault
  unsupported : StartFault

-- a member that starts, a process or a supervisor: in how many supervisors it stands, its child specification, and the table of
-- its module
pub record NewMember : Type 0 where
  pub depth : ℕ
  pub child : ChildSpec
  pub table : Table

-- a process that is started: its child specification, and the table of its module
pub record Start : Type 0 where
  pub child : ChildSpec
  pub table : WorkerTable

-- the process that a member is, where it is one
abbrev pub start_in : ChildSpec → Table → List Start
start_in c (Worker w) = record { child = c; table = w } ∷ []
start_in c (Super s) = []

-- the processes among these members
abbrev pub starts_among : List NewMember → List Start
starts_among ms = flat_map (λ (m : NewMember). start_in m.child m.table) ms

-- what is wrong with a child, by what is wrong with the children of a supervisor
abbrev pub child_fault : (List ChildSpec → Option StartFault) → ChildSpec → Option Table → Option StartFault
child_fault below c None = Some (no_table c.start)
child_fault below c (Some (Worker w)) = None
child_fault below c (Some (Super s)) = below s.children

-- the first fault among the children of a supervisor, and below them
unfoldable pub children_fault : ℕ → Tables → List ChildSpec → Option StartFault
children_fault zero tables cs = Some unsupported
children_fault (suc n) tables cs = first_of (λ (c : ChildSpec). child_fault (children_fault n tables) c (child_table tables c)) cs

-- what is wrong with a child, and below it through so many supervisors in each other
abbrev pub fault_from : ℕ → Tables → ChildSpec → Option StartFault
fault_from n tables c = child_fault (children_fault n tables) c (child_table tables c)

-- those below a member, by what the children of a supervisor are
abbrev pub members_below : (List ChildSpec → List NewMember) → Table → List NewMember
members_below below (Worker w) = []
members_below below (Super s) = below s.children

-- a child with this table, and those below it
abbrev pub child_members : (List ChildSpec → List NewMember) → ℕ → ChildSpec → Option Table → List NewMember
child_members below depth c None = []
child_members below depth c (Some t) = record { depth = depth; child = c; table = t } ∷ members_below below t

-- the children of a supervisor that stand in so many supervisors, and those below them
unfoldable pub children_members : ℕ → Tables → ℕ → List ChildSpec → List NewMember
children_members zero tables depth cs = []
children_members (suc n) tables depth cs = flat_map (λ (c : ChildSpec). child_members (children_members n tables (suc depth)) depth c (child_table tables c)) cs

-- a child and those below it, through so many supervisors in each other
abbrev pub members_from : ℕ → Tables → ℕ → ChildSpec → List NewMember
members_from n tables depth c = child_members (children_members n tables (suc depth)) depth c (child_table tables c)

-- A top without a table has no children.
abbrev pub super_children : Option Table → List ChildSpec
super_children (Some (Super s)) = s.children
super_children t = []

abbrev pub top_children : Tables → Option (List ℕ) → List ChildSpec
top_children tables top = super_children (option_and_then tables top)

-- a top with the table of a worker is missing as a supervisor
abbrev pub top_fault : List ℕ → Option Table → Option StartFault
top_fault m (Some (Worker w)) = Some (no_table m)
top_fault m t = None

abbrev pub worker_at_top : Tables → Option (List ℕ) → Option StartFault
worker_at_top tables top = option_and_then (λ m. top_fault m (tables m)) top

-- The top is a member as if it were a child. Of its specification its module alone has an effect.
abbrev pub top_child : List ℕ → ChildSpec
top_child m = record { id = m; start = m; restart = restart.Permanent; kind = kind.Supervisor }

-- a supervisor at the top, and those below it
abbrev pub members_at_top : Tables → List ℕ → Option Table → List NewMember
members_at_top tables m (Some (Super s)) = record { depth = 0; child = top_child m; table = Super s } ∷ children_members 8 tables 1 s.children
members_at_top tables m t = []

-- the members of an application whose file names this top, or none
abbrev pub app_members : Tables → Option (List ℕ) → List NewMember
app_members tables top = option_map_or (λ m. members_at_top tables m (tables m)) top []

-- what is wrong with it
abbrev pub app_fault : Tables → Option (List ℕ) → Option StartFault
app_fault tables top = option_or (worker_at_top tables top) (children_fault 8 tables (top_children tables top))

-- a member and those below it, through so many supervisors in each other
abbrev pub members_with : ℕ → Tables → NewMember → List NewMember
members_with n tables m = m ∷ members_below (children_members n tables (m.depth + 1)) m.table

-- what is wrong with these
abbrev pub fault_with : ℕ → Tables → NewMember → Option StartFault
fault_with n tables m = child_fault (children_fault n tables) m.child (Some m.table)

-- the processes that it starts
abbrev pub app_starts : Tables → Option (List ℕ) → List Start
app_starts tables top = starts_among (app_members tables top)

-- a child as a member, if it has this table
abbrev pub child_as_member : ℕ → ChildSpec → Option Table → Option NewMember
child_as_member depth c = option_map (λ (t : Table). record { depth = depth; child = c; table = t })

-- the members with which a child starts that stands in so many supervisors: itself, and those below it
abbrev pub lone_members : Tables → ℕ → ChildSpec → List NewMember
lone_members tables depth c = members_from (8 - depth) tables depth c

-- what is wrong with it
abbrev pub lone_fault : Tables → ℕ → ChildSpec → Option StartFault
lone_fault tables depth c = if nat_lt 8 depth then Some unsupported else fault_from (8 - depth) tables c
