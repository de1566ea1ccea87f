-- An application, by what is found below its top, and a child that starts alone.
use Rattle.std.proofs.Common.{◌≡◌, ℕ, suc, ◌+◌, ◌-◌, ◌≤◌, false, List, [], ◌∷◌, nat_lt, Option, Some, None, if◌then◌else◌, refl, ap, sym, ◌∙◌, arith}
use Rattle.std.specs.Option.{option_or}
use Rattle.std.proofs.lemmas.Bool.Decides.{nat_tests}
use Rattle.app_members.specs.InMemory.{IsTop}
use Rattle.mod_table.specs.Table.{ChildSpec}
use Rattle.mod_table.specs.declared.table.Table.{Table}
use Rattle.mod_table.specs.declared.table.Table.TheVariants.{Worker, Super}
use Rattle.mod_table.specs.Tables.{Tables, child_table}
use Rattle.app_members.specs.Walk.{NewMember, app_fault, app_members, child_as_member, child_fault, child_members, children_fault, children_members, fault_from, fault_with, lone_fault, lone_members, members_below, members_with, super_children, top_children, worker_at_top}
use Rattle.app_members.specs.Walk.StartFault.{unsupported}

-- what is wrong, where the top has not the table of a worker
pub below_top : (tables : Tables) (top : Option (List ℕ)) (cs : List ChildSpec) → worker_at_top tables top ≡ None → top_children tables top ≡ cs
    → app_fault tables top ≡ children_fault 8 tables cs
below_top tables top cs none children = λ j. option_or (none j) (children_fault 8 tables (children j))

-- nothing is wrong, where there is none
pub no_children : (tables : Tables) → children_fault 8 tables [] ≡ None
unfolding children_fault
no_children tables = refl

-- nothing is wrong where there is no top
pub without_top : (tables : Tables) (top : Option (List ℕ)) → worker_at_top tables top ≡ None → top_children tables top ≡ [] → app_fault tables top ≡ None
without_top tables top none children = below_top tables top [] none children ∙ no_children tables

-- the top of an application, with those below it
pub top_members : (tables : Tables) (top : Option (List ℕ)) (m : NewMember) → IsTop tables top m → app_members tables top ≡ members_with 8 tables m
top_members tables top m is = is.members ∙ (λ j. m ∷ members_below (children_members 8 tables (sym is.depth j + 1)) m.table)

pub top_fault : (tables : Tables) (top : Option (List ℕ)) (m : NewMember) → IsTop tables top m → app_fault tables top ≡ fault_with 8 tables m
top_fault tables top m is =
    below_top tables top (super_children (Some m.table)) is.sound is.children ∙ by_table tables m.child m.table
  where
    by_table : (tables : Tables) (c : ChildSpec) (t : Table) → children_fault 8 tables (super_children (Some t)) ≡ child_fault (children_fault 8 tables) c (Some t)
    by_table tables c (Worker w) = no_children tables
    by_table tables c (Super s) = refl

-- a child that starts alone, by its table
pub record LoneChild (tables : Tables) (depth : ℕ) (c : ChildSpec) (left : ℕ) (m : NewMember) : Type 0 where
  pub fault : lone_fault tables depth c ≡ fault_with left tables m
  pub members : lone_members tables depth c ≡ members_with left tables m

member_there : (depth : ℕ) (c : ChildSpec) (o : Option Table) (m : NewMember) → child_as_member depth c o ≡ Some m → (o ≡ Some m.table) × (m ≡ (record { depth = depth; child = c; table = m.table }))
member_there depth c None m is = absurd cc
member_there depth c (Some t) m is =
    let same : (record { depth = depth; child = c; table = t }) ≡ m = cc is in
    (ap (λ (n : NewMember). Some n.table) same, sym same ∙ ap (λ (n : NewMember). record { depth = depth; child = c; table = n.table }) same)

few_levels : (depth : ℕ) → depth ≤ 8 → nat_lt 8 depth ≡ false
few_levels depth few = grind (arith, nat_tests)

pub lone_child : (tables : Tables) (depth : ℕ) (c : ChildSpec) (left : ℕ) (m : NewMember) → depth ≤ 8 → left ≡ 8 - depth → child_as_member depth c (child_table tables c) ≡ Some m
    → LoneChild tables depth c left m
lone_child tables depth c left m few is there =
    let member = member_there depth c (child_table tables c) m there in
    let so = sym is in
    let deep : suc depth ≡ m.depth + 1 = (let s : suc depth ≡ depth + 1 = omega arith in s) ∙ ap (λ (n : NewMember). n.depth + 1) (sym member.1) in
    let own : c ≡ m.child = sym (ap (λ (n : NewMember). n.child) member.1) in
    let all : lone_members tables depth c ≡ members_with left tables m =
    (λ j. child_members (children_members (so j) tables (deep j)) depth c (member.0 j))
    ∙ ap (λ n. n ∷ members_below (children_members left tables (m.depth + 1)) m.table) (sym member.1) in
    record {
      fault = ap (λ b. if b then Some unsupported else fault_from (8 - depth) tables c) (few_levels depth few)
          ∙ (λ j. child_fault (children_fault (so j) tables) c (member.0 j))
          ∙ (λ j. child_fault (children_fault left tables) (own j) (Some m.table));
      members = all;
    }
