-- Tables by the names of their modules, and those of the children of supervisors.
use Rattle.std.specs.Prelude.{ℕ, List, [], ◌∷◌, Option, None, Some}
use Rattle.std.specs.Option.{option_or, option_and_then}
use Rattle.mod_table.specs.declared.child.ChildKind.{ChildKind}
use Rattle.mod_table.specs.declared.child.ChildKind.TheVariants as kind
use Rattle.mod_table.specs.declared.table.Table.{Table}
use Rattle.mod_table.specs.declared.table.Table.TheVariants.{Worker, Super}
use Rattle.mod_table.specs.Table.{ChildSpec}

-- the table of a module, where it has one
abbrev pub Tables : Type 0
Tables = List ℕ → Option Table

-- the table, if it is of this kind
abbrev pub of_kind : ChildKind → Table → Option Table
of_kind kind.Worker (Worker w) = Some (Worker w)
of_kind kind.Supervisor (Super s) = Some (Super s)
of_kind k t = None

-- the table of a child's module, if it is of the child's kind
abbrev pub child_table : Tables → ChildSpec → Option Table
child_table tables c = option_and_then (of_kind c.kind) (tables c.start)

-- what is found first, as on a way through children
abbrev pub first_of : {X Y : Type 0} → (X → Option Y) → List X → Option Y
first_of f [] = None
first_of f (x ∷ xs) = option_or (f x) (first_of f xs)
