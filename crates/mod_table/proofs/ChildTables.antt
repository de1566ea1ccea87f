-- The table of a child.
use Rattle.std.proofs.Common.{◌≡◌, Option, None, Some}
use Rattle.std.specs.Option.{option_and_then}
use Rattle.mod_table.specs.declared.child.ChildKind.{ChildKind}
use Rattle.mod_table.specs.declared.child.ChildKind.TheVariants as kind
use Rattle.mod_table.specs.declared.table.Table.{Table}
use Rattle.mod_table.specs.declared.table.Table.TheVariants.{Worker, Super}
use Rattle.mod_table.specs.Tables.{of_kind}

-- a table that is of the kind is the one that was found
pub of_kind_is_found : (k : ChildKind) (o : Option Table) (t : Table) → option_and_then (of_kind k) o ≡ Some t → o ≡ Some t
of_kind_is_found k None t is = absurd cc
of_kind_is_found kind.Worker (Some (Worker w)) t is = is
of_kind_is_found kind.Worker (Some (Super s)) t is = absurd cc
of_kind_is_found kind.Supervisor (Some (Worker w)) t is = absurd cc
of_kind_is_found kind.Supervisor (Some (Super s)) t is = is
