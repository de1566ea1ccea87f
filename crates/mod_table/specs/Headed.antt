-- The table of a supervisor, from what follows the first word of its term.
use Rattle.std.specs.Prelude.{ℕ, List, map, Option}
use Rattle.std.specs.Option.{option_map, option_and_then}
use Rattle.erl_term.specs.Value.{Values}
use Rattle.rel_files.specs.Parts.{list_in, three}
use Rattle.rel_files.specs.Sketch.{name_in, version_or_empty}
use Rattle.mod_table.specs.Table.{ChildSpec, SuperTable}
use Rattle.mod_table.specs.Children.{children_in}

-- Mod, Vsn, [ChildSpec]
abbrev pub super_in : Values → Option SuperTable
super_in vs =
    option_and_then (λ m. option_and_then (λ name. option_and_then (λ vsn.
    option_map (λ children. record { name = name; vsn = vsn; children = children })
    (option_and_then children_in (list_in m.2))) (version_or_empty m.1)) (name_in m.0)) (three vs)

-- the ids of the children
abbrev pub ids : SuperTable → List (List ℕ)
ids s = map (λ (c : ChildSpec). c.id) s.children
