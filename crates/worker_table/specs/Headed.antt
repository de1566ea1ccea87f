-- The table of a worker, from what follows the first word of its term.
use Rattle.std.specs.Prelude.{Bool, true, ◌&&◌, Option}
use Rattle.std.specs.List.{list_all}
use Rattle.std.specs.Option.{option_map, option_and_then}
use Rattle.erl_term.specs.Value.{Values}
use Rattle.rel_files.specs.Name.{is_text}
use Rattle.rel_files.specs.Parts.{list_in, four}
use Rattle.rel_files.specs.Sketch.{name_in, version_or_empty}
use Rattle.worker_table.specs.Table.{Row, WorkerTable}
use Rattle.worker_table.specs.Table.OldVersion.{up, down}
use Rattle.worker_table.specs.Table.Row.{change}
use Rattle.worker_table.specs.Parts.{number_in}
use Rattle.worker_table.specs.Rows.{rows_in}

-- Mod, Vsn, Init, Rows
abbrev pub worker_in : Values → Option WorkerTable
worker_in vs =
    option_and_then (λ m. option_and_then (λ name. option_and_then (λ vsn. option_and_then (λ first.
    option_map (λ rows. record { name = name; vsn = vsn; first = first; rows = rows })
    (option_and_then rows_in (list_in m.3))) (number_in m.2)) (version_or_empty m.1)) (name_in m.0)) (four vs)

-- whether the row's version, where it has one, is the text of one
abbrev pub row_has_version : Row → Bool
row_has_version (change (up s) e ps) = is_text 0x21 s
row_has_version (change (down s) e ps) = is_text 0x21 s
row_has_version row = true

abbrev pub has_versions : WorkerTable → Bool
has_versions w = is_text 0x21 w.vsn && list_all row_has_version w.rows
