-- What a `.mod` file says, or which fault it has; docs/RULES.md gives the format.
use Rattle.std.specs.Prelude.{ℕ, Bool, List, [], Option, None, codes, if◌then◌else◌}
use Rattle.std.specs.Option.{option_map, option_and_then}
use Rattle.std.specs.Str.{bytes_eq}
use Rattle.erl_term.specs.Value.{Value}
use Rattle.rel_files.specs.declared.fault.FileFault.{FileFault}
use Rattle.rel_files.specs.Fault.{fault_of}
use Rattle.rel_files.specs.Name.{is_text}
use Rattle.rel_files.specs.Kind.{Kind, TermSays, HasTermFault, Says, HasFault}
use Rattle.rel_files.specs.OneTermFile.{HasFileTerm}
use Rattle.mod_table.specs.declared.table.Table.{Table}
use Rattle.mod_table.specs.declared.table.Table.TheVariants.{Worker, Super}
use Rattle.worker_table.specs.Parts.{tagged_in}
use Rattle.worker_table.specs.Headed.{worker_in, has_versions}
use Rattle.mod_table.specs.Headed.{super_in, ids}

-- {worker, Mod, Vsn, Init, Rows} or {supervisor, Mod, Vsn, [ChildSpec]}
abbrev pub table_in : Value → Option Table
table_in v = option_and_then (λ t.
    if bytes_eq t.0 (codes "worker") then option_map Worker (worker_in t.1)
    else if bytes_eq t.0 (codes "supervisor") then option_map Super (super_in t.1)
    else None) (tagged_in v)

abbrev pub name_of : Table → List ℕ
name_of (Worker w) = w.name
name_of (Super s) = s.name

abbrev pub vsn_of : Table → List ℕ
vsn_of (Worker w) = w.vsn
vsn_of (Super s) = s.vsn

-- the ids of its children
abbrev pub ids_of : Table → List (List ℕ)
ids_of (Worker w) = []
ids_of (Super s) = ids s

-- whether each version in it is the text of one
abbrev pub versions_of : Table → Bool
versions_of (Worker w) = has_versions w
versions_of (Super s) = is_text 0x21 s.vsn

-- The files of modules' tables: no id stands twice, and each version is one.
abbrev pub mod_files : Kind Table
mod_files = record { read = table_in; names = ids_of; has_versions = versions_of }

-- The term says this table.
abbrev pub IsTableTerm : Value → Table → Type 0
IsTableTerm v t = TermSays mod_files v t

-- The file says this table.
abbrev pub SaysTable : List ℕ → Table → Type 0
SaysTable bytes t = Says mod_files bytes t

-- The file has this term alone, which says this table.
abbrev pub SaysWith : List ℕ → Value → Table → Type 0
SaysWith bytes v t = HasFileTerm bytes v × IsTableTerm v t

-- The fault of a term that begins at this place.
abbrev pub IsTermFault : Value → ℕ → FileFault → Type 0
IsTermFault v at f = HasTermFault mod_files v at (fault_of f)

-- The fault of a file.
abbrev pub IsModFault : List ℕ → FileFault → Type 0
IsModFault bytes f = HasFault mod_files bytes (fault_of f)
