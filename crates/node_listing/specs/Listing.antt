-- How the releases of a node, its processes and its modules are listed: a line of a term for each.
use Rattle.std.specs.Prelude.{ℕ, List, [], ◌∷◌, ◌++◌, length, map, codes, decimal, is_some}
use Rattle.std.specs.List.{filter, flat_map}
use Rattle.std.specs.Option.{option_map_or}
use Rattle.erl_term.specs.Value.{Value}
use Rattle.erl_term.specs.Value.Value.{atom}
use Rattle.erl_term.specs.Printing.{text_of}
use Rattle.rel_files.specs.Release.{Application}
use Rattle.rel_files.specs.Terms.{tuple_of, list_of, pair_term, text_term}
use Rattle.rel_list.specs.Releases.{Releases, Entry}
use Rattle.rel_list.specs.Status.{status_word}
use Rattle.proc_history.specs.declared.value.Now.{Now}
use Rattle.proc_history.specs.declared.value.Standing.{Standing}
use Rattle.proc_history.specs.declared.value.Standing.TheVariants.{Up}
use Rattle.proc_history.specs.declared.value.Value.{Value as Slot}

-- an application as it is listed: its name, a hyphen and its version
abbrev pub application_value : Application → Value
application_value a = text_term (a.name ++ (codes "-" ++ a.vsn))

-- a release as it is listed (OTP: release_handler(3), which_releases)
abbrev pub release_value : Entry → Value
release_value e = tuple_of
    (text_term e.release.name
    ∷ text_term e.release.vsn
    ∷ list_of (map application_value e.release.apps)
    ∷ atom (status_word e.status)
    ∷ [])

abbrev pub term_line : Value → List ℕ
term_line v = text_of v ++ codes "\n"

-- the last line: how many there are
abbrev pub count_line : ℕ → List ℕ
count_line n = codes "ok " ++ (decimal n ++ codes "\n")

abbrev pub release_line : Entry → List ℕ
release_line e = term_line (release_value e)

-- a line for each release, in order of coming, and how many there are
abbrev pub listing : Releases → List ℕ
listing es = flat_map release_line es ++ count_line (length es)

-- a process that was stopped for a change of code isn't up
abbrev pub standing_word : Standing → List ℕ
standing_word Up = codes "up"
standing_word s = codes "down"

-- a process as it is listed: its application, its id, its module with the version of that, and whether it is up
abbrev pub process_value : Now → Value
process_value n = tuple_of
    (atom n.app
    ∷ atom n.id
    ∷ atom n.table.name
    ∷ text_term n.table.vsn
    ∷ atom (standing_word n.standing)
    ∷ [])

-- the line of what stands in a slot; none where no process does
abbrev pub process_line : Slot → List ℕ
process_line v = option_map_or (λ n. term_line (process_value n)) v.now []

-- a line for each process, in order of slots, and how many there are
abbrev pub process_listing : List Slot → List ℕ
process_listing vs = flat_map process_line vs ++ count_line (length (filter (λ (v : Slot). is_some v.now) vs))

-- a module as it is listed: its name, and the version that is loaded
abbrev pub module_value : List ℕ → List ℕ → Value
module_value name vsn = pair_term (atom name) (text_term vsn)

abbrev pub module_line : List ℕ → List ℕ → List ℕ
module_line name vsn = term_line (module_value name vsn)

-- a line for each of these modules with their versions, in order, and how many there are
abbrev pub module_listing : List (List ℕ × List ℕ) → List ℕ
module_listing ms = flat_map (λ (m : List ℕ × List ℕ). module_line m.0 m.1) ms ++ count_line (length ms)
