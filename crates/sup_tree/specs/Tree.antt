-- The applications that are started, and their members.
use Rattle.std.specs.Prelude.{◌≡◌, ℕ, Bool, false, List, [], ◌∷◌, slice_index_or, Option, if◌then◌else◌}
use Rattle.std.proofs.Common.{refl}
use Rattle.std.specs.Coded.{Coded, coded×, coded_ℕ, coded_list, code_by}
use Rattle.std.specs.List.{find, flat_map, list_any}
use Rattle.std.specs.Option.{option_map_or, option_and_then}
use Rattle.std.specs.Str.{bytes_eq}
use Rattle.proc_table.specs.declared.pid.Pid.{Pid}
use Rattle.started_members.specs.declared.member.Member.{Member}
use Rattle.sup_tree.specs.declared.tree.StartedApp.{StartedApp}
use Rattle.started_members.specs.declared.member.StartedProcess.{StartedProcess}
use Rattle.started_members.specs.Members.{processes_among, pids_of, lowest_with, using_among, module_among, supervises_in}

-- an application, with its members in the order of the walk
pub record App : Type 0 where
  pub name : List ℕ
  pub members : List Member

abbrev pub apps_code : Coded Member → Coded (List App)
apps_code member =
    coded_list (code_by (List ℕ × List Member) (coded× (coded_list coded_ℕ) (coded_list member)) (λ a. (a.name, a.members)) (λ t. record { name = t.0; members = t.1 }) (λ _. refl))

abbrev pub app_of : StartedApp → App
app_of a = record { name = a.name; members = a.members.items }

abbrev pub is_named : List ℕ → App → Bool
is_named name a = bytes_eq a.name name

-- the application of this name, if it is started
abbrev pub app_named : List ℕ → List App → Option App
app_named name apps = find (is_named name) apps

-- its members, in the order of the walk; none where it isn't started
abbrev pub members_of : List ℕ → List App → List Member
members_of name apps = option_map_or (λ (a : App). a.members) (app_named name apps) []

-- all but that one
abbrev pub without : List ℕ → List App → List App
without name [] = []
without name (a ∷ as') = if is_named name a then as' else a ∷ without name as'

-- the processes of an application, and where they are
abbrev pub app_processes : App → List StartedProcess
app_processes a = processes_among a.members

abbrev pub app_pids : App → List Pid
app_pids a = pids_of (app_processes a)

abbrev pub find_process : List ℕ → List ℕ → List App → Option Pid
find_process name id apps = option_and_then (λ (a : App). lowest_with id (app_processes a)) (app_named name apps)

abbrev pub processes_using : List ℕ → List App → List Pid
processes_using module' apps = flat_map (λ (a : App). using_among module' (app_processes a)) apps

-- the processes of all applications
abbrev pub all_processes : List App → List StartedProcess
all_processes apps = flat_map app_processes apps

-- the module that the process runs which began in this slot, where one did
abbrev pub module_in : ℕ → List App → Option (List ℕ)
module_in slot apps = module_among slot (all_processes apps)

-- Each slot is noted: whether the process that began in it runs this module.
abbrev pub NotesUsers : List ℕ → List App → List Bool → Type 0
NotesUsers name apps used = (p : ℕ) → slice_index_or used p false ≡ option_map_or (bytes_eq name) (module_in p apps) false

-- whether a started application has a supervisor of this module
abbrev pub supervises : List ℕ → List App → Bool
supervises module' apps = list_any (λ (a : App). supervises_in module' a.members) apps
