-- Applications that start one after another.
use Rattle.std.specs.Prelude.{◌≡◌, ℕ, ◌≤◌, List, [], ◌∷◌, length, map, None}
use Rattle.std.specs.List.{AllByRecursion, sum_by}
use Rattle.rel_files.specs.Name.{AreDistinct}
use Rattle.rel_check.specs.Modules.{Part}
use Rattle.mod_table.specs.Tables.{Tables}
use Rattle.proc_table.specs.declared.view.View.{View}
use Rattle.proc_table.specs.Free.{free_count}
use Rattle.started_members.specs.Preparations.{to_begin}
use Rattle.sup_tree.specs.declared.begins.NewApp.{NewApp}
use Rattle.sup_tree.specs.Starts.{AppBegan, AppStarted, IsReady}
use Rattle.sup_tree.specs.Tree.{App, app_named}
use Rattle.app_members.specs.Walk.{app_fault, app_members}
use Rattle.held_processes.specs.Following.{HoldsNothing}
use Rattle.node_processes.specs.Fresh.{part_starts}

abbrev pub part_name : Part → List ℕ
part_name p = p.library.app.name

abbrev pub IsNew : List App → Part → Type 0
IsNew apps p = app_named (part_name p) apps ≡ None

abbrev pub HasNoFault : Tables → Part → Type 0
HasNoFault tables p = app_fault tables p.library.app.top ≡ None

-- how many processes they start
abbrev pub starts_in_all : Tables → List Part → ℕ
starts_in_all tables ps = sum_by (λ p. length (part_starts tables p)) ps

-- The applications can start: none of them is started or stands twice, nothing is wrong below their tops, and there are slots
-- for all their processes.
pub record AreReady (tables : Tables) (ps : List Part) (apps : List App) (v : View) : Type 0 where
  pub new : AllByRecursion (IsNew apps) ps
  pub distinct : AreDistinct (map part_name ps)
  pub sound : AllByRecursion (HasNoFault tables) ps
  pub room : starts_in_all tables ps ≤ free_count v

-- All memory is there that each of these applications needs to start.
abbrev pub HaveMemory : Tables → List Part → List NewApp → Type 0
HaveMemory tables [] [] = Unit {0}
HaveMemory tables (p ∷ ps) (n ∷ ns) = IsReady (part_name p) (app_members tables p.library.app.top) n × HaveMemory tables ps ns
HaveMemory tables ps ns = ⊥

-- how many processes are to begin
abbrev pub number_to_begin : List NewApp → ℕ
number_to_begin ns = sum_by (λ (n : NewApp). length (to_begin n.prepared.items)) ns

-- The applications began, one after another.
abbrev pub AppsBegan : List NewApp → View → List App → View → Type 0
AppsBegan [] v [] w = w ≡ v
AppsBegan (n ∷ ns) v (a ∷ as') w = (u : View) × AppBegan n v a u × AppsBegan ns u as' w
AppsBegan ns v as' w = ⊥

-- The applications were started one after another.
abbrev pub StartedAll : Tables → List Part → List App → View → List App → View → Type 0
StartedAll tables [] apps v apps' w = (apps' ≡ apps) × (w ≡ v)
StartedAll tables (p ∷ ps) apps v apps' w =
    (mid : List App) × (u : View) × AppStarted (part_name p) p.library.app.top tables apps v mid u × StartedAll tables ps mid u apps' w

-- The handler has lent no pass, and holds no process.
pub record IsAlone (v : View) : Type 0 where
  pub lent : v.lent ≡ []
  pub free : HoldsNothing v
