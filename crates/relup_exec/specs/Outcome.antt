-- What comes of a script: up to its point of no return, and after it.
use Rattle.std.specs.Prelude.{◌≡◌, ℕ, ◌+◌, ◌≤◌, Bool, true, false, ◌&&◌, ◌⊎◌, not, List, [], ◌∷◌, ◌++◌, length, Ok}
use Rattle.std.specs.List.{AllByRecursion}
use Rattle.proc_table.specs.declared.view.View.{View}
use Rattle.relup_instruction.specs.Instruction.{Instruction}
use Rattle.relup_instruction.specs.Instruction.Instruction.{point_of_no_return}
use Rattle.relup_file.specs.Script.{is_point}
use Rattle.loaded_modules.specs.Loaded.{NamedModules}
use Rattle.sup_tree.specs.Tree.{App}
use Rattle.held_processes.specs.Course.{Courses, on_all}
use Rattle.held_processes.specs.Course.Operation.{finish}
use Rattle.held_processes.specs.Following.{AllFollow, AreLeft, AreLonger, AreUntouched, HeldSlots}
use Rattle.held_processes.specs.Operations.{values_seen}
use Rattle.script_progress.specs.Script.{Site, Run, began, courses_within, run_after}
use Rattle.script_progress.specs.Fault.{Cause}
use Rattle.script_progress.specs.Steps.{FailsByLooks, GoesByLooks, HasNoFault, IsEarly, IsFault, IsLate, Past}
use Rattle.script_progress.specs.Stops.{StopsAt, is_memory, takes_memory}

-- What the handler had seen when a script began, and which applications were started then.
pub record Start : Type 0 where
  pub first : View
  pub apps : List App

abbrev pub began_at : Site → Start → Run
began_at s start = began s start.apps (values_seen start.first)

-- Whether the next instruction stands before the point of no return, by whether these began before it.
abbrev pub still_early : Bool → List Instruction → Bool
still_early early [] = early
still_early early (i ∷ is) = still_early (early && not (is_point i)) is

-- What instructions do one after another, the point of no return among them. reported: of each after the point, whether it leaves
-- the child that it is on as it is.
abbrev pub run_through : Site → Bool → List Bool → List Instruction → Run → Run
run_through s early reported [] r = r
run_through s true reported (i ∷ is) r = run_through s (not (is_point i)) reported is (run_after s true false i r)
run_through s false [] (i ∷ is) r = r
run_through s false (b ∷ reported) (i ∷ is) r = run_through s false reported is (run_after s false b i r)

-- what was done after these, from the first instruction on
abbrev pub run_behind : Site → Start → List Bool → List Instruction → Run
run_behind s start reported is = run_through s true reported is (began_at s start)

abbrev pub past_behind : Site → Start → List Bool → List Instruction → Past
past_behind s start reported is = record { first = start.first; run = run_behind s start reported is }

-- An instruction was carried out from the one moment to the other: by histories that the handler had seen between these nothing
-- made it fail, and the slots by which it goes were taken between them. Of the child that it is on this is reported.
abbrev pub RanOne : Site → View → Run → Bool → Instruction → View → View → Type 0
RanOne s first r stays i v w = HasNoFault s first v w r stays i × GoesByLooks (record { first = first; run = r }) i (Ok stays) v w

-- The instructions were carried out, one after another, between these two moments. Of each one after the point of no return it
-- is reported whether the child that it is on stays.
abbrev pub RanAll : Site → View → View → View → Bool → List Bool → List Instruction → Run → Type 0
RanAll s first since now early reported [] r = (reported ≡ []) × AreLonger since now
RanAll s first since now true reported (i ∷ is) r =
    (v w : View) × AreLonger since v × RanOne s first r false i v w × RanAll s first w now (not (is_point i)) reported is (run_after s true false i r)
RanAll s first since now false [] (i ∷ is) r = ⊥
RanAll s first since now false (b ∷ reported) (i ∷ is) r =
    (v w : View) × AreLonger since v × RanOne s first r b i v w × RanAll s first w now false reported is (run_after s false b i r)

abbrev pub Ran : Site → Start → View → List Bool → List Instruction → Type 0
Ran s start now reported is = RanAll s start.first start.first now true reported is (began_at s start)

-- The point of no return is one of these instructions, and those after it were carried out between these two moments. So none of
-- them is judged by an earlier view.
abbrev pub RanAllLate : Site → View → View → View → Bool → List Bool → List Instruction → Run → Type 0
RanAllLate s first since now false reported is r = RanAll s first since now false reported is r
RanAllLate s first since now true reported [] r = ⊥
RanAllLate s first since now true reported (i ∷ is) r = RanAllLate s first since now (not (is_point i)) reported is (run_after s true false i r)

abbrev pub RanLate : Site → Start → View → View → List Bool → List Instruction → Type 0
RanLate s start since now reported is = RanAllLate s start.first since now true reported is (began_at s start)

-- A script that has come to its point of no return. place: how many instructions stand before the point. next and apps: what is
-- loaded, and what is started, once the script has ended well. reported, room: nothing is reported yet, and of how many
-- instructions can be.
pub record ArmedForm : Type 0 where
  pub place : ℕ
  pub reported : List Bool
  pub room : ℕ
  pub held : HeldSlots
  pub fetched : NamedModules
  pub next : NamedModules
  pub apps : List App

-- The point of no return is the first instruction after so many, all of which may stand before it.
pub record IsPointAt (script : List Instruction) (place : ℕ) : Type 0 where
  pub front : List Instruction
  pub rest : List Instruction
  pub is : script ≡ front ++ (point_of_no_return ∷ rest)
  pub early : AllByRecursion IsEarly front
  pub late : AllByRecursion IsLate rest
  pub place_is : place ≡ length front

-- What is held can go back as it was when the handler's view was `first`: no block stands in a history.
abbrev pub CanGoBack : View → HeldSlots → View → Type 0
CanGoBack first hs v = (courses : Courses) × AllFollow first courses hs v × ((p : ℕ) → (courses p).blocks ≡ [])

-- All before the point of no return was done, and nothing of it stands in a history yet.
pub record IsArmed (s : Site) (start : Start) (script : List Instruction) (a : ArmedForm) (v : View) : Type 0 where
  pub point : IsPointAt script a.place
  pub reported : a.reported ≡ []
  pub room : length script ≤ a.room
  pub ran : Ran s start v [] point.front
  pub fetched : a.fetched ≡ (run_behind s start [] point.front).fetched
  pub next : a.next ≡ (run_behind s start [] point.front).modules
  pub apps : a.apps ≡ (run_behind s start [] point.front).apps
  pub follow : AllFollow start.first (run_behind s start [] point.front).courses a.held v
  pub quiet : (p : ℕ) → ((run_behind s start [] point.front).courses p).blocks ≡ []

-- the instruction with this number, and those in front of it
pub record IsInstructionAt (script : List Instruction) (number : ℕ) (front : List Instruction) (i : Instruction) : Type 0 where
  pub rest : List Instruction
  pub is : script ≡ front ++ (i ∷ rest)
  pub counted : number ≡ length front + 1

-- An instruction before the point is the first that fails; and nothing was added to any history. Out of memory is reported only of
-- one that asks for memory, or of the first instruction of the script, whatever it is: then the script could not begin, and the
-- handler has tried nothing.
pub record IsRefused (s : Site) (start : Start) (script : List Instruction) (number : ℕ) (c : Cause) (v : View) : Type 0 where
  pub front : List Instruction
  pub instruction : Instruction
  pub at : IsInstructionAt script number front instruction
  pub early : AllByRecursion IsEarly front
  pub ran : Ran s start v [] front
  pub fails : IsFault start.first s v (run_behind s start [] front) instruction c
  pub asks : is_memory c ≡ true → ((number ≡ 1) × (v ≡ start.first)) ⊎ (takes_memory s (values_seen v) (run_behind s start [] front) instruction ≡ true)
  pub untouched : AreUntouched start.first v

-- The whole script was carried out: its blocks stand in the histories, and this is loaded and started.
pub record IsFinished (s : Site) (start : Start) (script : List Instruction) (loaded : NamedModules) (apps : List App) (v : View) : Type 0 where
  pub reported : List Bool
  pub ran : Ran s start v reported script
  pub loaded_is : loaded ≡ (run_behind s start reported script).modules
  pub apps_are : apps ≡ (run_behind s start reported script).apps
  pub left : AreLeft start.first (on_all finish (run_behind s start reported script).courses) v

-- An instruction after the point is the first that fails. What was held is let go with what was done to it by then: by those in
-- front, and by this one for so many of its modules and for the next in the slots below this. It began after those in front, and
-- fails by histories that the handler had seen since then. The slots by which it goes were taken while it was carried out.
pub record IsBroken (s : Site) (start : Start) (script : List Instruction) (number : ℕ) (c : Cause) (v : View) : Type 0 where
  pub front : List Instruction
  pub instruction : Instruction
  pub at : IsInstructionAt script number front instruction
  pub late : still_early true front ≡ false
  pub reported : List Bool
  pub began : View
  pub ran : Ran s start began reported front
  pub then_view : View
  pub since : AreLonger began then_view
  pub fails : IsFault start.first s then_view (run_behind s start reported front) instruction c
  pub ended : View
  pub longer : AreLonger then_view ended
  pub looked : FailsByLooks instruction (run_behind s start reported front) c began ended
  pub modules : ℕ
  pub slot : ℕ
  pub stops : StopsAt start.first s then_view (run_behind s start reported front) instruction c modules slot
  pub left : AreLeft start.first (on_all finish (courses_within s false instruction modules slot (run_behind s start reported front))) v
  pub last : AreLonger ended v

-- The whole script was carried out, and what stands after its point is judged by no view from before this one.
pub record IsFinishedFrom (s : Site) (start : Start) (script : List Instruction) (since : View) (loaded : NamedModules) (apps : List App) (v : View) : Type 0 where
  pub finished : IsFinished s start script loaded apps v
  pub late : RanLate s start since v finished.reported script

-- An instruction after the point is the first that fails, and neither it nor those between are judged by a view from before this
-- one.
pub record IsBrokenFrom (s : Site) (start : Start) (script : List Instruction) (since : View) (number : ℕ) (c : Cause) (v : View) : Type 0 where
  pub broken : IsBroken s start script number c v
  pub late : RanLate s start since broken.began broken.reported broken.front
