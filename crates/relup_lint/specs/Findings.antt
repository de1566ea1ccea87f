-- What systools refuses of a script (OTP: systools_rc, check_syntax, check_script, translate_application_instrs,
-- make_dependency_graph and merge_load_object_code).
use Rattle.std.specs.Prelude.{◌≡◌, ◌<◌, ◌≤◌, ℕ, ◌+◌, nat_eq, nat_lt, Bool, true, false, not, List, [], ◌∷◌, ◌++◌, map, filter, Option, Some, None, is_some, ◌&&◌, if◌then◌else◌}
use Rattle.std.specs.List.{AllByRecursion, list_any}
use Rattle.std.specs.Map.{lookup}
use Rattle.std.specs.Str.{bytes_eq}
use Rattle.relup_instruction.specs.Instruction.Instruction.{load_object_code}
use Rattle.appup_file.specs.Instruction.{AppupInstruction}
use Rattle.appup_file.specs.Instruction.AppupInstruction.{remove_application, low_level}
use Rattle.relup_lint.specs.declared.parts.Part.{Part}
use Rattle.relup_lint.specs.declared.parts.Part.TheVariants.{Changed, Fetched, Suspended, Resumed, Stopped, Started}
use Rattle.relup_lint.specs.Script.{PlacedForm, TargetForm, ScriptForm, has_app, modules_of}
use Rattle.relup_lint.specs.Parts.{names_of, changed_names, needed_part, needing_names, names_without_time}

-- a refusal, with the module, application or library that it is about
pub data RefusalForm : Type 0 where
  no_time : List ℕ → RefusalForm
  not_fetched : List ℕ → RefusalForm
  not_resumed : List ℕ → RefusalForm
  not_suspended : List ℕ → RefusalForm
  not_stopped : List ℕ → RefusalForm
  not_started : List ℕ → RefusalForm
  not_removed : List ℕ → RefusalForm
  not_alone : List ℕ → RefusalForm
  not_changed : List ℕ → RefusalForm
  not_one_version : List ℕ → RefusalForm
  not_of_target : List ℕ → RefusalForm

pub record FindingForm : Type 0 where
  pub app : List ℕ
  pub number : ℕ
  pub refusal : RefusalForm

-- names at one place
abbrev pub placed_names : ℕ → List (List ℕ) → List (List ℕ × ℕ)
placed_names n names = map (λ (m : List ℕ). (m, n)) names

-- the names of a part, each with the place of its instruction in the script, from this one on
abbrev pub places : Part → List TargetForm → ℕ → List PlacedForm → List (List ℕ × ℕ)
places part ts n [] = []
places part ts n (p ∷ ps) = placed_names n (names_of part ts p.instr) ++ places part ts (n + 1) ps

-- the library that an instruction fetches, and its version
abbrev pub version_in : AppupInstruction → List (List ℕ × List ℕ)
version_in (low_level (load_object_code f)) = (f.app, f.vsn) ∷ []
version_in i = []

abbrev pub versions : List PlacedForm → List (List ℕ × List ℕ)
versions [] = []
versions (p ∷ ps) = version_in p.instr ++ versions ps

-- the applications of a target, with their versions
abbrev pub target_versions : List TargetForm → List (List ℕ × List ℕ)
target_versions ts = map (λ (t : TargetForm). (t.name, t.vsn)) ts

-- What a script mentions: the names of each part with their places, the libraries that it fetches with their versions, and the
-- target with its versions.
pub record MentionsForm : Type 0 where
  pub target : List TargetForm
  pub changed : List (List ℕ × ℕ)
  pub fetched : List (List ℕ × ℕ)
  pub suspended : List (List ℕ × ℕ)
  pub resumed : List (List ℕ × ℕ)
  pub stopped : List (List ℕ × ℕ)
  pub started : List (List ℕ × ℕ)
  pub versions : List (List ℕ × List ℕ)
  pub target_versions : List (List ℕ × List ℕ)

abbrev pub mentions : ScriptForm → MentionsForm
mentions s = record {
  target = s.target;
  changed = places Changed s.target 0 s.instrs;
  fetched = places Fetched s.target 0 s.instrs;
  suspended = places Suspended s.target 0 s.instrs;
  resumed = places Resumed s.target 0 s.instrs;
  stopped = places Stopped s.target 0 s.instrs;
  started = places Started s.target 0 s.instrs;
  versions = versions s.instrs;
  target_versions = target_versions s.target;
}

abbrev pub of_part : Part → MentionsForm → List (List ℕ × ℕ)
of_part Changed m = m.changed
of_part Fetched m = m.fetched
of_part Suspended m = m.suspended
of_part Resumed m = m.resumed
of_part Stopped m = m.stopped
of_part Started m = m.started

-- whether another place is found than this one
abbrev pub is_elsewhere : ℕ → Option ℕ → Bool
is_elsewhere n None = false
is_elsewhere n (Some k) = not (nat_eq k n)

-- whether another version is found than this one
abbrev pub is_other : List ℕ → Option (List ℕ) → Bool
is_other vsn None = false
is_other vsn (Some v) = not (bytes_eq v vsn)

-- why a name is refused that isn't there for what it needs
abbrev pub refusal_without : Part → List ℕ → RefusalForm
refusal_without Changed = not_changed
refusal_without Fetched = not_fetched
refusal_without Suspended = not_suspended
refusal_without Resumed = not_resumed
refusal_without Stopped = not_stopped
refusal_without Started = not_started

-- whether another instruction than this one is the first that changes the module
abbrev pub changed_before : MentionsForm → ℕ → List ℕ → Bool
changed_before m n name = is_elsewhere n (lookup (bytes_eq name) m.changed)

-- whether the name stands nowhere in this part of the mentions
abbrev pub is_missing : MentionsForm → Part → List ℕ → Bool
is_missing m part name = not (is_some (lookup (bytes_eq name) (of_part part m)))

-- one, where it holds
abbrev pub only_if : Bool → RefusalForm → Option RefusalForm
only_if true r = Some r
only_if false r = None

-- whether an instruction has a module of its own that the target has of a library: the translation fetches that library too
abbrev pub is_changed : MentionsForm → List ℕ → Bool
is_changed m name = is_some (lookup (bytes_eq name) m.changed)

abbrev pub is_fetched_too : MentionsForm → List ℕ → Bool
is_fetched_too m app = list_any (is_changed m) (modules_of app m.target)

-- why a library is refused that is fetched in this version: in another one before, or in the target's too, which is another
abbrev pub fetch_refusal : MentionsForm → List ℕ → List ℕ → Option RefusalForm
fetch_refusal m app vsn =
    if is_other vsn (lookup (bytes_eq app) m.versions) then Some (not_one_version app)
    else only_if (is_other vsn (lookup (bytes_eq app) m.target_versions) && is_fetched_too m app) (not_of_target app)

-- an application that is removed and kept, or a library of two versions
abbrev pub single_refusal : MentionsForm → AppupInstruction → Option RefusalForm
single_refusal m (remove_application name) = only_if (has_app name m.target) (not_removed name)
single_refusal m (low_level (load_object_code f)) = fetch_refusal m f.app f.vsn
single_refusal m i = None

abbrev pub option_row : Option RefusalForm → List RefusalForm
option_row None = []
option_row (Some r) = r ∷ []

abbrev pub finding : PlacedForm → RefusalForm → FindingForm
finding p r = record { app = p.app; number = p.number; refusal = r }

-- What is refused of an instruction at this place: a timeout of 0, a module that another one has before, a name that isn't there
-- for what it needs, and what is refused of it by itself.
abbrev pub findings_at : MentionsForm → ℕ → PlacedForm → List FindingForm
findings_at ms n p =
    map (λ (m : List ℕ). finding p (no_time m)) (names_without_time p.instr)
    ++ (map (λ (m : List ℕ). finding p (not_alone m)) (filter (changed_before ms n) (changed_names ms.target p.instr))
    ++ (map (λ (m : List ℕ). finding p (refusal_without (needed_part p.instr) m)) (filter (is_missing ms (needed_part p.instr)) (needing_names p.instr))
    ++ map (finding p) (option_row (single_refusal ms p.instr))))

abbrev pub findings_from : MentionsForm → ℕ → List PlacedForm → List FindingForm
findings_from ms n [] = []
findings_from ms n (p ∷ ps) = findings_at ms n p ++ findings_from ms (n + 1) ps

-- what is refused of a script, in the order of its instructions
abbrev pub findings : ScriptForm → List FindingForm
findings s = findings_from (mentions s) 0 s.instrs

-- how many of its checks systools has made before it refuses this
abbrev pub checks_before : RefusalForm → ℕ
checks_before (no_time name) = 0
checks_before (not_fetched name) = 1
checks_before (not_resumed name) = 2
checks_before (not_suspended name) = 3
checks_before (not_stopped name) = 4
checks_before (not_started name) = 5
checks_before (not_removed name) = 6
checks_before (not_alone name) = 7
checks_before (not_changed name) = 8
checks_before (not_one_version name) = 9
checks_before (not_of_target name) = 9

abbrev pub checks_of : FindingForm → ℕ
checks_of f = checks_before f.refusal

-- The first finding of the earliest check that finds something: those before it are of later checks, and those after it of none
-- that is earlier.
pub record IsFirst (fs : List FindingForm) (f : FindingForm) : Type 0 where
  pub before : List FindingForm
  pub after : List FindingForm
  pub are : fs ≡ before ++ (f ∷ after)
  pub later : AllByRecursion (λ (g : FindingForm). checks_of f < checks_of g) before
  pub no_earlier : AllByRecursion (λ (g : FindingForm). checks_of f ≤ checks_of g) after

-- There is none where nothing is found.
abbrev pub IsReported : List FindingForm → Option FindingForm → Type 0
IsReported fs None = fs ≡ []
IsReported fs (Some f) = IsFirst fs f

-- whether a finding is of an earlier check than the one so far
abbrev pub is_earlier : FindingForm → Option FindingForm → Bool
is_earlier f None = true
is_earlier f (Some g) = nat_lt (checks_of f) (checks_of g)
