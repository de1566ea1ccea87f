-- The answer to the request of a relup is reported in whole lines: a relup in one line, and then `ok`, or a fault in one line.
use Rattle.std.proofs.Common.{◌≡◌, ℕ, Bool, true, false, List, [], ◌∷◌, ◌++◌, find, codes, Option, Some, None, Result, Ok, Err, refl, subst}
use Rattle.std.specs.List.{AllByRecursion, AllZip}
use Rattle.std.specs.Option.{option_and_then, option_or}
use Rattle.std.specs.Prelude.{if◌then◌else◌, is_some}
use Rattle.std.specs.Str.{bytes_eq}
use Rattle.erl_term.specs.Lines.{is_one_line}
use Rattle.erl_term.specs.Value.{Value}
use Rattle.rel_files.specs.Release.{Application}
use Rattle.rel_files.specs.AppFile.{Specification, has_few_modules}
use Rattle.relup_instruction.specs.declared.instruction.Direction.{Direction}
use Rattle.relup_instruction.specs.declared.instruction.Direction.TheVariants.{Up, Down}
use Rattle.relup_instruction.specs.Instruction.{Instruction}
use Rattle.relup_file.specs.Relup.{RelupForm}
use Rattle.appup_file.proofs.TermLemmas.{says_its_term}
use Rattle.appup_file.specs.Form.{IsAppupInstruction, IsEntryTerm, Spells}
use Rattle.appup_file.specs.Instruction.{AppupInstruction, AppupEntryForm, AppupForm, VersionForm}
use Rattle.appup_file.specs.Instruction.AppupInstruction.{update, load_module, add_module, delete_module, add_application, remove_application, restart_application, low_level}
use Rattle.appup_file.specs.Instruction.VersionForm.{text, pattern}
use Rattle.appup_file.specs.Search.{ends_at, answer_of, answer_at, entry_for}
use Rattle.rel_unpack.specs.Applications.{AppAt}
use Rattle.rel_unpack.specs.Order.{Then, Each}
use Rattle.rel_unpack.specs.Refusal.Refusal.{too_many}
use Rattle.rel_unpack.specs.Release.{ReleaseAt}
use Rattle.rel_unpack.specs.Source.{Source}
use Rattle.rel_unpack.proofs.LineOutcomes.{AreGood, IsGood, IsSaidOrNone, HasLines, IsLineApplication, IsLineFound, IsLineSpecification, name_line, folder_line, good_outcome, good_then, good_each, good_if_there, good_release, good_application}
use Rattle.erl_term.proofs.Lines.{append_line}
use Rattle.relup_row.specs.Release.{RelupAppForm, RelupReleaseForm, WayForm, way_between, app_named, owner}
use Rattle.relup_block.specs.Order.{is_among}
use Rattle.relup_translate.specs.Fault.{FaultForm}
use Rattle.relup_translate.specs.Fault.FaultForm.{no_appup, no_entry, unknown_module, regex_version, needs_new_emulator, unsupported}
use Rattle.relup_translate.specs.Translation.{known, instruction_fault, low_level_fault, first_fault, counting, counting_appup, searched, found, between_versions, if_other, row_fault, app_fault, way_fault, release_fault, fault_between, relup_between, unless_fault, translation}
use Rattle.relup_command.specs.Answer.{AnswerAt, translation_lines, AreLinePaths}
use Rattle.relup_command.specs.Appups.{AppupAt, WithAppup, appup_form, appup_path, with_appup}
use Rattle.relup_command.specs.Releases.{Releases, RelupAppAt, RelupReleaseAt, ReleasesAt, WithAppups, relup_app, relup_release}

-- what an appup and an application name is within a line
abbrev IsLineAppup : AppupForm → Type 0
IsLineAppup p =
    AllByRecursion (λ (e : AppupEntryForm). AllByRecursion IsAppupInstruction e.instrs) p.ups
    × AllByRecursion (λ (e : AppupEntryForm). AllByRecursion IsAppupInstruction e.instrs) p.downs

abbrev MayHaveLines : Option AppupForm → Type 0
MayHaveLines None = Unit {0}
MayHaveLines (Some p) = IsLineAppup p

record IsLineApp (a : RelupAppForm) : Type 0 where
  lines : HasLines a.name a.vsn
  appup : MayHaveLines a.appup

abbrev AreLineApps : RelupReleaseForm → Type 0
AreLineApps r = AllByRecursion IsLineApp r.apps

record AreLineReleases (all : Releases) : Type 0 where
  new : AreLineApps all.new
  ups : AllByRecursion AreLineApps all.ups
  downs : AllByRecursion AreLineApps all.downs

-- An appup's term spells its instructions.
spelled_all : (vs : List Value) (is' : List AppupInstruction) → AllZip Spells vs is' → AllByRecursion IsAppupInstruction is'
spelled_all [] [] all = tt
spelled_all (v ∷ vs) (i ∷ is') all = (all.0.1, spelled_all vs is' all.1)
spelled_all [] (i ∷ is') all = absurd all
spelled_all (v ∷ vs) [] all = tt

pub entries_all : (vs : List Value) (es : List AppupEntryForm) → AllZip IsEntryTerm vs es → AllByRecursion (λ (e : AppupEntryForm). AllByRecursion IsAppupInstruction e.instrs) es
entries_all [] [] all = tt
entries_all (v ∷ vs) (e ∷ es) all = (spelled_all all.0.instrs e.instrs all.0.each, entries_all vs es all.1)
entries_all [] (e ∷ es) all = absurd all
entries_all (v ∷ vs) [] all = tt

said_appup : (source : Source) (path : List ℕ) (line : is_one_line path ≡ true) (o : Option AppupForm) → IsSaidOrNone appup_form source path line o → MayHaveLines o
said_appup source path line None said = tt
said_appup source path line (Some p) (bytes, (v, here, says)) =
    let term = (says_its_term v p).0 says in
    (entries_all term.ups p.ups term.each_up, entries_all term.downs p.downs term.each_down)

-- What the files of an application say for a relup is reported within a line.
good_relup_app : (source : Source) (a : Application) → IsLineApplication a → AreGood (RelupAppAt source a) IsLineApp
good_relup_app source a lines =
    good_then (AppAt source a) _ IsLineSpecification IsLineApp (good_application source a lines)
    (λ s said. good_outcome IsLineApp _ (go s said (has_few_modules s)))
  where
    go : (s : Specification) → IsLineSpecification s → (b : Bool) → IsGood IsLineApp (if b then Ok (relup_app a.start s) else Err too_many)
    go s said true = record { lines = said; appup = tt }
    go s said false = tt

good_relup_release : (source : Source) (path : List ℕ) → is_one_line path ≡ true → AreGood (RelupReleaseAt source path) AreLineApps
good_relup_release source path line =
    good_then (ReleaseAt source path) (λ f. Then (Each (RelupAppAt source) f.release.apps) (λ apps r. r ≡ Ok (relup_release f.release apps))) IsLineFound AreLineApps (good_release source path line)
    (λ f of. good_then (Each (RelupAppAt source) f.release.apps) (λ apps r. r ≡ Ok (relup_release f.release apps)) (AllByRecursion IsLineApp) AreLineApps
    (good_each (RelupAppAt source) IsLineApplication IsLineApp (good_relup_app source) f.release.apps of.apps)
    (λ apps are. good_outcome AreLineApps (Ok (relup_release f.release apps)) are))

appup_path_line : (a : RelupAppForm) → IsLineApp a → is_one_line (appup_path a) ≡ true
appup_path_line a of = folder_line a.name a.vsn (a.name ++ codes ".appup") of.lines (append_line a.name (codes ".appup") of.lines.own refl)

good_with_appup : (source : Source) (a : RelupAppForm) → IsLineApp a → AreGood (WithAppup source a) IsLineApp
good_with_appup source a of =
    let line = appup_path_line a of in
    good_then (AppupAt source a) _ (IsSaidOrNone appup_form source (appup_path a) line) IsLineApp (good_if_there appup_form source (appup_path a) line)
    (λ p said. good_outcome IsLineApp (Ok (with_appup a p)) (record { lines = of.lines; appup = said_appup source (appup_path a) line p said }))

good_with_appups : (source : Source) (r : RelupReleaseForm) → AreLineApps r → AreGood (WithAppups source r) AreLineApps
good_with_appups source r of =
    let whole : List RelupAppForm → RelupReleaseForm = λ apps. record { vsn = r.vsn; erts = r.erts; apps = apps } in
    good_then (Each (WithAppup source) r.apps) (λ apps s. s ≡ Ok (whole apps)) (AllByRecursion IsLineApp) AreLineApps
    (good_each (WithAppup source) IsLineApp IsLineApp (good_with_appup source) r.apps of) (λ apps are. good_outcome AreLineApps (Ok (whole apps)) are)

good_releases : (source : Source) (new : List ℕ) (ups downs : List (List ℕ)) → is_one_line new ≡ true → AreLinePaths ups → AreLinePaths downs → AreGood (ReleasesAt source new ups downs) AreLineReleases
good_releases source new ups downs line lines back_lines =
    let all : RelupReleaseForm → List RelupReleaseForm → List RelupReleaseForm → Releases = λ whole lower back. record { new = whole; ups = lower; downs = back } in
    let paths_good = good_each (RelupReleaseAt source) (λ path. is_one_line path ≡ true) AreLineApps (good_relup_release source) in
    good_then (RelupReleaseAt source new)
    (λ release. Then (Each (RelupReleaseAt source) ups) (λ lower. Then (Each (RelupReleaseAt source) downs) (λ back. Then (WithAppups source release) (λ whole r. r ≡ Ok (all whole lower back)))))
    AreLineApps AreLineReleases (good_relup_release source new line) (λ release of.
    good_then (Each (RelupReleaseAt source) ups)
    (λ lower. Then (Each (RelupReleaseAt source) downs) (λ back. Then (WithAppups source release) (λ whole r. r ≡ Ok (all whole lower back))))
    (AllByRecursion AreLineApps) AreLineReleases (paths_good ups lines) (λ lower of_lower.
    good_then (Each (RelupReleaseAt source) downs) (λ back. Then (WithAppups source release) (λ whole r. r ≡ Ok (all whole lower back)))
    (AllByRecursion AreLineApps) AreLineReleases (paths_good downs back_lines) (λ back of_back.
    good_then (WithAppups source release) (λ whole r. r ≡ Ok (all whole lower back)) AreLineApps AreLineReleases (good_with_appups source release of) (λ whole of_whole.
    good_outcome AreLineReleases (Ok (all whole lower back)) (record { new = of_whole; ups = of_lower; downs = of_back })))))

-- what a fault reports is within a line
abbrev pub ReportsLineFault : FaultForm → Type 0
ReportsLineFault (no_appup app) = is_one_line app ≡ true
ReportsLineFault (no_entry app vsn) = (is_one_line app ≡ true) × (is_one_line vsn ≡ true)
ReportsLineFault (unknown_module name) = is_one_line name ≡ true
ReportsLineFault (regex_version app) = is_one_line app ≡ true
ReportsLineFault needs_new_emulator = Unit {0}
ReportsLineFault (unsupported app) = is_one_line app ≡ true

-- if there is one
abbrev MayTell : Option FaultForm → Type 0
MayTell None = Unit {0}
MayTell (Some f) = ReportsLineFault f

reports_known : (b : Bool) (f : FaultForm) → ReportsLineFault f → MayTell (known b f)
reports_known true f line = tt
reports_known false f line = line

reports_either : (o p : Option FaultForm) → MayTell o → MayTell p → MayTell (option_or o p)
reports_either None p first second = second
reports_either (Some f) p first second = first

reports_first : {A : Type 0} (K : A → Type 0) (f : A → Option FaultForm) → ((a : A) → K a → MayTell (f a)) → (as' : List A) → AllByRecursion K as' → MayTell (first_fault f as')
reports_first K f each [] all = tt
reports_first K f each (a ∷ as') all = reports_either (f a) (first_fault f as') (each a all.0) (reports_first K f each as' all.1)

reports_low_level : (asked : List ℕ) → is_one_line asked ≡ true → (i : Instruction) → MayTell (low_level_fault asked i)
reports_low_level asked line i = elim i as (λ j. MayTell (low_level_fault asked j)) [
  | Instruction.point_of_no_return ↦ line
  | Instruction.restart_new_emulator ↦ tt
  | Instruction.load_object_code f ↦ tt
  | Instruction.suspend ss ↦ tt
  | Instruction.load p ↦ tt
  | Instruction.code_change c ↦ tt
  | Instruction.resume names ↦ tt
  | Instruction.remove p ↦ tt
  | Instruction.purge names ↦ tt
  | Instruction.stop names ↦ tt
  | Instruction.start names ↦ tt
  | Instruction.apply c ↦ tt
  | Instruction.sync_nodes vs ↦ tt
  | Instruction.restart_emulator ↦ tt
]

reports_instruction : (w : WayForm) (b : RelupAppForm) → IsLineApp b → (i : AppupInstruction) → IsAppupInstruction i → MayTell (instruction_fault w b i)
reports_instruction w b of (update u) names = reports_known (is_some (owner u.name w.target)) _ (name_line u.name names.0)
reports_instruction w b of (load_module l) names = reports_known (is_some (owner l.name w.target)) _ (name_line l.name names.0)
reports_instruction w b of (add_module d) names = reports_known (is_some (owner d.name w.target)) _ (name_line d.name names.0)
reports_instruction w b of (delete_module d) names = reports_known (is_among d.name b.modules) _ (name_line d.name names.0)
reports_instruction w b of (add_application a) names = reports_known (is_some (app_named a.name w.target)) _ of.lines.own
reports_instruction w b of (remove_application app) names = reports_known (is_some (app_named app w.left)) _ of.lines.own
reports_instruction w b of (restart_application app) names =
    reports_either _ _ (reports_known (is_some (app_named app w.left)) _ of.lines.own) (reports_known (is_some (app_named app w.target)) _ of.lines.own)
reports_instruction w b of (low_level i) names = reports_low_level b.name of.lines.own i

-- the instructions between two versions
abbrev MayReportRow : Result (List AppupInstruction) FaultForm → Type 0
MayReportRow (Ok is') = AllByRecursion IsAppupInstruction is'
MayReportRow (Err f) = ReportsLineFault f

reports_entry : (app vsn : List ℕ) → is_one_line app ≡ true → is_one_line vsn ≡ true → (es : List AppupEntryForm) → AllByRecursion (λ (e : AppupEntryForm). AllByRecursion IsAppupInstruction e.instrs) es
    → MayReportRow (found app vsn (entry_for vsn es))
reports_entry app vsn line vsn_line [] all = (line, vsn_line)
reports_entry app vsn line vsn_line (e ∷ es) all = go (ends_at vsn e.vsn) (reports_entry app vsn line vsn_line es all.1)
  where
    here : (v : VersionForm) → MayReportRow (found app vsn (answer_of v e.instrs))
    here (text s) = all.0
    here (pattern bs) = line

    go : (b : Bool) → MayReportRow (found app vsn (answer_at (find (λ (e : AppupEntryForm). ends_at vsn e.vsn) es)))
        → MayReportRow (found app vsn (answer_at (if b then Some e else find (λ (e : AppupEntryForm). ends_at vsn e.vsn) es)))
    go true rest = here e.vsn
    go false rest = rest

reports_searched : (direction : Direction) (app vsn : List ℕ) (o : Option AppupForm) → is_one_line app ≡ true → is_one_line vsn ≡ true → MayHaveLines o → MayReportRow (searched direction app vsn o)
reports_searched direction app vsn None line vsn_line has = line
reports_searched Up app vsn (Some p) line vsn_line has = reports_entry app vsn line vsn_line p.ups has.0
reports_searched Down app vsn (Some p) line vsn_line has = reports_entry app vsn line vsn_line p.downs has.1

counting_lines : (a : RelupAppForm) (o : Option AppupForm) → MayHaveLines o → MayHaveLines (option_and_then (counting a) o)
counting_lines a None has = tt
counting_lines a (Some p) has = go (bytes_eq p.vsn a.vsn)
  where
    go : (b : Bool) → MayHaveLines (if b then Some p else None)
    go true = has
    go false = tt

reports_between : (direction : Direction) (b a : RelupAppForm) → IsLineApp b → IsLineApp a → MayReportRow (between_versions direction b a)
reports_between Up b a of of_a = reports_searched Up a.name b.vsn (counting_appup a) of_a.lines.own of.lines.version (counting_lines a a.appup of_a.appup)
reports_between Down b a of of_a = reports_searched Down b.name a.vsn (counting_appup b) of.lines.own of_a.lines.version (counting_lines b b.appup of.appup)

-- of each application of a way
named_lines : (s : List ℕ) (apps : List RelupAppForm) → AllByRecursion IsLineApp apps → (b : RelupAppForm) → find (λ (a : RelupAppForm). bytes_eq a.name s) apps ≡ Some b → IsLineApp b
named_lines s [] all b is = absurd cc
named_lines s (a ∷ apps) all b is = go (bytes_eq a.name s) is (λ e. named_lines s apps all.1 b e)
  where
    go : (t : Bool) → (if t then Some a else find (λ (a : RelupAppForm). bytes_eq a.name s) apps) ≡ Some b
        → (find (λ (a : RelupAppForm). bytes_eq a.name s) apps ≡ Some b → IsLineApp b) → IsLineApp b
    go true e rest = let same : a ≡ b = cc in subst IsLineApp same all.0
    go false e rest = rest e

reports_row : (w : WayForm) (b : RelupAppForm) → IsLineApp b → (r : Result (List AppupInstruction) FaultForm) → MayReportRow r → MayTell (row_fault w b r)
reports_row w b of (Err f) reports = reports
reports_row w b of (Ok is') all = reports_first IsAppupInstruction (instruction_fault w b) (reports_instruction w b of) is' all

reports_app : (w : WayForm) → AreLineApps w.left → (a : RelupAppForm) → IsLineApp a → MayTell (app_fault w a)
reports_app w left a of = go (app_named a.name w.left) refl
  where
    other : (b : RelupAppForm) → IsLineApp b → (t : Bool) → MayTell (option_and_then (λ (c : RelupAppForm). row_fault w c (between_versions w.direction c a)) (if t then None else Some b))
    other b of_b true = tt
    other b of_b false = reports_row w b of_b (between_versions w.direction b a) (reports_between w.direction b a of_b of)

    go : (o : Option RelupAppForm) → app_named a.name w.left ≡ o → MayTell (option_and_then (λ (c : RelupAppForm). row_fault w c (between_versions w.direction c a)) (option_and_then (if_other a) o))
    go None e = tt
    go (Some b) e = other b (named_lines a.name w.left.apps left b e) (bytes_eq b.vsn a.vsn)

reports_way : (w : WayForm) → AreLineApps w.left → AreLineApps w.target → MayTell (way_fault w)
reports_way w left target = go (bytes_eq w.left.erts w.target.erts)
  where
    go : (t : Bool) → MayTell (if t then first_fault (app_fault w) w.target.apps else Some needs_new_emulator)
    go true = reports_first IsLineApp (app_fault w) (reports_app w left) w.target.apps target
    go false = tt

reports_release : (direction : Direction) (new other : RelupReleaseForm) → AreLineApps new → AreLineApps other → MayTell (release_fault direction new other)
reports_release Up new other of of_other = reports_way (way_between Up new other) of_other of
reports_release Down new other of of_other = reports_way (way_between Down new other) of of_other

-- A translation is a relup or such a fault.
abbrev pub IsLineTranslation : Result RelupForm FaultForm → Type 0
IsLineTranslation (Ok r) = Unit {0}
IsLineTranslation (Err f) = ReportsLineFault f

unless_reported : (r : RelupForm) (o : Option FaultForm) → MayTell o → IsLineTranslation (unless_fault r o)
unless_reported r None reports = tt
unless_reported r (Some f) reports = reports

line_translation : (all : Releases) → AreLineReleases all → IsLineTranslation (translation all.new all.ups all.downs)
line_translation all of =
    unless_reported (relup_between all.new all.ups all.downs) (fault_between all.new all.ups all.downs)
    (reports_either _ _
    (reports_first AreLineApps (release_fault Up all.new) (λ other. reports_release Up all.new other of.new) all.ups of.ups)
    (reports_first AreLineApps (release_fault Down all.new) (λ other. reports_release Down all.new other of.new) all.downs of.downs))

-- An answer is a translation's lines.
abbrev pub IsLineAnswer : List ℕ → Type 0
IsLineAnswer s = (t : Result RelupForm FaultForm) × IsLineTranslation t × (s ≡ translation_lines t)

pub good_answer : (source : Source) (new : List ℕ) (ups downs : List (List ℕ)) → is_one_line new ≡ true → AreLinePaths ups → AreLinePaths downs → AreGood (AnswerAt source new ups downs) IsLineAnswer
good_answer source new ups downs line lines back_lines =
    good_then (ReleasesAt source new ups downs) _ AreLineReleases IsLineAnswer (good_releases source new ups downs line lines back_lines)
    (λ all of. good_outcome IsLineAnswer (Ok (translation_lines (translation all.new all.ups all.downs))) (translation all.new all.ups all.downs, line_translation all of, refl))
