-- What commands come to: each to one action, and to one at least, whose texts are whole lines.
use Rattle.std.proofs.Common.{◌≡◌, ◌⊎◌, inl, inr, ℕ, Bool, true, false, cond, List, [], ◌∷◌, Option, None, Some, Result, Ok, Err, refl, sym, ap, ◌∙◌, subst}
use Rattle.std.specs.Prelude.{if◌then◌else◌, ◌||◌, is_some}
use Rattle.std.specs.List.{AllByRecursion}
use Rattle.std.specs.Option.{option_map, option_or}
use Rattle.erl_term.specs.Lines.{is_one_line}
use Rattle.rel_files.specs.File.{HasVersions}
use Rattle.library.specs.Library.{Library}
use Rattle.node_command.specs.Files.{Brings, bundle_brought}
use Rattle.node_command.specs.Place.{difference, files_refusal, has_room, own_refusal, refusal_with}
use Rattle.node_command.specs.Taking.{commanded}
use Rattle.node_command.proofs.CommandLemmas.{commanded_step}
use Rattle.rel_list.proofs.OwnRules.{own_of_step}
use Rattle.rel_records.proofs.CompletionLemmas.{of_applications}
use Rattle.node_listing.specs.Listing.{listing}
use Rattle.node_processes.specs.Answers.{processes_line, modules_line, peek_line}
use Rattle.node_processes.specs.ModuleVersions.{HaveModuleVersions}
use Rattle.node_processes.specs.Processes.{Processes}
use Rattle.rel_unpack.proofs.BroughtLibraries.{brought_libraries}
use Rattle.node_command.proofs.ReleaseLemmas.{free_so, reported_library}
use Rattle.rel_list.specs.Releases.{Releases, differs, first_different, status_of}
use Rattle.rel_list.specs.Event.{Event}
use Rattle.rel_list.specs.Event.Event.{made, unpacked}
use Rattle.session_laws.specs.AnswerLaws.{HasLinePath, HasModuleVersionsAt, IsCompact, IsFromFiles, LeavesCompactStore}
use Rattle.session_input.specs.Commands.{Command}
use Rattle.session_input.specs.Commands.Command.{file, create, set_unpacked, check, install, permanent, remove, reboot_old, boot, start, releases, procs, modules, peek, call, flood, relup, quit, bad}
use Rattle.rel_unpack.proofs.LineBrought.{IsLineBrought, good_brought}
use Rattle.rel_unpack.proofs.LineOutcomes.{ReportsLine, OrNone, IsGood, version_line}
use Rattle.rel_unpack.proofs.OneOutcome.{one_brought}
use Rattle.rel_unpack.proofs.SomeOutcome.{some_brought}
use Rattle.rel_unpack.specs.Unpacking.{Brought}
use Rattle.rel_unpack.specs.Refusal.{Refusal}
use Rattle.rel_unpack.specs.Refusal.Refusal.{missing_file, bad_file, vsn_mismatch, lib_differs, no_table, too_many, no_memory}
use Rattle.rel_unpack.specs.Source.{Source, GivesOne, GivesEach}
use Rattle.relup_command.proofs.RelupLines.{IsLineAnswer, good_answer}
use Rattle.relup_command.proofs.RelupOutcomes.{one_answer, some_answer}
use Rattle.rel_session.specs.Node.{DiskState, releases_after}
use Rattle.rel_session.specs.Node.DiskState.{unknown_bytes, not_booted, running, dead}
use Rattle.node_answer.specs.Refusals.{refusal_for}
use Rattle.node_answer.specs.Lines.{check_line}
use Rattle.rel_session.specs.Transition.{Action, MeansAction, OnNode, answer_of_node, creation, unpack_action, relup_telling}
use Rattle.rel_session.specs.Transition.Action.{answers, makes_node, changes_node, installs, reboots_node, boots_node, reports_start, calls}
use Rattle.session_laws.proofs.ProcessLines.{processes_whole, modules_whole, peek_whole}
use Rattle.session_laws.proofs.AnswerLines.{HasLine, IsWhole, check_whole, refusal_whole, listing_whole, translation_whole}

-- the kind of a place
pub data Kind : Type 0 where
  of_bytes : Kind
  at_rest : Kind
  runs : Kind
  fails : Kind

abbrev pub kind_of : DiskState → Kind
kind_of (unknown_bytes x) = of_bytes
kind_of (not_booted s) = at_rest
kind_of (running events extent ps) = runs
kind_of (dead s) = fails

-- a node runs at a place of this kind
abbrev pub runs_node : Kind → Bool
runs_node runs = true
runs_node kind = false

on_node : (P : Action → Type 0) (x y : Action) (p q : DiskState) → runs_node (kind_of p) ≡ runs_node (kind_of q) → (P x → P y → x ≡ y) → OnNode p P x → OnNode q P y → x ≡ y
on_node P x y (running events extent ps) (running others stop qs) kinds one is also = one is also
on_node P x y (running events extent ps) q kinds one is also = absurd cc
on_node P x y p (running others stop qs) kinds one is also = absurd cc
on_node P x y p q kinds one is also = is ∙ sym also

-- what a node is asked is answered by its releases and its processes
abbrev pub AreReported : DiskState → DiskState → Action → Action → Type 0
AreReported p q x y = (says : Releases → Processes → List ℕ) × (x ≡ answers (answer_of_node says p)) × (y ≡ answers (answer_of_node says q))

-- Where a node runs at both places or at neither, a command comes to one action, but where it asks the node.
pub one_action : (source : Source) → GivesOne source → (p q : DiskState) (c : Command) (x y : Action) → runs_node (kind_of p) ≡ runs_node (kind_of q) → MeansAction source p c x → MeansAction source q c y
    → (x ≡ y) ⊎ AreReported p q x y
one_action source one p q (file path f) x y kinds is also = inl (is ∙ sym also)
one_action source one p q (create path) x y kinds (found, there, is) (again, there_too, also) = inl (is ∙ ap creation (one_brought source one path found again there there_too) ∙ sym also)
one_action source one p q (set_unpacked path) x y kinds is also =
    inl (on_node _ x y p q kinds (λ here here_too. here.2 ∙ ap unpack_action (one_brought source one path here.0 here_too.0 here.1 here_too.1) ∙ sym here_too.2) is also)
one_action source one p q (check vsn) x y kinds is also = inr ((λ list ps. check_line vsn list), is, also)
one_action source one p q (install vsn) x y kinds is also = inl (is ∙ sym also)
one_action source one p q (permanent vsn) x y kinds is also = inl (is ∙ sym also)
one_action source one p q (remove vsn) x y kinds is also = inl (is ∙ sym also)
one_action source one p q (reboot_old vsn) x y kinds is also = inl (is ∙ sym also)
one_action source one p q boot x y kinds is also = inl (is ∙ sym also)
one_action source one p q start x y kinds is also = inl (is ∙ sym also)
one_action source one p q releases x y kinds is also = inr ((λ list ps. listing list), is, also)
one_action source one p q procs x y kinds is also = inr ((λ list ps. processes_line ps), is, also)
one_action source one p q modules x y kinds is also = inr ((λ list ps. modules_line ps), is, also)
one_action source one p q (peek app id) x y kinds is also = inr ((λ list ps. peek_line app id ps), is, also)
one_action source one p q (call app id input) x y kinds is also = inl (is ∙ sym also)
one_action source one p q (flood app id input times) x y kinds is also = inl (is ∙ sym also)
one_action source one p q (relup new ups downs) x y kinds (found, there, is) (again, there_too, also) =
    inl (is ∙ ap relup_telling (one_answer source one new ups downs found again there there_too) ∙ sym also)
one_action source one p q quit x y kinds is also = absurd is
one_action source one p q bad x y kinds is also = inl (is ∙ sym also)

-- A change of a node has a record, and no restart.
abbrev pub HasRecordOf : Action → Type 0
HasRecordOf (changes_node c) = (p : DiskState) → LeavesCompactStore (c.event ∷ []) p → IsCompact p
HasRecordOf does = Unit {0}

record_as : (x y : Action) → x ≡ y → HasRecordOf y → HasRecordOf x
record_as x y is has = subst HasRecordOf (sym is) has

record_of_creation : (brought : Result Brought Refusal) → HasRecordOf (creation brought)
record_of_creation (Err why) = tt
record_of_creation (Ok b) = tt

record_of_unpacking : (brought : Result Brought Refusal) → HasRecordOf (unpack_action brought)
record_of_unpacking (Err why) = tt
record_of_unpacking (Ok b) = λ p small. small tt

record_of_telling : (found : Result (List ℕ) Refusal) → HasRecordOf (relup_telling found)
record_of_telling (Err why) = tt
record_of_telling (Ok text) = tt

pub has_record : (source : Source) (p : DiskState) (c : Command) (does : Action) → MeansAction source p c does → HasRecordOf does
has_record source p (create path) does (found, there, is) = record_as does _ is (record_of_creation found)
has_record source (running events extent ps) (set_unpacked path) does (found, there, is) = record_as does _ is (record_of_unpacking found)
has_record source (unknown_bytes x) (set_unpacked path) does is = record_as does _ is tt
has_record source (not_booted s) (set_unpacked path) does is = record_as does _ is tt
has_record source (dead s) (set_unpacked path) does is = record_as does _ is tt
has_record source p (relup new ups downs) does (found, there, is) = record_as does _ is (record_of_telling found)
has_record source p (file path f) does is = record_as does _ is tt
has_record source p (check vsn) does is = record_as does _ is tt
has_record source p (install vsn) does is = record_as does _ is tt
has_record source p (permanent vsn) does is = record_as does _ is (λ q small. small tt)
has_record source p (remove vsn) does is = record_as does _ is (λ q small. small tt)
has_record source p (reboot_old vsn) does is = record_as does _ is tt
has_record source p boot does is = record_as does _ is tt
has_record source p start does is = record_as does _ is tt
has_record source p releases does is = record_as does _ is tt
has_record source p procs does is = record_as does _ is tt
has_record source p modules does is = record_as does _ is tt
has_record source p (peek app id) does is = record_as does _ is tt
has_record source p (call app id input) does is = record_as does _ is tt
has_record source p (flood app id input times) does is = record_as does _ is tt
has_record source p bad does is = record_as does _ is tt
has_record source p quit does is = absurd is

-- Each command but `quit` comes to an action.
pub some_action : (source : Source) → GivesEach source → (p : DiskState) (c : Command) → (c ≡ quit) ⊎ ((does : Action) × MeansAction source p c does)
some_action source each p (file path f) = inr (_, refl)
some_action source each p (create path) = let (brought, there) = some_brought source each path in inr (creation brought, (brought, there, refl))
some_action source each (running events extent ps) (set_unpacked path) = let (brought, there) = some_brought source each path in inr (unpack_action brought, (brought, there, refl))
some_action source each (unknown_bytes x) (set_unpacked path) = inr (_, refl)
some_action source each (not_booted s) (set_unpacked path) = inr (_, refl)
some_action source each (dead s) (set_unpacked path) = inr (_, refl)
some_action source each p (check vsn) = inr (_, refl)
some_action source each p (install vsn) = inr (_, refl)
some_action source each p (permanent vsn) = inr (_, refl)
some_action source each p (remove vsn) = inr (_, refl)
some_action source each p (reboot_old vsn) = inr (_, refl)
some_action source each p boot = inr (_, refl)
some_action source each p start = inr (_, refl)
some_action source each p releases = inr (_, refl)
some_action source each p procs = inr (_, refl)
some_action source each p modules = inr (_, refl)
some_action source each p (peek app id) = inr (_, refl)
some_action source each p (call app id input) = inr (_, refl)
some_action source each p (flood app id input times) = inr (_, refl)
some_action source each p (relup new ups downs) = let (found, there) = some_answer source each new ups downs in inr (relup_telling found, (found, there, refl))
some_action source each p quit = inl refl
some_action source each p bad = inr (_, refl)

-- the release that an event brings is of files
abbrev pub OfEvent : Event → Type 0
OfEvent (made p) = IsFromFiles p
OfEvent (unpacked p) = IsFromFiles p
OfEvent e = Unit {0}

-- what is reported of files, where they are refused, is within a line
abbrev pub ReportsFilesLine : Option Refusal → Type 0
ReportsFilesLine None = Unit {0}
ReportsFilesLine (Some why) = HasLine (refusal_for why)

-- An action's text ends where its last line does, and the release that it brings to a list is of files.
abbrev pub IsGoodAction : Action → Type 0
IsGoodAction (answers text) = IsWhole text
IsGoodAction (makes_node b) = (own_refusal b ≡ None → IsFromFiles (bundle_brought b)) × ReportsFilesLine (own_refusal b)
IsGoodAction (changes_node c) =
    ((list next : Releases) → c.files list ≡ None → commanded c.event list ≡ Ok next → OfEvent c.event) × ((list : Releases) → ReportsFilesLine (c.files list)) × ((list : Releases) → is_one_line (c.details list) ≡ true)
IsGoodAction (installs vsn) = Unit {0}
IsGoodAction (reboots_node vsn) = Unit {0}
IsGoodAction boots_node = Unit {0}
IsGoodAction reports_start = Unit {0}
IsGoodAction (calls c) = Unit {0}

good_as : (x y : Action) → x ≡ y → IsGoodAction y → IsGoodAction x
good_as x y is good = subst IsGoodAction (sym is) good

-- What is reported of files is within a line.
reported_line : (why : Refusal) → ReportsLine why → HasLine (refusal_for why)
reported_line (missing_file path) line = line
reported_line (bad_file path trouble) line = line
reported_line (vsn_mismatch path) line = line
reported_line (lib_differs name) line = line
reported_line (no_table name) line = line
reported_line too_many line = tt
reported_line no_memory line = tt

files_line : (o : Option Refusal) → OrNone ReportsLine o → ReportsFilesLine o
files_line None good = tt
files_line (Some why) good = reported_line why good

-- The name of the library is within a line.
abbrev IsLineName : Library → Type 0
IsLineName l = is_one_line l.app.name ≡ true

-- the name of a library that differs, or what is reported after it
difference_line : (es : Releases) (ls : List Library) (o : Option Refusal) → AllByRecursion IsLineName ls → OrNone ReportsLine o → ReportsFilesLine (option_or (difference ls es) o)
difference_line es [] o names good = files_line o good
difference_line es (l ∷ ls) o names good = go (differs es l) (difference_line es ls o names.1 good)
  where
    go : (b : Bool) → ReportsFilesLine (option_or (difference ls es) o) → ReportsFilesLine (option_or (option_map reported_library (cond b (Some l) (first_different es ls))) o)
    go true rest = names.0
    go false rest = rest

-- what is brought without a refusal is of files
of_files : (source : Source) (path : List ℕ) (b : Brought) → Brings source path (Ok b) → HasVersions b.found.release → b.refusal ≡ None → IsFromFiles (bundle_brought b)
of_files source path b brings versions free = (versions, of_applications b.found.release.apps b.libraries (brought_libraries source path b brings free).0)

-- A list that takes a release in has no refusal for its files.
not_barred : (p q : Bool) (next end : Releases) → (if p || q then None else Some next) ≡ Some end → p ≡ false
not_barred true q next end is = absurd cc
not_barred false q next end is = refl

unrefused : (listed : Bool) (d o : Option Refusal) → listed ≡ false → (if listed then None else option_or d o) ≡ None → o ≡ None
unrefused true d o is none = absurd cc
unrefused false None o is none = none
unrefused false (Some why) o is none = absurd cc

taken_in : (b : Brought) (list next : Releases) → files_refusal b list ≡ None → commanded (unpacked (bundle_brought b)) list ≡ Ok next → b.refusal ≡ None
taken_in b list next free allowed =
    let listed = is_some (status_of b.found.release.vsn list) in
    let new = not_barred listed (is_some (first_different list b.libraries)) _ next (own_of_step (unpacked (bundle_brought b)) list next (commanded_step (unpacked (bundle_brought b)) list next allowed)).1 in
    free_so (has_room list) b (unrefused listed (difference b.libraries list) (refusal_with (has_room list) b) new free)

-- what is reported of its files is within a line, whether there is room for it or not
refusal_line_with : (room : Bool) (b : Brought) → IsLineBrought b → OrNone ReportsLine (refusal_with room b)
refusal_line_with room b good = either b.refusal good.refusal
  where
    behind : (room : Bool) → OrNone ReportsLine (if room then b.relup_refusal else Some too_many)
    behind true = good.relup_refusal
    behind false = tt

    either : (o : Option Refusal) → OrNone ReportsLine o → OrNone ReportsLine (option_or o (if room then b.relup_refusal else Some too_many))
    either None reported = behind room
    either (Some why) reported = reported

good_creation : (source : Source) (path : List ℕ) (brought : Result Brought Refusal) → Brings source path brought → IsGood IsLineBrought brought → IsGoodAction (creation brought)
good_creation source path (Err why) brings good = refusal_whole (refusal_for why) (reported_line why good)
good_creation source path (Ok b) brings good = (
  λ free. of_files source path b brings good.found.versions (free_so true b free),
  files_line (own_refusal b) (refusal_line_with true b good),
)

good_unpacking : (source : Source) (path : List ℕ) (brought : Result Brought Refusal) → Brings source path brought → IsGood IsLineBrought brought → IsGoodAction (unpack_action brought)
good_unpacking source path (Err why) brings good = refusal_whole (refusal_for why) (reported_line why good)
good_unpacking source path (Ok b) brings good = (
  λ list next free allowed. of_files source path b brings good.found.versions (taken_in b list next free allowed),
  λ list. unlisted list (is_some (status_of b.found.release.vsn list)),
  λ list. version_line b.found.release.vsn good.found.versions.own,
)
  where
    unlisted : (list : Releases) (listed : Bool) → ReportsFilesLine (if listed then None else option_or (difference b.libraries list) (refusal_with (has_room list) b))
    unlisted list true = tt
    unlisted list false = difference_line list b.libraries (refusal_with (has_room list) b) good.libraries (refusal_line_with (has_room list) b good)

good_telling : (found : Result (List ℕ) Refusal) → IsGood IsLineAnswer found → IsGoodAction (relup_telling found)
good_telling (Err why) good = refusal_whole (refusal_for why) (reported_line why good)
good_telling (Ok text) (t, line, is) = subst IsWhole (sym is) (translation_whole t line)

-- what a node is asked is answered whole, where it is on a node that runs
whole_reported : (says : Releases → Processes → List ℕ) (p : DiskState) → HasModuleVersionsAt p → ((list : Releases) (ps : Processes) → HaveModuleVersions ps → IsWhole (says list ps)) → IsWhole (answer_of_node says p)
whole_reported says (unknown_bytes x) lines whole behind = refl
whole_reported says (not_booted s) lines whole behind = refl
whole_reported says (running events extent ps) lines whole behind = whole (releases_after events) ps lines behind
whole_reported says (dead s) lines whole behind = refl

pub good_action : (source : Source) (p : DiskState) (c : Command) (does : Action) → HasLinePath c → HasModuleVersionsAt p → MeansAction source p c does → IsGoodAction does
good_action source p (file path f) does line reports is = good_as does _ is (λ behind. refl)
good_action source p (create path) does line reports (found, there, is) = good_as does _ is (good_creation source path found there (good_brought source path line found there))
good_action source (running events extent ps) (set_unpacked path) does line reports (found, there, is) = good_as does _ is (good_unpacking source path found there (good_brought source path line found there))
good_action source (unknown_bytes x) (set_unpacked path) does line reports is = good_as does _ is (λ behind. refl)
good_action source (not_booted s) (set_unpacked path) does line reports is = good_as does _ is (λ behind. refl)
good_action source (dead s) (set_unpacked path) does line reports is = good_as does _ is (λ behind. refl)
good_action source p (check vsn) does line reports is = good_as does _ is (whole_reported _ p reports (λ list ps lines. check_whole vsn list))
good_action source p (install vsn) does line reports is = good_as does _ is tt
good_action source p (permanent vsn) does line reports is = good_as does _ is ((λ list next free allowed. tt), (λ list. tt), λ list. refl)
good_action source p (remove vsn) does line reports is = good_as does _ is ((λ list next free allowed. tt), (λ list. tt), λ list. refl)
good_action source p (reboot_old vsn) does line reports is = good_as does _ is tt
good_action source p boot does line reports is = good_as does _ is tt
good_action source p start does line reports is = good_as does _ is tt
good_action source p releases does line reports is = good_as does _ is (whole_reported _ p reports (λ list ps lines. listing_whole list))
good_action source p procs does line reports is = good_as does _ is (whole_reported _ p reports (λ list ps lines. processes_whole ps))
good_action source p modules does line reports is = good_as does _ is (whole_reported _ p reports (λ list ps lines. modules_whole ps))
good_action source p (peek app id) does line reports is = good_as does _ is (whole_reported _ p reports (λ list ps lines. peek_whole app id ps lines))
good_action source p (call app id input) does line reports is = good_as does _ is tt
good_action source p (flood app id input times) does line reports is = good_as does _ is tt
good_action source p (relup new ups downs) does lines reports (found, there, is) = good_as does _ is (good_telling found (good_answer source new ups downs lines.0 lines.1 lines.2 found there))
good_action source p quit does line reports is = absurd is
good_action source p bad does line reports is = good_as does _ is (λ behind. refl)
