-- A text determines the events of the answers that stand whole in it, wherever its session broke off.
use Rattle.std.proofs.Common.{◌≡◌, ◌≢◌, inl, inr, ℕ, List, [], ◌∷◌, ◌++◌, refl, sym, ap, ◌∙◌, subst, append-nil, append_assoc}
use Rattle.node_answer.specs.Refusals.{refusal_line}
use Rattle.node_answer.specs.Refusals.NodeRefusal.{device}
use Rattle.rel_unpack.specs.Source.{Source, GivesOne}
use Rattle.session_input.specs.Commands.{Command}
use Rattle.session_input.specs.Feed.{Feed}
use Rattle.session_input.specs.Feed.Feed.{over, cut, next}
use Rattle.rel_session.specs.Files.{Files, files_behind, source_of}
use Rattle.rel_session.specs.Node.{DiskState, Reply}
use Rattle.rel_session.specs.Run.{IsTextOf, AreReplies, Ending, answers_of, events_of}
use Rattle.rel_session.specs.Run.Ending.{ended, cut_off, unread, unwritten, out_of_memory, going_on}
use Rattle.rel_session.specs.Transition.{Action, NodeReplies, ComesToOrLacks, Transition}
use Rattle.rel_session.specs.Transition.Action.{answers, makes_node, changes_node, installs, reboots_node, boots_node, reports_start, calls}
use Rattle.session_laws.specs.AnswerLaws.{AreSame, HaveLinePaths, HasLinePath, HasModuleVersionsAt, HasVersionsAt, IsOneOrNone, RestartAlike, Shows, ShowsOneRun, EachTextShows, have_restart}
use Rattle.session_laws.proofs.AcknowledgedEvents.{none_left}
use Rattle.session_laws.proofs.ActionLemmas.{kind_of}
use Rattle.session_laws.proofs.AnswerEvents.{Effect, one_effect}
use Rattle.session_laws.proofs.AnswerLines as lines
use Rattle.session_laws.proofs.AnswerLines.{IsWhole, Mode}
use Rattle.session_laws.proofs.InstallLines.{InstallLines, append_left}
use Rattle.session_laws.proofs.InstallLines.InstallLines.{one_line, two_lines, doubt_line}
use Rattle.session_laws.proofs.OneRun.{one_answer}
use Rattle.session_laws.proofs.ProcessVersions.{keeps_versions_of_modules}
use Rattle.session_laws.proofs.SourceLemmas.{gives_one}
use Rattle.session_laws.proofs.Versions.{LinesOf, each_good}

-- each of these replies is one to its command
abbrev AreTransitions : Source → Files → DiskState → List Reply → Feed Command → Type 0
AreTransitions base files p [] commands = Unit {0}
AreTransitions base files p (a ∷ more) (next c rest) = Transition (source_of base files) p c a × AreTransitions base (files_behind files c) a.after more rest
AreTransitions base files p (a ∷ more) commands = ⊥

all_right : (base : Source) (files : Files) (p : DiskState) (commands : Feed Command) (ending : Ending) (replies : List Reply) → AreReplies base files p commands ending replies → AreTransitions base files p replies commands
all_right base files p commands ending [] right = tt
all_right base files p over ending (a ∷ more) right = absurd (none_left base files p over ending a more (inl refl) right)
all_right base files p cut ending (a ∷ more) right = absurd (none_left base files p cut ending a more (inr refl) right)
all_right base files p (next c rest) ending (a ∷ more) right = (right.0, all_right base (files_behind files c) a.after rest ending more right.1)

first_right : (base : Source) (files : Files) (p : DiskState) (commands : Feed Command) (ending : Ending) (first : List Reply) (last : Reply) → AreReplies base files p commands ending (first ++ last ∷ []) → AreTransitions base files p first commands
first_right base files p commands ending [] last right = tt
first_right base files p over ending (a ∷ first) last right = absurd (none_left base files p over ending a (first ++ last ∷ []) (inl refl) right)
first_right base files p cut ending (a ∷ first) last right = absurd (none_left base files p cut ending a (first ++ last ∷ []) (inr refl) right)
first_right base files p (next c rest) ending (a ∷ first) last right = (right.0, first_right base (files_behind files c) a.after rest ending first last right.1)

answers-append : (first more : List Reply) → answers_of (first ++ more) ≡ answers_of first ++ answers_of more
answers-append [] more = refl
answers-append (a ∷ first) more = ap (λ t. a.answer ++ t) (answers-append first more) ∙ sym (append_assoc a.answer (answers_of first) (answers_of more))

-- what a text shows of the replies of a session that wrote it
record IsShown (base : Source) (files : Files) (p : DiskState) (commands : Feed Command) (text : List ℕ) (replies : List Reply) : Type 0 where
  shows : Shows text replies
  right : AreTransitions base files p shows.whole commands

abbrev shows_all : (text : List ℕ) (replies : List Reply) → text ≡ answers_of replies → Shows text replies
shows_all text replies is = record {
  whole = replies;
  broken = [];
  are = sym (append-nil replies);
  one = tt;
  part = [];
  left = [];
  written = is ∙ sym (append-nil (answers_of replies));
  answer = refl;
  not_whole = λ none. refl;
}

abbrev shows_but_last : (text : List ℕ) (replies first : List Reply) (last : Reply) (part left : List ℕ) → replies ≡ first ++ last ∷ [] → last.answer ≡ part ++ left → text ≡ answers_of first ++ part → (left ≡ [] → part ≡ []) → Shows text replies
shows_but_last text replies first last part left are answer is broke = record {
  whole = first;
  broken = last ∷ [];
  are = are;
  one = refl;
  part = part;
  left = left;
  written = is;
  answer = append-nil last.answer ∙ answer;
  not_whole = broke;
}

is_shown : (base : Source) (files : Files) (p : DiskState) (commands : Feed Command) (ending : Ending) (text : List ℕ) (replies : List Reply) → AreReplies base files p commands ending replies → IsTextOf ending replies text
    → IsShown base files p commands text replies
is_shown base files p commands ended text replies right is = record { shows = shows_all text replies is; right = all_right base files p commands ended replies right }
is_shown base files p commands cut_off text replies right is = record { shows = shows_all text replies is; right = all_right base files p commands cut_off replies right }
is_shown base files p commands unread text replies right is = record { shows = shows_all text replies is; right = all_right base files p commands unread replies right }
is_shown base files p commands going_on text replies right is = record { shows = shows_all text replies is; right = all_right base files p commands going_on replies right }
is_shown base files p commands unwritten text replies right (first, last, part, [], are, parts, is) =
    let all : text ≡ answers_of replies =
    is ∙ ap (λ t. answers_of first ++ t) (sym (append-nil part) ∙ parts ∙ sym (append-nil last.answer)) ∙ sym (answers-append first (last ∷ [])) ∙ ap answers_of (sym are) in
    record { shows = shows_all text replies all; right = all_right base files p commands unwritten replies right }
is_shown base files p commands unwritten text replies right (first, last, part, x ∷ left, are, parts, is) = record {
  shows = shows_but_last text replies first last part (x ∷ left) are (sym parts) is (λ none. absurd cc);
  right = first_right base files p commands unwritten first last (subst (AreReplies base files p commands unwritten) are right);
}
is_shown base files p commands out_of_memory text replies right (inl is) = record { shows = shows_all text replies is; right = all_right base files p commands out_of_memory replies right }
is_shown base files p commands out_of_memory text replies right (inr (first, last, are, is)) = record {
  shows = shows_but_last text replies first last [] last.answer are refl (is ∙ sym (append-nil (answers_of first))) (λ none. refl);
  right = first_right base files p commands out_of_memory first last (subst (AreReplies base files p commands out_of_memory) are right);
}

-- no answer is empty
front_of_none : (x y : List ℕ) → [] ≡ x ++ y → x ≡ []
front_of_none [] y is = refl
front_of_none (b ∷ x) y is = absurd cc

back_of_none : (x y : List ℕ) → [] ≡ x ++ y → y ≡ []
back_of_none [] y is = sym is
back_of_none (b ∷ x) y is = absurd cc

whole_not_empty : (s : List ℕ) → IsWhole s → s ≢ []
whole_not_empty s whole none =
    let lost : lines.cut Mode.start ([] ++ 0 ∷ []) ≡ [] = subst (λ t. lines.cut Mode.start (t ++ 0 ∷ []) ≡ t) none (whole (0 ∷ [])) in
    absurd cc

device_not_empty : refusal_line device ≢ []
device_not_empty none = absurd cc

installed_not_empty : (a : Reply) → InstallLines a → a.answer ≢ []
installed_not_empty a (one_line whole single) none = whole_not_empty a.answer whole none
installed_not_empty a (two_lines first second whole rest ok is restarts) none = whole_not_empty first whole (front_of_none first second (sym none ∙ is))
installed_not_empty a (doubt_line is restarts) none = device_not_empty (sym is ∙ none)

not_empty : (does : Action) (a : Reply) → LinesOf does a → a.answer ≢ []
not_empty (installs vsn) a of none = installed_not_empty a of none
not_empty (answers text) a of none = whole_not_empty a.answer of none
not_empty (makes_node found) a of none = whole_not_empty a.answer of none
not_empty (changes_node c) a of none = whole_not_empty a.answer of none
not_empty (reboots_node vsn) a of none = whole_not_empty a.answer of none
not_empty boots_node a of none = whole_not_empty a.answer of none
not_empty reports_start a of none = whole_not_empty a.answer of none
not_empty (calls c) a of none = whole_not_empty a.answer of none

-- what is left of an answer of which this part stands in a text
record IsCut (broken : List Reply) (part : List ℕ) : Type 0 where
  left : List ℕ
  one : IsOneOrNone broken
  answer : answers_of broken ≡ part ++ left
  not_whole : left ≡ [] → part ≡ []

-- the first of these installed with a restart where this one did
abbrev RestartsAs : List Reply → Reply → Type 0
RestartsAs [] s = Unit {0}
RestartsAs (r ∷ more) s = have_restart (events_of r.outcome) ≡ have_restart (events_of s.outcome)

as_first : (broken : List Reply) (s : Reply) (more : List Reply) → RestartAlike broken (s ∷ more) → RestartsAs broken s
as_first [] s more alike = tt
as_first (r ∷ broken) s more alike = alike.0

as_second : (broken : List Reply) (s : Reply) (more : List Reply) → RestartAlike (s ∷ more) broken → RestartsAs broken s
as_second [] s more alike = tt
as_second (r ∷ broken) s more alike = sym alike.0

-- Where the whole answer to a command stands in a text, no run that wrote the text broke off within that command.
module _ (base : Source) (single : GivesOne base) (files : Files) (p q : DiskState) (kinds : kind_of p ≡ kind_of q) (all : HasVersionsAt p) (reports : HasModuleVersionsAt p) (c : Command) (line : HasLinePath c) where
  never_broken : (rest : Feed Command) (ending : Ending) (broken : List Reply) (part : List ℕ) (s : Reply) (tail : List ℕ) (again : Action) → AreReplies base files p (next c rest) ending broken → IsCut broken part
      → ComesToOrLacks (source_of base files) q c again → NodeReplies q again s → LinesOf again s → RestartsAs broken s → part ≡ s.answer ++ tail → ⊥
  never_broken rest ending [] part s tail again right broke comes acts_there of alike is =
      let none : [] ≡ s.answer ++ (tail ++ broke.left) = broke.answer ∙ ap (λ t. t ++ broke.left) is ∙ append_assoc s.answer tail broke.left in
      not_empty again s of (front_of_none s.answer (tail ++ broke.left) none)
  never_broken rest ending (r ∷ more) part s tail again right broke comes acts_there of alike is =
      by_transition right.0
    where
      joined : r.answer ++ [] ≡ s.answer ++ (tail ++ broke.left)
      joined = ap (λ (l : List Reply). r.answer ++ answers_of l) (sym broke.one) ∙ broke.answer ∙ ap (λ t. t ++ broke.left) is ∙ append_assoc s.answer tail broke.left

      by_transition : Transition (source_of base files) p c r → ⊥
      by_transition (does, comes_here, acts) =
          let good = each_good (source_of base files) p c does line all reports comes_here r acts in
          let same = one_answer (source_of base files) (gives_one base files single) p q c does again r s kinds comes_here comes acts acts_there good.0 of alike [] (tail ++ broke.left) joined in
          let none = append_left s.answer [] (tail ++ broke.left) (ap (λ t. t ++ []) (sym same) ∙ joined) in
          not_empty again s of (front_of_none s.answer tail (sym (broke.not_whole (back_of_none tail broke.left none)) ∙ is))

-- Two runs from places of one kind show the same whole answers, with the same events.
same_shown : (base : Source) → GivesOne base → (files : Files) (p q : DiskState) (commands : Feed Command) (a b : Ending) (first broken second torn : List Reply) (part rest : List ℕ) → kind_of p ≡ kind_of q → HasVersionsAt p → HasVersionsAt q
    → HasModuleVersionsAt p → HasModuleVersionsAt q → HaveLinePaths commands → RestartAlike (first ++ broken) (second ++ torn) → AreReplies base files p commands a (first ++ broken) → AreReplies base files q commands b (second ++ torn)
    → AreTransitions base files p first commands → AreTransitions base files q second commands → IsCut broken part → IsCut torn rest → answers_of first ++ part ≡ answers_of second ++ rest → AreSame first second
same_shown base single files p q commands a b [] broken [] torn part rest kinds all all_too reports reports_too paths restarts right right_too are are_too broke broke_too same = tt
same_shown base single files p q over a b [] broken (s ∷ second) torn part rest kinds all all_too reports reports_too paths restarts right right_too are are_too broke broke_too same = absurd are_too
same_shown base single files p q cut a b [] broken (s ∷ second) torn part rest kinds all all_too reports reports_too paths restarts right right_too are are_too broke broke_too same = absurd are_too
same_shown base single files p q (next c later) a b [] broken (s ∷ second) torn part rest kinds all all_too reports reports_too paths restarts right right_too are are_too broke broke_too same =
    let (again, comes, acts) = are_too.0 in
    let good = each_good (source_of base files) q c again paths.0 all_too reports_too comes s acts in
    absurd (never_broken base single files p q kinds all reports c paths.0 later a broken part s (answers_of second ++ rest) again right broke comes acts good.0 (as_first broken s (second ++ torn) restarts)
    (same ∙ append_assoc s.answer (answers_of second) rest))
same_shown base single files p q over a b (r ∷ first) broken [] torn part rest kinds all all_too reports reports_too paths restarts right right_too are are_too broke broke_too same = absurd are
same_shown base single files p q cut a b (r ∷ first) broken [] torn part rest kinds all all_too reports reports_too paths restarts right right_too are are_too broke broke_too same = absurd are
same_shown base single files p q (next c later) a b (r ∷ first) broken [] torn part rest kinds all all_too reports reports_too paths restarts right right_too are are_too broke broke_too same =
    let (does, comes, acts) = are.0 in
    let good = each_good (source_of base files) p c does paths.0 all reports comes r acts in
    absurd (never_broken base single files q p (sym kinds) all_too reports_too c paths.0 later b torn rest r (answers_of first ++ part) does right_too broke_too comes acts good.0 (as_second torn r (first ++ broken) restarts)
    (sym same ∙ append_assoc r.answer (answers_of first) part))
same_shown base single files p q over a b (r ∷ first) broken (s ∷ second) torn part rest kinds all all_too reports reports_too paths restarts right right_too are are_too broke broke_too same = absurd are
same_shown base single files p q cut a b (r ∷ first) broken (s ∷ second) torn part rest kinds all all_too reports reports_too paths restarts right right_too are are_too broke broke_too same = absurd are
same_shown base single files p q (next c later) a b (r ∷ first) broken (s ∷ second) torn part rest kinds all all_too reports reports_too paths restarts right right_too are are_too broke broke_too same =
    let source = source_of base files in
    let (does, comes, acts) = are.0 in
    let (again, comes_too, acts_too) = are_too.0 in
    let (of, versions) = each_good source p c does paths.0 all reports comes r acts in
    let (of_too, versions_too) = each_good source q c again paths.0 all_too reports_too comes_too s acts_too in
    let joined : r.answer ++ (answers_of first ++ part) ≡ s.answer ++ (answers_of second ++ rest) = sym (append_assoc r.answer (answers_of first) part) ∙ same ∙ append_assoc s.answer (answers_of second) rest in
    let answer = one_answer source (gives_one base files single) p q c does again r s kinds comes comes_too acts acts_too of of_too restarts.0 (answers_of first ++ part) (answers_of second ++ rest) joined in
    let effect = one_effect source (gives_one base files single) p q c r s kinds restarts.0 answer are.0 are_too.0 in
    let left = append_left s.answer (answers_of first ++ part) (answers_of second ++ rest) (ap (λ t. t ++ (answers_of first ++ part)) (sym answer) ∙ joined) in (
      answer,
      ap (λ (e : Effect). e.outcome) effect,
      same_shown base single (files_behind files c) r.after s.after later a b first broken second torn part rest (ap (λ (e : Effect). e.kind) effect) versions versions_too (keeps_versions_of_modules source p c r all reports are.0)
          (keeps_versions_of_modules source q c s all_too reports_too are_too.0) paths.1 restarts.1 right.1 right_too.1 are.1 are_too.1 broke broke_too left,
    )

cut_of : (text : List ℕ) (replies : List Reply) (shows : Shows text replies) → IsCut shows.broken shows.part
cut_of text replies shows = record { left = shows.left; one = shows.one; answer = shows.answer; not_whole = shows.not_whole }

pub each_text_shows : (base : Source) → EachTextShows base
each_text_shows base files p commands ending replies text right written =
    let of = is_shown base files p commands ending text replies right written in
    of.shows

pub shows_one_run : (base : Source) → ShowsOneRun base
shows_one_run base single files p commands a b first second text all reports paths restarts right right_too written written_too =
    let one = is_shown base files p commands a text first right written in
    let two = is_shown base files p commands b text second right_too written_too in (
      one.shows,
      two.shows,
      same_shown base single files p p commands a b one.shows.whole one.shows.broken two.shows.whole two.shows.broken one.shows.part two.shows.part refl all all reports reports paths
          (subst (λ (l : List Reply). RestartAlike l (two.shows.whole ++ two.shows.broken)) one.shows.are (subst (RestartAlike first) two.shows.are restarts))
          (subst (AreReplies base files p commands a) one.shows.are right) (subst (AreReplies base files p commands b) two.shows.are right_too) one.right two.right
          (cut_of text first one.shows) (cut_of text second two.shows) (sym one.shows.written ∙ two.shows.written),
    )
