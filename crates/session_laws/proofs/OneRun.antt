-- A text determines one run.
use Rattle.std.proofs.Common.{◌≡◌, ◌⊎◌, inl, inr, ℕ, List, [], ◌∷◌, ◌++◌, refl, sym, ap, ◌∙◌, subst}
use Rattle.session_input.specs.Commands.{Command}
use Rattle.session_input.specs.Feed.{Feed}
use Rattle.session_input.specs.Feed.Feed.{over, cut, next}
use Rattle.rel_unpack.specs.Source.{Source, GivesOne}
use Rattle.rel_session.specs.Files.{Files, files_behind, source_of}
use Rattle.rel_session.specs.Node.{DiskState, Reply}
use Rattle.rel_session.specs.Run.{EndsInFull, AreReplies, Ending, answers_of, events_of}
use Rattle.session_laws.specs.AnswerLaws.{HaveLinePaths, HasVersionsAt, HasModuleVersionsAt, AreSame, RestartAlike, DeterminesOneRun, have_restart}
use Rattle.rel_session.specs.Transition.{Action, NodeReplies, ComesToOrLacks}
use Rattle.rel_session.specs.Transition.Action.{answers, makes_node, changes_node, installs, reboots_node, boots_node, reports_start, calls}
use Rattle.session_laws.proofs.AcknowledgedEvents.{next_answered, none_left}
use Rattle.session_laws.proofs.OneAnswer.{ends, one_end, never_goes_on}
use Rattle.session_laws.proofs.SourceLemmas.{gives_one}
use Rattle.session_laws.proofs.ActionLemmas.{AreReported, kind_of, one_action, runs_node}
use Rattle.session_laws.proofs.AnswerEvents.{Effect, one_effect}
use Rattle.session_laws.proofs.ProcessVersions.{keeps_versions_of_modules}
use Rattle.session_laws.proofs.InstallLines.{append_left, same_front}
use Rattle.session_laws.proofs.Versions.{LinesOf, each_good, lines_of_idle}
use Rattle.session_laws.proofs.AnswerLines.{one_front}

-- Two replies to one action answer the same in front of the same text.
same_answer : (does : Action) (r s : Reply) → LinesOf does r → LinesOf does s → have_restart (events_of r.outcome) ≡ have_restart (events_of s.outcome) → (x y : List ℕ) → r.answer ++ x ≡ s.answer ++ y → r.answer ≡ s.answer
same_answer (installs vsn) r s of of_too alike x y same = same_front r s of of_too alike x y same
same_answer (answers text) r s of of_too alike x y same = one_front r.answer s.answer of of_too x y same
same_answer (makes_node found) r s of of_too alike x y same = one_front r.answer s.answer of of_too x y same
same_answer (changes_node c) r s of of_too alike x y same = one_front r.answer s.answer of of_too x y same
same_answer (reboots_node vsn) r s of of_too alike x y same = one_front r.answer s.answer of of_too x y same
same_answer boots_node r s of of_too alike x y same = one_front r.answer s.answer of of_too x y same
same_answer reports_start r s of of_too alike x y same = one_front r.answer s.answer of of_too x y same
same_answer (calls c) r s of of_too alike x y same = one_front r.answer s.answer of of_too x y same

-- Two replies to one command, from places of one kind, answer the same in front of the same text.
pub one_answer : (source : Source) → GivesOne source → (p q : DiskState) (c : Command) (does again : Action) (r s : Reply) → kind_of p ≡ kind_of q → ComesToOrLacks source p c does → ComesToOrLacks source q c again → NodeReplies p does r → NodeReplies q again s → LinesOf does r → LinesOf again s
    → have_restart (events_of r.outcome) ≡ have_restart (events_of s.outcome) → (x y : List ℕ) → r.answer ++ x ≡ s.answer ++ y → r.answer ≡ s.answer
one_answer source single p q c does again r s kinds (inl comes) (inl comes_too) acts acts_too of of_too alike x y same = go (one_action source single p q c does again (ap runs_node kinds) comes comes_too)
  where
    go : (does ≡ again) ⊎ AreReported p q does again → r.answer ≡ s.answer
    go (inl one) = same_answer again r s (subst (λ d. LinesOf d r) one of) of_too alike x y same
    go (inr (says, here, here_too)) = one_front r.answer s.answer (subst (λ d. LinesOf d r) here of) (subst (λ d. LinesOf d s) here_too of_too) x y same
one_answer source single p q c does again r s kinds (inr (line, told, answered)) comes_too acts acts_too of of_too alike x y same =
    let idle = ap (λ (t : Reply). t.outcome) (subst (λ d. NodeReplies p d r) answered acts) in
    same_answer again r s (lines_of_idle again r (subst (λ d. LinesOf d r) answered of) idle) of_too alike x y same
one_answer source single p q c does again r s kinds (inl comes) (inr (line, told, answered)) acts acts_too of of_too alike x y same =
    let idle = ap (λ (t : Reply). t.outcome) (subst (λ d. NodeReplies q d s) answered acts_too) in
    same_answer does r s of (lines_of_idle does s (subst (λ d. LinesOf d s) answered of_too) idle) alike x y same

one_run : (base : Source) → GivesOne base → (files : Files) (p q : DiskState) (commands : Feed Command) (a b : Ending) (first second : List Reply) → kind_of p ≡ kind_of q → HasVersionsAt p → HasVersionsAt q → HasModuleVersionsAt p → HasModuleVersionsAt q → HaveLinePaths commands
    → EndsInFull a → EndsInFull b → RestartAlike first second → AreReplies base files p commands a first → AreReplies base files q commands b second → answers_of first ≡ answers_of second → (a ≡ b) × AreSame first second
one_run base single files p q commands a b [] [] kinds all all_too reports reports_too lines not_a not_b restarts right right_too same = (one_end commands a b (ends base files p commands a not_a right) (ends base files q commands b not_b right_too), tt)
one_run base single files p q commands a b [] (s ∷ second) kinds all all_too reports reports_too lines not_a not_b restarts right right_too same = absurd (never_goes_on base files q commands a b s second not_b (ends base files p commands a not_a right) right_too)
one_run base single files p q commands a b (r ∷ first) [] kinds all all_too reports reports_too lines not_a not_b restarts right right_too same = absurd (never_goes_on base files p commands b a r first not_a (ends base files q commands b not_b right_too) right)
one_run base single files p q over a b (r ∷ first) (s ∷ second) kinds all all_too reports reports_too lines not_a not_b restarts right right_too same = absurd (none_left base files p over a r first (inl refl) right)
one_run base single files p q cut a b (r ∷ first) (s ∷ second) kinds all all_too reports reports_too lines not_a not_b restarts right right_too same = absurd (none_left base files p cut a r first (inr refl) right)
one_run base single files p q (next c rest) a b (r ∷ first) (s ∷ second) kinds all all_too reports reports_too lines not_a not_b restarts right right_too same =
    let (line, others) = lines in
    let (is, behind) = next_answered base files p c rest a r first not_a right in
    let (also, behind_too) = next_answered base files q c rest b s second not_b right_too in
    let (alike, restarts_too) = restarts in
    let (does, comes, acts) = is in
    let (again, comes_too, acts_too) = also in
    let (of, versions) = each_good (source_of base files) p c does line all reports comes r acts in
    let (of_too, versions_too) = each_good (source_of base files) q c again line all_too reports_too comes_too s acts_too in
    let answer = one_answer (source_of base files) (gives_one base files single) p q c does again r s kinds comes comes_too acts acts_too of of_too alike (answers_of first) (answers_of second) same in
    let effect = one_effect (source_of base files) (gives_one base files single) p q c r s kinds alike answer is also in
    let left = append_left s.answer (answers_of first) (answers_of second) (ap (λ t. t ++ answers_of first) (sym answer) ∙ same) in
    let (end, rest_same) = one_run base single (files_behind files c) r.after s.after rest a b first second (ap (λ (e : Effect). e.kind) effect) versions versions_too
    (keeps_versions_of_modules (source_of base files) p c r all reports is) (keeps_versions_of_modules (source_of base files) q c s all_too reports_too also) others not_a not_b restarts_too behind behind_too left in
    (end, (answer, ap (λ (e : Effect). e.outcome) effect, rest_same))

pub reports_one_run : (base : Source) → DeterminesOneRun base
reports_one_run base single files p commands a b first second all reports lines = one_run base single files p p commands a b first second refl all all reports reports lines
