-- The lines that an installation answers: two where it ends with a restart, and else one.
use Rattle.std.proofs.Common.{◌≡◌, ℕ, Bool, true, false, List, [], ◌∷◌, ◌++◌, Option, None, Some, refl, sym, ap, ◌∙◌, append_assoc}
use Rattle.std.specs.Prelude.{◌==◌}
use Rattle.rel_list.specs.Event.{Event}
use Rattle.rel_list.specs.Event.Event.{restart_installed}
use Rattle.node_store.specs.Events.{Events, with_doubt}
use Rattle.session_laws.specs.AnswerLaws.{have_restart}
use Rattle.rel_session.specs.Node.{Reply}
use Rattle.node_answer.specs.Refusals.{refusal_line}
use Rattle.node_answer.specs.Refusals.NodeRefusal.{device}
use Rattle.rel_session.specs.Run.{events_of}
use Rattle.session_laws.proofs.AnswerLines.{IsWhole, one_front}
use Rattle.rel_session.proofs.Contradiction.{never}

-- the line reports that something was done
abbrev pub reports_ok : List ℕ → Bool
reports_ok [] = false
reports_ok (x ∷ s) = x == 111

-- What is answered, whether the installation ends with a restart or not: where such a one is in doubt, the line of a failure.
pub data InstallLines (a : Reply) : Type 0 where
  one_line : IsWhole a.answer → have_restart (events_of a.outcome) ≡ false → InstallLines a
  two_lines : (first second : List ℕ) → IsWhole first → IsWhole second → ((behind : List ℕ) → reports_ok (first ++ behind) ≡ true) → a.answer ≡ first ++ second
      → have_restart (events_of a.outcome) ≡ true → InstallLines a
  doubt_line : a.answer ≡ refusal_line device → have_restart (events_of a.outcome) ≡ true → InstallLines a

-- the restart is the first of its events
pub restart_first : (vsn : List ℕ) (events : Events) (doubt : Option Event) → have_restart (with_doubt (restart_installed vsn ∷ events) doubt) ≡ true
restart_first vsn events None = refl
restart_first vsn events (Some e) = refl

pub append_left : (s x y : List ℕ) → s ++ x ≡ s ++ y → x ≡ y
append_left [] x y is = is
append_left (b ∷ s) x y is = append_left s x y (let same : s ++ x ≡ s ++ y = cc in same)

-- A line that reports that something was done isn't that of a failure.
pub done_or_failed : {A : Type 0} (first behind x : List ℕ) → ((more : List ℕ) → reports_ok (first ++ more) ≡ true) → first ++ behind ≡ refusal_line device ++ x → A
done_or_failed first behind x ok is = let lost : false ≡ true = sym (ap reports_ok is) ∙ ok behind in never lost

-- the answer in front of a text, where the first line is this
in_front : (answer first second x : List ℕ) → answer ≡ first ++ second → first ++ (second ++ x) ≡ answer ++ x
in_front answer first second x is = sym (append_assoc first second x) ∙ ap (λ t. t ++ x) (sym is)

-- Two installations with a restart, or two without, answer the same in front of the same text.
pub same_front : (a b : Reply) → InstallLines a → InstallLines b → have_restart (events_of a.outcome) ≡ have_restart (events_of b.outcome) → (x y : List ℕ) → a.answer ++ x ≡ b.answer ++ y → a.answer ≡ b.answer
same_front a b (one_line whole none) (one_line whole_too none_too) alike x y is = one_front a.answer b.answer whole whole_too x y is
same_front a b (two_lines first second whole rest ok reported one) (two_lines other more whole_too rest_too ok_too reported_too one_too) alike x y is =
    let all : first ++ (second ++ x) ≡ other ++ (more ++ y) = in_front a.answer first second x reported ∙ is ∙ sym (in_front b.answer other more y reported_too) in
    let firsts = one_front first other whole whole_too (second ++ x) (more ++ y) all in
    let seconds = one_front second more rest rest_too x y (append_left other (second ++ x) (more ++ y) (ap (λ t. t ++ (second ++ x)) (sym firsts) ∙ all)) in
    reported ∙ (λ k. firsts k ++ seconds k) ∙ sym reported_too
same_front a b (doubt_line reported one) (doubt_line reported_too one_too) alike x y is = reported ∙ sym reported_too
same_front a b (two_lines first second whole rest ok reported one) (doubt_line reported_too one_too) alike x y is =
    done_or_failed first (second ++ x) y ok (in_front a.answer first second x reported ∙ is ∙ ap (λ t. t ++ y) reported_too)
same_front a b (doubt_line reported one) (two_lines other more whole_too rest_too ok_too reported_too one_too) alike x y is =
    done_or_failed other (more ++ y) x ok_too (in_front b.answer other more y reported_too ∙ sym is ∙ ap (λ t. t ++ x) reported)
same_front a b (one_line whole none) (two_lines other more whole_too rest_too ok_too reported_too one_too) alike x y is = never (sym none ∙ alike ∙ one_too)
same_front a b (one_line whole none) (doubt_line reported_too one_too) alike x y is = never (sym none ∙ alike ∙ one_too)
same_front a b (two_lines first second whole rest ok reported one) (one_line whole_too none_too) alike x y is = never (sym none_too ∙ sym alike ∙ one)
same_front a b (doubt_line reported one) (one_line whole_too none_too) alike x y is = never (sym none_too ∙ sym alike ∙ one)
