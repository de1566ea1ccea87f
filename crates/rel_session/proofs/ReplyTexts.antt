-- What a command answers, and what its answer is in a session.
use Rattle.std.proofs.Common.{◌≡◌, inl, inr, ⊎_elim, ℕ, List, Option, Some, None, Result, Ok, Err, refl, sym, ◌∙◌, subst}
use Rattle.std.specs.Prelude.{IfOk, OnOk, MatchResult, String, string_bytes, codes}
use Rattle.std.specs.declared.alloc.Global.{Global}
use Rattle.std.specs.declared.alloc.AllocError.{AllocError}
use Rattle.session_input.specs.declared.error.SessionError.{SessionError}
use Rattle.rel_session.specs.declared.given_files.GivenFiles.{GivenFiles}
use Rattle.rel_session.specs.declared.node.SessionNode.{SessionNode}
use Rattle.rel_session.specs.declared.place.Place.{Place as PlaceInMemory}
use Rattle.rel_session.specs.declared.unanswered.Unanswered.{Unanswered}
use Rattle.rel_session.specs.declared.unanswered.Unanswered.TheVariants as unanswered
use Rattle.session_input.specs.Commands.{Command, File, command_of}
use Rattle.session_input.specs.Commands.Command.{file}
use Rattle.session_input.specs.declared.command.Command.{Command as CommandInMemory}
use Rattle.session_input.specs.declared.command.Command.TheVariants as asked
use Rattle.node_processes.specs.Processes.{Processes}
use Rattle.rel_session.specs.Device.{Device}
use Rattle.rel_unpack.specs.Source.{Source}
use Rattle.rel_session.specs.Files.{Files, files_of, files_behind, give, source_of}
use Rattle.rel_session.specs.InMemory.{ActsOrLacks, IsAt, Replied, Leads, Answers, AnswersAsked, AnswersReported, AnswersAction, AnswersCommand, AsksNode, FollowsCommand, IsLine, IsText}
use Rattle.node_store.specs.Events.{Events}
use Rattle.node_store.specs.Image.{Extent}
use Rattle.rel_session.specs.Node.{DiskState, Reply, reply, no_outcome}
use Rattle.rel_session.specs.Node.DiskState.{unknown_bytes, not_booted, running, dead}
use Rattle.rel_list.specs.Releases.{Releases}
use Rattle.rel_session.specs.Transition.{Action, MeansAction, NodeReplies, processes_answer, memory_line, memory_report_at, answer_of_node, Transition}
use Rattle.rel_session.specs.Transition.Action.{answers}
use Rattle.rel_session.proofs.DeviceLemmas.{IsDevice}
use Rattle.rel_session.proofs.ReleaseLemmas.{lacks_memory}
use Rattle.rel_session.proofs.Replies.{stays, leaves_all, changes_no_memory}

module _ {D : Type 0} (v : Device D) where
  module _ (old new : PlaceInMemory D) where
    -- a reply of which this holds too
    replied_so : (p : DiskState) (P Q : Reply → Type 0) → ((a : Reply) → P a → Q a) → Replied v p P old new → Replied v p Q old new
    replied_so p P Q implies r = record { given = r.given; right = implies r.given r.right; at = r.at; happens = r.happens }

    leads_so : (p : DiskState) (P Q : Reply → Type 0) → ((a : Reply) → P a → Q a) → Replied v p P old new → Leads v p Q old new
    leads_so p P Q implies r = record { given = r.given; right = implies r.given r.right; happens = r.happens }

    -- What was answered by these replies was answered by those.
    answers_so : (P Q : DiskState → Reply → Type 0) → ((p : DiskState) (a : Reply) → P p a → Q p a) → (r : Result (String Global) Unanswered) → Answers v P r old new → Answers v Q r old new
    answers_so P Q right (Ok text) given = λ p at. replied_so p _ _ (λ a is. (right p a is.0, is.1)) (given p at)
    answers_so P Q right (Err (unanswered.Refused why)) given = λ p at. replied_so p _ _ (λ a is. (right p a is.0, is.1)) (given p at)
    answers_so P Q right (Err unanswered.NoMemory) given = λ p at.
        ⊎_elim (λ (l : Leads v p (P p) old new). inl (record { given = l.given; right = right p l.given l.right; happens = l.happens })) (λ lapsed. inr lapsed) (given p at)

    -- What is answered to a command is answered to one that equals it.
    module _ (source : Source) (command c : Command) (r : Result (String Global) Unanswered) (is : command ≡ c) where
      pub answers_command : Answers v (λ p a. Transition source p c a) r old new → Answers v (λ p a. Transition source p command a) r old new
      answers_command given = subst (λ d. Answers v (λ p a. Transition source p d a) r old new) (sym is) given

      -- so it is answered by what it asks of the processes
      pub reports_node : (says : Releases → Processes → List ℕ) → ((p : DiskState) → MeansAction source p c (answers (answer_of_node says p))) → AnswersReported v says r old new → Answers v (λ p a. Transition source p command a) r old new
      reports_node says comes given = answers_command (answers_so _ _ (λ p a acts. (answers (answer_of_node says p), inl (comes p), acts)) r given)

      pub asks_node : (says : Processes → List ℕ) → ((p : DiskState) → MeansAction source p c (answers (processes_answer says p))) → AnswersAsked v says r old new → Answers v (λ p a. Transition source p command a) r old new
      asks_node says = reports_node (λ list ps. says ps)

      module _ (does : Action) (comes : (p : DiskState) → MeansAction source p c does) where
        pub answers_acts : Answers v (λ p a. NodeReplies p does a) r old new → Answers v (λ p a. Transition source p command a) r old new
        answers_acts given = answers_command (answers_so _ _ (λ p a acts. (does, inl (comes p), acts)) r given)

        -- memory may be refused to its call
        pub answers_action : ((events : Events) (extent : Extent) (ps : Processes) → memory_report_at (running events extent ps) c ≡ Some memory_line) → AnswersAction v does r old new → Answers v (λ p a. Transition source p command a) r old new
        answers_action reports given = answers_command (answers_so _ _ by_place r given)
          where
            by_place : (p : DiskState) (a : Reply) → ActsOrLacks does p a → Transition source p c a
            by_place (unknown_bytes bytes) a acts = (does, inl (comes (unknown_bytes bytes)), acts)
            by_place (not_booted s) a acts = (does, inl (comes (not_booted s)), acts)
            by_place (running events extent ps) a (inl acts) = (does, inl (comes (running events extent ps)), acts)
            by_place (running events extent ps) a (inr lacks) =
                subst (Transition source (running events extent ps) c) (sym lacks) (lacks_memory source (running events extent ps) c memory_line (reports events extent ps))
            by_place (dead s) a acts = (does, inl (comes (dead s)), acts)

  module _ (laws : IsDevice v) where
    -- A command left the place as it was, and gave a line.
    pub answers_still : (place : PlaceInMemory D) (answer : DiskState → List ℕ) (Q : DiskState → Reply → Type 0) → ((p : DiskState) → Q p (reply (answer p) no_outcome p)) → (line : Result (String Global) AllocError) (r : Result (String Global) Unanswered)
        → MatchResult line (λ text. r ≡ Ok text) (λ _. r ≡ Err unanswered.NoMemory) → IfOk line (λ s. (p : DiskState) → IsAt v place p → string_bytes s ≡ answer p) → Answers v Q r place place
    answers_still place answer Q right (Ok s) r is says =
        subst (λ q. Answers v Q q place place) (sym is) (λ p at. stays v laws p (answer p) (λ a. Q p a × (a.answer ≡ string_bytes s)) place place at refl at (right p, sym (says p at)))
    answers_still place answer Q right (Err e) r is says = subst (λ q. Answers v Q q place place) (sym is) (changes_no_memory v laws Q place)

    -- A file was given.
    pub gives : (base : Source) (old : SessionNode D) (files : GivenFiles) (path : List ℕ) (f : File) (text : Result (Option (String Global)) SessionError)
        → OnOk text (files_of files ≡ give (files_of old.files) path f) → IfOk text (λ t. IsText t (codes "ok\n")) → FollowsCommand v base (file path f) text old (record { place = old.place; files = files })
    gives base old files path f (Ok None) kept reported = absurd reported
    gives base old files path f (Ok (Some s)) kept reported = (
      kept,
      λ p at.
          stays v laws p (codes "ok\n") (λ a. Transition (source_of base (files_of old.files)) p (file path f) a × (a.answer ≡ string_bytes s)) old.place old.place at refl at
          ((answers (codes "ok\n"), inl refl, refl), sym reported),
    )
    gives base old files path f (Err e) kept reported = λ p at. inr (leaves_all v laws p old.place old.place refl at)

    -- Memory was refused before a command was followed.
    pub not_followed : (base : Source) (command : Command) (e : SessionError) (old : SessionNode D) → FollowsCommand v base command (Err e) old old
    not_followed base command e old = λ p at. inr (leaves_all v laws p old.place old.place refl at)

  -- A command that is asked of the node changes no files.
  files_stay : (files : Files) (m : CommandInMemory) → AsksNode m → files ≡ files_behind files (command_of m)
  files_stay files (asked.File path f) other = absurd (other.0 path f refl)
  files_stay files (asked.Create path) other = refl
  files_stay files (asked.SetUnpacked path) other = refl
  files_stay files (asked.Check vsn) other = refl
  files_stay files (asked.Install vsn) other = refl
  files_stay files (asked.Permanent vsn) other = refl
  files_stay files (asked.Remove vsn) other = refl
  files_stay files (asked.RebootOld vsn) other = refl
  files_stay files asked.Boot other = refl
  files_stay files asked.Start other = refl
  files_stay files asked.Releases other = refl
  files_stay files asked.Procs other = refl
  files_stay files asked.Modules other = refl
  files_stay files (asked.Peek app id) other = refl
  files_stay files (asked.Call app id input) other = refl
  files_stay files (asked.Flood app id input times) other = refl
  files_stay files (asked.Relup new ups downs) other = refl
  files_stay files asked.Quit other = absurd (other.1 refl)
  files_stay files asked.Bad other = refl

  -- A command that is asked of the node is followed as it was answered.
  module _ (base : Source) (old : SessionNode D) (place : PlaceInMemory D) (m : CommandInMemory) (other : AsksNode m) where
    abbrev command : Command
    command = command_of m

    abbrev Does : DiskState → Reply → Type 0
    Does = λ p a. Transition (source_of base (files_of old.files)) p command a

    abbrev new : SessionNode D
    new = record { place = place; files = old.files }

    pub follows : (r : Result (String Global) Unanswered) (line : Result (Option (String Global)) SessionError) → IsLine r line
        → AnswersCommand v (source_of base (files_of old.files)) command r old.place place → FollowsCommand v base command line old new
    follows (Ok answer) (Ok None) is given = absurd is
    follows (Ok answer) (Ok (Some text)) is given = (files_stay (files_of old.files) m other, λ p at. replied_so old.place place p _ _ (λ a reported. (reported.0, reported.1 ∙ sym is)) (given p at))
    follows (Ok answer) (Err e) is given = absurd is
    follows (Err (unanswered.Refused why)) (Ok None) is given = absurd is
    follows (Err (unanswered.Refused why)) (Ok (Some text)) is given =
        (files_stay (files_of old.files) m other, λ p at. replied_so old.place place p _ _ (λ a reported. (reported.0, reported.1 ∙ sym is)) (given p at))
    follows (Err (unanswered.Refused why)) (Err e) is given = λ p at. inl (leads_so old.place place p _ _ (λ a is. is.0) (given p at))
    follows (Err unanswered.NoMemory) (Ok None) is given = absurd is
    follows (Err unanswered.NoMemory) (Ok (Some text)) is given = absurd is
    follows (Err unanswered.NoMemory) (Err e) is given = given
