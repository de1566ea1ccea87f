-- The reply to the request of a relup, which leaves the node as it is.
use Rattle.std.proofs.Common.{◌≡◌, ◌≢◌, inl, ℕ, List, Result, Ok, Err, refl, sym, subst}
use Rattle.std.specs.Prelude.{String, string_bytes}
use Rattle.std.specs.declared.alloc.Global.{Global}
use Rattle.rel_session.specs.declared.unanswered.Unanswered.{Unanswered}
use Rattle.rel_session.specs.declared.unanswered.Unanswered.TheVariants as unanswered
use Rattle.node_command.specs.Files.{reported_files}
use Rattle.rel_unpack.specs.Order as files
use Rattle.rel_unpack.specs.Refusal.{refusal_of as files_refusal}
use Rattle.rel_unpack.specs.Source.{Source}
use Rattle.rel_unpack.specs.declared.error.UnpackError.{UnpackError}
use Rattle.rel_unpack.specs.declared.error.UnpackError.TheVariants.{MissingFile, BadFile, VsnMismatch, LibDiffers, NoTable, TooMany, NoMemory}
use Rattle.relup_command.specs.Answer.{AnswerAt}
use Rattle.session_input.specs.Commands.Command.{relup}
use Rattle.rel_session.specs.declared.place.Place.{Place as PlaceInMemory}
use Rattle.rel_session.specs.Device.{Device}
use Rattle.rel_session.specs.InMemory.{IsAt, Replied, Answers, ReportsRelup}
use Rattle.rel_session.specs.Node.{DiskState, Reply, no_outcome, reply}
use Rattle.node_answer.specs.Refusals.{refusal_for, refusal_line, refusal_of}
use Rattle.rel_session.specs.Transition.{Transition, relup_memory_line, relup_telling}
use Rattle.rel_session.proofs.DeviceLemmas.{IsDevice}
use Rattle.rel_session.proofs.ReleaseLemmas.{lacks_memory}
use Rattle.rel_session.proofs.Replies.{changes_no_memory, stays}

module _ {D : Type 0} (v : Device D) (laws : IsDevice v) (place : PlaceInMemory D) (source : Source) (new : List ℕ) (ups downs : List (List ℕ)) where
  abbrev RepliesTo : DiskState → Reply → Type 0
  RepliesTo p a = Transition source p (relup new ups downs) a

  answered : (text : String Global) → AnswerAt source new ups downs (Ok (string_bytes text)) → Answers v RepliesTo (Ok text) place place
  answered text there = λ p at.
      stays v laws p (string_bytes text) (λ a. RepliesTo p a × (a.answer ≡ string_bytes text)) place place at refl at
      ((relup_telling (Ok (string_bytes text)), inl (Ok (string_bytes text), there, refl), refl), refl)

  -- a file isn't taken
  refused_for : (why : UnpackError) → AnswerAt source new ups downs (Err (files_refusal why)) → (p : DiskState) → IsAt v place p
      → Replied v p (λ a. RepliesTo p a × (a.answer ≡ refusal_line (refusal_for (files_refusal why)))) place place
  refused_for why there p at =
      let answer = refusal_line (refusal_for (files_refusal why)) in
      stays v laws p answer (λ a. RepliesTo p a × (a.answer ≡ answer)) place place at refl at
      ((relup_telling (Err (files_refusal why)), inl (Err (files_refusal why), there, refl), refl), refl)

  -- There was no memory for the relup.
  lacking : (r : Result (String Global) Unanswered) → ReportsRelup (Err NoMemory) r → Answers v RepliesTo r place place
  lacking (Ok text) is = λ p at.
      stays v laws p (string_bytes text) (λ a. RepliesTo p a × (a.answer ≡ string_bytes text)) place place at refl at
      (subst (λ t. RepliesTo p (reply t no_outcome p)) (sym is) (lacks_memory source p (relup new ups downs) relup_memory_line refl), refl)
  lacking (Err why) is = subst (λ w. Answers v RepliesTo (Err w) place place) (sym is) (changes_no_memory v laws RepliesTo place)

  reported_so : (r : Result (String Global) Unanswered) (why : UnpackError) → r ≡ Err (unanswered.Refused (reported_files why))
      → ((p : DiskState) → IsAt v place p → Replied v p (λ a. RepliesTo p a × (a.answer ≡ refusal_line (refusal_of (reported_files why)))) place place) → Answers v RepliesTo r place place
  reported_so r why is there = subst (λ q. Answers v RepliesTo q place place) (sym is) there

  refused : (why : UnpackError) → (why ≢ NoMemory → AnswerAt source new ups downs (Err (files_refusal why))) → (r : Result (String Global) Unanswered) → ReportsRelup (Err why) r → Answers v RepliesTo r place place
  refused NoMemory there r is = lacking r is
  refused (MissingFile path) there r is = reported_so r (MissingFile path) is (refused_for (MissingFile path) (there (λ e. cc e)))
  refused (BadFile path trouble) there r is = reported_so r (BadFile path trouble) is (refused_for (BadFile path trouble) (there (λ e. cc e)))
  refused (VsnMismatch path) there r is = reported_so r (VsnMismatch path) is (refused_for (VsnMismatch path) (there (λ e. cc e)))
  refused (LibDiffers app) there r is = reported_so r (LibDiffers app) is (refused_for (LibDiffers app) (there (λ e. cc e)))
  refused (NoTable app) there r is = reported_so r (NoTable app) is (refused_for (NoTable app) (there (λ e. cc e)))
  refused TooMany there r is = reported_so r TooMany is (refused_for TooMany (there (λ e. cc e)))

  pub answers_relup : (made : Result (String Global) UnpackError) (r : Result (String Global) Unanswered) → ReportsRelup made r
      → files.Answers string_bytes (AnswerAt source new ups downs) made → Answers v RepliesTo r place place
  answers_relup (Ok text) r is there = subst (λ q. Answers v RepliesTo q place place) (sym is) (answered text there)
  answers_relup (Err why) r is there = refused why there r is
