-- The refusal of a release for its files.
use Rattle.std.proofs.Common.{◌≡◌, ◌≢◌, ◌⊎◌, inl, inr, ℕ, List, Err, Some, refl, sym, ap, ◌∙◌, subst}
use Rattle.node_store.specs.Image.{Extent}
use Rattle.node_store.specs.Events.{Events}
use Rattle.node_command.specs.Files.{Brings, IsOfFiles, reported_files}
use Rattle.node_command.specs.declared.error.HandlerError.{HandlerError}
use Rattle.node_command.specs.declared.error.HandlerError.TheVariants.{NoMemory}
use Rattle.node_command.specs.declared.error.HandlerError.TheVariants as handler_error
use Rattle.session_input.specs.Commands.{Command}
use Rattle.rel_unpack.specs.Refusal as of_files
use Rattle.rel_unpack.specs.Source.{Source}
use Rattle.rel_unpack.specs.declared.error.UnpackError.{UnpackError}
use Rattle.rel_unpack.specs.declared.error.UnpackError.TheVariants as unpack
use Rattle.session_input.specs.Commands.Command.{create, set_unpacked}
use Rattle.node_processes.specs.Processes.{Processes}
use Rattle.rel_session.specs.Node.{DiskState, no_outcome, refusal_reply, reply}
use Rattle.rel_session.specs.Node.DiskState.{running}
use Rattle.node_answer.specs.Refusals.{NodeRefusal, refusal_of, refusal_for}
use Rattle.rel_session.specs.Transition.{Transition, creation, memory_line, memory_report_at, unpack_action}
use Rattle.rel_session.specs.Transition.Action.{answers}

-- memory was refused, or it was something else
memory_or_not : (why : HandlerError) → (why ≡ NoMemory) ⊎ (why ≢ NoMemory)
memory_or_not handler_error.NoSuchRelease = inr (λ e. cc e)
memory_or_not handler_error.ExistingRelease = inr (λ e. cc e)
memory_or_not handler_error.AlreadyInstalled = inr (λ e. cc e)
memory_or_not (handler_error.BadStatus s) = inr (λ e. cc e)
memory_or_not handler_error.Permanent = inr (λ e. cc e)
memory_or_not handler_error.Running = inr (λ e. cc e)
memory_or_not (handler_error.BadFile q f) = inr (λ e. cc e)
memory_or_not (handler_error.MissingFile q) = inr (λ e. cc e)
memory_or_not (handler_error.VsnMismatch q) = inr (λ e. cc e)
memory_or_not (handler_error.LibDiffers q) = inr (λ e. cc e)
memory_or_not (handler_error.NoTable q) = inr (λ e. cc e)
memory_or_not handler_error.TooMany = inr (λ e. cc e)
memory_or_not handler_error.Device = inr (λ e. cc e)
memory_or_not handler_error.Full = inr (λ e. cc e)
memory_or_not handler_error.Dead = inr (λ e. cc e)
memory_or_not handler_error.NoMemory = inl refl
memory_or_not handler_error.NoMatchingRelup = inr (λ e. cc e)
memory_or_not handler_error.Exists = inr (λ e. cc e)

-- no release of this path is taken, for its file
abbrev pub IsFilesRefusal : Source → List ℕ → NodeRefusal → Type 0
IsFilesRefusal source path why = (r : of_files.Refusal) × Brings source path (Err r) × (why ≡ refusal_for r)

pub reported_alike : (e : UnpackError) → refusal_of (reported_files e) ≡ refusal_for (of_files.refusal_of e)
reported_alike (unpack.MissingFile path) = refl
reported_alike (unpack.BadFile path trouble) = refl
reported_alike (unpack.VsnMismatch path) = refl
reported_alike (unpack.LibDiffers app) = refl
reported_alike (unpack.NoTable app) = refl
reported_alike unpack.TooMany = refl
reported_alike unpack.NoMemory = refl

-- what the handler answers for the files of a path is the refusal for them
pub files_refuse : (source : Source) (path : List ℕ) (e : HandlerError) → IsOfFiles source path e → e ≢ NoMemory → IsFilesRefusal source path (refusal_of e)
files_refuse source path e of known =
    (of_files.refusal_of of.error, of.read (λ is. known (of.reported ∙ ap reported_files is)), ap refusal_of of.reported ∙ reported_alike of.error)

pub creation_refused : (source : Source) (path : List ℕ) (why : NodeRefusal) (p : DiskState) → IsFilesRefusal source path why → Transition source p (create path) (refusal_reply why p)
creation_refused source path why p (r, found, is) = (creation (Err r), inl (Err r, found, refl), ap (λ w. refusal_reply w p) is)

pub unpacking_refused : (source : Source) (path : List ℕ) (why : NodeRefusal) (events : Events) (extent : Extent) (ps : Processes) → IsFilesRefusal source path why → Transition source (running events extent ps) (set_unpacked path) (refusal_reply why (running events extent ps))
unpacking_refused source path why events extent ps (r, found, is) = (unpack_action (Err r), inl (Err r, found, refl), ap (λ w. refusal_reply w (running events extent ps)) is)

-- memory was refused to the call of a command, which reports it
pub lacks_memory : (source : Source) (p : DiskState) (c : Command) (line : List ℕ) → memory_report_at p c ≡ Some line → Transition source p c (reply line no_outcome p)
lacks_memory source p c line reports = (answers line, inr (line, reports, refl), refl)

-- A release is refused for its file, or memory was refused to it.
pub refused_or_lacks : (source : Source) (p : DiskState) (c : Command) (path : List ℕ) → memory_report_at p c ≡ Some memory_line → (why : HandlerError) → IsOfFiles source path why
    → (IsFilesRefusal source path (refusal_of why) → Transition source p c (refusal_reply (refusal_of why) p)) → Transition source p c (refusal_reply (refusal_of why) p)
refused_or_lacks source p c path reports why of right = go (memory_or_not why)
  where
    go : (why ≡ NoMemory) ⊎ (why ≢ NoMemory) → Transition source p c (refusal_reply (refusal_of why) p)
    go (inl memory) = subst (λ w. Transition source p c (refusal_reply (refusal_of w) p)) (sym memory) (lacks_memory source p c memory_line reports)
    go (inr known) = right (files_refuse source path why of known)
