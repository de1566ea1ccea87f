-- What a worker has done with the jobs that it took.
use Rattle.std.specs.Prelude.{◌≡◌, ◌⊎◌, ℕ, List, [], ◌∷◌, ◌++◌, map}
use mathlib.Core.List.{IsPrefix}
use Rattle.proc_history.specs.Events.{HistoryEntry, own}
use Rattle.proc_history.specs.Histories.{replay, IsLegal}
use Rattle.proc_history.specs.Outcomes.{outcome_in}
use Rattle.proc_table.specs.declared.view.View.{View}
use Rattle.proc_table.specs.declared.pid.Pid.{Pid}
use Rattle.proc_table.specs.declared.pass.Tried.{Tried}
use Rattle.proc_table.specs.declared.pass.Tried.TheVariants as tried
use Rattle.proc_table.specs.Calls.{Elsewhere, tried_of}
use Rattle.proc_table.specs.Together.{answered}
use Rattle.proc_table.specs.Views.{seen, mine}
use Rattle.proc_table.specs.Waits.{AnswersAtLast}
use Rattle.proc_workers.specs.declared.note.Answer.{Answer}
use Rattle.proc_workers.specs.declared.note.Job.{Job}
use Rattle.proc_workers.specs.declared.note.Note.{Note}
use Rattle.proc_workers.specs.declared.ends.Inbox.{Inbox}
use Rattle.proc_workers.specs.declared.worker.Ended.{Ended}
use Rattle.proc_workers.specs.Ends.{read_by, taken}
use Rattle.proc_workers.specs.Processes.{IsProcess}
use Rattle.proc_workers.specs.Notes.{jobs_in, kept, EndsBy}

abbrev pub job_of : Answer → Job
job_of a = record { number = a.number; pid = a.pid; input = a.input }

-- the calls of a pass that gave these answers, in order
abbrev pub calls_of : ℕ → List Answer → List HistoryEntry
calls_of n [] = []
calls_of n (a ∷ more) = answered n a.input a.tried ++ calls_of n more

-- What a worker of this process answers by this history. To a job that names the process: what a call after the history
-- answers, so Down where no process of that round is up. To any other job: Down.
abbrev pub AnswersBy : Pid → List HistoryEntry → Answer → Type 0
AnswersBy pid h a = (IsProcess pid a.pid × (a.tried ≡ tried_of (outcome_in pid.round a.input (replay h)))) ⊎ ((¬ IsProcess pid a.pid) × (a.tried ≡ tried.Down))

-- From the history h to g these answers were given one after another. Each goes by a history `now`, and the entry of its call
-- stands right after that. What the next one goes by begins with both, and g begins with all.
abbrev pub AnswersInTurn : Pid → ℕ → List HistoryEntry → List Answer → List HistoryEntry → Type 0
AnswersInTurn pid number h [] g = IsPrefix h g
AnswersInTurn pid number h (a ∷ more) g =
    (now : List HistoryEntry) × IsPrefix h now × AnswersBy pid now a × AnswersInTurn pid number (now ++ answered number a.input a.tried) more g

-- the job was answered, by a call of the process that it names or by Down
abbrev pub HasAnswer : Pid → View → Job → Tried → View → Type 0
HasAnswer pid v job t w = (IsProcess pid job.pid × AnswersAtLast pid.slot pid.round job.input v t w) ⊎ ((¬ IsProcess pid job.pid) × (t ≡ tried.Down) × (w ≡ v))

-- From the view v to w these answers were given one after another. Each that names the process is that of a call of its own,
-- which took the slot.
abbrev pub AnswersEach : Pid → View → List Answer → View → Type 0
AnswersEach pid v [] w = w ≡ v
AnswersEach pid v (a ∷ more) w = (u : View) × HasAnswer pid v (job_of a) a.tried u × AnswersEach pid u more w

-- The worker of this process has given these answers in turn, from the history that its pass had seen to the one that it has
-- seen now, and each by a call of its own. Each but Down is a call of its pass, and it made no other. Where the pass's own entries
-- in what it had seen were its `mine`, they still are, so each call stands in the history once. Where that was legal, it still is.
-- Other slots are as before.
pub record HasAnswered (pid : Pid) (v : View) (answers : List Answer) (w : View) : Type 0 where
  pub each : AnswersEach pid v answers w
  pub in_turn : AnswersInTurn pid v.number (seen v pid.slot) answers (seen w pid.slot)
  pub mine_is : mine w pid.slot ≡ mine v pid.slot ++ calls_of v.number answers
  pub once : own v.number (seen v pid.slot) ≡ mine v pid.slot → own v.number (seen w pid.slot) ≡ mine w pid.slot
  pub legal : IsLegal (seen v pid.slot) → IsLegal (seen w pid.slot)
  pub elsewhere : Elsewhere pid.slot v w

-- The jobs that it took are those of its answers, and then those that are left: the ones since a Suspend that no Resume
-- followed.
pub record HasDone (notes : List Note) (answers : List Answer) (left : List Job) : Type 0 where
  pub jobs : jobs_in notes ≡ map job_of answers ++ left
  pub left_is : left ≡ kept notes

-- What the worker took from its inbox, what it has done of that, and why it ended.
pub record HasEnded (inbox : Inbox) (e : Ended) : Type 0 where
  pub notes : List Note
  pub mailbox : read_by e.inbox ≡ read_by inbox
  pub taken_is : taken e.inbox ≡ taken inbox ++ notes
  pub done : HasDone notes e.answers.items e.left.items
  pub ends : EndsBy e.cause notes
