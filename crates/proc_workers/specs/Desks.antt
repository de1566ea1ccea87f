-- What a worker has in hand between two notes.
use Rattle.std.specs.Prelude.{◌≡◌, ℕ, ◌+◌, ◌≤◌, false, List, [], ◌∷◌, ◌++◌, length, map, take, vec_capacity}
use Rattle.proc_table.specs.declared.view.View.{View}
use Rattle.proc_table.specs.declared.pid.Pid.{Pid}
use Rattle.proc_workers.specs.declared.desk.Desk.{Desk}
use Rattle.proc_workers.specs.declared.ends.Inbox.{Inbox}
use Rattle.proc_workers.specs.declared.note.Answer.{Answer}
use Rattle.proc_workers.specs.declared.note.Job.{Job}
use Rattle.proc_workers.specs.declared.note.Note.{Note}
use Rattle.proc_workers.specs.declared.worker.EndCause.{EndCause}
use Rattle.proc_workers.specs.declared.worker.Ended.{Ended}
use Rattle.proc_workers.specs.Notes.{stops, suspends}
use Rattle.proc_workers.specs.Work.{job_of, HasAnswer, HasAnswered, HasDone}

-- the worker took these notes, and goes on
pub record IsAt (pid : Pid) (v : View) (notes : List Note) (d : Desk) : Type 0 where
  pub answered : HasAnswered pid v d.answers.items d.pass.view
  pub done : HasDone notes d.answers.items d.kept.items
  pub suspended : d.suspended ≡ suspends notes
  pub running : stops notes ≡ false

-- from what was taken before a worker began, the notes that were taken since led here
abbrev pub IsReached : Pid → View → List Note → List Note → Desk → Type 0
IsReached pid v before now d = (notes : List Note) × (now ≡ before ++ notes) × IsAt pid v notes d

-- from where some notes led, this one led on
abbrev pub TakesNote : Pid → Note → Desk → Desk → Type 0
TakesNote pid n d e = (v : View) (notes : List Note) → IsAt pid v notes d → IsAt pid v (notes ++ n ∷ []) e

abbrev pub SameDesk : Desk → Desk → Type 0
SameDesk d e = (e.pass ≡ d.pass) × (e.answers.items ≡ d.answers.items) × (e.kept.items ≡ d.kept.items) × (e.suspended ≡ d.suspended)

-- there is room for so many jobs more, and for an answer to each job
abbrev pub HasRoomFor : ℕ → Desk → Type 0
HasRoomFor n d = (length d.kept.items + n ≤ vec_capacity d.kept) × (length d.answers.items + (length d.kept.items + n) ≤ vec_capacity d.answers)

-- the job is answered, after the others
abbrev pub AnswersJob : Pid → Job → Desk → Desk → Type 0
AnswersJob pid job d e = (a : Answer) × (e.answers.items ≡ d.answers.items ++ a ∷ []) × (job_of a ≡ job) × HasAnswer pid d.pass.view job a.tried e.pass.view

-- the jobs that are kept are the same, and so is the room for answers
abbrev pub KeepsJobs : Desk → Desk → Type 0
KeepsJobs d e = (e.kept ≡ d.kept) × (e.suspended ≡ d.suspended) × (vec_capacity e.answers ≡ vec_capacity d.answers)

-- what is handed back is what was in hand
abbrev pub HandsBack : Desk → Inbox → EndCause → Ended → Type 0
HandsBack d inbox cause e = (e.pass ≡ d.pass) × (e.inbox ≡ inbox) × (e.answers ≡ d.answers) × (e.left ≡ d.kept) × (e.cause ≡ cause)

-- This many of the jobs that were kept are answered.
pub record HasResumed (pid : Pid) (n : ℕ) (d e : Desk) : Type 0 where
  pub new : List Answer
  pub answers_is : e.answers.items ≡ d.answers.items ++ new
  pub jobs : map job_of new ≡ take n d.kept.items
  pub answered : (v : View) (before : List Answer) → HasAnswered pid v before d.pass.view → HasAnswered pid v (before ++ new) e.pass.view
  pub kept : e.kept ≡ d.kept
  pub table : e.pass.table ≡ d.pass.table
  pub room : vec_capacity e.answers ≡ vec_capacity d.answers
