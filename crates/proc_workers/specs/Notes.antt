-- What a worker does with the notes that it took, one after another.
use Rattle.std.specs.Prelude.{◌≡◌, Bool, true, false, List, [], ◌∷◌, ◌++◌, if◌then◌else◌}
use Rattle.proc_workers.specs.declared.note.Note.{Note}
use Rattle.proc_workers.specs.declared.note.Note.TheVariants as note
use Rattle.proc_workers.specs.declared.note.Job.{Job}
use Rattle.proc_workers.specs.declared.worker.EndCause.{EndCause}
use Rattle.proc_workers.specs.declared.worker.EndCause.TheVariants as cause

-- the jobs among notes, in order
abbrev pub jobs_in : List Note → List Job
jobs_in [] = []
jobs_in (note.Job job ∷ ns) = job ∷ jobs_in ns
jobs_in (n ∷ ns) = jobs_in ns

-- whether they have the worker go on
abbrev pub resumes : List Note → Bool
resumes [] = false
resumes (note.Resume ∷ ns) = true
resumes (n ∷ ns) = resumes ns

-- whether they have it end
abbrev pub stops : List Note → Bool
stops [] = false
stops (note.Stop ∷ ns) = true
stops (n ∷ ns) = stops ns

-- whether the worker is suspended after them
abbrev pub suspends : List Note → Bool
suspends [] = false
suspends (note.Suspend ∷ ns) = if resumes ns then suspends ns else true
suspends (n ∷ ns) = suspends ns

-- the jobs since a Suspend that no Resume followed
abbrev pub kept : List Note → List Job
kept [] = []
kept (note.Suspend ∷ ns) = if resumes ns then kept ns else jobs_in ns
kept (n ∷ ns) = kept ns

-- a worker that was stopped took Stop last, and none before; else it took none
abbrev pub EndsBy : EndCause → List Note → Type 0
EndsBy cause.Stopped ns = (before : List Note) × (ns ≡ before ++ note.Stop ∷ []) × (stops before ≡ false)
EndsBy c ns = stops ns ≡ false
