-- What each note makes of what a worker has in hand.
use Rattle.std.proofs.Common.{◌≡◌, ◌<◌, ◌+◌, ℕ, true, false, List, [], ◌∷◌, ◌++◌, length, take, get_or, refl, ap, sym, subst, subst₂, ◌∙◌, append_assoc, append-nil, arith, length-append, vec_capacity}
use Rattle.std.proofs.lemmas.List.{take_more, take_all, length-take-le, length-map}
use Rattle.proc_table.specs.declared.view.View.{View}
use Rattle.proc_table.specs.declared.pid.Pid.{Pid}
use Rattle.proc_workers.specs.declared.desk.Desk.{Desk}
use Rattle.proc_workers.specs.declared.note.Answer.{Answer}
use Rattle.proc_workers.specs.declared.note.Job.{Job}
use Rattle.proc_workers.specs.declared.note.Note.{Note}
use Rattle.proc_workers.specs.declared.note.Note.TheVariants as note
use Rattle.proc_workers.specs.declared.ends.Inbox.{Inbox}
use Rattle.proc_workers.specs.declared.worker.Ended.{Ended}
use Rattle.proc_workers.specs.declared.worker.EndCause.TheVariants as cause
use Rattle.proc_workers.specs.Ends.{read_by, taken}
use Rattle.proc_workers.specs.Notes.{EndsBy}
use Rattle.proc_workers.specs.Work.{job_of, HasAnswer, HasAnswered, HasDone, HasEnded}
use Rattle.proc_workers.specs.Desks.{IsAt, IsReached, TakesNote, SameDesk, HasRoomFor, HasResumed}
use Rattle.proc_workers.proofs.NoteLemmas.{map_more, done_nothing, still_running, is_suspended, runs_on, suspends_same, done_suspended, done_stopped, done_kept, done_answered, done_resumed}
use Rattle.proc_workers.proofs.WorkLemmas.{answered_nothing, answered_more}

-- a desk that is the same in all that is reported
pub same_at : (pid : Pid) (v : View) (notes : List Note) (d e : Desk) → SameDesk d e → IsAt pid v notes d → IsAt pid v notes e
same_at pid v notes d e same at = record {
  answered = subst₂ (λ (l : List Answer) (w : View). HasAnswered pid v l w) (sym same.1) (ap (λ s. s.view) (sym same.0)) at.answered;
  done = subst₂ (λ (l : List Answer) (k : List Job). HasDone notes l k) (sym same.1) (sym same.2) at.done;
  suspended = same.3 ∙ at.suspended;
  running = at.running;
}

pub takes_suspend : (pid : Pid) (d e : Desk) → e.pass ≡ d.pass → e.answers.items ≡ d.answers.items → e.kept.items ≡ d.kept.items → e.suspended ≡ true → TakesNote pid note.Suspend d e
takes_suspend pid d e pass answers kept is v notes at = record {
  answered = subst₂ (λ (l : List Answer) (w : View). HasAnswered pid v l w) (sym answers) (ap (λ s. s.view) (sym pass)) at.answered;
  done = subst₂ (λ (l : List Answer) (k : List Job). HasDone (notes ++ note.Suspend ∷ []) l k) (sym answers) (sym kept) (done_suspended notes _ _ at.done);
  suspended = is ∙ sym (is_suspended notes);
  running = still_running notes note.Suspend at.running refl;
}

pub keeps_job : (pid : Pid) (j : Job) (d e : Desk) → d.suspended ≡ true → e.pass ≡ d.pass → e.answers.items ≡ d.answers.items → e.kept.items ≡ d.kept.items ++ j ∷ [] → e.suspended ≡ d.suspended
    → TakesNote pid (note.Job j) d e
keeps_job pid j d e was pass answers kept is v notes at = record {
  answered = subst₂ (λ (l : List Answer) (w : View). HasAnswered pid v l w) (sym answers) (ap (λ s. s.view) (sym pass)) at.answered;
  done = subst₂ (λ (l : List Answer) (k : List Job). HasDone (notes ++ note.Job j ∷ []) l k) (sym answers) (sym kept) (done_kept notes _ _ j (sym at.suspended ∙ was) at.done);
  suspended = is ∙ (at.suspended ∙ sym (suspends_same notes j));
  running = still_running notes (note.Job j) at.running refl;
}

pub does_job : (pid : Pid) (j : Job) (d e : Desk) (a : Answer) → d.suspended ≡ false → e.answers.items ≡ d.answers.items ++ a ∷ [] → job_of a ≡ j → HasAnswer pid d.pass.view j a.tried e.pass.view
    → e.kept.items ≡ d.kept.items → e.suspended ≡ d.suspended → TakesNote pid (note.Job j) d e
does_job pid j d e a was answers job now kept is v notes at = record {
  answered = subst (λ (l : List Answer). HasAnswered pid v l e.pass.view) (sym answers) (answered_more pid v d.answers.items d.pass.view a j e.pass.view at.answered job now);
  done = subst₂ (λ (l : List Answer) (k : List Job). HasDone (notes ++ note.Job j ∷ []) l k) (sym answers) (sym kept) (done_answered notes _ _ j a (sym at.suspended ∙ was) job at.done);
  suspended = is ∙ (at.suspended ∙ sym (suspends_same notes j));
  running = still_running notes (note.Job j) at.running refl;
}

-- ---- a Resume
pub resumes_none : (pid : Pid) (d : Desk) → HasResumed pid 0 d d
resumes_none pid d = record {
  new = [];
  answers_is = sym (append-nil d.answers.items);
  jobs = refl;
  answered = λ v before h. subst (λ (l : List Answer). HasAnswered pid v l d.pass.view) (sym (append-nil before)) h;
  kept = refl;
  table = refl;
  room = refl;
}

pub resumes_more : (pid : Pid) (n : ℕ) (d e f : Desk) (j : Job) (a : Answer) → n < length d.kept.items → get_or d.kept.items n j ≡ j → HasResumed pid n d e
    → f.answers.items ≡ e.answers.items ++ a ∷ [] → job_of a ≡ j → HasAnswer pid e.pass.view j a.tried f.pass.view
    → f.kept ≡ e.kept → f.pass.table ≡ e.pass.table → vec_capacity f.answers ≡ vec_capacity e.answers → HasResumed pid (n + 1) d f
resumes_more pid n d e f j a lt is h answers job now kept table room = record {
  new = h.new ++ a ∷ [];
  answers_is = answers ∙ (ap (λ (l : List Answer). l ++ a ∷ []) h.answers_is ∙ append_assoc d.answers.items h.new (a ∷ []));
  jobs = map_more h.new a ∙ (ap (λ (l : List Job). l ++ job_of a ∷ []) h.jobs ∙ (ap (λ (i : Job). take n d.kept.items ++ i ∷ []) (job ∙ sym is) ∙ sym (take_more d.kept.items n j lt)));
  answered = λ v before x. subst (λ (l : List Answer). HasAnswered pid v l f.pass.view) (append_assoc before h.new (a ∷ []))
      (answered_more pid v (before ++ h.new) e.pass.view a j f.pass.view (h.answered v before x) job now);
  kept = kept ∙ h.kept;
  table = table ∙ h.table;
  room = room ∙ h.room;
}

-- there is room for an answer to each job that was kept
pub room_left : (pid : Pid) (n : ℕ) (d e : Desk) → n < length d.kept.items → HasRoomFor 1 d → HasResumed pid n d e → length e.answers.items < vec_capacity e.answers
room_left pid n d e lt room h =
    let so_far : length h.new ≡ n = sym (length-map h.new job_of) ∙ (ap (λ (l : List Job). length l) h.jobs ∙ length-take-le n d.kept.items (omega arith)) in
    let all = ap (λ (l : List Answer). length l) h.answers_is in
    let parts = length-append d.answers.items h.new in
    let most = room.1 in
    let same = h.room in
    omega arith

pub takes_resume : (pid : Pid) (d e f : Desk) → HasResumed pid (length d.kept.items) d e → f.pass ≡ e.pass → f.answers.items ≡ e.answers.items → f.kept.items ≡ [] → f.suspended ≡ false → TakesNote pid note.Resume d f
takes_resume pid d e f h pass answers none is v notes at = record {
  answered = subst₂ (λ (l : List Answer) (w : View). HasAnswered pid v l w) (sym (answers ∙ h.answers_is)) (ap (λ s. s.view) (sym pass)) (h.answered v d.answers.items at.answered);
  done = subst₂ (λ (l : List Answer) (k : List Job). HasDone (notes ++ note.Resume ∷ []) l k) (sym (answers ∙ h.answers_is)) (sym none)
      (done_resumed notes d.answers.items h.new d.kept.items (h.jobs ∙ take_all (length d.kept.items) d.kept.items (omega arith)) at.done);
  suspended = is ∙ sym (runs_on notes);
  running = still_running notes note.Resume at.running refl;
}

pub starts : (pid : Pid) (d : Desk) → d.answers.items ≡ [] → d.kept.items ≡ [] → d.suspended ≡ false → IsAt pid d.pass.view [] d
starts pid d answers kept is = record {
  answered = subst (λ (l : List Answer). HasAnswered pid d.pass.view l d.pass.view) (sym answers) (answered_nothing pid d.pass.view);
  done = subst₂ (λ (l : List Answer) (k : List Job). HasDone [] l k) (sym answers) (sym kept) done_nothing;
  suspended = is;
  running = refl;
}

-- ---- one note after another
pub none_reached : (pid : Pid) (v : View) (before : List Note) (d : Desk) → IsAt pid v [] d → IsReached pid v before before d
none_reached pid v before d at = ([], sym (append-nil before), at)

pub next_reached : (pid : Pid) (v : View) (before now later : List Note) (n : Note) (d e f : Desk) → IsReached pid v before now d → SameDesk d e → later ≡ now ++ n ∷ [] → TakesNote pid n e f
    → IsReached pid v before later f
next_reached pid v before now later n d e f at same more took =
    (at.0 ++ n ∷ [], more ∙ (ap (λ (l : List Note). l ++ n ∷ []) at.1 ∙ append_assoc before at.0 (n ∷ [])), took v at.0 (same_at pid v at.0 d e same at.2))

pub ends_stopped : (pid : Pid) (v : View) (inbox : Inbox) (now : List Note) (d : Desk) (r : Ended) → IsReached pid v (taken inbox) now d → read_by r.inbox ≡ read_by inbox
    → taken r.inbox ≡ now ++ note.Stop ∷ [] → r.answers.items ≡ d.answers.items → r.left.items ≡ d.kept.items → r.cause ≡ cause.Stopped → HasEnded inbox r
ends_stopped pid v inbox now d r at mailbox more answers left why = record {
  notes = at.0 ++ note.Stop ∷ [];
  mailbox = mailbox;
  taken_is = more ∙ (ap (λ (l : List Note). l ++ note.Stop ∷ []) at.1 ∙ append_assoc (taken inbox) at.0 (note.Stop ∷ []));
  done = subst₂ (λ (l : List Answer) (k : List Job). HasDone (at.0 ++ note.Stop ∷ []) l k) (sym answers) (sym left) (done_stopped at.0 d.answers.items d.kept.items at.2.done);
  ends = subst (λ c. EndsBy c (at.0 ++ note.Stop ∷ [])) (sym why) (at.0, refl, at.2.running);
}
