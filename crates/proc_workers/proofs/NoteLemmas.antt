-- What one note more makes of the notes that a worker took.
use Rattle.std.proofs.Common.{◌≡◌, Bool, true, false, true≢false, if◌then◌else◌, List, [], ◌∷◌, ◌++◌, map, refl, ap, sym, ◌∙◌, append-nil, append_assoc}
use Rattle.proc_workers.specs.declared.note.Answer.{Answer}
use Rattle.proc_workers.specs.declared.note.Job.{Job}
use Rattle.proc_workers.specs.declared.note.Note.{Note}
use Rattle.proc_workers.specs.declared.note.Note.TheVariants as note
use Rattle.proc_workers.specs.Notes.{jobs_in, resumes, stops, suspends, kept}
use Rattle.proc_workers.specs.Work.{job_of, HasDone}

jobs_more : (ns : List Note) (n : Note) → jobs_in (ns ++ n ∷ []) ≡ jobs_in ns ++ jobs_in (n ∷ [])
jobs_more [] n = refl
jobs_more (note.Job j ∷ ns) n = ap (λ (l : List Job). j ∷ l) (jobs_more ns n)
jobs_more (note.Suspend ∷ ns) n = jobs_more ns n
jobs_more (note.Resume ∷ ns) n = jobs_more ns n
jobs_more (note.Stop ∷ ns) n = jobs_more ns n

-- one that doesn't end the worker
pub still_running : (ns : List Note) (n : Note) → stops ns ≡ false → stops (n ∷ []) ≡ false → stops (ns ++ n ∷ []) ≡ false
still_running [] n a b = b
still_running (note.Job j ∷ ns) n a b = still_running ns n a b
still_running (note.Suspend ∷ ns) n a b = still_running ns n a b
still_running (note.Resume ∷ ns) n a b = still_running ns n a b
still_running (note.Stop ∷ ns) n a b = absurd (true≢false a)

resumes_same : (ns : List Note) (n : Note) → resumes (n ∷ []) ≡ false → resumes (ns ++ n ∷ []) ≡ resumes ns
resumes_same [] n e = e
resumes_same (note.Job j ∷ ns) n e = resumes_same ns n e
resumes_same (note.Suspend ∷ ns) n e = resumes_same ns n e
resumes_same (note.Resume ∷ ns) n e = refl
resumes_same (note.Stop ∷ ns) n e = resumes_same ns n e

resumes_now : (ns : List Note) → resumes (ns ++ note.Resume ∷ []) ≡ true
resumes_now [] = refl
resumes_now (note.Job j ∷ ns) = resumes_now ns
resumes_now (note.Suspend ∷ ns) = resumes_now ns
resumes_now (note.Resume ∷ ns) = refl
resumes_now (note.Stop ∷ ns) = resumes_now ns

-- who isn't suspended keeps nothing
idle_keeps_none : (ns : List Note) → suspends ns ≡ false → kept ns ≡ []
idle_keeps_none [] e = refl
idle_keeps_none (note.Job j ∷ ns) e = idle_keeps_none ns e
idle_keeps_none (note.Suspend ∷ ns) e = go (resumes ns) (λ f. idle_keeps_none ns f) e
  where
    go : (b : Bool) → (suspends ns ≡ false → kept ns ≡ []) → (if b then suspends ns else true) ≡ false → (if b then kept ns else jobs_in ns) ≡ []
    go true before f = before f
    go false before f = absurd (true≢false f)
idle_keeps_none (note.Resume ∷ ns) e = idle_keeps_none ns e
idle_keeps_none (note.Stop ∷ ns) e = idle_keeps_none ns e

-- ---- a Resume
pub runs_on : (ns : List Note) → suspends (ns ++ note.Resume ∷ []) ≡ false
runs_on [] = refl
runs_on (note.Job j ∷ ns) = runs_on ns
runs_on (note.Suspend ∷ ns) = ap (λ (b : Bool). if b then suspends (ns ++ note.Resume ∷ []) else true) (resumes_now ns) ∙ runs_on ns
runs_on (note.Resume ∷ ns) = runs_on ns
runs_on (note.Stop ∷ ns) = runs_on ns

-- ---- a Suspend
pub is_suspended : (ns : List Note) → suspends (ns ++ note.Suspend ∷ []) ≡ true
is_suspended [] = refl
is_suspended (note.Job j ∷ ns) = is_suspended ns
is_suspended (note.Suspend ∷ ns) = go (resumes (ns ++ note.Suspend ∷ [])) (is_suspended ns)
  where
    go : (b : Bool) → suspends (ns ++ note.Suspend ∷ []) ≡ true → (if b then suspends (ns ++ note.Suspend ∷ []) else true) ≡ true
    go true e = e
    go false e = refl
is_suspended (note.Resume ∷ ns) = is_suspended ns
is_suspended (note.Stop ∷ ns) = is_suspended ns

keeps_same : (ns : List Note) → kept (ns ++ note.Suspend ∷ []) ≡ kept ns
keeps_same [] = refl
keeps_same (note.Job j ∷ ns) = keeps_same ns
keeps_same (note.Suspend ∷ ns) = ap (λ (b : Bool). if b then kept (ns ++ note.Suspend ∷ []) else jobs_in (ns ++ note.Suspend ∷ [])) (resumes_same ns note.Suspend refl) ∙ go (resumes ns) (keeps_same ns)
  where
    go : (b : Bool) → kept (ns ++ note.Suspend ∷ []) ≡ kept ns → (if b then kept (ns ++ note.Suspend ∷ []) else jobs_in (ns ++ note.Suspend ∷ [])) ≡ (if b then kept ns else jobs_in ns)
    go true e = e
    go false e = jobs_more ns note.Suspend ∙ append-nil (jobs_in ns)
keeps_same (note.Resume ∷ ns) = keeps_same ns
keeps_same (note.Stop ∷ ns) = keeps_same ns

-- ---- a Stop
stop_keeps : (ns : List Note) → kept (ns ++ note.Stop ∷ []) ≡ kept ns
stop_keeps [] = refl
stop_keeps (note.Job j ∷ ns) = stop_keeps ns
stop_keeps (note.Suspend ∷ ns) = ap (λ (b : Bool). if b then kept (ns ++ note.Stop ∷ []) else jobs_in (ns ++ note.Stop ∷ [])) (resumes_same ns note.Stop refl) ∙ go (resumes ns) (stop_keeps ns)
  where
    go : (b : Bool) → kept (ns ++ note.Stop ∷ []) ≡ kept ns → (if b then kept (ns ++ note.Stop ∷ []) else jobs_in (ns ++ note.Stop ∷ [])) ≡ (if b then kept ns else jobs_in ns)
    go true e = e
    go false e = jobs_more ns note.Stop ∙ append-nil (jobs_in ns)
stop_keeps (note.Resume ∷ ns) = stop_keeps ns
stop_keeps (note.Stop ∷ ns) = stop_keeps ns

-- ---- a job
pub suspends_same : (ns : List Note) (j : Job) → suspends (ns ++ note.Job j ∷ []) ≡ suspends ns
suspends_same [] j = refl
suspends_same (note.Job i ∷ ns) j = suspends_same ns j
suspends_same (note.Suspend ∷ ns) j = ap (λ (b : Bool). if b then suspends (ns ++ note.Job j ∷ []) else true) (resumes_same ns (note.Job j) refl)
    ∙ ap (λ (b : Bool). if resumes ns then b else true) (suspends_same ns j)
suspends_same (note.Resume ∷ ns) j = suspends_same ns j
suspends_same (note.Stop ∷ ns) j = suspends_same ns j

keeps_more : (ns : List Note) (j : Job) → suspends ns ≡ true → kept (ns ++ note.Job j ∷ []) ≡ kept ns ++ j ∷ []
keeps_more [] j e = absurd (true≢false (sym e))
keeps_more (note.Job i ∷ ns) j e = keeps_more ns j e
keeps_more (note.Suspend ∷ ns) j e = ap (λ (b : Bool). if b then kept (ns ++ note.Job j ∷ []) else jobs_in (ns ++ note.Job j ∷ [])) (resumes_same ns (note.Job j) refl) ∙ go (resumes ns) (λ f. keeps_more ns j f) e
  where
    go : (b : Bool) → (suspends ns ≡ true → kept (ns ++ note.Job j ∷ []) ≡ kept ns ++ j ∷ []) → (if b then suspends ns else true) ≡ true
        → (if b then kept (ns ++ note.Job j ∷ []) else jobs_in (ns ++ note.Job j ∷ [])) ≡ (if b then kept ns else jobs_in ns) ++ j ∷ []
    go true before f = before f
    go false before f = jobs_more ns (note.Job j)
keeps_more (note.Resume ∷ ns) j e = keeps_more ns j e
keeps_more (note.Stop ∷ ns) j e = keeps_more ns j e

-- ---- what was done after one note more
pub map_more : (xs : List Answer) (x : Answer) → map job_of (xs ++ x ∷ []) ≡ map job_of xs ++ job_of x ∷ []
map_more [] x = refl
map_more (y ∷ ys) x = ap (λ (l : List Job). job_of y ∷ l) (map_more ys x)

map_both : (xs ys : List Answer) → map job_of (xs ++ ys) ≡ map job_of xs ++ map job_of ys
map_both [] ys = refl
map_both (x ∷ xs) ys = ap (λ (l : List Job). job_of x ∷ l) (map_both xs ys)

pub done_nothing : HasDone [] [] []
done_nothing = record { jobs = refl; left_is = refl }

pub done_suspended : (ns : List Note) (answers : List Answer) (left : List Job) → HasDone ns answers left → HasDone (ns ++ note.Suspend ∷ []) answers left
done_suspended ns answers left d = record { jobs = jobs_more ns note.Suspend ∙ (append-nil (jobs_in ns) ∙ d.jobs); left_is = d.left_is ∙ sym (keeps_same ns) }

pub done_stopped : (ns : List Note) (answers : List Answer) (left : List Job) → HasDone ns answers left → HasDone (ns ++ note.Stop ∷ []) answers left
done_stopped ns answers left d = record { jobs = jobs_more ns note.Stop ∙ (append-nil (jobs_in ns) ∙ d.jobs); left_is = d.left_is ∙ sym (stop_keeps ns) }

pub done_kept : (ns : List Note) (answers : List Answer) (left : List Job) (j : Job) → suspends ns ≡ true → HasDone ns answers left → HasDone (ns ++ note.Job j ∷ []) answers (left ++ j ∷ [])
done_kept ns answers left j s d = record {
  jobs = jobs_more ns (note.Job j) ∙ (ap (λ (l : List Job). l ++ j ∷ []) d.jobs ∙ append_assoc (map job_of answers) left (j ∷ []));
  left_is = ap (λ (l : List Job). l ++ j ∷ []) d.left_is ∙ sym (keeps_more ns j s);
}

-- it wasn't suspended
pub done_answered : (ns : List Note) (answers : List Answer) (left : List Job) (j : Job) (a : Answer) → suspends ns ≡ false → job_of a ≡ j → HasDone ns answers left
    → HasDone (ns ++ note.Job j ∷ []) (answers ++ a ∷ []) left
done_answered ns answers left j a s is d =
    let none : left ≡ [] = d.left_is ∙ idle_keeps_none ns s in
    let done : jobs_in ns ≡ map job_of answers = d.jobs ∙ (ap (λ (l : List Job). map job_of answers ++ l) none ∙ append-nil (map job_of answers)) in
    record {
      jobs = jobs_more ns (note.Job j) ∙ (ap (λ (l : List Job). l ++ j ∷ []) done ∙ (ap (λ (i : Job). map job_of answers ++ i ∷ []) (sym is)
          ∙ (sym (map_more answers a) ∙ (sym (append-nil (map job_of (answers ++ a ∷ []))) ∙ ap (λ (l : List Job). map job_of (answers ++ a ∷ []) ++ l) (sym none)))));
      left_is = none ∙ sym (idle_keeps_none (ns ++ note.Job j ∷ []) (suspends_same ns j ∙ s));
    }

-- all that was kept was answered
pub done_resumed : (ns : List Note) (answers new : List Answer) (left : List Job) → map job_of new ≡ left → HasDone ns answers left → HasDone (ns ++ note.Resume ∷ []) (answers ++ new) []
done_resumed ns answers new left is d = record {
  jobs = jobs_more ns note.Resume ∙ (append-nil (jobs_in ns) ∙ (d.jobs ∙ (ap (λ (l : List Job). map job_of answers ++ l) (sym is) ∙ (sym (map_both answers new) ∙ sym (append-nil (map job_of (answers ++ new)))))));
  left_is = sym (idle_keeps_none (ns ++ note.Resume ∷ []) (runs_on ns));
}
