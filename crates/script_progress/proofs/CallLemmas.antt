-- Calls of a script, by what they are on.
use Rattle.std.proofs.Common.{◌≡◌, ℕ, ◌&&◌, ◌||◌, Bool, true, false, true≢false, List, if◌then◌else◌, refl, sym, ap, ap₂, subst, ◌∙◌, Option, Some, Result, Ok, Err, codes}
use Rattle.std.specs.Prelude.{IfErr, IfOk}
use Rattle.std.specs.declared.alloc.AllocError.{AllocError}
use Rattle.erl_term.specs.declared.term.Term.{Term}
use Rattle.erl_term.specs.Value.{value_of}
use Rattle.std.proofs.lemmas.Slice.Eq.{bytes_eq-Decides}
use Rattle.std.specs.Str.{bytes_eq}
use Rattle.proc_table.specs.declared.view.View.{View}
use Rattle.held_processes.specs.Course.{Courses}
use Rattle.held_processes.specs.Following.{AllFollow, AreLonger}
use Rattle.held_processes.specs.Operations.{Values, values_seen}
use Rattle.relup_instruction.specs.Instruction.{CallForm}
use Rattle.relup_instruction.specs.Instruction.Instruction.{apply}
use Rattle.relup_file.specs.Script.{has_one, is_app, is_application, is_child, is_child_call, is_child_word, is_error, is_one_app_word, is_supported, is_supported_call, is_typed_app}
use Rattle.sup_tree.specs.Tree.{App}
use Rattle.script_progress.specs.declared.cause.Failure.{Failure}
use Rattle.script_progress.specs.Apps.{CallsApp}
use Rattle.script_progress.specs.Calls.{app_call, child_call, is_on_child}
use Rattle.script_progress.specs.Children.{CallsChild}
use Rattle.script_progress.specs.Fault.{Cause, app_call_fault, call_fault, child_call_fault, error_cause}
use Rattle.script_progress.specs.Fault.Cause.{raised as raised_with}
use Rattle.script_progress.specs.Fault.Cause.{no_memory}
use Rattle.script_progress.specs.InMemory.{cause_of}
use Rattle.script_progress.specs.Script.{Run, Site, call_after, call_within, called_after, child_after, child_stays_at, child_within, stays_at}
use Rattle.script_progress.specs.Steps.{CarriesOutLate, HasDone, IsCause, IsCauseIn, IsEarly, IsFailed, GoesByLooks, Past, ProgressForm, on_no_child}
use Rattle.script_progress.specs.Stops.{AsksMemory, app_takes_memory, call_takes_memory, child_takes_memory}
use Rattle.script_progress.proofs.SeenLemmas.{cause_seen, seen_in, seen_of}
use Rattle.held_processes.proofs.SlotLemmas.{longer_still}

-- each of two tests that hold
pub left_true : (a b : Bool) → (a && b) ≡ true → a ≡ true
left_true true b e = refl
left_true false b e = absurd (cc e)

pub right_true : (a b : Bool) → (a && b) ≡ true → b ≡ true
right_true true b e = e
right_true false b e = absurd (cc e)

-- What a call does, how it fails, and whether it leaves a child as it is, is what is said of its kind.
record IsCall (s : Site) (call : CallForm) (r : Run) (o : Values → Option Cause) (stays : Values → Bool) (after : Bool → Run) (within : ℕ → Courses) : Type 0 where
  fault : (seen : Values) → call_fault s seen call r ≡ o seen
  stay : (seen : Values) → stays_at seen (apply call) r ≡ stays seen
  run : (b : Bool) → call_after s call b r ≡ after b
  courses : (n : ℕ) → call_within call n r ≡ within n

-- a call on an application is on no child
app_on_no_child : (call : CallForm) → bytes_eq call.name (codes "application") ≡ true → is_on_child call ≡ false
app_on_no_child call is = ap (λ (n : List ℕ). bytes_eq n (codes "supervisor")) ((bytes_eq-Decides call.name (codes "application")).0 is)

-- A call that raises an error is on no child.
pub error_on_no_child : (call : CallForm) → is_error call ≡ true → is_on_child call ≡ false
error_on_no_child call raises =
    ap (λ (n : List ℕ). bytes_eq n (codes "supervisor"))
    ((bytes_eq-Decides call.name (codes "erlang")).0 (left_true (bytes_eq call.name (codes "erlang")) (bytes_eq call.function (codes "error") && has_one call.args) raises))

-- which call asks for memory
pub error_memory : (s : Site) (seen : Values) (call : CallForm) (r : Run) → is_error call ≡ true → call_takes_memory s seen call r ≡ true
error_memory s seen call r raises = ap (λ (b : Bool). b || (if is_on_child call then child_takes_memory seen (child_call call) r else app_takes_memory s (app_call call) r)) raises

no_error : (call : CallForm) (name : List ℕ) → bytes_eq call.name name ≡ true → bytes_eq name (codes "erlang") ≡ false → is_error call ≡ false
no_error call name is other =
    ap (λ (b : Bool). b && (bytes_eq call.function (codes "error") && has_one call.args)) (ap (λ (n : List ℕ). bytes_eq n (codes "erlang")) ((bytes_eq-Decides call.name name).0 is) ∙ other)

app_memory : (s : Site) (seen : Values) (call : CallForm) (r : Run) → bytes_eq call.name (codes "application") ≡ true → call_takes_memory s seen call r ≡ app_takes_memory s (app_call call) r
app_memory s seen call r is =
    ap₂ (λ (e k : Bool). e || (if k then child_takes_memory seen (child_call call) r else app_takes_memory s (app_call call) r)) (no_error call (codes "application") is refl) (app_on_no_child call is)

child_memory : (s : Site) (seen : Values) (call : CallForm) (r : Run) → bytes_eq call.name (codes "supervisor") ≡ true → call_takes_memory s seen call r ≡ child_takes_memory seen (child_call call) r
child_memory s seen call r is =
    ap₂ (λ (e k : Bool). e || (if k then child_takes_memory seen (child_call call) r else app_takes_memory s (app_call call) r)) (no_error call (codes "supervisor") is refl) is

-- a call by this name is neither an error, nor one on a child; or it is one on a child
on_app : (s : Site) (call : CallForm) (r : Run) → bytes_eq call.name (codes "application") ≡ true
    → IsCall s call r (λ seen. app_call_fault s (app_call call) r) (λ seen. false) (λ b. called_after s (app_call call) r) (λ n. r.courses)
on_app s call r is =
    let named : call.name ≡ codes "application" = (bytes_eq-Decides call.name (codes "application")).0 is in
    let error : is_error call ≡ false = ap (λ (n : List ℕ). bytes_eq n (codes "erlang") && (bytes_eq call.function (codes "error") && has_one call.args)) named in
    let child = app_on_no_child call is in
    record {
      fault = λ seen. ap (λ (b : Bool). if b then error_cause call.args else if is_on_child call then child_call_fault seen (child_call call) r else app_call_fault s (app_call call) r) error
          ∙ ap (λ (b : Bool). if b then child_call_fault seen (child_call call) r else app_call_fault s (app_call call) r) child;
      stay = λ seen. ap (λ (b : Bool). if b then child_stays_at seen (child_call call) r else false) child;
      run = λ stays. ap (λ (b : Bool). if b then child_after (child_call call) stays r else called_after s (app_call call) r) child;
      courses = λ n. ap (λ (b : Bool). if b then child_within (child_call call) n r else r.courses) child;
    }

on_child : (s : Site) (call : CallForm) (r : Run) → bytes_eq call.name (codes "supervisor") ≡ true
    → IsCall s call r (λ seen. child_call_fault seen (child_call call) r) (λ seen. child_stays_at seen (child_call call) r) (λ b. child_after (child_call call) b r) (λ n. child_within (child_call call) n r)
on_child s call r is =
    let named : call.name ≡ codes "supervisor" = (bytes_eq-Decides call.name (codes "supervisor")).0 is in
    let error : is_error call ≡ false = ap (λ (n : List ℕ). bytes_eq n (codes "erlang") && (bytes_eq call.function (codes "error") && has_one call.args)) named in
    record {
      fault = λ seen. ap (λ (b : Bool). if b then error_cause call.args else if is_on_child call then child_call_fault seen (child_call call) r else app_call_fault s (app_call call) r) error
          ∙ ap (λ (b : Bool). if b then child_call_fault seen (child_call call) r else app_call_fault s (app_call call) r) is;
      stay = λ seen. ap (λ (b : Bool). if b then child_stays_at seen (child_call call) r else false) is;
      run = λ stays. ap (λ (b : Bool). if b then child_after (child_call call) stays r else called_after s (app_call call) r) is;
      courses = λ n. ap (λ (b : Bool). if b then child_within (child_call call) n r else r.courses) is;
    }

-- a call by another name is an error that the script raises
unlike : (a b : List ℕ) → (a ≡ b → ⊥) → bytes_eq a b ≡ false
unlike a b differ = by (bytes_eq a b) refl
  where
    by : (c : Bool) → bytes_eq a b ≡ c → bytes_eq a b ≡ false
    by true is = absurd (differ ((bytes_eq-Decides a b).0 is))
    by false is = is

pub other_raises : (call : CallForm) → is_supported_call call ≡ true → (call.name ≡ codes "application" → ⊥) → (call.name ≡ codes "supervisor" → ⊥) → is_error call ≡ true
other_raises call supported not_app not_child =
    by (is_error call) (is_application call) (is_child_call call) supported
    (ap (λ (b : Bool). b && ((is_one_app_word call.function && is_app call.args) || (bytes_eq call.function (codes "start") && is_typed_app call.args))) (unlike call.name (codes "application") not_app))
    (ap (λ (b : Bool). b && (is_child_word call.function && is_child call.args)) (unlike call.name (codes "supervisor") not_child))
  where
    by : (a b c : Bool) → (a || (b || c)) ≡ true → b ≡ false → c ≡ false → a ≡ true
    by true b c is not_b not_c = refl
    by false true c is not_b not_c = absurd (cc not_b)
    by false false c is not_b not_c = sym not_c ∙ is

-- which is why it fails
pub error_fault : (s : Site) (call : CallForm) (seen : Values) (r : Run) → is_error call ≡ true → call_fault s seen call r ≡ error_cause call.args
error_fault s call seen r raises =
    ap (λ (b : Bool). if b then error_cause call.args else if is_on_child call then child_call_fault seen (child_call call) r else app_call_fault s (app_call call) r) raises

-- before the point of no return there is no other call
pub early_error : (call : CallForm) → IsEarly (apply call) → is_error call ≡ true
early_error call early = right_true (is_supported (apply call)) (is_error call) early

pub raised : (s : Site) (past : Past) (call : CallForm) (e : Failure) (a : ProgressForm) (tree : List App) (v : View) → HasDone past a tree v → is_error call ≡ true
    → IsCause (error_cause call.args) (cause_of e.cause) → IsFailed s past (apply call) e a.held v v
raised s past call e a tree v done raises cause =
    let r = past.run in
    let child = error_on_no_child call raises in
    let fault = error_fault s call (values_seen v) r raises in
    record {
      then_view = v;
      fails = cause_seen past.first v r (call_fault s (values_seen v) call r) (cause_of e.cause) (subst (λ (f : Option Cause). IsCause f (cause_of e.cause)) (sym fault) cause) (seen_in past a tree v done);
      stops = (λ _. error_memory s (values_seen v) call r raises, λ on_child. absurd (true≢false (sym on_child ∙ child)));
      since = longer_still v;
      longer = longer_still v;
      partly = subst (λ (cs : Courses). AllFollow past.first cs a.held v) (sym (ap (λ (b : Bool). if b then child_within (child_call call) e.modules r else r.courses) child)) done.follow;
    }

-- A call fails with the term that its copy has, or for want of memory for the copy.
pub raised_cause : (o : Option Cause) (copy : Result Term AllocError) (c : Cause) → IfOk copy (λ t. o ≡ Some (raised_with (value_of t))) → IfOk copy (λ t. c ≡ raised_with (value_of t)) → IfErr copy (λ e. c ≡ no_memory)
    → IsCause o c
raised_cause o (Ok t) c copied with_term memory = subst (IsCause o) (sym with_term) copied
raised_cause o (Err e) c copied with_term memory = subst (IsCause o) (sym memory) tt

-- A call that raises an error goes by no look at a child.
pub no_child_raised : (past : Past) (call : CallForm) (e : Failure) (v : View) → is_error call ≡ true → GoesByLooks past (apply call) (Err e) v v
no_child_raised past call e v raises = (λ _ on_child. absurd (true≢false (sym on_child ∙ error_on_no_child call raises)), tt)

-- a call on an application is on no child
pub no_child_called : {X : Type 0} (past : Past) (call : CallForm) (r : Result X Failure) (v w : View) → bytes_eq call.name (codes "application") ≡ true → GoesByLooks past (apply call) (on_no_child r) v w
no_child_called past call (Ok x) v w named = (λ on_child. absurd (true≢false (sym on_child ∙ app_on_no_child call named)), λ stays. absurd (true≢false (sym stays)))
no_child_called past call (Err e) v w named = (λ _ on_child. absurd (true≢false (sym on_child ∙ app_on_no_child call named)), tt)

-- one on a child looks at it
pub child_looked : (s : Site) (past : Past) (call : CallForm) (r : Result Bool Failure) (a : ProgressForm) (tree : List App) (v w : View) → bytes_eq call.name (codes "supervisor") ≡ true
    → CallsChild past (child_call call) r a tree v w → GoesByLooks past (apply call) r v w
child_looked s past call (Ok stays) a tree v w named called =
    (λ _. called.taken, λ is_so. (on_child s call past.run named).stay (values_seen w) ∙ called.now is_so)
child_looked s past call (Err e) a tree v w named called = (λ other _. called.taken other, tt)

-- a call on an application was made, or fails
pub app_called : {X : Type 0} (s : Site) (past : Past) (call : CallForm) (r : Result X Failure) (a a' : ProgressForm) (tree tree' : List App) (v w : View) → HasDone past a tree v → AreLonger v w
    → bytes_eq call.name (codes "application") ≡ true → CallsApp s past (app_call call) r a' tree' w → AsksMemory (app_takes_memory s (app_call call) past.run) r
    → CarriesOutLate s past (apply call) (on_no_child r) a' tree' v w
app_called s past call (Ok x) a a' tree tree' v w done longer named called asks =
    let is = on_app s call past.run named in (
      (v, (seen_in past a tree v done, is.fault (values_seen v) ∙ called.0, sym (is.stay (values_seen v))), longer_still v, longer),
      subst (λ (q : Run). HasDone (record past { run = q }) a' tree' w) (sym (is.run false)) called.1,
    )
app_called s past call (Err e) a a' tree tree' v w done longer named called asks =
    let is = on_app s call past.run named in
    record {
      then_view = w;
      fails = cause_seen past.first w past.run (call_fault s (values_seen w) call past.run) (cause_of e.cause) (subst (λ (f : Option Cause). IsCause f (cause_of e.cause)) (sym (is.fault (values_seen w))) called.0)
          (seen_of past.first past.run past.run.courses a'.held w (λ p. refl) called.1);
      stops = (λ m. app_memory s (values_seen w) call past.run named ∙ asks m, λ on_child. absurd (true≢false (sym on_child ∙ app_on_no_child call named)));
      since = longer;
      longer = longer_still w;
      partly = subst (λ (cs : Courses). AllFollow past.first cs a'.held w) (sym (is.courses e.modules)) called.1;
    }

-- a call on a child of a supervisor was made, or fails
pub child_called : (s : Site) (past : Past) (call : CallForm) (r : Result Bool Failure) (a : ProgressForm) (tree : List App) (v w : View)
    → bytes_eq call.name (codes "supervisor") ≡ true → CallsChild past (child_call call) r a tree v w
    → CarriesOutLate s past (apply call) r a tree v w
child_called s past call (Ok stays) a tree v w named called =
    let is = on_child s call past.run named in (
      (
        called.then_view,
        (called.seen, is.fault (values_seen called.then_view) ∙ called.sound, called.reported ∙ sym (is.stay (values_seen called.then_view))),
        called.since,
        called.longer,
      ),
      subst (λ (q : Run). HasDone (record past { run = q }) a tree w) (sym (is.run stays)) called.done,
    )
child_called s past call (Err e) a tree v w named called =
    let is = on_child s call past.run named in
    record {
      then_view = called.then_view;
      fails = subst (λ (f : Option Cause). IsCauseIn past.first called.then_view past.run f (cause_of e.cause)) (sym (is.fault (values_seen called.then_view))) called.fails;
      stops = (λ m. child_memory s (values_seen called.then_view) call past.run named ∙ called.asks m, λ on_child. (called.seen, called.counted));
      since = called.since;
      longer = called.longer;
      partly = subst (λ (cs : Courses). AllFollow past.first cs a.held w) (sym (is.courses e.modules)) called.partly;
    }
