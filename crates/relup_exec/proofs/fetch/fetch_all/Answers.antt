use Rattle.std.proofs.Common.{◌≡◌, ◌+◌, ◌∙◌, ◌&&◌, ◌++◌, Bool, true, false, true≢false, List, [], ◌∷◌, ℕ, Option, Some, None, is_some, IsErrAnd, Result, Ok, Err, if◌then◌else◌, refl, sym, ap, subst, map, take, drop, string_bytes}
use Rattle.std.specs.List.{list_all}
use Rattle.std.proofs.lemmas.List.{take_all}
use Rattle.std.proofs.lemmas.List.Folds.{list_all-append}
use Rattle.library.specs.InMemory.{shared_of}
use Rattle.library.specs.Library.{Library}
use Rattle.loaded_modules.specs.Loaded.{NamedModules, library_modules, listed_in, with_loaded}
use Rattle.script_progress.specs.declared.cause.Cause as declared
use Rattle.script_progress.specs.declared.cause.Cause.TheVariants.{NoMemory}
use Rattle.script_progress.specs.Fault.{Cause, fetch_fault}
use Rattle.script_progress.specs.Fault.Cause.{no_module}
use Rattle.script_progress.specs.InMemory.{cause_of}
use Rattle.script_progress.specs.Script.{fetched_of}
use Rattle.script_progress.specs.Steps.{IsCause}
use Rattle.script_progress.specs.Stops.{fetch_asks}
use Rattle.relup_exec.specs.Steps.{Fetches}
use Rattle.relup_exec.proofs.RowLemmas.{more, parted}
use Rattle.relup_exec.proofs.StepLemmas.{fetched_push}
use Rattle.relup_exec.proofs.fetch.fetch_all.Goals as goal

-- a fetch of a module asks for memory
one_asks : (l : Library) (front : List (List ℕ)) (name : List ℕ) (rest : List (List ℕ)) → fetch_asks (Some l) (front ++ (name ∷ rest)) ≡ true
one_asks l [] name rest = refl
one_asks l (n ∷ front) name rest = refl

no_memory_left : {X : Type 0} (l : Library) (names : List (List ℕ)) (ms ms' : NamedModules) (r : Result X declared.Cause) → fetch_asks (Some l) names ≡ true → IsErrAnd r (λ k. k ≡ NoMemory)
    → Fetches (Some l) names ms r ms'
no_memory_left l names ms ms' (Ok x) asks passed = absurd passed
no_memory_left l names ms ms' (Err k) asks passed = (subst (λ (c : declared.Cause). IsCause (fetch_fault (Some l) names) (cause_of c)) (sym passed) tt, λ _. asks)

pub returns-then-not-branch : goal.returns-then-not-branch
returns-then-not-branch c =
    let l = shared_of c.args.library.now in
    let test : List ℕ → Bool = λ n. is_some (library_modules l n) in
    let so_far = map string_bytes (take c.loop-name.name-index c.args.names.now) in
    let name = string_bytes c.name-item.result in
    let rest = map string_bytes (drop (c.loop-name.name-index + 1) c.args.names.now) in
    let lacks : test name ≡ false = ap test (sym c.as_str.ensures.value) ∙ (sym c.in_ok-load.ensures.there ∙ c.if-not-branch.true) in
    let none : list_all test (map string_bytes c.args.names.now) ≡ false =
    ap (list_all test) (parted string_bytes c.args.names.now c.loop-name.name-index c.name-item.result c.loop-name-test.true c.name-item.is)
    ∙ (list_all-append test so_far (name ∷ rest) ∙ (λ j. c.loop-name.invariant.0 j && (lacks j && list_all test rest))) in
    let fault : Bool → Option Cause = λ b. if b then None else Some no_module in (
      ap fault none,
      λ memory. absurd (true≢false (sym memory)),
    )

pub returns-in_err-load : goal.returns-in_err-load
returns-in_err-load c =
    let l = shared_of c.args.library.now in
    let asks : fetch_asks (Some l) (map string_bytes c.args.names.now) ≡ true =
    ap (fetch_asks (Some l)) (parted string_bytes c.args.names.now c.loop-name.name-index c.name-item.result c.loop-name-test.true c.name-item.is)
    ∙ one_asks l (map string_bytes (take c.loop-name.name-index c.args.names.now)) (string_bytes c.name-item.result) (map string_bytes (drop (c.loop-name.name-index + 1) c.args.names.now)) in
    no_memory_left l (map string_bytes c.args.names.now) (listed_in c.args.fetched.now) (listed_in c.load.new.self) c.from_residual.result asks c.from_residual.ensures.1

pub loop-name-preserved : goal.loop-name-preserved
loop-name-preserved c =
    let l = shared_of c.args.library.now in
    let test : List ℕ → Bool = λ n. is_some (library_modules l n) in
    let so_far = map string_bytes (take c.loop-name.name-index c.args.names.now) in
    let name = string_bytes c.name-item.result in
    let grown = more string_bytes c.args.names.now c.loop-name.name-index c.name-item.result c.loop-name-test.true c.name-item.is in
    let there : test name ≡ true = ap test (sym c.as_str.ensures.value) ∙ (sym c.in_ok-load.ensures.there ∙ c.if-not-branch.false) in (
      ap (list_all test) grown ∙ (list_all-append test so_far (name ∷ []) ∙ (λ j. c.loop-name.invariant.0 j && (there j && true))),
      c.in_ok-load.ensures.loaded
          ∙ (ap (λ (n : List ℕ). with_loaded (library_modules l n) n (listed_in c.loop-name.fetched)) c.as_str.ensures.value
          ∙ (ap (λ (ms : NamedModules). with_loaded (library_modules l name) name ms) c.loop-name.invariant.1
          ∙ (sym (fetched_push l so_far name (listed_in c.args.fetched.now)) ∙ ap (λ (ns : List (List ℕ)). fetched_of l ns (listed_in c.args.fetched.now)) (sym grown)))),
    )

pub returns : goal.returns
returns c =
    let l = shared_of c.args.library.now in
    let whole : map string_bytes (take c.loop-name.name-index c.args.names.now) ≡ map string_bytes c.args.names.now = ap (map string_bytes) (take_all c.loop-name.name-index c.args.names.now c.loop-name-test.false) in
    let fault : Bool → Option Cause = λ b. if b then None else Some no_module in (
      ap fault (ap (list_all (λ n. is_some (library_modules l n))) (sym whole) ∙ c.loop-name.invariant.0),
      c.loop-name.invariant.1 ∙ ap (λ (ns : List (List ℕ)). fetched_of l ns (listed_in c.args.fetched.now)) whole,
    )
