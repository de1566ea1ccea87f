use Rattle.std.proofs.Common.{◌≡◌, ℕ, ◌<◌, [], true, false, Err, ◌+◌, ◌∙◌, ◌∷◌, ◌++◌, List, length, take, drop, sym, ap, subst, subst₂, refl, arith}
use Rattle.std.proofs.lemmas.List.{length-map, length-take-le, take_all}
use Rattle.std.specs.List.{AllByRecursion}
use Rattle.relup_instruction.specs.declared.instruction.Instr.{Instr}
use Rattle.relup_instruction.specs.Instruction.{Instruction, instruction_of, script_of}
use Rattle.script_progress.specs.InMemory.{site_of}
use Rattle.relup_exec.specs.Outcome.{Ran, began_at, past_behind}
use Rattle.script_progress.specs.Script.{Site}
use Rattle.script_progress.specs.Steps.{CarriesOut, HasDone, IsCarriedOut, IsEarly, Past, progress_of}
use Rattle.relup_exec.proofs.OutcomeLemmas.{run_more_early}
use Rattle.relup_exec.proofs.RunLemmas.{ran_later, still_before}
use Rattle.relup_exec.proofs.RowLemmas.{all_front, all_middle, more, parted}
use Rattle.relup_exec.proofs.before.run_early.Goals as goal

pub loop-i-init : goal.loop-i-init
loop-i-init g c = (
  c.requires.1.1.1.0,
  record { sources = refl; script = refl },
  refl,
  (refl, c.requires.1.1.1.1.1.0),
  c.requires.1.1.1.1.0,
)

pub next_early-done-requires : goal.next_early-done-requires
next_early-done-requires g c =
    let instrs = c.args.run.now.script.now in
    let so_far = script_of (take c.loop-i.i instrs) in
    let i = instruction_of c.index-script-i.result in
    let parts = parted instruction_of instrs c.loop-i.i c.index-script-i.result c.loop-i-test.true c.index-script-i.is in
    let early : IsEarly i = all_middle IsEarly so_far i (script_of (drop (c.loop-i.i + 1) instrs)) (subst (AllByRecursion IsEarly) parts c.requires.1.1.0) in
    let counted = c.loop-i.invariant.0 in
    let same = c.loop-i.invariant.1 in
    let inside = subst₂ (λ (n : ℕ) (is : List Instr). n < length is) (sym counted) (sym same.script) c.loop-i-test.true in
    let past : past_behind (site_of c.loop-i.run.sources.now) g.start [] (script_of (take c.loop-i.run.done c.loop-i.run.script.now)) ≡ past_behind (site_of c.args.run.now.sources.now) g.start [] so_far =
    λ j. past_behind (site_of (same.sources j)) g.start [] (script_of (take (counted j) (same.script j))) in
    let done = subst (λ (p : Past). HasDone p (progress_of c.loop-i.run.progress) c.loop-i.run.progress.tree c.loop-i.access) (sym past) c.loop-i.invariant.4 in
    λ κs live. (live.0, (live.1, (early, (inside, done))))

pub returns-in-Err-clause-reported : goal.returns-in-Err-clause-reported
returns-in-Err-clause-reported g c = c.next_early-done.ensures.reported ∙ c.loop-i.invariant.2

pub returns-in-Err-clause-ran : goal.returns-in-Err-clause-ran
returns-in-Err-clause-ran g c =
    let instrs = c.args.run.now.script.now in
    let s = site_of c.args.run.now.sources.now in
    let so_far = script_of (take c.loop-i.i instrs) in
    let i = instruction_of c.index-script-i.result in
    let parts = parted instruction_of instrs c.loop-i.i c.index-script-i.result c.loop-i-test.true c.index-script-i.is in
    let long : length so_far ≡ c.loop-i.i = length-map (take c.loop-i.i instrs) instruction_of ∙ length-take-le c.loop-i.i instrs (omega (arith, c.loop-i-test.true)) in
    let counted = c.loop-i.invariant.0 in
    let same = c.loop-i.invariant.1 in
    let w = c.next_early-done.new in
    let past : past_behind (site_of c.loop-i.run.sources.now) g.start [] (script_of (take c.loop-i.run.done c.loop-i.run.script.now)) ≡ past_behind s g.start [] so_far =
    λ j. past_behind (site_of (same.sources j)) g.start [] (script_of (take (counted j) (same.script j))) in
    let carried = subst₂ (λ (x : Site) (p : Past). CarriesOut {X = Unit {0}} x p true i (Err c.in-Err.field-0) (progress_of w.self.progress) w.self.progress.tree c.loop-i.access w.access) (λ j. site_of (same.sources j)) past c.in-Err.ensures.carried in
    record {
      front = so_far;
      instruction = i;
      at = record { rest = script_of (drop (c.loop-i.i + 1) instrs); is = parts; counted = ap (λ n. n + 1) (sym long) };
      ran = ran_later s g.start.first g.start.first c.loop-i.access w.access true [] so_far (began_at s g.start) c.next_early-done.ensures.longer c.loop-i.invariant.3;
      fails = carried.0;
      asks = carried.1.0;
      modules = c.in-Err.field-0.modules;
      slot = c.in-Err.field-0.slot;
      partly = carried.2;
    }

pub loop-i-preserved : goal.loop-i-preserved
loop-i-preserved g c =
    let instrs = c.args.run.now.script.now in
    let s = site_of c.args.run.now.sources.now in
    let so_far = script_of (take c.loop-i.i instrs) in
    let i = instruction_of c.index-script-i.result in
    let parts = parted instruction_of instrs c.loop-i.i c.index-script-i.result c.loop-i-test.true c.index-script-i.is in
    let rest = script_of (drop (c.loop-i.i + 1) instrs) in
    let all : AllByRecursion IsEarly (so_far ++ i ∷ rest) = subst (AllByRecursion IsEarly) parts c.requires.1.1.0 in
    let early : AllByRecursion IsEarly so_far = all_front IsEarly so_far (i ∷ rest) all in
    let grown = more instruction_of instrs c.loop-i.i c.index-script-i.result c.loop-i-test.true c.index-script-i.is in
    let counted = c.loop-i.invariant.0 in
    let same = c.loop-i.invariant.1 in
    let w = c.next_early-done.new in
    let past : past_behind (site_of c.loop-i.run.sources.now) g.start [] (script_of (take c.loop-i.run.done c.loop-i.run.script.now)) ≡ past_behind s g.start [] so_far =
    λ j. past_behind (site_of (same.sources j)) g.start [] (script_of (take (counted j) (same.script j))) in
    let carried = subst₂ (λ (x : Site) (p : Past). IsCarriedOut x p true false i (progress_of w.self.progress) w.self.progress.tree c.loop-i.access w.access) (λ j. site_of (same.sources j)) past c.in_default.ensures.carried in
    let done = run_more_early s g.start so_far i (progress_of w.self.progress) w.self.progress.tree c.loop-i.access w.access (still_before so_far early) (all_middle IsEarly so_far i rest all)
    c.loop-i.invariant.3 carried in (
      c.in_default.ensures.counted ∙ ap (λ n. n + 1) counted,
      record { sources = c.next_early-done.ensures.same.sources ∙ same.sources; script = c.next_early-done.ensures.same.script ∙ same.script },
      c.next_early-done.ensures.reported ∙ c.loop-i.invariant.2,
      subst (Ran s g.start w.access []) (sym grown) done.0,
      subst (λ (is : List Instruction). HasDone (past_behind s g.start [] is) (progress_of w.self.progress) w.self.progress.tree w.access) (sym grown) done.1,
    )

pub returns-clause-reported : goal.returns-clause-reported
returns-clause-reported g c = c.loop-i.invariant.2

pub returns-clause-ran : goal.returns-clause-ran
returns-clause-ran g c =
    let s = site_of c.args.run.now.sources.now in
    let instrs = c.args.run.now.script.now in
    let whole : script_of (take c.loop-i.i instrs) ≡ script_of instrs = ap script_of (take_all c.loop-i.i instrs c.loop-i-test.false) in (
      subst (Ran s g.start c.loop-i.access []) whole c.loop-i.invariant.3,
      subst (λ (is : List Instruction). HasDone (past_behind s g.start [] is) (progress_of c.loop-i.run.progress) c.loop-i.run.progress.tree c.loop-i.access) whole c.loop-i.invariant.4,
    )
