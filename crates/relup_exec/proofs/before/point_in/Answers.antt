use Rattle.std.proofs.Common.{◌≡◌, ◌+◌, ◌∙◌, ◌∷◌, ◌++◌, take, drop, sym, ap, subst, arith}
use Rattle.std.proofs.lemmas.List.{length-map, length-take-le, take_all}
use Rattle.std.specs.List.{AllByRecursion}
use Rattle.relup_instruction.specs.Instruction.{Instruction, instruction_of, script_of}
use Rattle.relup_instruction.specs.Instruction.Instruction.{point_of_no_return}
use Rattle.script_progress.specs.Steps.{IsEarly}
use Rattle.relup_exec.proofs.RowLemmas.{all_push, more, parted}
use Rattle.relup_file.proofs.ScriptLemmas.{are_early, are_late, the_point}
use Rattle.relup_exec.proofs.RunLemmas.{late_behind, next_is_early, not_all_early}
use Rattle.relup_exec.proofs.before.point_in.Goals as goal

pub returns-then-is_point : goal.returns-then-is_point
returns-then-is_point c =
    let script = c.args.script.now in
    let front = script_of (take c.loop-i.i script) in
    let rest = script_of (drop (c.loop-i.i + 1) script) in
    let point = the_point (instruction_of c.index-script-i.result) (sym c.is_point.ensures ∙ c.if-is_point.true) in
    let is : script_of script ≡ front ++ (point_of_no_return ∷ rest) =
    parted instruction_of script c.loop-i.i c.index-script-i.result c.loop-i-test.true c.index-script-i.is ∙ ap (λ (i : Instruction). front ++ (i ∷ rest)) point in
    record {
      front = front;
      rest = rest;
      is = is;
      early = c.loop-i.invariant;
      late = late_behind c.requires.before c.requires.after front rest (are_early c.requires.before c.requires.early) (are_late c.requires.after c.requires.late) c.loop-i.invariant (sym c.requires.is ∙ is);
      place_is = sym (length-map (take c.loop-i.i script) instruction_of ∙ length-take-le c.loop-i.i script (omega (arith, c.loop-i-test.true)));
    }

pub loop-i-preserved : goal.loop-i-preserved
loop-i-preserved c =
    let script = c.args.script.now in
    let front = script_of (take c.loop-i.i script) in
    let i = instruction_of c.index-script-i.result in
    let parts = parted instruction_of script c.loop-i.i c.index-script-i.result c.loop-i-test.true c.index-script-i.is in
    let early = next_is_early (script_of script) c.requires front i (script_of (drop (c.loop-i.i + 1) script)) parts c.loop-i.invariant (sym c.is_point.ensures ∙ c.if-is_point.false) in
    subst (AllByRecursion IsEarly) (sym (more instruction_of script c.loop-i.i c.index-script-i.result c.loop-i-test.true c.index-script-i.is)) (all_push IsEarly front i c.loop-i.invariant early)

pub unreachable-requires : goal.unreachable-requires
unreachable-requires c =
    let script = c.args.script.now in
    not_all_early (script_of script) c.requires (subst (λ is. AllByRecursion IsEarly (script_of is)) (take_all c.loop-i.i script c.loop-i-test.false) c.loop-i.invariant)
