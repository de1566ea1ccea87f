use Rattle.std.proofs.Common.{Bool, Result, sym, subst}
use Rattle.relup_instruction.specs.declared.instruction.Instr.{Instr}
use Rattle.relup_instruction.specs.Instruction.{instruction_of, purging_of}
use Rattle.relup_instruction.specs.Instruction.Instruction.{remove}
use Rattle.script_progress.specs.declared.cause.Failure.{Failure}
use Rattle.script_progress.specs.InMemory.{site_of}
use Rattle.script_progress.specs.Steps.{CarriesOutLate, GoesByLooks, progress_of}
use Rattle.relup_exec.proofs.FailLemmas.{goes_by_none, late_of, no_look}
use Rattle.relup_exec.proofs.late.carry_out_late.Goals as goal

pub returns-in_default-clause-carried : goal.returns-in_default-clause-carried
returns-in_default-clause-carried g c =
    let s = site_of c.args.sources.now in
    let i = instruction_of c.args.instr.now in
    let w = c.carry_out_other.new in
    subst (λ (r : Result Bool Failure). CarriesOutLate s g.past i r (progress_of w.progress) w.progress.tree c.args.access.now w.access) (sym c.on_no_child-in_default.ensures)
    (late_of s g.past i c.carry_out_other.result (progress_of w.progress) w.progress.tree c.args.access.now w.access c.carry_out_other.ensures.longer c.carry_out_other.ensures.carried)

pub returns-in_default-clause-looked : goal.returns-in_default-clause-looked
returns-in_default-clause-looked g c =
    let i = instruction_of c.args.instr.now in
    let v = c.args.access.now in
    let w = c.carry_out_other.new.access in
    subst (λ (r : Result Bool Failure). GoesByLooks g.past i r v w) (sym c.on_no_child-in_default.ensures) (goes_by_none g.past i c.carry_out_other.result v w (no_look c.args.instr.now c.in_default.not-Apply c.in_default.not-Remove))

pub returns-in-Remove-clause-carried : goal.returns-in-Remove-clause-carried
returns-in-Remove-clause-carried g c =
    let s = site_of c.args.sources.now in
    let i = remove (purging_of c.in-Remove.purging) in
    let v = c.args.access.now in
    let w = c.remove.new in
    subst (λ (x : Instr). CarriesOutLate s g.past (instruction_of x) c.on_no_child.result (progress_of w.progress) w.progress.tree v w.access) (sym c.in-Remove.is)
    (subst (λ (r : Result Bool Failure). CarriesOutLate s g.past i r (progress_of w.progress) w.progress.tree v w.access) (sym c.on_no_child.ensures)
    (late_of s g.past i c.remove.result (progress_of w.progress) w.progress.tree v w.access c.remove.ensures.longer (c.remove.ensures.carried s)))

pub returns-in-Remove-clause-looked : goal.returns-in-Remove-clause-looked
returns-in-Remove-clause-looked g c =
    let i = remove (purging_of c.in-Remove.purging) in
    let v = c.args.access.now in
    let w = c.remove.new.access in
    subst (λ (x : Instr). GoesByLooks g.past (instruction_of x) c.on_no_child.result v w) (sym c.in-Remove.is)
    (subst (λ (r : Result Bool Failure). GoesByLooks g.past i r v w) (sym c.on_no_child.ensures) c.remove.ensures.looked)
