use Rattle.relup_instruction.specs.Instruction.{instruction_of}
use Rattle.relup_instruction.specs.Form.{instruction_term}
use Rattle.rel_files.proofs.TermRows.{terms_more, terms_all}
use Rattle.relup_file.proofs.printer.script_term.Goals as goal

pub loop-instr-preserved : goal.loop-instr-preserved
loop-instr-preserved c =
    terms_more instruction_of instruction_term c.args.script.now c.loop-instr.instr-index c.instr-item.result c.loop-instr.terms.items c.push.new.self.items c.in_ok-instruction_term.field-0
    c.loop-instr-test.true c.instr-item.is c.in_ok-instruction_term.ensures c.in_ok-push.ensures.items c.loop-instr.invariant

pub returns : goal.returns
returns c = terms_all instruction_of instruction_term c.args.script.now c.loop-instr.instr-index c.loop-instr.terms c.loop-instr-test.false c.loop-instr.invariant
