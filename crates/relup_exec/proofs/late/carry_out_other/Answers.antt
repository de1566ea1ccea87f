use Rattle.std.proofs.Common.{List, Ok, String, ap, false, map, string_bytes, subst, sym}
use Rattle.std.specs.declared.alloc.Global.{Global}
use Rattle.relup_instruction.specs.declared.instruction.Instr.{Instr}
use Rattle.relup_instruction.specs.Instruction.{instruction_of}
use Rattle.relup_instruction.specs.Instruction.Instruction.{resume, start, stop}
use Rattle.script_progress.specs.InMemory.{site_of}
use Rattle.script_progress.specs.Steps.{CarriesOut, progress_of}
use Rattle.relup_exec.proofs.PlainLemmas.{is_idle, nothing_done}
use Rattle.relup_exec.proofs.late.carry_out_other.Goals as goal

pub returns-in-Purge-clause-carried : goal.returns-in-Purge-clause-carried
returns-in-Purge-clause-carried g c =
    nothing_done (site_of c.args.sources.now) g.past (instruction_of c.args.instr.now) (progress_of c.args.progress.now) c.args.progress.now.tree c.args.access.now
    (ap (λ i. is_idle (instruction_of i)) c.in-Purge.is) c.requires.1.1.1.1

pub returns-in-RestartEmulator-clause-carried : goal.returns-in-RestartEmulator-clause-carried
returns-in-RestartEmulator-clause-carried g c =
    nothing_done (site_of c.args.sources.now) g.past (instruction_of c.args.instr.now) (progress_of c.args.progress.now) c.args.progress.now.tree c.args.access.now
    (ap (λ i. is_idle (instruction_of i)) c.in-RestartEmulator.is) c.requires.1.1.1.1

pub returns-in-Resume-clause-carried : goal.returns-in-Resume-clause-carried
returns-in-Resume-clause-carried g c =
    let s = site_of c.args.sources.now in
    let w = c.do_plain.new in
    let carried = subst (λ (ns : List (String Global)). CarriesOut {X = Unit {0}} s g.past false (resume (map string_bytes ns)) (Ok tt) (progress_of w.progress) w.progress.tree c.args.access.now w.access) c.deref-in-Resume.ensures.value
    (c.do_plain.ensures.carried s) in
    subst (λ (x : Instr). CarriesOut {X = Unit {0}} s g.past false (instruction_of x) (Ok tt) (progress_of w.progress) w.progress.tree c.args.access.now w.access) (sym c.in-Resume.is) carried

pub returns-in-Stop-clause-carried : goal.returns-in-Stop-clause-carried
returns-in-Stop-clause-carried g c =
    let s = site_of c.args.sources.now in
    let w = c.do_plain-in-Stop.new in
    let carried = subst (λ (ns : List (String Global)). CarriesOut {X = Unit {0}} s g.past false (stop (map string_bytes ns)) (Ok tt) (progress_of w.progress) w.progress.tree c.args.access.now w.access) c.deref-in-Stop.ensures.value
    (c.do_plain-in-Stop.ensures.carried s) in
    subst (λ (x : Instr). CarriesOut {X = Unit {0}} s g.past false (instruction_of x) (Ok tt) (progress_of w.progress) w.progress.tree c.args.access.now w.access) (sym c.in-Stop.is) carried

pub returns-in-Start-clause-carried : goal.returns-in-Start-clause-carried
returns-in-Start-clause-carried g c =
    let s = site_of c.args.sources.now in
    let w = c.do_plain-in-Start.new in
    let carried = subst (λ (ns : List (String Global)). CarriesOut {X = Unit {0}} s g.past false (start (map string_bytes ns)) (Ok tt) (progress_of w.progress) w.progress.tree c.args.access.now w.access) c.deref-in-Start.ensures.value
    (c.do_plain-in-Start.ensures.carried s) in
    subst (λ (x : Instr). CarriesOut {X = Unit {0}} s g.past false (instruction_of x) (Ok tt) (progress_of w.progress) w.progress.tree c.args.access.now w.access) (sym c.in-Start.is) carried
