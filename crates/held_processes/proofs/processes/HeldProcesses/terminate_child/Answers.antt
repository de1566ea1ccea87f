use Rattle.std.proofs.Common.{List, subst, sym, ◌∙◌}
use Rattle.started_members.specs.declared.member.Member.{Member}
use Rattle.started_members.specs.Members.{pids_of, processes_among}
use Rattle.held_processes.specs.Applications.{held_ended}
use Rattle.held_processes.specs.Following.{AllFollow}
use Rattle.held_processes.proofs.ChildLemmas.{terminates_in}
use Rattle.held_processes.proofs.LongerLemmas.{terminate_longer}
use Rattle.held_processes.proofs.SlotLemmas.{longer_both}
use Rattle.held_processes.proofs.processes.HeldProcesses.terminate_child.Goals as goal

pub returns-clause-terminated : goal.returns-clause-terminated
returns-clause-terminated g c =
    terminates_in g.followed c.give_up_all.new.self c.give_up_all.new.access c.args.tree.now c.args.child.now.supervisor.now c.args.child.now.id.now c.terminate_child.result c.terminate_child.new.self c.terminate_child.new.access
    (sym c.has_one_supervisor.ensures ∙ c.if-not-has_one_supervisor.false)
    (subst (λ (ms : List Member). AllFollow g.followed.first (held_ended (pids_of (processes_among ms)) g.followed.courses) c.give_up_all.new.self c.give_up_all.new.access) c.child_members.ensures c.give_up_all.ensures.done)
    c.terminate_child.ensures.terminated

pub returns-clause-longer : goal.returns-clause-longer
returns-clause-longer g c =
    let u = c.give_up_all.new.access in
    let w = c.terminate_child.new.access in
    longer_both c.args.access.now u w c.give_up_all.ensures.longer
    (terminate_longer c.args.child.now.supervisor.now c.args.child.now.id.now c.args.tree.now u c.terminate_child.result c.terminate_child.new.self w c.terminate_child.ensures.terminated)
