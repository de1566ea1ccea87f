use Rattle.std.proofs.Common.{List, subst}
use Rattle.started_members.specs.declared.member.Member.{Member}
use Rattle.started_members.specs.Members.{pids_of, processes_among}
use Rattle.held_processes.specs.Applications.{held_ended}
use Rattle.held_processes.specs.Following.{AllFollow}
use Rattle.held_processes.proofs.ApplicationLemmas.{stops_in}
use Rattle.held_processes.proofs.LongerLemmas.{stop_longer}
use Rattle.held_processes.proofs.SlotLemmas.{longer_both}
use Rattle.held_processes.proofs.processes.HeldProcesses.stop_app.Goals as goal

pub returns-clause-stopped : goal.returns-clause-stopped
returns-clause-stopped g c =
    let given_up = subst (λ (ms : List Member). AllFollow g.followed.first (held_ended (pids_of (processes_among ms)) g.followed.courses) c.give_up_all.new.self c.give_up_all.new.access) c.members.ensures c.give_up_all.ensures.done in
    (stops_in g.followed c.give_up_all.new.self c.give_up_all.new.access c.args.tree.now c.args.app.now.name.now c.stop_app.result c.stop_app.new.self c.stop_app.new.access given_up c.stop_app.ensures.stopped).1

pub returns-clause-longer : goal.returns-clause-longer
returns-clause-longer g c =
    let u = c.give_up_all.new.access in
    let w = c.stop_app.new.access in
    longer_both c.args.access.now u w c.give_up_all.ensures.longer (stop_longer c.args.app.now.name.now c.args.tree.now u c.stop_app.result c.stop_app.new.self w c.stop_app.ensures.stopped)
