use Rattle.std.proofs.Common.{◌∙◌, Bool, Err, Ok, refl, subst, sym}
use Rattle.sup_tree.specs.Loaded.{modules_in, tables_of}
use Rattle.started_members.specs.declared.looks.Stay.TheVariants.{UpOrTemporary}
use Rattle.sup_tree.specs.Children.{child_place}
use Rattle.held_processes.specs.Applications.{scene_at}
use Rattle.held_processes.specs.Restarts.{RestartsIn}
use Rattle.held_processes.proofs.ChildLemmas.{held_on, reported_not}
use Rattle.held_processes.proofs.LongerLemmas.{restart_longer}
use Rattle.held_processes.proofs.RestartLemmas.{restarts_in}
use Rattle.held_processes.proofs.SlotLemmas.{longer_both}
use Rattle.held_processes.proofs.processes.HeldProcesses.restart_child.Goals as goal

pub returns-in-Stays-clause-restarted : goal.returns-in-Stays-clause-restarted
returns-in-Stays-clause-restarted g c =
    let o = child_place c.args.child.now.supervisor.now c.args.child.now.id.now c.args.tree.now in
    let w = c.end_held-end.new.access in
    let is = held_on g.followed.first UpOrTemporary g.followed.courses o c.args.self.now c.end_held-end.new.self c.args.access.now w c.requires.1.1
    (c.in-Stays.ensures.ended o c.child_members-members.ensures) c.in-Stays.ensures.longer in
    record { one = sym c.has_one_supervisor.ensures ∙ c.if-not-has_one_supervisor.false; stay = is.stay_is; tree = refl; follow = is.follow }

pub returns-in-Ok : goal.returns-in-Ok
returns-in-Ok g c =
    let name = c.args.child.now.supervisor.now in
    let id = c.args.child.now.id.now in
    let apps = c.args.tree.now in
    let end = c.end_held-end in
    record {
      restarted = restarts_in g.followed c.args.self.now end.new.self c.args.access.now end.new.access c.restart_child.new.access apps c.restart_child.new.self name id
          (tables_of (modules_in c.args.loaded.now)) end.result (reported_not end.result c.in_default.not-Stays) (sym c.has_one_supervisor.ensures ∙ c.if-not-has_one_supervisor.false) c.requires.1.1
          c.knows.ensures.known.known.legal end.ensures.longer (Ok c.in-Ok.stays) (end.ensures.ended (child_place name id apps) c.child_members-members.ensures) c.in-Ok.ensures.restarted;
      longer = longer_both c.args.access.now end.new.access c.restart_child.new.access end.ensures.longer
          (restart_longer name id (tables_of (modules_in c.args.loaded.now)) apps end.new.access (Ok c.in-Ok.stays) c.restart_child.new.self c.restart_child.new.access c.in-Ok.ensures.restarted);
    }

pub returns-in-Err : goal.returns-in-Err
returns-in-Err g c =
    let name = c.args.child.now.supervisor.now in
    let id = c.args.child.now.id.now in
    let apps = c.args.tree.now in
    let end = c.end_held-end in
    let w = c.restart_child.new in
    let tables = tables_of (modules_in c.args.loaded.now) in
    record {
      restarted = subst (λ (b : Bool). RestartsIn g.followed.first name id tables (scene_at g.followed apps) (Err (record { error = c.in-Err.error; given_up = b })) w.self end.new.self c.args.access.now w.access) (sym c.was_given_up-given_up.ensures)
          (restarts_in g.followed c.args.self.now end.new.self c.args.access.now end.new.access w.access apps w.self name id tables end.result (reported_not end.result c.in_default.not-Stays)
          (sym c.has_one_supervisor.ensures ∙ c.if-not-has_one_supervisor.false) c.requires.1.1 c.knows.ensures.known.known.legal end.ensures.longer (Err c.in-Err.error) (end.ensures.ended (child_place name id apps) c.child_members-members.ensures)
          c.in-Err.ensures.restarted);
      longer = longer_both c.args.access.now end.new.access w.access end.ensures.longer
          (restart_longer name id tables apps end.new.access (Err c.in-Err.error) w.self w.access c.in-Err.ensures.restarted);
    }
