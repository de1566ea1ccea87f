use Rattle.std.proofs.Common.{◌∙◌, sym, refl}
use Rattle.started_members.specs.declared.looks.Stay.TheVariants.{Up}
use Rattle.sup_tree.specs.Children.{child_place}
use Rattle.held_processes.proofs.ChildLemmas.{deletes_in, held_on, reported_not}
use Rattle.held_processes.proofs.LongerLemmas.{delete_longer}
use Rattle.held_processes.proofs.SlotLemmas.{longer_both}
use Rattle.held_processes.proofs.processes.HeldProcesses.delete_child.Goals as goal

pub returns-in-Stays-clause-deleted : goal.returns-in-Stays-clause-deleted
returns-in-Stays-clause-deleted g c =
    let o = child_place c.args.child.now.supervisor.now c.args.child.now.id.now c.args.tree.now in
    let w = c.end_held.new.access in
    let is = held_on g.followed.first Up g.followed.courses o c.args.self.now c.end_held.new.self c.args.access.now w c.requires.1.1 (c.in-Stays.ensures.ended o c.child_members-members.ensures)
    c.in-Stays.ensures.longer in
    record { one = sym c.has_one_supervisor.ensures ∙ c.if-not-has_one_supervisor.false; stay = is.stay_is; tree = refl; follow = is.follow }

pub returns : goal.returns
returns g c =
    let name = c.args.child.now.supervisor.now in
    let id = c.args.child.now.id.now in
    let apps = c.args.tree.now in
    record {
      deleted = deletes_in g.followed c.args.self.now c.end_held.new.self c.args.access.now c.end_held.new.access apps name id c.end_held.result c.delete_child.result c.delete_child.new.self
          c.delete_child.new.access (reported_not c.end_held.result c.in_default.not-Stays) (sym c.has_one_supervisor.ensures ∙ c.if-not-has_one_supervisor.false) c.requires.1.1
          (c.end_held.ensures.ended (child_place name id apps) c.child_members-members.ensures) c.end_held.ensures.longer c.delete_child.ensures.deleted;
      longer = longer_both c.args.access.now c.end_held.new.access c.delete_child.new.access c.end_held.ensures.longer
          (delete_longer name id apps c.end_held.new.access c.delete_child.result c.delete_child.new.self c.delete_child.new.access c.delete_child.ensures.deleted);
    }
