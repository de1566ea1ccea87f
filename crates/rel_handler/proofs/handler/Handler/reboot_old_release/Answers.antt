use Rattle.std.proofs.Common.{Err, refl, rules, inr, ap, subst}
use Rattle.rel_list.specs.Event.Event.{reboot_old}
use Rattle.node_command.specs.Taking.{change_size}
use Rattle.node_command.specs.declared.error.HandlerError.TheVariants.{Dead, NoMemory}
use Rattle.node_store.specs.Commands.{CommitsChange}
use Rattle.node_store.specs.State.{list_in}
use Rattle.node_store.proofs.Commits.{all_same}
use Rattle.node_store.proofs.CommandAnswers.{refused_at_once}
use Rattle.rel_handler.proofs.handler.Handler.reboot_old_release.Goals as goal

-- nothing was done yet
pub returns-then-self : goal.returns-then-self
returns-then-self g c =
    rw (← c.self.view_is)
    (let h = c.self.inside.node in
    let e = reboot_old c.args.vsn.now in
    refused_at_once g.D.Disk h (rw (← c.self.view_is) at c.requires) (g.met.D.Disk.only_now _) e (change_size e (list_in h)) (Err Dead) Dead (search rules, refl) (c.if-self.true, all_same h))

pub returns-in_err-from_str : goal.returns-in_err-from_str
returns-in_err-from_str g c =
    rw (← c.self.view_is)
    (let h = c.self.inside.node in
    let e = reboot_old c.args.vsn.now in
    refused_at_once g.D.Disk h (rw (← c.self.view_is) at c.requires) (g.met.D.Disk.only_now _) e (change_size e (list_in h)) c.from_residual.result NoMemory c.from_residual.ensures (c.if-self.false, all_same h))

pub move_permanent-requires-clause-moves : goal.move_permanent-requires-clause-moves
move_permanent-requires-clause-moves g c = inr (ap reboot_old c.in_ok-from_str.ensures.ok)

-- the move was committed, or refused
pub returns : goal.returns
returns g c =
    rw (← c.self.view_is)
    (subst (λ vsn. CommitsChange g.D.Disk (reboot_old vsn) c.move_permanent.result c.self.inside.node c.move_permanent.new.self) c.in_ok-from_str.ensures.ok c.move_permanent.ensures)
