use Rattle.std.proofs.Common.{◌∙◌, Some, ap, sym}
use Rattle.std.specs.Option.{option_map}
use Rattle.started_members.specs.Looks.{process_stays}
use Rattle.held_processes.proofs.ChildLemmas.{reports_stay}
use Rattle.held_processes.proofs.processes.HeldProcesses.held_stays.Goals as goal

pub returns : goal.returns
returns c =
    reports_stay c.args.kept c.args.pid c.args.self.now (Some c.keeps.result)
    (ap (λ b. Some b) c.keeps.ensures ∙ ap (option_map (process_stays c.args.kept c.args.pid)) (sym (ap (option_map (λ x. x.now)) c.in_ok-value.was) ∙ c.held_value.ensures))
