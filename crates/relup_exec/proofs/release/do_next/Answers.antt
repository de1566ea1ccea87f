use Rattle.std.proofs.Common.{◌∙◌, [], List, ℕ, string_bytes, subst, sym}
use Rattle.held_processes.specs.Course.{on_module}
use Rattle.held_processes.specs.Following.{AllFollow}
use Rattle.held_processes.specs.Operations.{modules_by_slot}
use Rattle.relup_exec.specs.Plain.{plain_operation}
use Rattle.relup_exec.proofs.RowLemmas.{read_at}
use Rattle.relup_exec.proofs.release.do_next.Goals as goal

pub returns-clause-done : goal.returns-clause-done
returns-clause-done g c =
    subst (λ (m : List ℕ). AllFollow g.followed.first (on_module (modules_by_slot c.args.tree.now) m (plain_operation c.args.plain) g.followed.courses) c.do_once.new.held c.do_once.new.access)
    (c.as_str-module.ensures.value ∙ sym (read_at string_bytes c.args.names.now c.args.at c.index-names-at.result [] c.requires.1.1.0 c.index-names-at.is)) c.do_once.ensures.done
