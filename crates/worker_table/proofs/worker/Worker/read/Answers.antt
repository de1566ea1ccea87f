use Rattle.std.proofs.Common.{Some, string_bytes, ap, ◌∙◌}
use Rattle.erl_term.specs.Value.{members_of}
use Rattle.worker_table.proofs.HeadedLemmas.{worker_read}
use Rattle.worker_table.proofs.worker.Worker.read.Goals as goal

pub returns : goal.returns
returns c =
    worker_read (members_of c.args.members.now) _ (string_bytes c.in_ok-from_str.field-0) (string_bytes c.in-Some-2.vsn) c.in-Some-number_in.first _ c.in_ok-rows-2.rows
    c.in-Some.ensures (ap Some c.in_ok-from_str.ensures.ok ∙ c.in-Some-name_in.ensures) (rw c.in-Some-2.is at c.in_ok-vsn.ensures) c.in-Some-number_in.ensures
    c.in-Some-list_in.ensures (ap Some c.in_ok-rows-2.ensures ∙ rw c.in-Some-3.is at c.in_ok-rows.ensures)
