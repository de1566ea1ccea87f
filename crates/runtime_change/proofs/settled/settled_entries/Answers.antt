use Rattle.std.proofs.Common.{◌∙◌}
use Rattle.appup_file.specs.Instruction.{entry_of}
use Rattle.relup_row.proofs.WalkLemmas.{all_made}
use Rattle.runtime_change.specs.Settled.{settled_entry}
use Rattle.runtime_change.proofs.ScriptLemmas.{twice}
use Rattle.runtime_change.proofs.settled.settled_entries.Goals as goal

pub returns : goal.returns
returns c =
    all_made entry_of (λ x. settled_entry (entry_of x)) c.args.entries.now c.loop-entry.entry-index c.loop-entry.settled.items c.loop-entry-test.false c.loop-entry.invariant
    ∙ twice entry_of settled_entry c.args.entries.now
