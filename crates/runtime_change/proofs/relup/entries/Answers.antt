use Rattle.std.proofs.Common.{map, refl}
use Rattle.relup_block.proofs.WalkLemmas.{one_pushed}
use Rattle.relup_file.specs.Relup.{entry_of}
use Rattle.relup_row.specs.Release.{relup_release_of}
use Rattle.runtime_change.specs.Relup.{entry_between, entries_between, RefusedAs}
use Rattle.runtime_change.proofs.EntryLemmas.{further, at_fault, passed_on}
use Rattle.runtime_change.proofs.relup.entries.Goals as goal

pub returns-in_err-entry-clause-refused : goal.returns-in_err-entry-clause-refused
returns-in_err-entry-clause-refused c =
    passed_on (RefusedAs (entries_between c.args.restart c.args.direction (relup_release_of c.args.new.now) (map relup_release_of c.args.others.now))) c.in_err-entry.field-0.0 c.from_residual-in_err-entry.result
    c.from_residual-in_err-entry.ensures.1
    (at_fault (entry_between c.args.restart c.args.direction (relup_release_of c.args.new.now)) c.args.others.now c.loop-other.other-index c.other-item.result (map entry_of c.loop-other.entries.items) _
    c.loop-other-test.true c.other-item.is c.in_err-entry.ensures.refused c.loop-other.invariant)

pub loop-other-preserved : goal.loop-other-preserved
loop-other-preserved c =
    further (entry_between c.args.restart c.args.direction (relup_release_of c.args.new.now)) c.args.others.now c.loop-other.other-index c.other-item.result
    (map entry_of c.loop-other.entries.items) (map entry_of c.push.new.self.items) _ c.loop-other-test.true c.other-item.is
    c.in_ok-entry.ensures.made (one_pushed entry_of _ _ _ _ c.in_ok-push.ensures.items refl) c.loop-other.invariant
