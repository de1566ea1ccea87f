use Rattle.appup_file.specs.Instruction.{appup_of}
use Rattle.appup_file.specs.Search.{entries_of}
use Rattle.appup_plain.proofs.WalkLemmas.{with_entry, without_entry, at_fault, at_end}
use Rattle.appup_plain.proofs.plain.plain_entries.Goals as goal
use Rattle.appup_plain.proofs.plain.plain_entries.Goals.{in-Ok+in_ok-push_plain-in-Ok, in-Err-NoEntry}

pub loop-vsn-preserved : goal.loop-vsn-preserved
loop-vsn-preserved c =
    let es = entries_of c.args.direction (appup_of c.args.appup.now) in
    let asked = c.args.asked.now in
    let i = c.loop-vsn.vsn-index in
    elim c.match-entry_matching.branch [
      | in-Ok+in_ok-push_plain-in-Ok w ↦
          rw w.plain-is (with_entry es asked i c.vsn-item.result _ _ _ c.loop-vsn-test.true c.vsn-item.is (rw c.as_str.ensures.value at w.in-Ok.ensures.found)
          w.in_ok-push_plain-in-Ok.ensures c.loop-vsn.invariant)
      | in-Err-NoEntry w ↦
          rw w.plain-is (without_entry es asked i c.vsn-item.result _ c.loop-vsn-test.true c.vsn-item.is
          (rw (c.as_str.ensures.value, w.in-Err-NoEntry.field-0-is) at w.in-Err-NoEntry.ensures.refused) c.loop-vsn.invariant)
    ]

pub returns-in-Err-BadPattern-clause-refused : goal.returns-in-Err-BadPattern-clause-refused
returns-in-Err-BadPattern-clause-refused c =
    let e = c.in-Err-BadPattern in
    rw e.field-0-is
    (at_fault (entries_of c.args.direction (appup_of c.args.appup.now)) c.args.asked.now c.loop-vsn.vsn-index c.vsn-item.result _ e.fault e.place c.loop-vsn-test.true
    c.vsn-item.is (rw (c.as_str.ensures.value, e.field-0-is) at e.ensures.refused) c.loop-vsn.invariant)

pub returns-clause-made : goal.returns-clause-made
returns-clause-made c = at_end (entries_of c.args.direction (appup_of c.args.appup.now)) c.args.asked.now c.loop-vsn.vsn-index _ c.loop-vsn-test.false c.loop-vsn.invariant
