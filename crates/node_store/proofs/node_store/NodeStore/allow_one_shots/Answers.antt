use Rattle.std.proofs.Common.{true}
use Rattle.node_store.proofs.Commits.{opened}
use Rattle.node_store.proofs.FormatLemmas.{failed_by_device, ready_in_format_2, reformats}
use Rattle.node_store.proofs.node_store.NodeStore.allow_one_shots.Goals as goal

-- the device failed
pub returns-then-is_err-clause-reformats : goal.returns-then-is_err-clause-reformats
returns-then-is_err-clause-reformats g c =
    let e = c.to_format_2.ensures in
    let works = c.requires.store.works in
    reformats g.D.Disk c.args.self.now c.requires c.to_format_2.new.self true e.records e.base e.end (e.any_moment works) (e.others works) e.counted

pub returns-then-is_err-clause-failed : goal.returns-then-is_err-clause-failed
returns-then-is_err-clause-failed g c =
    failed_by_device g.D.Disk.failures c.args.self.now.store c.to_format_2.new.self c.to_format_2.result c.if-is_err.ensures.value c.to_format_2.ensures.refused c.requires.store.works

-- it is of format 2
pub returns-clause-reformats : goal.returns-clause-reformats
returns-clause-reformats g c =
    let h = c.args.self.now in
    let e = c.to_format_2.ensures in
    let works = c.requires.store.works in
    reformats g.D.Disk h c.requires c.to_format_2.new.self h.dead e.records e.base e.end (e.any_moment works) (e.others works) e.counted

pub returns-clause-ready : goal.returns-clause-ready
returns-clause-ready g c =
    let h = c.args.self.now in
    let e = c.to_format_2.ensures in
    ready_in_format_2 g.D.Disk h c.requires c.to_format_2.new.self h.dead e.records e.base e.end (opened c.to_format_2.result _ c.if-is_err.ensures.value e.settled) (opened c.to_format_2.result _ c.if-is_err.ensures.value e.format)

pub returns-clause-start : goal.returns-clause-start
returns-clause-start g c = opened c.to_format_2.result _ c.if-is_err.ensures.value c.to_format_2.ensures.start

pub returns-clause-format : goal.returns-clause-format
returns-clause-format g c = opened c.to_format_2.result _ c.if-is_err.ensures.value c.to_format_2.ensures.format
