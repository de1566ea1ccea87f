use Rattle.std.proofs.Common.{Some, None, ◌∙◌}
use Rattle.node_upgrade.proofs.StaleLemmas.{there_alone, versions_are}
use Rattle.node_upgrade.proofs.stale.is_stale.Goals as goal

pub returns-in-Some-vsn : goal.returns-in-Some-vsn
returns-in-Some-vsn c =
    let reported = versions_are c.args.loaded.now c.args.target.now c.args.name.now _ _ c.in-Some.ensures c.in-Some-vsn.ensures in
    c.ne.ensures ∙ reported

pub returns-in-None-vsn : goal.returns-in-None-vsn
returns-in-None-vsn c = versions_are c.args.loaded.now c.args.target.now c.args.name.now (Some c.in-Some.vsn.now) None c.in-Some.ensures c.in-None-vsn.ensures

pub returns-in-None : goal.returns-in-None
returns-in-None c =
    c.is_some.ensures ∙ (there_alone c.vsn-in-None.result ∙ versions_are c.args.loaded.now c.args.target.now c.args.name.now None _ c.in-None.ensures c.vsn-in-None.ensures)
