use Rattle.std.proofs.Common.{sym}
use Rattle.relup_file.specs.Search.{found_of}
use Rattle.node_upgrade.proofs.UpgradeLemmas.{begins_runnable}
use Rattle.node_upgrade.proofs.upgrade.find_upgrade.Goals as goal

pub returns-in-None-clause-found : goal.returns-in-None-clause-found
returns-in-None-clause-found c =
    let f = found_of c.in_ok-found.found in
    record {
      found = c.in_ok-found.ensures;
      is = λ j. record { found = f; releases = c.args.list.now; target = c.libraries.ensures j };
      begins = sym c.in-None.ensures;
      runnable = begins_runnable c.args.vsn.now c.args.list.now f (sym c.in-None.ensures);
    }
