use Rattle.std.proofs.Common.{true, ◌++◌, sym, ap, ◌∙◌}
use Rattle.std.specs.List.{filter}
use Rattle.loaded_modules.specs.Loaded.{NamedModules, listed_in}
use Rattle.relup_exec.specs.Outcome.{began_at}
use Rattle.node_upgrade.specs.InMemory.{upgrade_of}
use Rattle.node_upgrade.specs.Names.{is_among, sorted_names}
use Rattle.node_upgrade.specs.Running.{start_in, state_in}
use Rattle.node_upgrade.specs.Stale.{is_stale, names_in}
use Rattle.node_upgrade.specs.Upgrade.{site_for}
use Rattle.node_upgrade.proofs.ReachLemmas.{among_through, stale_behind}
use Rattle.node_upgrade.proofs.upgrade.Upgrade.install.Goals as goal

pub returns-clause-installed : goal.returns-clause-installed
returns-clause-installed g c =
    let u = upgrade_of c.args.self in
    let old = listed_in c.args.site.now.loaded.now in
    let next = listed_in c.carry_out.new.site.loaded.now in
    let target = listed_in c.in_ok-target.target in
    let s = site_for u old in
    let done = c.in_ok-carry_out.ensures.finished in
    record {
      finished = done;
      other = c.in_ok-other.ensures.ok;
      descr = c.in_ok-descr.ensures.cases;
      stale = c.keep_stale.ensures
          ∙ (ap (filter (is_stale next target)) c.in_ok-stale.ensures
          ∙ (stale_behind old next target u.found.script (λ q there.
          among_through s true done.reported u.found.script (began_at s (start_in (state_in c.args.site.now))) q (ap (λ (ms : NamedModules). is_among q (names_in ms)) (sym done.loaded_is) ∙ there))
          ∙ ap (λ (ms : NamedModules). sorted_names (filter (is_stale next ms) (names_in next ++ names_in ms))) c.in_ok-target.ensures.listed));
    }
