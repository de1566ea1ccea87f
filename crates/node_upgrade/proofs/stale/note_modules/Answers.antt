use Rattle.std.proofs.Common.{ap, ◌∙◌}
use Rattle.std.proofs.lemmas.Map.Text.{btree_map_updates_str}
use Rattle.loaded_modules.specs.Loaded.{listed_in}
use Rattle.node_upgrade.specs.Stale.{names_in}
use Rattle.node_upgrade.proofs.StaleLemmas.{first_names, names_reported, noted_with, pair_noted}
use Rattle.node_upgrade.proofs.stale.note_modules.Goals as goal

pub loop-name-init : goal.loop-name-init
loop-name-init c = λ q.
    ap (λ ns. noted_with c.args.noted.now ns q)
    (ap first_names c.as_slice-name-items.ensures.value ∙ names_reported c.in_ok-versions.versions.items (listed_in c.args.modules.now) c.in_ok-versions.ensures)

pub loop-name-preserved : goal.loop-name-preserved
loop-name-preserved c =
    pair_noted c.as_slice-name-items.result.now c.loop-name.name-index _ c.loop-name-test.true (noted_with c.args.noted.now (names_in (listed_in c.args.modules.now))) c.loop-name.noted c.insert.new.self
    (λ q. btree_map_updates_str _ c.loop-name.noted c.insert.new.self _ c.in_ok-insert.ensures.updates q) c.loop-name.invariant
