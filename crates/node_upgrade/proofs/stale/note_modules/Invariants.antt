use Rattle.std.proofs.Common.{◌≡◌, ℕ, List, drop}
use Rattle.loaded_modules.specs.Loaded.{listed_in}
use Rattle.node_upgrade.specs.Stale.{names_in}
use Rattle.node_upgrade.proofs.StaleLemmas.{first_names, noted_with}
use Rattle.node_upgrade.proofs.stale.note_modules.Given as goal

-- the names that are noted, with what is left of the modules
abbrev pub invariant-loop-name : goal.invariant-loop-name
invariant-loop-name l =
    (q : List ℕ) → noted_with l.noted (first_names (drop l.name-index l.name-items)) q ≡ noted_with l.fn.noted (names_in (listed_in l.modules)) q
