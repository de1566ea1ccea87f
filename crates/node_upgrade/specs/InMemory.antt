-- An upgrade, and names that are noted, as they lie in memory.
use Rattle.std.specs.Prelude.{◌≡◌, ℕ, Bool, ◌||◌, List, map, is_some}
use Rattle.std.specs.Borrow.{Bor}
use Rattle.std.specs.BTreeMap.{BTreeMap, get_by}
use Rattle.std.specs.Cmp.Lexicographic.{slice_cmp}
use Rattle.std.specs.Ordering.{nat_cmp}
use Rattle.library.specs.InMemory.{shared_of}
use Rattle.relup_file.specs.Search.{found_of}
use Rattle.node_upgrade.specs.Names.{is_among}
use Rattle.node_upgrade.specs.declared.upgrade.Upgrade.{Upgrade}
use Rattle.node_upgrade.specs.Upgrade.{UpgradeForm}

abbrev pub upgrade_of : Upgrade → UpgradeForm
upgrade_of u = record { found = found_of u.found; releases = u.list.now; target = map shared_of u.target.now }

abbrev pub is_noted : BTreeMap (Bor (List ℕ)) (Unit {0}) → List ℕ → Bool
is_noted noted name = is_some (get_by (λ k. slice_cmp nat_cmp name k.now) noted)

-- Beside the names that were noted, these are noted, and no others.
abbrev pub NotesNames : List (List ℕ) → BTreeMap (Bor (List ℕ)) (Unit {0}) → BTreeMap (Bor (List ℕ)) (Unit {0}) → Type 0
NotesNames names old new = (q : List ℕ) → is_noted new q ≡ (is_noted old q || is_among q names)
