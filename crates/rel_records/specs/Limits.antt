-- How much a node may have.
use Rattle.std.specs.Prelude.{ℕ, Bool, ◌==◌, length}
pub use Rattle.rel_check.specs.Limits.{is_small}
use Rattle.rel_list.specs.Releases.{Releases, of_status}
use Rattle.rel_list.specs.Status.{is_permanent}

-- how many releases a node has at most
abbrev pub most_releases : ℕ
most_releases = 32

-- exactly one release of the list is permanent
abbrev pub has_one_permanent : Releases → Bool
has_one_permanent es = length (of_status is_permanent es) == 1
