-- Releases that a boot can start.
use Rattle.std.specs.Prelude.{map}
use Rattle.std.specs.List.{AllByRecursion}
use Rattle.rel_files.specs.Name.{AreDistinct}
use Rattle.rel_files.specs.Release.{Application}
use Rattle.rel_list.specs.Releases.{Entry, Releases, bundle_in}
use Rattle.rel_records.specs.Writing.{IsComplete}

-- A release that a boot can start: it has the libraries of its applications, in their order, and no fault with them, a relup
-- that it can have, or none, and no application stands in it twice.
pub record IsStartable (e : Entry) : Type 0 where
  pub complete : IsComplete (bundle_in e)
  pub distinct : AreDistinct (map (λ (a : Application). a.name) e.release.apps)

-- each release of the list is one
abbrev pub AreStartable : Releases → Type 0
AreStartable es = AllByRecursion IsStartable es
