use Rattle.std.proofs.Common.{◌≡◌, ◌≤◌, map, take}
use Rattle.rel_files.specs.Release.{application_of}
use Rattle.rel_records.specs.Lists.{count_new}
use Rattle.rel_records.proofs.bundle.count_new.Given as goal

-- how many libraries are new with the applications so far
abbrev pub invariant-loop-app : goal.invariant-loop-app
invariant-loop-app l = (l.count ≡ count_new l.list (map application_of (take l.app-index l.apps))) × (l.count ≤ l.app-index)
