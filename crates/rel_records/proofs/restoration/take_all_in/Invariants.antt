use Rattle.std.proofs.Common.{◌≡◌, map}
use Rattle.std.specs.Vec.Iter.{into_iter_items}
use Rattle.library.specs.InMemory.{shared_of}
use Rattle.rel_records.specs.Lists.{all_come_in}
use Rattle.rel_records.specs.Parts.{imaged_read}
use Rattle.rel_records.proofs.restoration.take_all_in.Given as goal

-- the releases that are left lead to where all of them lead
abbrev pub invariant-loop-imaged : goal.invariant-loop-imaged
invariant-loop-imaged l =
    all_come_in (map imaged_read (into_iter_items l.imaged-iterator)) (map shared_of l.left) l.list
    ≡ all_come_in (map imaged_read l.fn.releases.items) (map shared_of l.libraries) l.fn.list
