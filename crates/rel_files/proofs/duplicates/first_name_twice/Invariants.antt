use Rattle.std.proofs.Common.{◌≡◌, ℕ, List, take}
use Rattle.rel_files.specs.Name.{AreDistinct}
use Rattle.rel_files.proofs.Distinct.{texts, is_listed, is_seen}
use Rattle.rel_files.proofs.duplicates.first_name_twice.Given as goal

abbrev pub invariant-loop-name : goal.invariant-loop-name
invariant-loop-name l = record {
  seen : (q : List ℕ) → is_seen q l.seen.keys ≡ is_listed q (texts (take l.name-index l.names));
  distinct : AreDistinct (texts (take l.name-index l.names));
}
