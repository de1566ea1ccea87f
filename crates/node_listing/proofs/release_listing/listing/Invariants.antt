use Rattle.std.proofs.Common.{◌≡◌, map, take, string_bytes}
use Rattle.std.specs.List.{flat_map}
use Rattle.rel_list.specs.Keyed.{entry_of}
use Rattle.node_listing.specs.Listing.{release_line}
use Rattle.node_listing.proofs.release_listing.listing.Given as goal

abbrev pub invariant-loop-listed : goal.invariant-loop-listed
invariant-loop-listed l = string_bytes l.text ≡ flat_map release_line (map entry_of (take l.listed-index l.entries))
