use Rattle.std.proofs.Common.{◌≡◌, length, string_bytes}
use Rattle.std.specs.List.{filter, flat_map}
use Rattle.node_listing.specs.Listing.{process_line}
use Rattle.node_processes.specs.InMemory.{AreSound, processes_in}
use Rattle.node_processes.proofs.SlotLemmas.{first_of, stands}
use Rattle.node_processes.proofs.processes.Processes.list.Given as goal

abbrev pub invariant-loop-slot : goal.invariant-loop-slot
invariant-loop-slot g l =
    AreSound l.self
    × (processes_in l.self ≡ processes_in l.fn.self)
    × (string_bytes l.text ≡ flat_map process_line (first_of l.fn.self.seat.view l.slot))
    × (l.count ≡ length (filter stands (first_of l.fn.self.seat.view l.slot)))
