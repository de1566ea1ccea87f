use Rattle.std.proofs.Common.{ap}
use Rattle.std.specs.Option.{option_map}
use Rattle.rel_unpack.specs.Refusal.{refusal_of}
use Rattle.rel_unpack.specs.Unpacking.{brought_of}
use Rattle.node_command.proofs.ReleaseLemmas.{reported_no_room}
use Rattle.node_command.proofs.release.unless_refused.Goals as goal

-- there is no room for it
pub returns-then-not-has_room-clause-refused : goal.returns-then-not-has_room-clause-refused
returns-then-not-has_room-clause-refused c =
    reported_no_room c.args.has_room (brought_of c.args.brought) c.if-not-has_room.true (ap (option_map refusal_of) c.in_default.is)
