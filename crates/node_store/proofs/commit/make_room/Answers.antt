use Rattle.std.proofs.Common.{arith}
use Rattle.node_store.proofs.Commits.{opened}
use Rattle.node_store.proofs.commit.make_room.Goals as goal

pub returns-clause-room : goal.returns-clause-room
returns-clause-room g c = opened c.reserve.result _ c.if-is_err.ensures.value c.reserve.ensures.room c.args.size (omega arith)
