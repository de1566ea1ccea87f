use Rattle.std.proofs.Common.{◌≡◌, length}
use Rattle.counted_io.proofs.WriteLemmas.{Written}
use Rattle.counted_io.proofs.writer.CountedWriter.write.Given as goal

abbrev pub invariant-loop-rest : goal.invariant-loop-rest
invariant-loop-rest g l =
    Written (g.W.Write.contents l.initial.self.writer) (g.W.Write.contents l.self.writer) l.bytes l.rest
    × (l.self.failures ≡ l.initial.self.failures)

abbrev pub decreases-loop-rest : goal.decreases-loop-rest
decreases-loop-rest g l = length l.rest
