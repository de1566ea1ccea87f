use Rattle.counted_io.proofs.WriteLemmas.{goes_on, is_shorter}
use Rattle.counted_io.proofs.writer.CountedWriter.write.Goals as goal

pub loop-rest-preserved : goal.loop-rest-preserved
loop-rest-preserved g c = (goes_on _ _ _ _ _ _ c.loop-rest.invariant.0 c.in-Ok.ensures.bytes, c.loop-rest.invariant.1)

pub loop-rest-smaller : goal.loop-rest-smaller
loop-rest-smaller g c = is_shorter _ _ c.if-count-gt0.true c.in-Ok.ensures.bound
