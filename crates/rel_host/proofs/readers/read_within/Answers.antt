use Rattle.std.proofs.Common.{◌≡◌, arith, ◌≤◌, length, IfSome, subst}
use Rattle.rel_host.proofs.ReaderLemmas.{whole_is}
use Rattle.rel_host.proofs.readers.read_within.Goals as goal

pub returns-clause-whole : goal.returns-clause-whole
returns-clause-whole g c =
    let short : length c.read_to_end.new.buf.items ≤ c.args.limit = omega arith in
    subst (λ r. IfSome (g.R.Read.remaining r) (λ all. c.read_to_end.new.buf.items ≡ all)) c.take.ensures.inner
    (whole_is (g.R.Read.remaining c.take.result.inner) c.args.limit c.take.result.limit c.new-bytes.result.items c.read_to_end.new.buf.items
    c.take.ensures.limit c.new-bytes.ensures.items short c.in_ok-read_to_end.ensures.bytes)
