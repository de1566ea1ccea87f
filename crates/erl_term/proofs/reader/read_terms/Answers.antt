use Rattle.erl_term.proofs.Exact.{reads_found, reads_only_these, reads_fault}
use Rattle.erl_term.proofs.reader.read_terms.Goals as goal

pub returns : goal.returns
returns c = record {
  found = reads_found 64 c.args.bytes.now c.read.result c.read.ensures;
  only = reads_only_these 64 c.args.bytes.now c.read.result c.read.ensures;
  fault = reads_fault 64 c.args.bytes.now c.read.result c.read.ensures;
}
