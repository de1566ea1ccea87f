use Rattle.std.proofs.Common.{rules}
use Rattle.erl_number.proofs.Runs.{sealed-nil, sealed_first}
use Rattle.erl_number.proofs.text.Text.of.Goals as goal

pub returns-in-Some : goal.returns-in-Some
returns-in-Some c =
    let (cut, _, _, first) = c.in-Some.ensures.steps in
    sealed_first c.args.bytes.now c.utf8_chunks.result.rest.now c.in-Some.chunk.valid.now c.valid-valid.result.now _ c.utf8_chunks.ensures.rest c.valid-valid.ensures cut first.0

pub returns-in-None : goal.returns-in-None
returns-in-None c = sealed-nil c.args.bytes.now (search rules)
