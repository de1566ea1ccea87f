use Rattle.std.proofs.Common.{◌≡◌, ◌-◌, length}
use Rattle.erl_token.specs.Lexing.{items_of}
use Rattle.erl_term.specs.Machine.{run, nothing_read}
use Rattle.erl_number.specs.Views.{text_bytes}
use Rattle.erl_token.specs.Views.{items_from}
use Rattle.erl_term.specs.Views.{progress_of}
use Rattle.erl_term.proofs.reader.read.Given as goal

abbrev pub invariant-loop-parser : goal.invariant-loop-parser
invariant-loop-parser l = record {
  read : run l.limit (progress_of l.parser) (items_from (text_bytes l.text) l.at) ≡ run l.limit nothing_read (items_of l.bytes);
  limit : l.parser.limit ≡ l.limit;
}

abbrev pub decreases-loop-parser : goal.decreases-loop-parser
decreases-loop-parser l = length (text_bytes l.text) - l.at
