use Rattle.std.proofs.Common.{◌≡◌, ◌-◌, ◌≤◌, length}
use Rattle.erl_number.specs.Views.{text_bytes}
use Rattle.erl_token.specs.Views.{lexed}
use Rattle.erl_token.proofs.lexer.gap_end.Given as goal

abbrev pub invariant-loop-at : goal.invariant-loop-at
invariant-loop-at l = record {
  passed : lexed (text_bytes l.text) l.from ≡ lexed (text_bytes l.text) l.at;
  onward : l.from ≤ l.at;
}

abbrev pub decreases-loop-at : goal.decreases-loop-at
decreases-loop-at l = length (text_bytes l.text) - l.at
