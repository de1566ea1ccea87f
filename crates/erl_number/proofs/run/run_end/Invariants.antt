use Rattle.std.proofs.Common.{◌≡◌, ◌+◌, ◌-◌, ◌≤◌, ◌^◌, length, drop}
use Rattle.erl_number.specs.Escapes.{leading}
use Rattle.erl_number.specs.Views.{text_bytes}
use Rattle.erl_number.specs.Scanned.{goes_on_with}
use Rattle.erl_number.proofs.run.run_end.Given as goal

abbrev pub invariant-loop-at : goal.invariant-loop-at
invariant-loop-at l = record {
  counted : l.at + length (leading (goes_on_with l.run) (drop l.at (text_bytes l.text)))
      ≡ l.from + length (leading (goes_on_with l.run) (drop l.from (text_bytes l.text)));
  within : l.at ≤ 2 ^ 63;
}

abbrev pub decreases-loop-at : goal.decreases-loop-at
decreases-loop-at l = length (text_bytes l.text) - l.at
