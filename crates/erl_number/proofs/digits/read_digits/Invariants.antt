use Rattle.std.proofs.Common.{◌≡◌, ◌+◌, ◌-◌, ◌≤◌, ◌^◌, length, drop}
use Rattle.std.specs.Str.Parse.{digits_value_after}
use Rattle.erl_number.specs.Numbers.{spelled_by}
use Rattle.erl_number.specs.Views.{text_bytes}
use Rattle.erl_number.specs.Scanned.{digits_here, capped}
use Rattle.erl_number.proofs.DigitRows.{bare_digits}
use Rattle.erl_number.proofs.digits.read_digits.Given as goal

abbrev pub invariant-loop-byte : goal.invariant-loop-byte
invariant-loop-byte l = record {
  counted : l.at + length (digits_here l.joined l.base (drop l.at (text_bytes l.text))) ≡ l.from + length (digits_here l.joined l.base (drop l.from (text_bytes l.text)));
  spelled : capped (digits_value_after l.base l.number (bare_digits (digits_here l.joined l.base (drop l.at (text_bytes l.text)))))
      ≡ capped (spelled_by l.base (digits_here l.joined l.base (drop l.from (text_bytes l.text))));
  within : l.at ≤ 2 ^ 63;
  fits : l.number ≤ 2 ^ 63 + 1;
}

abbrev pub decreases-loop-byte : goal.decreases-loop-byte
decreases-loop-byte l = length (text_bytes l.text) - l.at
