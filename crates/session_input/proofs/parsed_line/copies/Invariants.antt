use Rattle.std.proofs.Common.{◌≡◌, map, take, string_bytes}
use Rattle.session_input.proofs.parsed_line.copies.Given as goal

abbrev pub invariant-loop-text : goal.invariant-loop-text
invariant-loop-text l = map string_bytes l.copies.items ≡ map (λ text. text.now) (take l.text-index l.texts)
