use Rattle.std.proofs.Common.{◌≡◌, map, take, string_bytes}
use Rattle.mkrelup.proofs.options.copies.Given as goal

abbrev pub invariant-loop-text : goal.invariant-loop-text
invariant-loop-text l = map string_bytes l.texts.items ≡ map (λ t. t.now) (take l.text-index l.given)
