use Rattle.std.proofs.Common.{◌≡◌, ℕ, List, map, take, Bor, string_bytes}
use Rattle.rel_files.proofs.app_contents.texts_of.Given as goal

abbrev pub invariant-loop-name : goal.invariant-loop-name
invariant-loop-name l = map (λ (t : Bor (List ℕ)). t.now) l.texts.items ≡ map string_bytes (take l.name-index l.names)
