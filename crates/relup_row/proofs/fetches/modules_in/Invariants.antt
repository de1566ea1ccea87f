use Rattle.std.proofs.Common.{◌≡◌, ◌++◌, map, drop, string_bytes}
use Rattle.relup_row.specs.Fetches.{mention_of, modules_in}
use Rattle.relup_row.proofs.fetches.modules_in.Given as goal

abbrev pub invariant-loop-mention : goal.invariant-loop-mention
invariant-loop-mention l = map string_bytes l.modules.items ++ modules_in l.app (map mention_of (drop l.mention-index l.mentions)) ≡ modules_in l.app (map mention_of l.mentions)
