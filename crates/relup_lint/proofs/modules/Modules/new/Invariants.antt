use Rattle.std.proofs.Common.{◌≡◌, map, take}
use Rattle.relup_lint.proofs.ModuleLemmas.{app_row}
use Rattle.relup_lint.proofs.modules.Modules.new.Given as goal

abbrev pub invariant-loop-app : goal.invariant-loop-app
invariant-loop-app l = l.rows.items ≡ map app_row (take l.app-index l.target)
