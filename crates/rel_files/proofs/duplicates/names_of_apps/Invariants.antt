use Rattle.std.proofs.Common.{◌≡◌, take}
use Rattle.rel_files.proofs.Distinct.{names, texts}
use Rattle.rel_files.proofs.duplicates.names_of_apps.Given as goal

abbrev pub invariant-loop-app : goal.invariant-loop-app
invariant-loop-app l = texts l.names.items ≡ names (take l.app-index l.apps)
