use Rattle.std.proofs.Common.{◌≡◌, ◌+◌, ◌≤◌, drop, length}
use Rattle.started_members.specs.Preparations.{to_begin}
use Rattle.started_members.proofs.begins.process_count.Given as goal

abbrev pub invariant-loop-preparation : goal.invariant-loop-preparation
invariant-loop-preparation l =
    (l.count ≤ l.preparation-index) × (l.count + length (to_begin (drop l.preparation-index l.prepared)) ≡ length (to_begin l.prepared))
