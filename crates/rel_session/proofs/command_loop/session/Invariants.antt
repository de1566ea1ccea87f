use Rattle.std.proofs.Common.{◌≡◌, ℕ, List, Option}
use Rattle.rel_session.specs.InMemory.{IsSoundPlace}
use Rattle.session_input.specs.Input.{left, commands_left, reached, KnowsEnd}
use Rattle.rel_session.proofs.LoopLemmas.{Goes, within}
use Rattle.rel_session.proofs.command_loop.session.Given as goal

abbrev pub invariant-loop-command : goal.invariant-loop-command
invariant-loop-command g l =
    Goes g.D.Disk (g.F.Files.gives l.fn.files) (within (g.R.Read.remaining l.initial.input.reader.reader)) (commands_left g.R.Read.remaining l.input) (reached l.input) l.fn.disk l.node
    (g.A.AnswerWriter.written l.initial.output) (g.A.AnswerWriter.written l.output)
    × IsSoundPlace g.D.Disk.seen g.D.Disk.may_leave l.node.place
    × (l.input.reader.failures ≡ l.initial.input.reader.failures)
    × (g.A.AnswerWriter.failed l.output ≡ g.A.AnswerWriter.failed l.initial.output)
    × ((disk : g.row.D.Denot) (text : Option (List ℕ)) → g.A.AnswerWriter.allows l.initial.output disk text → g.A.AnswerWriter.allows l.output disk text)
    × KnowsEnd g.R.Read.remaining l.input

abbrev pub decreases-loop-command : goal.decreases-loop-command
decreases-loop-command g l = left l.input
