use Rattle.std.proofs.Common.{◌≡◌, ◌-◌, length}
use Rattle.erl_consult.proofs.ReadLemmas.{ReadSoFar}
use Rattle.erl_consult.proofs.streams.read_text.Given as goal

abbrev pub invariant-loop-room : goal.invariant-loop-room
invariant-loop-room g l =
    ReadSoFar (g.R.Read.remaining l.initial.reader.reader) (g.R.Read.remaining l.reader.reader) l.bytes.items
    × (length l.room.items ≡ 8192)
    × (l.reader.failures ≡ l.initial.reader.failures)

abbrev pub decreases-loop-room : goal.decreases-loop-room
decreases-loop-room g l = 1048577 - length l.bytes.items
