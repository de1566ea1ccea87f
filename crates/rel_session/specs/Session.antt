-- What a session has done once it has ended.
use Rattle.std.specs.Prelude.{◌≡◌, ℕ, List, Option, None, Some, Result, Ok, Err}
use Rattle.session_input.specs.Commands.{Command}
use Rattle.rel_session.specs.Device.{Device}
use Rattle.session_input.specs.Feed.{Feed}
use Rattle.session_input.specs.Input.{most_bytes}
use Rattle.session_input.specs.declared.error.SessionError.{SessionError}
use Rattle.session_input.specs.declared.error.SessionError.TheVariants.{Read, Write, Limit, NoMemory}
use Rattle.rel_unpack.specs.Source.{Source}
use Rattle.rel_session.specs.Files.{Files, no_files}
use Rattle.rel_session.specs.Node.{DiskState}
use Rattle.rel_session.specs.Output.{Writes}
use Rattle.rel_session.specs.Run.{Starts, Ending, IsRun, commands_within}
use Rattle.rel_session.specs.Run.Ending.{ended, cut_off, unread, unwritten, out_of_memory, going_on}

-- The commands are those of an input of which so many bytes are read at most. Of an input whose bytes no contract can name they
-- may be any.
abbrev pub AreCommands : ℕ → Option (List ℕ) → Feed Command → Type 0
AreCommands most None commands = Unit {0}
AreCommands most (Some input) commands = commands ≡ commands_within most input

-- How many bytes of its input a session follows at most: where a read failed, those that were taken by then.
abbrev pub bytes_followed : Ending → ℕ → ℕ
bytes_followed unread taken = taken
bytes_followed ending taken = most_bytes

-- how a session ends, by its result
abbrev pub ending_of : Result (Unit {0}) SessionError → Ending
ending_of (Ok v) = ended
ending_of (Err Read) = unread
ending_of (Err Write) = unwritten
ending_of (Err Limit) = cut_off
ending_of (Err NoMemory) = out_of_memory

-- Wherever the disk stood, a session with the commands of this input, of which so many bytes were taken, over a source of files
-- and with these given before it, led from the one disk to the other, and this was written. Where a read failed, the bytes that
-- were taken hold no command but those that have their replies.
abbrev pub IsSession : {D : Type 0} → Device D → Source → Files → Ending → ℕ → Option (List ℕ) → D → D
    → Option (List ℕ) → Option (List ℕ) → Type 0
IsSession v base files ending taken input old new written written_then =
    (p : DiskState) → Starts v p old
    → (commands : Feed Command) × AreCommands (bytes_followed ending taken) input commands
    × Writes written written_then (λ text. IsRun v base files p commands ending old new text)

-- What a session has written is allowed on each disk to which it has led by then: the answers of the commands that are done,
-- each whole, whatever is left of its input.
abbrev pub AllowsTrueAnswersOnly : {D : Type 0} → Device D → Source → Option (List ℕ) → D → Option (List ℕ)
    → (D → Option (List ℕ) → Type 0) → Type 0
AllowsTrueAnswersOnly {D} v base input old written Allowed =
    (disk : D) (text : Option (List ℕ)) → IsSession v base no_files going_on most_bytes input old disk written text
    → Allowed disk text
