-- What an input has taken from its reader and is still to give.
use Rattle.std.specs.Prelude.{◌≡◌, ℕ, ◌+◌, ◌-◌, true, false, List, [], length, Option, option_map, Result, Ok, Err, if◌then◌else◌}
use Rattle.std.specs.Io.KnownBytes.{prepend_known, IsAtEnd}
use Rattle.counted_io.specs.Counted as counted
use Rattle.counted_io.specs.Failures.{HasRisen}
use Rattle.session_input.specs.declared.error.SessionError.{SessionError}
use Rattle.session_input.specs.declared.error.SessionError.TheVariants.{Read, Write, Limit, NoMemory}
use Rattle.session_input.specs.declared.input.Input.{Input}
use Rattle.session_input.specs.Feed.{Feed, bytes_within}
use Rattle.session_input.specs.Lines.{lines_of}
use Rattle.session_input.specs.Commands.{Command, commands_of, commands_behind}

-- how many bytes of an input are read at most
abbrev pub most_bytes : ℕ
most_bytes = 16777216

-- how many bytes were taken from the reader
abbrev pub taken : {R : Type 0} → Input R → ℕ
taken i = i.ahead.taken

-- the bytes that the reader has left, where they are known
abbrev pub left_in : {R : Type 0} → (R → Option (List ℕ)) → Input R → Option (List ℕ)
left_in remaining i = counted.left_in remaining i.reader

-- how many reads have failed; the count stays once it is 2 ^ 64 - 1
abbrev pub failed_reads : {R : Type 0} → Input R → ℕ
failed_reads i = counted.failed_reads i.reader

abbrev pub reader_of : {R : Type 0} → Input R → R
reader_of i = counted.reader_of i.reader

-- No byte was taken of the reader yet.
abbrev pub IsFresh : {R : Type 0} → Input R → Type 0
IsFresh i = (i.ahead.taken ≡ 0) × (i.ahead.bytes ≡ []) × (i.ahead.is_over ≡ false)

-- how far the reader of an input was read: the bytes that were taken, and one more where the end was read
abbrev pub reached : {R : Type 0} → Input R → ℕ
reached i = if i.ahead.is_over then taken i + 1 else taken i

-- Where the end was read, nothing is left.
abbrev pub KnowsEnd : {R : Type 0} → (R → Option (List ℕ)) → Input R → Type 0
KnowsEnd remaining i = i.ahead.is_over ≡ true → (i.ahead.bytes ≡ []) × IsAtEnd (left_in remaining i)

-- how many bytes of an input may still be used
abbrev pub left : {R : Type 0} → Input R → ℕ
left i = length i.ahead.bytes + (most_bytes - i.ahead.taken)

-- the bytes still to come if so many are taken at most, where those that the reader has left are known
abbrev pub bytes_left : {R : Type 0} → (R → Option (List ℕ)) → Input R → ℕ → Option (Feed ℕ)
bytes_left remaining i most =
    option_map (bytes_within (length i.ahead.bytes + (most - taken i))) (prepend_known i.ahead.bytes (left_in remaining i))

-- the lines still to come then
abbrev pub lines_left : {R : Type 0} → (R → Option (List ℕ)) → Input R → ℕ → Option (Feed (List ℕ))
lines_left remaining i most = option_map lines_of (bytes_left remaining i most)

-- the commands still to come then
abbrev pub commands_left : {R : Type 0} → (R → Option (List ℕ)) → Input R → ℕ → Option (Feed Command)
commands_left remaining i most = option_map commands_of (lines_left remaining i most)

-- those still to come then where the lines of a file come first
abbrev pub file_left : {R : Type 0} → (R → Option (List ℕ)) → List ℕ → Input R → ℕ → Option (Feed Command)
file_left remaining path i most = option_map (commands_behind path []) (lines_left remaining i most)

-- Why a call gave up: a read failed in it, before the end, or none did, and all bytes were taken that may be, or memory was
-- refused. It writes nothing. Where it didn't give up, no read has failed.
abbrev pub HasCause : {R V : Type 0} → Result V SessionError → Input R → Input R → Type 0
HasCause (Err Read) old new = HasRisen (failed_reads old) (failed_reads new) × (reached new ≡ taken new)
HasCause (Err Limit) old new = (taken new ≡ most_bytes) × (failed_reads new ≡ failed_reads old)
HasCause (Err Write) old new = ⊥
HasCause (Err NoMemory) old new = failed_reads new ≡ failed_reads old
HasCause (Ok v) old new = failed_reads new ≡ failed_reads old
