-- What a counted reader and a counted writer hold.
use Rattle.std.specs.Prelude.{ℕ, List, Option}
use Rattle.counted_io.specs.declared.reader.CountedReader.{CountedReader}
use Rattle.counted_io.specs.declared.writer.CountedWriter.{CountedWriter}

abbrev pub reader_of : {R : Type 0} → CountedReader R → R
reader_of r = r.reader

-- the bytes that the reader has left, where they are known
abbrev pub left_in : {R : Type 0} → (R → Option (List ℕ)) → CountedReader R → Option (List ℕ)
left_in remaining r = remaining r.reader

-- how many reads have failed; the count stays once it is 2 ^ 64 - 1
abbrev pub failed_reads : {R : Type 0} → CountedReader R → ℕ
failed_reads r = r.failures

abbrev pub writer_of : {W : Type 0} → CountedWriter W → W
writer_of w = w.writer

-- the bytes that the writer holds, where they are known
abbrev pub held_by : {W : Type 0} → (W → Option (List ℕ)) → CountedWriter W → Option (List ℕ)
held_by contents w = contents w.writer

-- how many writes have failed; the count stays once it is 2 ^ 64 - 1
abbrev pub failed_writes : {W : Type 0} → CountedWriter W → ℕ
failed_writes w = w.failures
