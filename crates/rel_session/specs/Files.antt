-- The files of a session: those that were given come before those of its source.
use Rattle.std.specs.Prelude.{◌≡◌, ℕ, List, length, nat_lt, if◌then◌else◌, Option, None, Some, Result, Ok, Err}
use Rattle.std.specs.HashMap.{get_by_text}
use Rattle.std.specs.Option.{option_map}
use Rattle.std.specs.Str.{bytes_eq}
use Rattle.file_source.specs.declared.files.FilesError.{FilesError}
use Rattle.file_source.specs.declared.files.FilesError.TheVariants.{TooLarge}
use Rattle.rel_unpack.specs.Source.{Source}
use Rattle.rel_session.specs.declared.given_files.GivenFiles.{GivenFiles}
use Rattle.session_input.specs.Commands.{Command, File, given_of, most_file}
use Rattle.session_input.specs.Commands.Command.{file}
use Rattle.session_input.specs.Commands.File.{bytes, too_large}

-- the files that were given, by their paths
abbrev pub Files : Type 0
Files = List ℕ → Option File

-- A session has no files until they are given.
abbrev pub no_files : Files
no_files = λ path. None

abbrev pub give : Files → List ℕ → File → Files
give files path f = λ q. if bytes_eq path q then Some f else files q

-- the files after a command
abbrev pub files_behind : Files → Command → Files
files_behind files (file path f) = give files path f
files_behind files command = files

-- what a read of a given file gives
abbrev pub read_of : File → Result (List ℕ) FilesError
read_of (bytes bs) = if nat_lt most_file (length bs) then Err TooLarge else Ok bs
read_of too_large = Err TooLarge

-- What a read of a path gives that has a given file, or none: the file's bytes, or what the source below gives.
abbrev pub GivenOr : Option File → (Result (List ℕ) FilesError → Type 0) → Result (List ℕ) FilesError → Type 0
GivenOr None below read = below read
GivenOr (Some f) below read = read ≡ read_of f

-- what reads give where these files were given, and those below are of a source
abbrev pub source_of : Source → Files → Source
source_of base files path = GivenOr (files path) (base path)

-- the files in memory
abbrev pub files_of : GivenFiles → Files
files_of files = λ path. option_map given_of (get_by_text files.given path)
