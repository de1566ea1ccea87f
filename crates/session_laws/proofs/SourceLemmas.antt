-- Given files before those of a source are a source of the same kind.
use Rattle.std.proofs.Common.{◌≡◌, ◌≢◌, ℕ, Bool, true, false, List, length, Option, Some, None, Result, Ok, Err, refl, sym, ◌∙◌}
use Rattle.std.specs.Prelude.{if◌then◌else◌, nat_lt}
use Rattle.file_source.specs.declared.files.FilesError.{FilesError}
use Rattle.file_source.specs.declared.files.FilesError.TheVariants as read
use Rattle.rel_unpack.specs.Source.{Source, GivesOne, GivesEach}
use Rattle.session_input.specs.Commands.{File, most_file}
use Rattle.session_input.specs.Commands.File.{bytes, too_large}
use Rattle.rel_session.specs.Files.{Files, GivenOr, read_of, source_of}

one_given : (f : Option File) (below : Result (List ℕ) FilesError → Type 0) → ((a b : Result (List ℕ) FilesError) → below a → below b → a ≡ b)
    → (a b : Result (List ℕ) FilesError) → GivenOr f below a → GivenOr f below b → a ≡ b
one_given None below one a b is also = one a b is also
one_given (Some f) below one a b is also = is ∙ sym also

pub gives_one : (base : Source) (files : Files) → GivesOne base → GivesOne (source_of base files)
gives_one base files one path = one_given (files path) (base path) (one path)

abbrev Each : (Result (List ℕ) FilesError → Type 0) → Type 0
Each P = (a : Result (List ℕ) FilesError) × (a ≢ Err read.NoMemory) × P a

read_known : (f : File) → read_of f ≢ Err read.NoMemory
read_known too_large = λ e. cc e
read_known (bytes bs) = go (nat_lt most_file (length bs))
  where
    go : (b : Bool) → (if b then Err read.TooLarge else Ok bs) ≢ Err read.NoMemory
    go true = λ e. cc e
    go false = λ e. cc e

each_given : (f : Option File) (below : Result (List ℕ) FilesError → Type 0) → Each below → Each (GivenOr f below)
each_given None below some = some
each_given (Some f) below some = (read_of f, read_known f, refl)

pub gives_each : (base : Source) (files : Files) → GivesEach base → GivesEach (source_of base files)
gives_each base files each path = each_given (files path) (base path) (each path)
