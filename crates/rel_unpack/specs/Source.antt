-- What the files of a source say.
use Rattle.std.specs.Prelude.{◌≡◌, ◌≢◌, ℕ, false, List, Option, Some, None, Result, Ok, Err}
use Rattle.file_source.specs.declared.files.FilesError.{FilesError}
use Rattle.file_source.specs.declared.files.FilesError.TheVariants as files
use Rattle.rel_unpack.specs.Refusal.{Trouble, is_missing}
use Rattle.rel_unpack.specs.Refusal.Trouble.{unreadable}
use Rattle.rel_unpack.specs.Refusal.Refusal.{missing_file, bad_file, too_many}
use Rattle.rel_unpack.specs.Order.{Outcome, Then}

-- what a read of each path may give
abbrev pub Source : Type 1
Source = List ℕ → Result (List ℕ) FilesError → Type 0

-- each path of the source has one answer at most
abbrev pub GivesOne : Source → Type 0
GivesOne source = (path : List ℕ) (a b : Result (List ℕ) FilesError) → source path a → source path b → a ≡ b

-- and one at least that is not out of memory
abbrev pub GivesEach : Source → Type 0
GivesEach source = (path : List ℕ) → (a : Result (List ℕ) FilesError) × (a ≢ Err files.NoMemory) × source path a

-- the bytes of the file of a path
abbrev pub HasBytes : Source → List ℕ → Outcome (List ℕ)
HasBytes source path (Ok bytes) = source path (Ok bytes)
HasBytes source path (Err (missing_file p)) = (p ≡ path) × source path (Err files.Missing)
HasBytes source path (Err (bad_file p unreadable)) = (p ≡ path) × source path (Err files.Unreadable)
HasBytes source path (Err too_many) = source path (Err files.TooLarge)
HasBytes source path (Err e) = ⊥

-- A kind of files: what their bytes say, or what is wrong with them.
pub record Form (X : Type 0) : Type 1 where
  pub says : List ℕ → X → Type 0
  pub fails : List ℕ → Trouble → Type 0

-- what bytes say
abbrev pub HasValue : {X : Type 0} → Form X → List ℕ → List ℕ → Outcome X
HasValue form path bytes (Ok x) = form.says bytes x
HasValue form path bytes (Err (bad_file p t)) = (p ≡ path) × form.fails bytes t
HasValue form path bytes (Err e) = ⊥

-- what the file of a path says
abbrev pub FileSays : {X : Type 0} → Form X → Source → List ℕ → Outcome X
FileSays form source path = Then (HasBytes source path) (HasValue form path)

-- what is read of the file of a path, if there is one
abbrev pub IfThere : {X : Type 0} → Source → List ℕ → Outcome X → Outcome (Option X)
IfThere source path P (Ok (Some x)) = P (Ok x)
IfThere source path P (Ok None) = source path (Err files.Missing)
IfThere source path P (Err e) = (is_missing e ≡ false) × P (Err e)
