-- What a command is given of a release, and what is reported of its files.
use Rattle.std.specs.Prelude.{◌≡◌, ◌≢◌, ℕ, List, length, Option, Some, Result, Err}
use Rattle.std.specs.Option.{option_map, ForSome}
use Rattle.erl_term.specs.Within.{IsWithin}
use Rattle.rel_list.specs.Releases.{Bundle, Releases}
use Rattle.rel_records.specs.Reading.{AreOfRelease}
use Rattle.rel_records.specs.Record.{FileTerms, makes, adds, body_of}
use Rattle.rel_records.specs.Writing.{new_libraries, CanBeCarried, IsComplete}
use Rattle.rel_unpack.specs.declared.error.UnpackError.{UnpackError}
use Rattle.rel_unpack.specs.declared.error.UnpackError.TheVariants as files
use Rattle.rel_unpack.specs.Refusal.{Refusal, refusal_of}
use Rattle.rel_unpack.specs.Relup.{RelupFound}
use Rattle.rel_unpack.specs.Source.{Source}
use Rattle.rel_unpack.specs.Unpacking.{Brought, BroughtAt}
use Rattle.node_command.specs.declared.error.HandlerError.{HandlerError}
use Rattle.node_command.specs.declared.error.HandlerError.TheVariants.{MissingFile, BadFile, VsnMismatch, LibDiffers, NoTable, TooMany, NoMemory}

-- the release that was brought, with its libraries and its relup
abbrev pub bundle_brought : Brought → Bundle
bundle_brought b = record { release = b.found.release; libraries = b.libraries; relup = option_map (λ (f : RelupFound). f.relup) b.relup }

-- the terms of its files
abbrev pub terms_brought : Brought → FileTerms
terms_brought b = record { rel = b.found.term; relup = option_map (λ (f : RelupFound). f.term) b.relup }

-- The terms of its files say its release and its relup, and are no deeper than what a file may hold.
pub record HasFileTerms (b : Brought) : Type 0 where
  pub says : AreOfRelease (terms_brought b) b.found.release (bundle_brought b).relup
  pub within : IsWithin 65 b.found.term
  pub relup_within : ForSome b.relup (λ f. IsWithin 65 f.term)

-- A node may have it: it is complete, and a record can carry its libraries.
pub record IsWhole (b : Brought) : Type 0 where
  pub complete : IsComplete (bundle_brought b)
  pub carried : CanBeCarried b.libraries

-- how many bytes the body of the record has by which a node is made with what was brought, or takes it in
abbrev pub made_size : Brought → ℕ
made_size b = let p = bundle_brought b in length (body_of (terms_brought b) (makes p.release p.libraries p.relup))

abbrev pub unpacked_size : Brought → Releases → ℕ
unpacked_size b es = let p = bundle_brought b in length (body_of (terms_brought b) (adds p.release (new_libraries es p.libraries) p.relup))

-- what is reported of a release that isn't taken for its files
abbrev pub reported_files : UnpackError → HandlerError
reported_files (files.MissingFile path) = MissingFile path
reported_files (files.BadFile path trouble) = BadFile path trouble
reported_files (files.VsnMismatch path) = VsnMismatch path
reported_files (files.LibDiffers app) = LibDiffers app
reported_files (files.NoTable name) = NoTable name
reported_files files.TooMany = TooMany
reported_files files.NoMemory = NoMemory

-- what the path of a release brings to a node
abbrev pub Brings : Source → List ℕ → Result Brought Refusal → Type 0
Brings source path = BroughtAt source path

-- The release's file is why: of this path it gives that refusal and no release, or memory was refused in reading.
pub record IsOfFiles (source : Source) (path : List ℕ) (e : HandlerError) : Type 0 where
  pub error : UnpackError
  pub reported : e ≡ reported_files error
  pub read : error ≢ files.NoMemory → Brings source path (Err (refusal_of error))

-- The error reports this refusal of a release for its other files.
pub record IsReportedAs (refusal : Option Refusal) (e : HandlerError) : Type 0 where
  pub error : UnpackError
  pub reported : e ≡ reported_files error
  pub refused : refusal ≡ Some (refusal_of error)
