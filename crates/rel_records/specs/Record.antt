-- The records of a store, and the terms that spell them.
use Rattle.std.specs.Prelude.{ℕ, List, [], ◌∷◌, ◌++◌, map, codes, Option, None, Some}
use Rattle.std.specs.Option.{option_map}
use Rattle.erl_term.specs.Value.{Value, Values, values_of}
use Rattle.erl_term.specs.Value.Value.{atom, list}
use Rattle.erl_term.specs.Printing.{text_of}
use Rattle.rel_files.specs.Terms.{tuple_of, list_of, pair_term, text_term, triple_term}
use Rattle.rel_files.specs.Release.{Release}
use Rattle.relup_file.specs.Form.{relup_term}
use Rattle.relup_file.specs.Relup.{RelupForm}
use Rattle.library.specs.Library.{Library, library_term}
use Rattle.rel_list.specs.declared.status.Status.{Status}
use Rattle.rel_list.specs.Status.{status_word}
use Rattle.rel_records.specs.ReleaseTerm.{file_term}

-- the release of this version gets this status
pub record Assignment : Type 0 where
  pub vsn : List ℕ
  pub status : Status

-- a release of an image, with its status and its relup, if it has one
pub record Imaged : Type 0 where
  pub release : Release
  pub status : Status
  pub relup : Option RelupForm

-- What a record says: the node's first release was made, a further one came in unpacked, each with the libraries that are new
-- with it and its relup, if it has one; releases got these statuses one after another; the release of this version left; or the
-- node has these releases, with these libraries.
pub data Record : Type 0 where
  makes : Release → List Library → Option RelupForm → Record
  adds : Release → List Library → Option RelupForm → Record
  assigns : List Assignment → Record
  removes : List ℕ → Record
  images : List Imaged → List Library → Record

-- the terms of a release's files: that of its own, and that of its relup, if it has one
pub record FileTerms : Type 0 where
  pub rel : Value
  pub relup : Option Value

-- the term that stands for a relup: that of its file, or the atom `none`
abbrev pub relup_or_none : Option Value → Value
relup_or_none None = atom (codes "none")
relup_or_none (Some v) = v

-- {Word, Rel, Libs, Relup}
abbrev pub release_term : List ℕ → Value → Values → Value → Value
release_term word rel libs relup = tuple_of (atom word ∷ rel ∷ list libs ∷ relup ∷ [])

-- the terms by which a record carries libraries
abbrev pub library_terms : List Library → Values
library_terms ls = values_of (map library_term ls)

-- {Vsn, Status}
abbrev pub assignment_term : Assignment → Value
assignment_term a = pair_term (text_term a.vsn) (atom (status_word a.status))

-- {status, [{Vsn, Status}]}
abbrev pub status_term : List Assignment → Value
status_term given = pair_term (atom (codes "status")) (list_of (map assignment_term given))

-- {removed, Vsn}
abbrev pub removed_term : List ℕ → Value
removed_term v = pair_term (atom (codes "removed")) (text_term v)

-- the term of a release of an image
abbrev pub imaged_term : Imaged → Value
imaged_term x = triple_term (file_term x.release) (atom (status_word x.status)) (relup_or_none (option_map relup_term x.relup))

-- {image, [{Rel, Status, Relup}], Libs}
abbrev pub image_term : Values → Values → Value
image_term rows libs = tuple_of (atom (codes "image") ∷ list rows ∷ list libs ∷ [])

-- The term in which a command writes a record. A release and its relup are written as the terms of their files, these;
-- an image has terms of its own for them.
abbrev pub term_of : FileTerms → Record → Value
term_of files (makes r ls o) = release_term (codes "made") files.rel (library_terms ls) (relup_or_none files.relup)
term_of files (adds r ls o) = release_term (codes "unpacked") files.rel (library_terms ls) (relup_or_none files.relup)
term_of files (assigns given) = status_term given
term_of files (removes v) = removed_term v
term_of files (images xs ls) = image_term (values_of (map imaged_term xs)) (library_terms ls)

-- the body that a command writes: the printed term and a dot
abbrev pub printed : Value → List ℕ
printed v = text_of v ++ 46 ∷ []

abbrev pub body_of : FileTerms → Record → List ℕ
body_of files r = printed (term_of files r)
