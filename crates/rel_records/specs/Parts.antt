-- What was read from a body, without where it lies in memory.
use Rattle.std.specs.Prelude.{ℕ, List, map, codes, if◌then◌else◌, Option, None, string_bytes}
use Rattle.std.specs.Option.{option_map, option_and_then}
use Rattle.erl_term.specs.declared.term.Term.{Term}
use Rattle.erl_term.specs.Value.{Value, Values, members_of, value_of}
use Rattle.erl_term.specs.TermFault.{TermFault}
use Rattle.erl_term.specs.TermFault.TheVariants as term
use Rattle.rel_files.specs.Parts.{triple_in, four_in, word_in, is_word, list_in}
use Rattle.rel_files.specs.Release.{release_of}
use Rattle.rel_files.specs.declared.fault.FileFault.{FileFault}
use Rattle.rel_files.specs.declared.fault.FileFault.TheVariants as file
use Rattle.relup_file.specs.declared.fault.RelupFault.{RelupFault}
use Rattle.relup_file.specs.declared.fault.RelupFault.TheVariants as relup_fault
use Rattle.relup_file.specs.Relup.{relup_of}
use Rattle.library.specs.InMemory.{shared_of}
use Rattle.rel_list.specs.declared.fault.ListError.{ListError}
use Rattle.rel_list.specs.declared.fault.ListError.TheVariants as list_error
use Rattle.rel_records.specs.Reading.{Brings}
use Rattle.rel_records.specs.Record.{Assignment, FileTerms, Imaged, Record, makes, adds, assigns, removes, images, release_term}
use Rattle.rel_records.specs.declared.assignment.Assignment.{Assignment as AssignmentInMemory}
use Rattle.rel_records.specs.declared.imaged.Imaged.{Imaged as ImagedInMemory}
use Rattle.rel_records.specs.declared.reading.Record.{Record as RecordInMemory}
use Rattle.rel_records.specs.declared.new_release.NewRelease.{NewRelease}
use Rattle.rel_records.specs.declared.new_release.ReleaseParts.{ReleaseParts as PartsInMemory}
use Rattle.rel_records.specs.declared.reading.Record.TheVariants as memory
use Rattle.rel_records.specs.declared.fault.RecordFault.{RecordFault}
use Rattle.rel_records.specs.declared.fault.RecordFault.TheVariants.{Bad, NoMemory}

-- what a record that brings a release is made of: its word, the term of the release, those of the libraries, and the one that
-- stands for the relup
pub record ReleaseParts : Type 0 where
  pub word : List ℕ
  pub rel : Value
  pub libs : Values
  pub relup : Value

-- the term with these parts
abbrev pub parts_term : ReleaseParts → Value
parts_term p = release_term p.word p.rel p.libs p.relup

-- the parts with this word and these libraries, of the four members of a tuple
abbrev pub parts_with : Value × Value × Value × Value → List ℕ → Values → ReleaseParts
parts_with m word libs = record { word = word; rel = m.1; libs = libs; relup = m.3 }

abbrev pub parts_in : Value → Option ReleaseParts
parts_in v = option_and_then (λ m. option_and_then (λ word. option_map (parts_with m word) (list_in m.2)) (word_in m.0)) (four_in v)

abbrev pub parts_of : PartsInMemory → ReleaseParts
parts_of p = record { word = p.word.now; rel = value_of p.rel.now; libs = members_of p.libs.now; relup = value_of p.relup.now }

-- the terms of an image: those of its releases, and those of its libraries
abbrev pub lists_of : Value × Value × Value → Option (Values × Values)
lists_of m =
    if is_word (codes "image") m.0 then option_and_then (λ rows. option_map (λ libs. (rows, libs)) (list_in m.2)) (list_in m.1) else None

abbrev pub lists_in : Value → Option (Values × Values)
lists_in v = option_and_then lists_of (triple_in v)

-- the terms of a release's files
abbrev pub files_of : Term → Option Term → FileTerms
files_of rel relup = record { rel = value_of rel; relup = option_map value_of relup }

-- The term with this word of a record brings this release, with its libraries and its relup.
abbrev pub BringsNew : List ℕ → Value → NewRelease → Type 0
BringsNew word v n = Brings word v (release_of n.release) (map shared_of n.libraries.items) (option_map relup_of n.relup)

abbrev pub assignment_read : AssignmentInMemory → Assignment
assignment_read a = record { vsn = string_bytes a.vsn; status = a.status }

abbrev pub imaged_read : ImagedInMemory → Imaged
imaged_read x = record { release = release_of x.release; status = x.status; relup = option_map relup_of x.relup }

abbrev pub record_read : RecordInMemory → Record
record_read (memory.Made n) = makes (release_of n.release) (map shared_of n.libraries.items) (option_map relup_of n.relup)
record_read (memory.Unpacked n) = adds (release_of n.release) (map shared_of n.libraries.items) (option_map relup_of n.relup)
record_read (memory.Statuses given) = assigns (map assignment_read given.items)
record_read (memory.Removed v) = removes (string_bytes v)
record_read (memory.Image i) = images (map imaged_read i.releases.items) (map shared_of i.libraries.items)

-- what a fault of its text, of its release, of its relup or of the list says of a record
abbrev pub fault_of_text : TermFault → RecordFault
fault_of_text term.NoMemory = NoMemory
fault_of_text f = Bad

abbrev pub fault_of_release : FileFault → RecordFault
fault_of_release file.NoMemory = NoMemory
fault_of_release f = Bad

abbrev pub fault_of_relup : RelupFault → RecordFault
fault_of_relup relup_fault.NoMemory = NoMemory
fault_of_relup f = Bad

abbrev pub fault_of_list : ListError → RecordFault
fault_of_list list_error.NoMemory = NoMemory
fault_of_list f = Bad
