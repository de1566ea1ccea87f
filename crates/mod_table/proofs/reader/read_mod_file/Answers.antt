use Rattle.std.proofs.Common.{◌≡◌, ◌≢◌, ◌∙◌, ℕ, List, Result, Ok, Err, MatchResult, IfErr, IsErr, IsErrAnd, inr, subst, sym}
use Rattle.erl_term.specs.Value.{value_of}
use Rattle.rel_files.specs.declared.fault.FileFault.{FileFault}
use Rattle.rel_files.specs.declared.fault.FileFault.TheVariants.{NoMemory}
use Rattle.mod_table.specs.declared.reader.ModFile.{ModFile}
use Rattle.mod_table.specs.declared.table.Table.{Table}
use Rattle.mod_table.specs.File.{IsTableTerm, IsModFault}
use Rattle.rel_files.proofs.OneTermFile.{of_its_term}
use Rattle.mod_table.proofs.Readings.{}
use Rattle.mod_table.proofs.reader.read_mod_file.Goals as goal

-- an error that is passed on
only_memory : (result : Result ModFile FileFault) (f : FileFault) (t : Table) → IsErr result × IsErrAnd result (λ g. g ≡ f) → f ≡ NoMemory
    → MatchResult result (λ file. file.table ≡ t) (λ g. g ≡ NoMemory)
only_memory (Ok x) f t is e = absurd is.1
only_memory (Err g) f t is e = is.1 ∙ e

reports : (result : Result ModFile FileFault) (f : FileFault) (bytes : List ℕ) → IsErr result × IsErrAnd result (λ g. g ≡ f) → (f ≢ NoMemory → IsModFault bytes f)
    → IfErr result (λ g. g ≢ NoMemory → IsModFault bytes g)
reports (Ok x) f bytes is fault = tt
reports (Err g) f bytes is fault = let P : FileFault → Type 0 = λ h. h ≢ NoMemory → IsModFault bytes h in subst P (sym is.1) fault

pub returns-in_err-file-clause-only : goal.returns-in_err-file-clause-only
returns-in_err-file-clause-only c = λ t says.
    only_memory c.from_residual.result c.in_err-file.field-0.0 t c.from_residual.ensures (c.in_err-file.ensures.only says.1.0 says.1.1)

pub returns-in_err-table-clause-only : goal.returns-in_err-table-clause-only
returns-in_err-table-clause-only c = λ t says.
    let read = c.in_ok-file.ensures.only says.1.0 says.1.1 in
    only_memory c.from_residual-in_err-table.result c.in_err-table.field-0.0 t c.from_residual-in_err-table.ensures
    (c.in_err-table.ensures.only t (of_its_term IsTableTerm c.args.bytes.now t (value_of c.in_ok-file.file.term) says read.1))

pub returns-in_err-table-clause-fault : goal.returns-in_err-table-clause-fault
returns-in_err-table-clause-fault c =
    reports c.from_residual-in_err-table.result c.in_err-table.field-0.0 c.args.bytes.now c.from_residual-in_err-table.ensures
    (λ other. inr (c.in_ok-file.file.at, value_of c.in_ok-file.file.term, c.in_ok-file.ensures.says, c.in_err-table.ensures.fault other))

pub returns-clause-only : goal.returns-clause-only
returns-clause-only c = λ t says.
    let read = c.in_ok-file.ensures.only says.1.0 says.1.1 in
    c.in_ok-table.ensures.only t (of_its_term IsTableTerm c.args.bytes.now t (value_of c.in_ok-file.file.term) says read.1)
