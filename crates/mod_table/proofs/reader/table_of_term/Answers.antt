use Rattle.std.proofs.Common.{◌≡◌, ◌≢◌, ◌∙◌, ℕ, Some, Result, Ok, Err, MatchResult, IfErr, IsErr, IsErrAnd, subst, sym}
use Rattle.erl_term.specs.Value.{Value, value_of}
use Rattle.rel_files.specs.declared.fault.FileFault.{FileFault}
use Rattle.rel_files.specs.declared.fault.FileFault.TheVariants.{NoMemory}
use Rattle.mod_table.specs.declared.table.Table.{Table}
use Rattle.mod_table.specs.File.{table_in, IsTermFault}
use Rattle.mod_table.proofs.Readings.{only_memory}
use Rattle.mod_table.proofs.reader.table_of_term.Goals as goal

-- an error that is passed on
passed : (result : Result Table FileFault) (f : FileFault) (t : Table) → IsErr result × IsErrAnd result (λ g. g ≡ f) → f ≡ NoMemory
    → MatchResult result (λ table. table ≡ t) (λ g. g ≡ NoMemory)
passed (Ok x) f t is e = absurd is.1
passed (Err g) f t is e = is.1 ∙ e

reports : (result : Result Table FileFault) (f : FileFault) (v : Value) (at : ℕ) → IsErr result × IsErrAnd result (λ g. g ≡ f) → (f ≢ NoMemory → IsTermFault v at f)
    → IfErr result (λ g. g ≢ NoMemory → IsTermFault v at g)
reports (Ok x) f v at is fault = tt
reports (Err g) f v at is fault = let P : FileFault → Type 0 = λ h. h ≢ NoMemory → IsTermFault v at h in subst P (sym is.1) fault

pub returns-in_err-check_table-clause-only : goal.returns-in_err-check_table-clause-only
returns-in_err-check_table-clause-only c = λ t is.
    let v = value_of c.args.term.now in
    let f = c.in_err-check_table.field-0.0 in
    let read : Some c.in-Some.table ≡ table_in v = rw c.in-Some.is at c.in_ok-table.ensures in
    passed c.from_residual-in_err-check_table.result f t c.from_residual-in_err-check_table.ensures
    (only_memory v c.args.at t f is (c.in_err-check_table.ensures.fault v c.args.at read))

pub returns-in_err-check_table-clause-fault : goal.returns-in_err-check_table-clause-fault
returns-in_err-check_table-clause-fault c =
    let v = value_of c.args.term.now in
    let f = c.in_err-check_table.field-0.0 in
    let read : Some c.in-Some.table ≡ table_in v = rw c.in-Some.is at c.in_ok-table.ensures in
    reports c.from_residual-in_err-check_table.result f v c.args.at c.from_residual-in_err-check_table.ensures (c.in_err-check_table.ensures.fault v c.args.at read)
