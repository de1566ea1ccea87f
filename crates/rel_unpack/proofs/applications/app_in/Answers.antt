use Rattle.std.proofs.Common.{inl}
use Rattle.rel_unpack.specs.Source.{FileSays}
use Rattle.rel_files.specs.AppInMemory.{specification_of}
use Rattle.rel_files.specs.Fault.{fault_of}
use Rattle.rel_unpack.specs.Applications.{app_form}
use Rattle.rel_unpack.specs.Refusal.Trouble.{faulty}
use Rattle.rel_unpack.proofs.Steps.{fails_at, passed_on}
use Rattle.rel_unpack.proofs.applications.app_in.Goals as goal

pub returns : goal.returns
returns g c = λ ne.
    let reported = c.refusal_for.ensures ne in
    fails_at app_form (g.F.Files.gives c.args.files.now) c.args.path.now c.in_ok-bytes.bytes.items c.refusal_for.result (faulty (fault_of c.in-Err.fault))
    c.in_ok-bytes.ensures (rw c.as_slice.ensures.value at (c.in-Err.ensures.fault reported.0)) reported.1

pub returns-in_err-bytes : goal.returns-in_err-bytes
returns-in_err-bytes g c =
    passed_on specification_of (FileSays app_form (g.F.Files.gives c.args.files.now) c.args.path.now) c.in_err-bytes.field-0.0 c.from_residual.result
    c.from_residual.ensures.0 c.from_residual.ensures.1 (λ ne. inl (c.in_err-bytes.ensures ne))

pub returns-in-Ok : goal.returns-in-Ok
returns-in-Ok g c = (c.in_ok-bytes.bytes.items, c.in_ok-bytes.ensures, (rw c.as_slice.ensures.value at c.in-Ok.ensures.says))
