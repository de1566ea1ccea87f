use Rattle.std.proofs.Common.{refl}
use Rattle.rel_unpack.proofs.Steps.{fails_at}
use Rattle.relup_command.specs.Appups.{appup_form, appup_trouble}
use Rattle.relup_command.proofs.appups.appup_in.Goals as goal

pub returns : goal.returns
returns g c = λ ne.
    let reported = c.refusal_for.ensures ne in
    fails_at appup_form (g.F.Files.gives c.args.files.now) c.args.path.now c.in_ok-bytes.bytes.items c.refusal_for.result (appup_trouble c.in-Err.fault)
    c.in_ok-bytes.ensures (c.in-Err.fault, (rw c.as_slice.ensures.value at (c.in-Err.ensures.fault reported.0)), refl) reported.1
