use Rattle.std.proofs.Common.{◌≢◌, Err, rules, sym, ◌∙◌}
use Rattle.rel_unpack.specs.Refusal.{refusal_of}
use Rattle.rel_unpack.specs.declared.error.UnpackError.TheVariants.{NoMemory}
use Rattle.rel_unpack.proofs.RelupSteps.{not_read, read_unless_refused}
use Rattle.rel_unpack.proofs.unpacking.relup_unless_refused.Goals as goal

pub returns-then-is_some : goal.returns-then-is_some
returns-then-is_some g c = not_read (g.F.Files.gives c.args.files.now) c.args.path.now c.args.vsn.now c.args.refusal.now (sym c.is_some.ensures ∙ c.if-is_some.true)

pub returns-in-Ok : goal.returns-in-Ok
returns-in-Ok g c =
    read_unless_refused (g.F.Files.gives c.args.files.now) c.args.path.now c.args.vsn.now c.args.refusal.now _ (sym c.is_some.ensures ∙ c.if-is_some.false) c.in-Ok.ensures.answer

pub returns-in-Err : goal.returns-in-Err
returns-in-Err g c =
    let known : c.in-Err.why ≢ NoMemory = search rules in
    read_unless_refused (g.F.Files.gives c.args.files.now) c.args.path.now c.args.vsn.now c.args.refusal.now (Err (refusal_of c.in-Err.why)) (sym c.is_some.ensures ∙ c.if-is_some.false)
    (c.in-Err.ensures.answer known)
