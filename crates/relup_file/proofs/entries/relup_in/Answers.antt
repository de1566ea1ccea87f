use Rattle.erl_term.specs.Value.{value_of}
use Rattle.relup_file.specs.Outline.{outer_of}
use Rattle.relup_file.proofs.Rows.{both_read, bad_down}
use Rattle.std.proofs.Common.{refl}
use Rattle.relup_file.proofs.entries.relup_in.Goals as goal

pub returns-in_err-downs : goal.returns-in_err-downs
returns-in_err-downs c =
    bad_down (value_of c.args.term.now) (outer_of c.in-Some.outline) c.in-Some.outline.ups.now _ c.from_residual-in_err-downs.result c.in_err-downs.field-0.0
    (rw c.in-Some.is at c.in_ok-outline.ensures) refl c.in_ok-ups.ensures c.in_err-downs.ensures c.from_residual-in_err-downs.ensures

pub returns : goal.returns
returns c =
    both_read (value_of c.args.term.now) (outer_of c.in-Some.outline) c.in-Some.outline.ups.now _ _
    (rw c.in-Some.is at c.in_ok-outline.ensures) refl c.in_ok-ups.ensures c.in_ok-downs.ensures
