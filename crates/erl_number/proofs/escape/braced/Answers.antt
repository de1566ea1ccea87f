use Rattle.std.proofs.Common.{◌≡◌, ◌+◌, ◌-◌, Some, slice_get, ◌∙◌, sym, arith, rules}
use Rattle.erl_number.specs.Views.{text_bytes}
use Rattle.erl_number.specs.Scanned.{byte_in}
use Rattle.erl_number.proofs.EscapeLemmas.{hex_here, braced_end, braced_closed, braced_other, braced_empty}
use Rattle.erl_number.proofs.escape.braced.Goals as goal

pub returns-in-Some-eq125-clause-is : goal.returns-in-Some-eq125-clause-is
returns-in-Some-eq125-clause-is c =
    let here = hex_here (text_bytes c.args.text) (c.args.at + 2) c.read_digits-number.result.to c.read_digits-number.ensures.to in
    let to : (c.read_digits-number.result.to + 1) - c.args.at ≡ (c.read_digits-number.result.to - (c.args.at + 2)) + 3 = omega (arith, c.if-to-at.true) in
    let brace : byte_in (slice_get (text_bytes c.args.text) c.read_digits-number.result.to) ≡ Some 125 = search rules in
    c.scalar.ensures.is c.args.at
    ∙ braced_closed (text_bytes c.args.text) (c.args.at + 2) c.read_digits-number.result.to c.read_digits-number.result.number ((c.read_digits-number.result.to + 1) - c.args.at) here brace
    c.if-to-at.true c.read_digits-number.ensures.number to

pub returns-in-Some-clause-is : goal.returns-in-Some-clause-is
returns-in-Some-clause-is c =
    let here = hex_here (text_bytes c.args.text) (c.args.at + 2) c.read_digits-number.result.to c.read_digits-number.ensures.to in
    braced_empty (text_bytes c.args.text) (c.args.at + 2) c.read_digits-number.result.to c.in-Some.field-0 here (sym c.in-Some.ensures.is) c.if-to-at.false

pub returns-in-Some-2-clause-is : goal.returns-in-Some-2-clause-is
returns-in-Some-2-clause-is c =
    let here = hex_here (text_bytes c.args.text) (c.args.at + 2) c.read_digits-number.result.to c.read_digits-number.ensures.to in
    braced_other (text_bytes c.args.text) (c.args.at + 2) c.read_digits-number.result.to c.in-Some.field-0 here (sym c.in-Some.ensures.is) c.in-Some.field-0-test.1

pub returns-in-None-clause-is : goal.returns-in-None-clause-is
returns-in-None-clause-is c =
    let here = hex_here (text_bytes c.args.text) (c.args.at + 2) c.read_digits-number.result.to c.read_digits-number.ensures.to in
    braced_end (text_bytes c.args.text) (c.args.at + 2) c.read_digits-number.result.to here (sym c.in-None.ensures.is)
