use Rattle.std.proofs.Common.{◌++◌, ◌∷◌, [], string_bytes, ap, ◌∙◌, lit<, arith}
use Rattle.std.specs.Fmt.{decimal}
use Rattle.erl_term.proofs.Commas.{prints-first, prints-next, prints-end, all_bytes}
use Rattle.erl_term.proofs.printer.lists.print_bytes.Goals.{then-i-gt0+in_ok-push, else-i-gt0}
use Rattle.erl_term.proofs.printer.lists.print_bytes.Goals as goal

pub loop-i-preserved : goal.loop-i-preserved
loop-i-preserved c =
    let bytes = c.args.bytes.now in
    let old = string_bytes c.push_str.new.self in
    let out = string_bytes c.loop-i.out in
    let mid = string_bytes c.if-i-gt0.out in
    let new = string_bytes c.print_byte.new.out in
    elim c.if-i-gt0.branch [
      | then-i-gt0+in_ok-push w ↦ prints-next decimal bytes c.loop-i.i 0 c.loop-i-test.true w.if-i-gt0.true old out mid new c.loop-i.invariant (ap string_bytes w.out-is ∙ w.in_ok-push.ensures.bytes ∙ ap (λ x. out ++ x) (w.in_ok-push.ensures.ascii (lit< tt))) c.in_ok-print_byte.ensures.printed
      | else-i-gt0 w ↦ prints-first decimal bytes c.loop-i.i 0 c.loop-i-test.true (omega (arith, w.if-i-gt0.false)) old out mid new c.loop-i.invariant (ap string_bytes w.out-is) c.in_ok-print_byte.ensures.printed
    ]

pub returns-clause-printed : goal.returns-clause-printed
returns-clause-printed c =
    prints-end c.push_str-2.result decimal c.args.bytes.now c.loop-i.i c.loop-i-test.false (60 ∷ 60 ∷ []) (62 ∷ 62 ∷ [])
    (string_bytes c.args.out.now) (string_bytes c.push_str.new.self) (string_bytes c.loop-i.out) (string_bytes c.push_str-2.new.self)
    c.in_ok-push_str.ensures.bytes c.loop-i.invariant c.push_str-2.ensures.bytes

pub returns-clause-fit : goal.returns-clause-fit
returns-clause-fit c = all_bytes c.args.bytes.now (λ i. (c.type_inv.bytes i).fits)

pub returns-in_err-push_str-clause-fit : goal.returns-in_err-push_str-clause-fit
returns-in_err-push_str-clause-fit c = all_bytes c.args.bytes.now (λ i. (c.type_inv.bytes i).fits)

pub returns-in_err-push-clause-fit : goal.returns-in_err-push-clause-fit
returns-in_err-push-clause-fit c = all_bytes c.args.bytes.now (λ i. (c.type_inv.bytes i).fits)

pub returns-in_err-print_byte-clause-fit : goal.returns-in_err-print_byte-clause-fit
returns-in_err-print_byte-clause-fit c = all_bytes c.args.bytes.now (λ i. (c.type_inv.bytes i).fits)
