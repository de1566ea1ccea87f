use Rattle.std.proofs.Common.{◌≡◌, ◌+◌, ◌&&◌, true, false, length, drop, slice_get, eqb, sym, arith, rules}
use Rattle.std.specs.Char.{is_digit}
use Rattle.erl_number.specs.Views.{text_bytes}
use Rattle.erl_number.specs.Scanned.{digits_here, capped}
use Rattle.erl_number.specs.Numbers.{spelled_by, begins}
use Rattle.erl_number.proofs.DigitRows.{slice_get_byte, row_digit, row_joint, joint_is, row_stops, row_end, number_digit, number_joint, spelled_over, counted_over, spelled_end, counted_end}
use Rattle.erl_number.proofs.digits.read_digits.Goals as goal
use Rattle.erl_number.proofs.digits.read_digits.Goals.{then-digit-base, else-digit-base+else-not-is_joint}

pub loop-byte-preserved : goal.loop-byte-preserved
loop-byte-preserved c =
    let bytes = text_bytes c.args.text in
    let here = digits_here c.args.joined c.args.base (drop c.loop-byte.at (text_bytes c.args.text)) in
    let rest = digits_here c.args.joined c.args.base (drop (c.loop-byte.at + 1) (text_bytes c.args.text)) in
    let all = digits_here c.args.joined c.args.base (drop c.args.from (text_bytes c.args.text)) in
    let byte = slice_get_byte (slice_get (text_bytes c.args.text) c.loop-byte.at) c.in-Some.byte (sym c.in-Some.ensures.is) in
    elim c.if-digit-base.branch [
      | then-digit-base w ↦
          let row = row_digit c.args.joined c.args.base bytes c.loop-byte.at c.in-Some.byte byte (omega (arith, w.if-digit-base.true, c.digit_value-digit.ensures)) in
          let step = number_digit c.args.base c.loop-byte.number c.if-digit-base.number c.digit_value-digit.result c.in-Some.byte rest c.requires.low c.requires.high w.if-digit-base.true
          c.digit_value-digit.ensures (search rules) in
          record {
            counted = counted_over c.loop-byte.at c.args.from c.in-Some.byte (length all) here rest row c.loop-byte.invariant.counted;
            spelled = spelled_over c.args.base c.loop-byte.number c.if-digit-base.number c.in-Some.byte here rest (capped (spelled_by c.args.base all)) row step c.loop-byte.invariant.spelled;
            within = search rules;
            fits = search rules;
          }
      | else-digit-base+else-not-is_joint w ↦
          let joint : (c.args.joined && (eqb c.in-Some.byte 95 && begins (λ x. is_digit x c.args.base) (drop (c.loop-byte.at + 1) bytes))) ≡ true = search rules in
          let row = row_joint c.args.joined c.args.base bytes c.loop-byte.at c.in-Some.byte byte (omega (arith, w.if-digit-base.false, c.digit_value-digit.ensures)) joint in
          let is = joint_is c.args.joined (begins (λ x. is_digit x c.args.base) (drop (c.loop-byte.at + 1) bytes)) c.in-Some.byte joint in
          let step = number_joint c.args.base c.loop-byte.number c.if-digit-base.number c.in-Some.byte rest is (search rules) in
          record {
            counted = counted_over c.loop-byte.at c.args.from c.in-Some.byte (length all) here rest row c.loop-byte.invariant.counted;
            spelled = spelled_over c.args.base c.loop-byte.number c.if-digit-base.number c.in-Some.byte here rest (capped (spelled_by c.args.base all)) row step c.loop-byte.invariant.spelled;
            within = search rules;
            fits = search rules;
          }
    ]

pub returns-in_default-clause-number : goal.returns-in_default-clause-number
returns-in_default-clause-number c =
    let ended = row_end c.args.joined c.args.base (text_bytes c.args.text) c.loop-byte.at (search rules) c.requires.high in
    spelled_end c.args.base c.loop-byte.number (digits_here c.args.joined c.args.base (drop c.loop-byte.at (text_bytes c.args.text)))
    (capped (spelled_by c.args.base (digits_here c.args.joined c.args.base (drop c.args.from (text_bytes c.args.text))))) ended c.loop-byte.invariant.fits c.loop-byte.invariant.spelled

pub returns-in_default-clause-to : goal.returns-in_default-clause-to
returns-in_default-clause-to c =
    let ended = row_end c.args.joined c.args.base (text_bytes c.args.text) c.loop-byte.at (search rules) c.requires.high in
    counted_end c.loop-byte.at c.args.from (length (digits_here c.args.joined c.args.base (drop c.args.from (text_bytes c.args.text))))
    (digits_here c.args.joined c.args.base (drop c.loop-byte.at (text_bytes c.args.text))) ended c.loop-byte.invariant.counted

pub returns-then-not-is_joint-clause-number : goal.returns-then-not-is_joint-clause-number
returns-then-not-is_joint-clause-number c =
    let bytes = text_bytes c.args.text in
    let byte = slice_get_byte (slice_get (text_bytes c.args.text) c.loop-byte.at) c.in-Some.byte (sym c.in-Some.ensures.is) in
    let joint : (c.args.joined && (eqb c.in-Some.byte 95 && begins (λ x. is_digit x c.args.base) (drop (c.loop-byte.at + 1) bytes))) ≡ false = search rules in
    let ended = row_stops c.args.joined c.args.base bytes c.loop-byte.at c.in-Some.byte byte (omega (arith, c.if-digit-base.false, c.digit_value-digit.ensures)) joint in
    spelled_end c.args.base c.loop-byte.number (digits_here c.args.joined c.args.base (drop c.loop-byte.at bytes))
    (capped (spelled_by c.args.base (digits_here c.args.joined c.args.base (drop c.args.from bytes)))) ended c.loop-byte.invariant.fits c.loop-byte.invariant.spelled

pub returns-then-not-is_joint-clause-to : goal.returns-then-not-is_joint-clause-to
returns-then-not-is_joint-clause-to c =
    let bytes = text_bytes c.args.text in
    let byte = slice_get_byte (slice_get (text_bytes c.args.text) c.loop-byte.at) c.in-Some.byte (sym c.in-Some.ensures.is) in
    let joint : (c.args.joined && (eqb c.in-Some.byte 95 && begins (λ x. is_digit x c.args.base) (drop (c.loop-byte.at + 1) bytes))) ≡ false = search rules in
    let ended = row_stops c.args.joined c.args.base bytes c.loop-byte.at c.in-Some.byte byte (omega (arith, c.if-digit-base.false, c.digit_value-digit.ensures)) joint in
    counted_end c.loop-byte.at c.args.from (length (digits_here c.args.joined c.args.base (drop c.args.from bytes)))
    (digits_here c.args.joined c.args.base (drop c.loop-byte.at bytes)) ended c.loop-byte.invariant.counted
