use Rattle.std.proofs.Common.{◌≡◌, [], ◌∷◌, refl, lit≤, string_bytes, arith}
use Rattle.std.proofs.lemmas.Grind.{common_steps}
use Rattle.std.proofs.lemmas.Str.{IsUtf8-string_bytes}
use Rattle.erl_term.specs.Value.{value_of}
use Rattle.erl_term.specs.Printing.{text_of}
use Rattle.erl_term.proofs.ReadBack.{reads_back}
use Rattle.erl_term.proofs.printer.print.Goals as goal

pub returns-clause-reads_back : goal.returns-clause-reads_back
returns-clause-reads_back c = λ limit within.
    let out = c.print_term.new.out in
    let printed : string_bytes out ≡ text_of (value_of c.args.term.now) = grind (arith, common_steps) in
    reads_back limit (value_of c.args.term.now) (string_bytes out) printed (IsUtf8-string_bytes out) within c.in_ok-print_term.ensures.fits

pub returns-clause-is_a_body : goal.returns-clause-is_a_body
returns-clause-is_a_body c = λ within.
    let out = c.print_term.new.out in
    let printed : string_bytes out ≡ text_of (value_of c.args.term.now) = grind (arith, common_steps) in
    (_, reads_back 72 (value_of c.args.term.now) (string_bytes out) printed (IsUtf8-string_bytes out) within c.in_ok-print_term.ensures.fits (10 ∷ []) (lit≤ tt, tt), refl)
