use Rattle.std.proofs.Common.{◌≡◌, pos, ◌-◌, drop, subst, arith}
use Rattle.erl_token.specs.Lexing.{numbered}
use Rattle.erl_number.specs.Numbers.{numeral}
use Rattle.erl_number.specs.Views.{text_bytes}
use Rattle.erl_token.specs.Scanned.{IsSpelled}
use Rattle.erl_token.proofs.lexer.number.Goals as goal

pub returns : goal.returns
returns c =
    let n = numeral c.args.at c.args.at (drop c.args.at (text_bytes c.args.text)) in
    let none : c.args.at - c.args.at ≡ 0 = omega arith in
    subst (λ k. IsSpelled (numbered c.args.at pos k n) c.args.at c.numbered.result) none
    (c.numbered.ensures n c.args.at (omega arith) c.numeral_at.ensures.ends c.numeral_at.ensures.is)
