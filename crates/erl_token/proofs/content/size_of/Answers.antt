use Rattle.std.proofs.Common.{◌∙◌, sym, ap, subst, length}
use Rattle.std.specs.Str.{IsUtf8, chars}
use Rattle.erl_token.specs.Contents.{piece_bytes}
use Rattle.erl_token.proofs.content.size_of.Goals as goal

pub returns-in-Character-clause-size : goal.returns-in-Character-clause-size
returns-in-Character-clause-size c = c.one.ensures.one ∙ (ap length (sym c.one.ensures.alone.0) ∙ ap (λ p. length (chars (piece_bytes p))) (sym c.in-Character.is))

pub returns-in-Character-clause-utf8 : goal.returns-in-Character-clause-utf8
returns-in-Character-clause-utf8 c = subst (λ p. IsUtf8 (piece_bytes p)) (sym c.in-Character.is) c.one.ensures.alone.1
