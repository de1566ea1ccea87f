use Rattle.std.proofs.Common.{◌≡◌, ◌∙◌, nat_lt, true, false, length, sym}
use Rattle.std.specs.Str.{chars}
use Rattle.erl_token.specs.Contents.{content_bytes}
use Rattle.erl_token.proofs.NameLemmas.{named_long, named_short}
use Rattle.erl_token.proofs.lexer.name_item.Goals as goal

pub returns-then-is_longer_than : goal.returns-then-is_longer_than
returns-then-is_longer_than c =
    let long : nat_lt 255 (length (chars (content_bytes c.args.name))) ≡ true = sym c.is_longer_than.ensures ∙ c.if-is_longer_than.true in
    (c.alone.ensures.0 ∙ named_long c.args.from c.args.to (content_bytes c.args.name) long, c.alone.ensures.1)

pub returns : goal.returns
returns c =
    let short : nat_lt 255 (length (chars (content_bytes c.args.name))) ≡ false = sym c.is_longer_than.ensures ∙ c.if-is_longer_than.false in
    (named_short c.args.from c.args.to (content_bytes c.args.name) short c.requires.onward, c.requires.onward)
