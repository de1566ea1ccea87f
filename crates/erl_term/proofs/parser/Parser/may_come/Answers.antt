use Rattle.std.proofs.Common.{◌∙◌, ap, sym}
use Rattle.erl_term.specs.Machine.{comes}
use Rattle.erl_token.specs.Views.{like_value}
use Rattle.erl_term.specs.Views.{progress_of}
use Rattle.erl_term.proofs.ParserLemmas.{comes_text}
use Rattle.erl_term.proofs.parser.Parser.may_come.Goals as goal

pub returns-in-Text : goal.returns-in-Text
returns-in-Text c =
    let limit = c.args.self.now.limit in
    let read = progress_of c.args.self.now in
    c.begins_member-in-Text.ensures ∙ (sym (comes_text limit read) ∙ ap (λ like. comes limit read (like_value like)) (sym c.in-Text.is))
