use Rattle.std.proofs.Common.{Some, sym, ap, ◌∙◌}
use Rattle.appup_match.specs.Match.{is_whole}
use Rattle.appup_match.proofs.PatternLemmas.{none_without_utf8, verdict_of_search}
use Rattle.appup_match.proofs.search.matches_whole.Goals as goal

pub returns-in_default-clause-refused : goal.returns-in_default-clause-refused
returns-in_default-clause-refused c = none_without_utf8 c.args.bytes.now c.in_default.ensures.cases.0

pub returns-clause-answer : goal.returns-clause-answer
returns-clause-answer c =
    let vsn = c.args.vsn.now in
    let made = c.in_ok-regex.ensures in
    let is_text = c.in-Ok.ensures.cases in
    verdict_of_search c.in_ok-regex.regex c.args.bytes.now vsn is_text.1 (made.source ∙ is_text.0) made.config made.read (λ k. (c.type_inv.vsn k).fits)
    ∙ ap (λ o. Some (is_whole vsn o)) (sym (rw (c.in-Ok-matcher.ensures.pattern) at c.find.ensures.found)) ∙ ap Some (sym c.is_whole.ensures)
