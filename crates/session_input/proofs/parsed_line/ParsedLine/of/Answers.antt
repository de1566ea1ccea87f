use Rattle.std.proofs.Common.{rules, subst, sym}
use Rattle.std.specs.Str.{IsUtf8}
use Rattle.session_input.proofs.ParsedLines.{parsed_blank, parsed_text, parsed_no_text}
use Rattle.session_input.proofs.parsed_line.ParsedLine.of.Goals as goal

pub returns-then-is_blank : goal.returns-then-is_blank
returns-then-is_blank c = λ l kept. parsed_blank c.in-Text.bytes.items l (rw c.in-Text.is at kept) (search rules)

pub returns-in-Ok : goal.returns-in-Ok
returns-in-Ok c =
    parsed_text _ _ c.in-Text.bytes.items c.in-Ok.text.now (λ l kept. rw c.in-Text.is at kept) (search rules)
    (subst IsUtf8 c.deref-2.ensures.value c.in-Ok.ensures.cases.1) (search rules) c.of_text.ensures

pub returns-in-Err : goal.returns-in-Err
returns-in-Err c =
    λ l kept. parsed_no_text c.in-Text.bytes.items l (rw c.in-Text.is at kept) (search rules)
    (λ text. c.in-Err.ensures.cases.0 (subst IsUtf8 (sym c.deref-2.ensures.value) text))
