use Rattle.std.proofs.Common.{◌∙◌, sym}
use Rattle.erl_number.specs.Views.{text_bytes}
use Rattle.erl_number.proofs.EscapeLemmas.{escape_end, escape_octal, escape_hexadecimal, escape_caret, escape_name}
use Rattle.erl_number.proofs.escape.escape_at.Goals as goal

pub returns-in-Some-clause-is : goal.returns-in-Some-clause-is
returns-in-Some-clause-is c = c.octal.ensures.is ∙ escape_octal (text_bytes c.args.text) c.args.at c.in-Some.first (sym c.in-Some.ensures.is)

pub returns-in-Some-eq120-clause-is : goal.returns-in-Some-eq120-clause-is
returns-in-Some-eq120-clause-is c = c.hexadecimal.ensures.is ∙ escape_hexadecimal (text_bytes c.args.text) c.args.at c.in-Some-eq120.field-0 (sym c.in-Some-eq120.ensures.is) c.in-Some-eq120.field-0-test

pub returns-in-Some-eq94-clause-is : goal.returns-in-Some-eq94-clause-is
returns-in-Some-eq94-clause-is c = c.caret.ensures.is ∙ escape_caret (text_bytes c.args.text) c.args.at c.in-Some-eq94.field-0 (sym c.in-Some-eq94.ensures.is) c.in-Some-eq94.field-0-test

pub returns-in-Some-byte-clause-is : goal.returns-in-Some-byte-clause-is
returns-in-Some-byte-clause-is c =
    let ((_, not_x), not_caret) = c.in-Some-byte.byte-test in
    c.by_name.ensures.is
    ∙ escape_name (text_bytes c.args.text) c.args.at c.in-Some-byte.byte (sym c.in-Some-byte.ensures.is) (sym c.in_default.ensures.is) not_x not_caret

pub returns-in-None-clause-is : goal.returns-in-None-clause-is
returns-in-None-clause-is c = escape_end (text_bytes c.args.text) c.args.at (sym c.in-None.ensures.is)

pub octal-requires-clause-first : goal.octal-requires-clause-first
octal-requires-clause-first c = sym c.in-Some.ensures.is

pub octal-requires-clause-room : goal.octal-requires-clause-room
octal-requires-clause-room c = c.in-Some.ensures.behind

pub octal-requires-clause-cut : goal.octal-requires-clause-cut
octal-requires-clause-cut c = c.in-Some.ensures.cut

pub by_name-requires-clause-cut : goal.by_name-requires-clause-cut
by_name-requires-clause-cut c = c.in-Some-byte.ensures.cut

pub returns-in-Some-clause-ends : goal.returns-in-Some-clause-ends
returns-in-Some-clause-ends c = c.octal.ensures.ends

pub hexadecimal-requires : goal.hexadecimal-requires
hexadecimal-requires c = c.in-Some-eq120.ensures.within

pub returns-in-Some-eq120-clause-ends : goal.returns-in-Some-eq120-clause-ends
returns-in-Some-eq120-clause-ends c = c.hexadecimal.ensures.ends

pub by_name-requires-clause-byte : goal.by_name-requires-clause-byte
by_name-requires-clause-byte c = sym c.in-Some-byte.ensures.is

pub by_name-requires-clause-room : goal.by_name-requires-clause-room
by_name-requires-clause-room c = c.in-Some-byte.ensures.within

pub by_name-requires-clause-begins : goal.by_name-requires-clause-begins
by_name-requires-clause-begins c = c.requires

pub caret-requires : goal.caret-requires
caret-requires c = c.in-Some-eq94.ensures.within

pub returns-in-Some-eq94-clause-ends : goal.returns-in-Some-eq94-clause-ends
returns-in-Some-eq94-clause-ends c = c.caret.ensures.ends

pub returns-in-Some-byte-clause-ends : goal.returns-in-Some-byte-clause-ends
returns-in-Some-byte-clause-ends c = c.by_name.ensures.ends
