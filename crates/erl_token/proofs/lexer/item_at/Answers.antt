use Rattle.std.proofs.Common.{◌+◌, inl, inr, drop, refl, sym, ◌∙◌, ap, subst}
use Rattle.erl_number.specs.Views.{text_bytes}
use Rattle.erl_token.specs.Lexing.{class_of}
use Rattle.erl_token.specs.Scanned.{IsSpelled}
use Rattle.erl_token.proofs.ClassLemmas.{quote_stands, apostrophe_stands}
use Rattle.erl_token.proofs.Spellings.{name_spelled, number_spelled, stray_spelled}
use Rattle.erl_token.proofs.lexer.item_at.Goals as goal

pub quoted_text-requires-clause-begins : goal.quoted_text-requires-clause-begins
quoted_text-requires-clause-begins c = quote_stands (text_bytes c.args.text) c.args.at c.args.byte c.args.class c.requires.within c.requires.byte c.requires.class c.in-Quote.is

pub quoted_name-requires-clause-begins : goal.quoted_name-requires-clause-begins
quoted_name-requires-clause-begins c = apostrophe_stands (text_bytes c.args.text) c.args.at c.args.byte c.args.class c.requires.within c.requires.byte c.requires.class c.in-Apostrophe.is

pub returns-in-Comma : goal.returns-in-Comma
returns-in-Comma c = rw c.in-Comma.is c.alone.ensures

pub returns-in-OpenTuple : goal.returns-in-OpenTuple
returns-in-OpenTuple c = rw c.in-OpenTuple.is c.alone-in-OpenTuple.ensures

pub returns-in-CloseTuple : goal.returns-in-CloseTuple
returns-in-CloseTuple c = rw c.in-CloseTuple.is c.alone-in-CloseTuple.ensures

pub returns-in-OpenList : goal.returns-in-OpenList
returns-in-OpenList c = rw c.in-OpenList.is c.alone-in-OpenList.ensures

pub returns-in-CloseList : goal.returns-in-CloseList
returns-in-CloseList c = rw c.in-CloseList.is c.alone-in-CloseList.ensures

pub returns-in-Less : goal.returns-in-Less
returns-in-Less c = rw c.in-Less.is c.doubled.ensures

pub returns-in-Greater : goal.returns-in-Greater
returns-in-Greater c = rw c.in-Greater.is c.doubled-in-Greater.ensures

pub returns-in-Dot : goal.returns-in-Dot
returns-in-Dot c = rw c.in-Dot.is c.full_stop.ensures

pub returns-in-Sign : goal.returns-in-Sign
returns-in-Sign c = rw c.in-Sign.is c.signed.ensures

pub returns-in-Quote : goal.returns-in-Quote
returns-in-Quote c = rw c.in-Quote.is c.quoted_text.ensures

pub returns-in-Apostrophe : goal.returns-in-Apostrophe
returns-in-Apostrophe c = rw c.in-Apostrophe.is c.quoted_name.ensures

pub returns-in-Letter : goal.returns-in-Letter
returns-in-Letter c =
    subst (λ s. IsSpelled s c.args.at c.bare_name.result)
    (name_spelled (text_bytes c.args.text) c.args.at c.args.byte c.args.class c.requires.within c.requires.byte c.requires.class c.in-Letter.is) c.bare_name.ensures

pub returns-in-Digit : goal.returns-in-Digit
returns-in-Digit c =
    subst (λ s. IsSpelled s c.args.at c.number.result)
    (number_spelled (text_bytes c.args.text) c.args.at c.args.byte c.args.class c.requires.within c.requires.byte c.in-Digit.is) c.number.ensures

pub returns-in-Blank : goal.returns-in-Blank
returns-in-Blank c =
    subst (λ s. IsSpelled s c.args.at c.alone-in-Blank.result)
    (stray_spelled c.args.at c.args.byte c.args.class (drop (c.args.at + 1) (text_bytes c.args.text)) c.in-Blank.is) c.alone-in-Blank.ensures

pub doubled-requires-clause-like : goal.doubled-requires-clause-like
doubled-requires-clause-like c = inl refl

pub doubled-requires-in-Greater-clause-like : goal.doubled-requires-in-Greater-clause-like
doubled-requires-in-Greater-clause-like c = inr refl

pub bare_name-requires-clause-class : goal.bare_name-requires-clause-class
bare_name-requires-clause-class c = ap class_of (sym c.requires.byte) ∙ (sym c.requires.class ∙ c.in-Letter.is)
