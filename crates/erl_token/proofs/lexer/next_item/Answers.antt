use Rattle.std.proofs.Common.{◌≡◌, slice_get, Some, refl, sym, ◌∙◌, ap, subst, arith}
use Rattle.std.proofs.lemmas.Option.{slice_get_within, get_or_from_slice_get}
use Rattle.erl_token.specs.Lexing.{join, put_item}
use Rattle.erl_number.specs.Views.{text_bytes}
use Rattle.erl_token.specs.Views.{items_from, item_value, token_value, IsFirst}
use Rattle.erl_token.specs.declared.token.Token.{Token}
use Rattle.erl_token.specs.declared.class.Class.TheVariants.{Other}
use Rattle.erl_token.proofs.Lexemes.{no_item}
use Rattle.erl_token.proofs.JoinLemmas.{is_whole_text, put_item-other, no_whole_text, first_item}
use Rattle.erl_token.proofs.lexer.next_item.Goals as goal

pub returns-in-End : goal.returns-in-End
returns-in-End c = ap join (c.gap_end-at.ensures.same ∙ no_item (text_bytes c.args.text) c.gap_end-at.result (sym c.in-End.ensures.byte))

pub item_at-requires-clause-within : goal.item_at-requires-clause-within
item_at-requires-clause-within c = slice_get_within (text_bytes c.args.text) c.gap_end-at.result c.in-Byte.byte (sym c.in-Byte.ensures.byte)

pub item_at-requires-clause-byte : goal.item_at-requires-clause-byte
item_at-requires-clause-byte c = sym (get_or_from_slice_get (text_bytes c.args.text) c.gap_end-at.result c.in-Byte.byte 0 (sym c.in-Byte.ensures.byte))

pub returns-in_ok-text_row-in-Text : goal.returns-in_ok-text_row-in-Text
returns-in_ok-text_row-in-Text c =
    let here : slice_get (text_bytes c.args.text) c.gap_end-at.result ≡ Some c.in-Byte.byte = sym c.in-Byte.ensures.byte in
    let stops = rw here at c.gap_end-at.ensures.stops in
    let first = first_item (text_bytes c.args.text) c.args.from c.gap_end-at.result c.in-Byte.byte c.of.result c.in_ok-token.field-0 c.gap_end-at.ensures.same here c.of.ensures stops.0 stops.1 c.in_ok-token.ensures in
    let row =
    subst (λ (t : Token). IsFirst (text_bytes c.args.text) (put_item (record { token = token_value t; from = c.in_ok-token.field-0.from; to = c.in_ok-token.field-0.to }) (items_from (text_bytes c.args.text) c.in_ok-token.field-0.to))
    c.in_ok-token.field-0.from (item_value c.in_ok-text_row-in-Text.field-0)) (sym c.in-Text.is) c.in_ok-text_row-in-Text.ensures in
    let place : c.in_ok-token.field-0.from ≡ c.gap_end-at.result = ap (λ j. j.from) c.in_ok-token.ensures.0 in
    (first ∙ row.0, (omega (arith, row.1, c.gap_end-at.ensures.onward)))

pub returns-in_default : goal.returns-in_default
returns-in_default c =
    let here : slice_get (text_bytes c.args.text) c.gap_end-at.result ≡ Some c.in-Byte.byte = sym c.in-Byte.ensures.byte in
    let stops = rw here at c.gap_end-at.ensures.stops in
    let first = first_item (text_bytes c.args.text) c.args.from c.gap_end-at.result c.in-Byte.byte c.of.result c.in_ok-token.field-0 c.gap_end-at.ensures.same here c.of.ensures stops.0 stops.1 c.in_ok-token.ensures in (
      first ∙ put_item-other (item_value c.in_ok-token.field-0) (items_from (text_bytes c.args.text) c.in_ok-token.field-0.to) (no_whole_text c.in_ok-token.field-0.token c.in_default.not-Text),
      (omega (arith, c.in_ok-token.ensures.1, c.gap_end-at.ensures.onward)),
    )

pub returns-in-NotUtf8 : goal.returns-in-NotUtf8
returns-in-NotUtf8 c =
    let here : slice_get (text_bytes c.args.text) c.gap_end-at.result ≡ Some 256 = sym c.in-NotUtf8.ensures.byte in
    let first = first_item (text_bytes c.args.text) c.args.from c.gap_end-at.result 256 Other c.alone.result c.gap_end-at.ensures.same here refl (λ e. absurd cc) (λ e. absurd cc) c.alone.ensures in (
      first ∙ put_item-other (item_value c.alone.result) (items_from (text_bytes c.args.text) c.alone.result.to) (ap (λ j. is_whole_text j.token) c.alone.ensures.0),
      (omega (arith, c.alone.ensures.1, c.gap_end-at.ensures.onward)),
    )
