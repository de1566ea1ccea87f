use Rattle.std.proofs.Common.{◌≡◌, ◌+◌, ◌-◌, Some, slice_get, ◌∙◌, sym, subst, arith, rules}
use Rattle.std.specs.Str.{IsCharBoundary}
use Rattle.erl_number.specs.Views.{text_bytes}
use Rattle.erl_number.proofs.TextPlaces.{byte_cut, byte_within}
use Rattle.erl_number.proofs.Numerals.{character_none, character_bad, character_itself}
use Rattle.erl_number.proofs.number.of_character.Goals as goal

pub returns-in-End-clause-is : goal.returns-in-End-clause-is
returns-in-End-clause-is c = character_none (c.args.at + 1) (text_bytes c.args.text) (sym c.in-End.ensures.byte)

pub returns-in-NotUtf8-clause-is : goal.returns-in-NotUtf8-clause-is
returns-in-NotUtf8-clause-is c = character_bad (c.args.at + 1) 256 (text_bytes c.args.text) (sym c.in-NotUtf8.ensures.byte) (omega arith)

pub of_escape-requires-clause-cut : goal.of_escape-requires-clause-cut
of_escape-requires-clause-cut c =
    let stands : slice_get (text_bytes c.args.text) (c.args.at + 1) ≡ Some 92 = sym c.in-Byte.ensures.byte ∙ (λ j. Some (c.if-byte-eq92.true j)) in
    let place : (c.args.at + 1) + 1 ≡ c.args.at + 2 = omega arith in
    subst (λ p. IsCharBoundary c.args.text.valid.now p) place (byte_cut c.args.text.valid.now c.args.text.is_spoilt (c.args.at + 1) 92 c.at.ensures.utf8 stands (omega arith))

pub character_at-character-requires-clause-within : goal.character_at-character-requires-clause-within
character_at-character-requires-clause-within c =
    (byte_within c.args.text.valid.now c.args.text.is_spoilt (c.args.at + 1) c.in-Byte.byte (sym c.in-Byte.ensures.byte) (omega arith))

pub returns-else-byte-eq92-clause-is : goal.returns-else-byte-eq92-clause-is
returns-else-byte-eq92-clause-is c =
    character_itself (c.args.at + 1) c.in-Byte.byte c.character_at-character.result.0 c.character_at-character.result.1 c.from.result (c.character_at-character.result.1 - c.args.at)
    (text_bytes c.args.text) (sym c.in-Byte.ensures.byte) (omega arith) c.if-byte-eq92.false c.character_at-character.ensures.is (search rules) c.from.ensures
    (omega (arith, c.character_at-character.ensures.behind.0))
