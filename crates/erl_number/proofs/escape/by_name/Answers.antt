use Rattle.std.proofs.Common.{◌≡◌, ◌+◌, None, slice_get, get_or, drop, ◌∙◌, sym, arith, rules}
use Rattle.std.proofs.lemmas.Option.{get_or_from_slice_get}
use Rattle.erl_number.specs.Escapes.{letter_character, by_name}
use Rattle.erl_number.specs.Views.{text_bytes}
use Rattle.erl_number.proofs.DigitRows.{slice_get_byte}
use Rattle.erl_number.proofs.EscapeLemmas.{named_small}
use Rattle.erl_number.proofs.escape.by_name.Goals as goal

pub returns-in-Some-clause-ends : goal.returns-in-Some-clause-ends
returns-in-Some-clause-ends c = ((omega arith), (omega (arith, c.requires.room)), c.requires.cut (named_small c.args.byte c.in-Some.character (search rules)))

pub returns-in-None-clause-is : goal.returns-in-None-clause-is
returns-in-None-clause-is c =
    let byte : get_or (text_bytes c.args.text) c.args.at 0 ≡ c.args.byte =
    get_or_from_slice_get (text_bytes c.args.text) c.args.at c.args.byte 0 (slice_get_byte (slice_get (text_bytes c.args.text) c.args.at) c.args.byte c.requires.byte) in
    let none : letter_character c.args.byte ≡ None = search rules in
    sym c.character_at-character.ensures.is
    ∙ (λ j. by_name (sym none j) (byte j) (drop (c.args.at + 1) (text_bytes c.args.text)))
