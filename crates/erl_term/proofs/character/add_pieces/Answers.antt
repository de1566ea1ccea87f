use Rattle.std.proofs.Common.{◌++◌, ◌∙◌, map, pos, ap, sym, append-nil}
use Rattle.std.proofs.lemmas.Str.{chars-nil, IsUtf8-nil}
use Rattle.erl_term.specs.Value.{value_of}
use Rattle.erl_term.specs.Value.Value.{int}
use Rattle.erl_token.proofs.Pieces.{utf8_more, chars_more}
use Rattle.erl_term.proofs.TextCharacters.{values_on}
use Rattle.erl_term.proofs.character.add_pieces.Goals as goal

pub loop-piece-init : goal.loop-piece-init
loop-piece-init c =
    let old = map value_of c.args.members.now.items in
    record { added = sym (append-nil old) ∙ ap (λ cs. old ++ map (λ n. int (pos n)) cs) (sym chars-nil); utf8 = IsUtf8-nil }

pub loop-piece-preserved : goal.loop-piece-preserved
loop-piece-preserved c =
    let more = chars_more c.args.pieces.now c.loop-piece.piece-index _ c.loop-piece-test.true c.loop-piece.invariant.utf8 in
    record {
      added = values_on _ _ _ _ _ _ more c.loop-piece.invariant.added c.in_ok-add_piece.ensures.added;
      utf8 = utf8_more c.args.pieces.now c.loop-piece.piece-index _ c.loop-piece-test.true c.loop-piece.invariant.utf8 c.add_piece.ensures.utf8;
    }
