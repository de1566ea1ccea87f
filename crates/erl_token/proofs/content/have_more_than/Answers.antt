use Rattle.std.proofs.Common.{◌≡◌, [], length, ap, sym, arith}
use Rattle.std.specs.Str.{chars}
use Rattle.std.proofs.lemmas.Str.{chars-nil, IsUtf8-nil}
use Rattle.erl_token.proofs.Pieces.{utf8_more, chars_more, chars_around, counts_on, goes_over}
use Rattle.erl_token.proofs.content.have_more_than.Goals as goal

pub loop-piece-init : goal.loop-piece-init
loop-piece-init c =
    let none : length (chars []) ≡ 0 = ap length chars-nil in
    record { counted = omega (arith, none); utf8 = IsUtf8-nil }

pub returns-then-size-left : goal.returns-then-size-left
returns-then-size-left c =
    let around = chars_around c.args.pieces.now c.loop-piece.piece-index _ c.loop-piece-test.true c.loop-piece.invariant.utf8 c.size_of-size.ensures.utf8 in
    sym (goes_over c.args.limit c.loop-piece.left c.size_of-size.result _ _ _ _ around c.loop-piece.invariant.counted c.size_of-size.ensures.size c.if-size-left.true)

pub loop-piece-preserved : goal.loop-piece-preserved
loop-piece-preserved c =
    let more = chars_more c.args.pieces.now c.loop-piece.piece-index _ c.loop-piece-test.true c.loop-piece.invariant.utf8 in
    record {
      counted = counts_on c.args.limit c.loop-piece.left c.size_of-size.result _ _ _ more c.loop-piece.invariant.counted c.size_of-size.ensures.size c.if-size-left.false;
      utf8 = utf8_more c.args.pieces.now c.loop-piece.piece-index _ c.loop-piece-test.true c.loop-piece.invariant.utf8 c.size_of-size.ensures.utf8;
    }
