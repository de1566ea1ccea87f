use Rattle.std.proofs.Common.{true, refl, sym, subst, append-nil}
use Rattle.std.proofs.lemmas.Str.{chars-nil, IsUtf8-nil}
use Rattle.erl_token.specs.Bytes.{IsAdded}
use Rattle.erl_token.proofs.Pieces.{utf8_more, chars_more}
use Rattle.erl_token.proofs.ByteLemmas.{bytes_on, bytes_but_piece}
use Rattle.erl_token.proofs.bytes.push_pieces.Goals as goal

pub loop-piece-init : goal.loop-piece-init
loop-piece-init c =
    let old = c.args.bytes.now.items in
    record { added = subst (λ cs. IsAdded true cs old old) (sym chars-nil) (refl, sym (append-nil old)); utf8 = IsUtf8-nil }

pub returns-then-not-branch : goal.returns-then-not-branch
returns-then-not-branch c =
    bytes_but_piece c.args.pieces.now c.loop-piece.piece-index _ c.loop-piece-test.true c.loop-piece.invariant.utf8 c.push_piece.ensures.utf8
    (rw c.if-not-branch.true at c.in_ok-push_piece.ensures.added)

pub loop-piece-preserved : goal.loop-piece-preserved
loop-piece-preserved c =
    let more = chars_more c.args.pieces.now c.loop-piece.piece-index _ c.loop-piece-test.true c.loop-piece.invariant.utf8 in
    record {
      added = bytes_on _ _ _ _ _ _ more c.loop-piece.invariant.added (rw c.if-not-branch.false at c.in_ok-push_piece.ensures.added);
      utf8 = utf8_more c.args.pieces.now c.loop-piece.piece-index _ c.loop-piece-test.true c.loop-piece.invariant.utf8 c.push_piece.ensures.utf8;
    }
