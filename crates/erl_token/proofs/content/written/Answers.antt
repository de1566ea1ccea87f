use Rattle.std.proofs.Common.{sym, ◌∙◌, ap, string_bytes}
use Rattle.erl_token.specs.Contents.{piece_bytes}
use Rattle.erl_token.proofs.Pieces.{bytes_after}
use Rattle.erl_token.proofs.content.written.Goals as goal
use Rattle.erl_token.proofs.content.written.Goals.{in-Part+in_ok-push_str-in-Part, in-Character+in_ok-push-in-Character}

pub loop-piece-preserved : goal.loop-piece-preserved
loop-piece-preserved c =
    elim c.match-piece.branch [
      | in-Part+in_ok-push_str-in-Part w ↦ bytes_after _ _ _ _ _ _ c.loop-piece-test.true c.loop-piece.invariant (ap string_bytes w.text-is ∙ w.in_ok-push_str-in-Part.ensures.bytes) (sym (ap piece_bytes w.in-Part.is))
      | in-Character+in_ok-push-in-Character w ↦ bytes_after _ _ _ _ _ _ c.loop-piece-test.true c.loop-piece.invariant (ap string_bytes w.text-is ∙ w.in_ok-push-in-Character.ensures.bytes) (sym (ap piece_bytes w.in-Character.is))
    ]
