use Rattle.std.proofs.Common.{◌≡◌, ◌+◌, length, take}
use Rattle.std.specs.List.{flat_map}
use Rattle.std.specs.Str.{IsUtf8, chars}
use Rattle.erl_token.specs.Contents.{piece_bytes}
use Rattle.erl_token.proofs.content.have_more_than.Given as goal

abbrev pub invariant-loop-piece : goal.invariant-loop-piece
invariant-loop-piece l = record {
  counted : l.limit ≡ length (chars (flat_map piece_bytes (take l.piece-index l.pieces))) + l.left;
  utf8 : IsUtf8 (flat_map piece_bytes (take l.piece-index l.pieces));
}
