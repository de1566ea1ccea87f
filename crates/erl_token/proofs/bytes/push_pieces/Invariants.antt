use Rattle.std.proofs.Common.{true, take}
use Rattle.std.specs.List.{flat_map}
use Rattle.std.specs.Str.{IsUtf8, chars}
use Rattle.erl_token.specs.Contents.{piece_bytes}
use Rattle.erl_token.specs.Bytes.{IsAdded}
use Rattle.erl_token.proofs.bytes.push_pieces.Given as goal

abbrev pub invariant-loop-piece : goal.invariant-loop-piece
invariant-loop-piece l = record {
  added : IsAdded true (chars (flat_map piece_bytes (take l.piece-index l.pieces))) l.initial.bytes.items l.bytes.items;
  utf8 : IsUtf8 (flat_map piece_bytes (take l.piece-index l.pieces));
}
