use Rattle.std.proofs.Common.{◌≡◌, take, string_bytes}
use Rattle.std.specs.List.{flat_map}
use Rattle.erl_token.specs.Contents.{piece_bytes}
use Rattle.erl_token.proofs.content.written.Given as goal

abbrev pub invariant-loop-piece : goal.invariant-loop-piece
invariant-loop-piece l = string_bytes l.text ≡ flat_map piece_bytes (take l.piece-index l.pieces)
