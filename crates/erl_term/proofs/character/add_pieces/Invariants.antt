use Rattle.std.proofs.Common.{◌≡◌, ◌++◌, map, take}
use Rattle.std.specs.List.{flat_map}
use Rattle.std.specs.Str.{IsUtf8}
use Rattle.erl_term.specs.Value.{value_of}
use Rattle.erl_token.specs.Contents.{piece_bytes}
use Rattle.erl_term.specs.Views.{character_values}
use Rattle.erl_term.proofs.character.add_pieces.Given as goal

abbrev pub invariant-loop-piece : goal.invariant-loop-piece
invariant-loop-piece l = record {
  added : map value_of l.members.items ≡ map value_of l.initial.members.items ++ character_values (flat_map piece_bytes (take l.piece-index l.pieces));
  utf8 : IsUtf8 (flat_map piece_bytes (take l.piece-index l.pieces));
}
