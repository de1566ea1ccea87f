use Rattle.std.proofs.Common.{◌≡◌, ◌∷◌, [], ◌∙◌, ap, sym, subst}
use Rattle.std.specs.Prelude.{IfOk}
use Rattle.std.specs.Str.{chars}
use Rattle.erl_token.specs.Contents.{piece_bytes}
use Rattle.erl_token.specs.Bytes.{IsAdded}
use Rattle.erl_token.proofs.bytes.push_piece.Goals as goal

pub returns-in-Character-clause-added : goal.returns-in-Character-clause-added
returns-in-Character-clause-added c =
    let is : (c.in-Character.character ∷ []) ≡ chars (piece_bytes c.args.piece.now) = sym c.push_character.ensures.alone.0 ∙ ap (λ p. chars (piece_bytes p)) (sym c.in-Character.is) in
    subst (λ cs. IfOk c.push_character.result (λ all. IsAdded all cs c.args.bytes.now.items c.push_character.new.bytes.items)) is c.push_character.ensures.added
