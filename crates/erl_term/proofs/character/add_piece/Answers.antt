use Rattle.std.proofs.Common.{◌≡◌, ◌++◌, ◌∷◌, [], ◌∙◌, ap, sym, subst, map, pos, OnOk}
use Rattle.std.specs.Str.{chars}
use Rattle.erl_token.specs.Contents.{piece_bytes}
use Rattle.erl_term.specs.Value.{value_of}
use Rattle.erl_term.specs.Value.Value.{int}
use Rattle.erl_term.proofs.character.add_piece.Goals as goal

pub returns-in-Character-clause-added : goal.returns-in-Character-clause-added
returns-in-Character-clause-added c =
    let is : (c.in-Character.character ∷ []) ≡ chars (piece_bytes c.args.piece.now) = sym c.add_character.ensures.alone.0 ∙ ap (λ p. chars (piece_bytes p)) (sym c.in-Character.is) in
    subst (λ cs. OnOk c.add_character.result (map value_of c.add_character.new.members.items ≡ map value_of c.args.members.now.items ++ map (λ n. int (pos n)) cs)) is
    c.add_character.ensures.added
