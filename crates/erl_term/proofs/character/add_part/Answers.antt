use Rattle.std.proofs.Common.{◌≡◌, ◌++◌, map, sym, ◌∙◌, pos}
use Rattle.std.proofs.lemmas.List.{map-id}
use Rattle.std.proofs.lemmas.Iterator.{YieldsList-from_chars}
use Rattle.std.proofs.lemmas.Iterator.Consumers.{YieldsList-end}
use Rattle.std.specs.Str.{chars}
use Rattle.erl_term.specs.Value.{value_of}
use Rattle.erl_term.specs.Value.Value.{int}
use Rattle.erl_term.proofs.TextCharacters.{value_on}
use Rattle.erl_term.proofs.character.add_part.Goals as goal

pub returns-clause-added : goal.returns-clause-added
returns-clause-added c =
    let done = YieldsList-end (YieldsList-from_chars c.args.part.now c.utf8.part cc) c.loop-character.yielded _ c.loop-character.yielded_by _ _ c.in-None.is c.next.ensures.steps in
    let all : c.loop-character.yielded ≡ chars c.args.part.now = sym (map-id c.loop-character.yielded) ∙ done.0 in
    c.loop-character.invariant ∙ (λ j. map value_of (c.reserve.ensures.items j) ++ map (λ n. int (pos n)) (all j))

pub loop-character-preserved : goal.loop-character-preserved
loop-character-preserved c = value_on _ _ _ c.loop-character.yielded c.in-Some.character c.loop-character.invariant c.in_ok-add_character.ensures.added

pub returns-clause-utf8 : goal.returns-clause-utf8
returns-clause-utf8 c = c.utf8.part
