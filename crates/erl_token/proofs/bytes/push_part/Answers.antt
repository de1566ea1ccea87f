use Rattle.std.proofs.Common.{◌≡◌, ◌∙◌, ◌∷◌, [], refl, sym, subst, true, append-nil}
use Rattle.std.specs.Str.{chars}
use Rattle.std.proofs.lemmas.List.{map-id}
use Rattle.std.proofs.lemmas.Iterator.{YieldsList-from_chars}
use Rattle.std.proofs.lemmas.Iterator.Consumers.{YieldsList-end, YieldsList-turn}
use Rattle.erl_token.specs.Bytes.{IsAdded}
use Rattle.erl_token.proofs.ByteLemmas.{bytes_of-but, no_byte, bytes_on}
use Rattle.erl_token.proofs.bytes.push_part.Goals as goal

pub returns-then-not-branch-clause-added : goal.returns-then-not-branch-clause-added
returns-then-not-branch-clause-added c =
    let turn = YieldsList-turn (YieldsList-from_chars c.args.part.now c.utf8.part cc) c.loop-character.yielded _ c.loop-character.yielded_by _ _ c.in-Some.character c.in-Some.is c.next.ensures.steps in
    let large = no_byte c.in-Some.character (rw c.if-not-branch.true at c.in_ok-push_character.ensures.added) in
    bytes_of-but (chars c.args.part.now) _ c.in-Some.character turn.0 turn.1 large

pub returns-clause-added : goal.returns-clause-added
returns-clause-added c =
    let done = YieldsList-end (YieldsList-from_chars c.args.part.now c.utf8.part cc) c.loop-character.yielded _ c.loop-character.yielded_by _ _ c.in-None.is c.next.ensures.steps in
    let all : c.loop-character.yielded ≡ chars c.args.part.now = sym (map-id c.loop-character.yielded) ∙ done.0 in
    subst (λ cs. IsAdded true cs c.args.bytes.now.items c.loop-character.bytes.items) all c.loop-character.invariant

pub loop-character-init : goal.loop-character-init
loop-character-init c = (refl, sym (append-nil c.args.bytes.now.items))

pub loop-character-preserved : goal.loop-character-preserved
loop-character-preserved c = bytes_on _ _ _ _ _ (c.in-Some.character ∷ []) refl c.loop-character.invariant (rw c.if-not-branch.false at c.in_ok-push_character.ensures.added)

pub returns-clause-utf8 : goal.returns-clause-utf8
returns-clause-utf8 c = c.utf8.part

pub returns-then-not-branch-clause-utf8 : goal.returns-then-not-branch-clause-utf8
returns-then-not-branch-clause-utf8 c = c.utf8.part
