use Rattle.std.proofs.Common.{◌≡◌, ◌++◌, ◌∷◌, [], ◌∙◌, ap, sym, map, pos, rules}
use Rattle.std.proofs.lemmas.List.{map-append}
use Rattle.erl_term.specs.declared.term.Term.TheVariants.{Int, rolls-Int}
use Rattle.erl_term.specs.declared.term.Term.TheFolds.{fold-roll-Term}
use Rattle.erl_term.specs.Value.{value_of}
use Rattle.erl_term.specs.Value.Value.{int}
use Rattle.erl_token.proofs.Pieces.{stands_alone}
use Rattle.erl_term.proofs.character.add_character.Goals as goal

pub returns-clause-added : goal.returns-clause-added
returns-clause-added c =
    let old = c.args.members.now.items in
    let more : c.push.new.self.items ≡ old ++ Int (pos c.args.character) ∷ [] = search rules in
    let is : value_of (Int (pos c.args.character)) ≡ int (pos c.args.character) = ap value_of (sym (rolls-Int (pos c.args.character))) ∙ fold-roll-Term _ _ _ in
    ap (map value_of) more ∙ (map-append value_of old (Int (pos c.args.character) ∷ []) ∙ ap (λ v. map value_of old ++ v ∷ []) is)

pub returns-in_err-push-clause-alone : goal.returns-in_err-push-clause-alone
returns-in_err-push-clause-alone c = stands_alone c.args.character c.ranges.character.0

pub returns-clause-alone : goal.returns-clause-alone
returns-clause-alone c = stands_alone c.args.character c.ranges.character.0
