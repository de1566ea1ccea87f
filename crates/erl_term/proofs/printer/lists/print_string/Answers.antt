use Rattle.std.proofs.Common.{◌≡◌, ◌++◌, ◌∷◌, [], OnOk, string_bytes, arith}
use Rattle.std.specs.List.{flat_map}
use Rattle.std.proofs.lemmas.Grind.{common_steps}
use Rattle.std.proofs.lemmas.Result.{on_ok_weaker}
use Rattle.erl_term.specs.Value.{value_of}
use Rattle.erl_term.proofs.Characters.{member_text, if_characters}
use Rattle.erl_term.proofs.printer.lists.print_string.Goals as goal

pub returns : goal.returns
returns c =
    let old = string_bytes c.args.out.now in
    let new = string_bytes c.push-2.new.self in
    let members = flat_map (λ t. member_text (value_of t)) c.args.items.now in
    let written : OnOk c.push-2.result (new ≡ old ++ 34 ∷ (members ++ 34 ∷ [])) = grind (arith, common_steps) in
    on_ok_weaker c.push-2.result (if_characters c.args.items.now (λ x. new ≡ old ++ 34 ∷ (x ++ 34 ∷ []))) written
