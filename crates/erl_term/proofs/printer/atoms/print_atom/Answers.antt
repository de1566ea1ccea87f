use Rattle.std.proofs.Common.{◌≡◌, List, ℕ, map, sym, ◌∙◌, arith}
use Rattle.std.specs.Str.{chars}
use Rattle.std.proofs.lemmas.Iterator.{YieldsList-from_chars}
use Rattle.std.proofs.lemmas.Iterator.Consumers.{YieldsList-end}
use Rattle.std.proofs.lemmas.Grind.{common_steps}
use Rattle.erl_term.proofs.printer.atoms.print_atom.Goals as goal

map_same : (xs : List ℕ) → map (λ x. x) xs ≡ xs
map_same xs = simp common_steps

pub returns : goal.returns
returns c =
    let all = YieldsList-end (YieldsList-from_chars c.args.name.now c.utf8.name cc) c.loop-character.yielded _ c.loop-character.yielded_by _ _ c.in-None.is c.next.ensures.steps in
    let read : c.loop-character.yielded ≡ chars c.args.name.now = sym (map_same c.loop-character.yielded) ∙ all.0 in
    grind (arith, common_steps, read)
