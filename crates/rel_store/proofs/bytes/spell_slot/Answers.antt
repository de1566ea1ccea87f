use Rattle.std.proofs.Common.{◌≡◌, ◌+◌, ◌-◌, ◌∷◌, ◌++◌, length, drop, replicate, ◌∙◌, ap, arith}
use Rattle.std.proofs.lemmas.List.{drop-replicate}
use Rattle.rel_store.proofs.bytes.spell_slot.Goals as goal

pub returns : goal.returns
returns c =
    let text = c.args.text.now in
    let n = length text in
    let same : n + 1 - 1 ≡ n = omega arith in
    let copied : c.copy_from_slice.new.self ≡ text = c.copy_from_slice.ensures.after in
    (λ i. n ∷ (copied i ++ drop (same i) (replicate 127 0))) ∙ ap (λ zeros. n ∷ (text ++ zeros)) (drop-replicate n 127 0)
