use Rattle.std.proofs.Common.{◌≡◌, ◌++◌, ℕ, List, [], ap, codes, ◌∙◌}
use Rattle.store_report.specs.Lines.{number_line}
use Rattle.store_report.proofs.layout.layout_text.Goals as goal

-- six texts put one after another
in_turn : (t0 t1 t2 t3 t4 t5 t6 a b c d e f a' b' c' d' e' f' : List ℕ) → t0 ≡ [] → t1 ≡ t0 ++ a → t2 ≡ t1 ++ b → t3 ≡ t2 ++ c → t4 ≡ t3 ++ d → t5 ≡ t4 ++ e → t6 ≡ t5 ++ f
    → a ≡ a' → b ≡ b' → c ≡ c' → d ≡ d' → e ≡ e' → f ≡ f' → t6 ≡ a' ++ b' ++ c' ++ d' ++ e' ++ f'
in_turn t0 t1 t2 t3 t4 t5 t6 a b c d e f a' b' c' d' e' f' p0 p1 p2 p3 p4 p5 p6 ea eb ec ed ee ef =
    let first : t1 ≡ a' = p1 ∙ (λ i. p0 i ++ ea i) in
    let second : t2 ≡ a' ++ b' = p2 ∙ (λ i. first i ++ eb i) in
    let third : t3 ≡ a' ++ b' ++ c' = p3 ∙ (λ i. second i ++ ec i) in
    let fourth : t4 ≡ a' ++ b' ++ c' ++ d' = p4 ∙ (λ i. third i ++ ed i) in
    let fifth : t5 ≡ a' ++ b' ++ c' ++ d' ++ e' = p5 ∙ (λ i. fourth i ++ ee i) in
    p6 ∙ (λ i. fifth i ++ ef i)

pub returns : goal.returns
returns c =
    in_turn _ _ _ _ _ _ _ _ _ _ _ _ _ _ _ _ _ _ _ c.new-text.ensures.items
    c.in_ok-push_number.ensures c.in_ok-push_number-2.ensures c.in_ok-push_number-3.ensures
    c.in_ok-push_number-4.ensures c.in_ok-push_number-5.ensures c.in_ok-push_number-6.ensures
    (ap (number_line (codes "format")) c.format_of.ensures)
    (ap (number_line (codes "start selector")) c.from.ensures)
    (ap (number_line (codes "start slot")) c.start_slot.ensures)
    (ap (number_line (codes "base selector")) c.from-2.ensures)
    (ap (number_line (codes "base slot")) c.base_slot.ensures.slot)
    (ap (number_line (codes "base")) c.base_of.ensures)
