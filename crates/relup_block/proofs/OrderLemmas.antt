-- One choice after another.
use Rattle.std.proofs.Common.{◌≡◌, refl, ap, sym, ◌∙◌, ℕ, List, [], ◌∷◌, ◌++◌, length, Some}
use Rattle.std.proofs.lemmas.List.{append_assoc}
use Rattle.relup_block.specs.declared.order.ChoiceRule.{ChoiceRule}
use Rattle.relup_block.specs.Order.{BlockItemForm, choice, choose_then, choices, order}
use Rattle.relup_block.proofs.PermutationLemmas.{choice_length}

order_more : (rule : ChoiceRule) (left : List BlockItemForm) (x : BlockItemForm) (rest : List BlockItemForm)
    → choice rule left ≡ Some (x, rest) → order rule left ≡ x ∷ order rule rest
order_more rule [] x rest e = absurd cc
order_more rule (y ∷ ys) x rest e =
    let long : length rest ≡ length ys = choice_length rule (length ys) (y ∷ ys) (x, rest) e refl in
    ap (choose_then (λ r. choices rule (length ys) r)) e ∙ ap (λ (m : ℕ). x ∷ choices rule m rest) (sym long)

-- one more is chosen, after those that were chosen before
pub one_more_chosen : (rule : ChoiceRule) (left : List BlockItemForm) (x : BlockItemForm) (rest before now all : List BlockItemForm)
    → choice rule left ≡ Some (x, rest) → now ≡ before ++ (x ∷ []) → before ++ order rule left ≡ all → now ++ order rule rest ≡ all
one_more_chosen rule left x rest before now all e grown is =
    ap (λ (xs : List BlockItemForm). xs ++ order rule rest) grown
    ∙ (append_assoc before (x ∷ []) (order rule rest)
    ∙ (ap (λ (xs : List BlockItemForm). before ++ xs) (sym (order_more rule left x rest e))
    ∙ is))
