-- A reader's bytes, of which one more than a limit was asked for.
use Rattle.std.proofs.Common.{◌≡◌, ◌∙◌, ℕ, ◌+◌, ◌≤◌, List, [], ◌++◌, length, take, Option, Some, None, IfSome, option_map, ap, arith, length-take}
use Rattle.std.proofs.lemmas.List.{take_all}

-- where no more than the limit came, they are all
pub whole_is : (known : Option (List ℕ)) (limit most : ℕ) (before bytes : List ℕ) → most ≡ limit + 1 → before ≡ [] → length bytes ≤ limit
    → IfSome (option_map (take most) known) (λ taken. bytes ≡ before ++ taken) → IfSome known (λ all. bytes ≡ all)
whole_is None limit most before bytes more none short given = tt
whole_is (Some all) limit most before bytes more none short given =
    let taken : bytes ≡ take most all = given ∙ ap (λ (l : List ℕ). l ++ take most all) none in
    let few : length all ≤ most = omega (arith, length-take most all, ap length taken) in
    taken ∙ take_all most all few
