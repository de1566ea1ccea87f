-- Lists of releases after events.
use Rattle.std.proofs.Common.{◌≡◌, List, [], ◌∷◌, ◌++◌, Option, Some, None, ap, ◌∙◌}
use Rattle.std.specs.Option.{option_and_then}
use Rattle.rel_list.specs.Releases.{Releases}
use Rattle.rel_list.specs.Event.{Event, step, list_from, list_after}

-- one event more
list_from-push : (es : Releases) (events : List Event) (e : Event) (mid end : Releases)
    → list_from es events ≡ Some mid → step e mid ≡ Some end → list_from es (events ++ e ∷ []) ≡ Some end
list_from-push es [] e mid end so_far next = let same : es ≡ mid = cc so_far in ap (option_and_then (λ l. Some l)) (ap (step e) same ∙ next)
list_from-push es (f ∷ events) e mid end so_far next = go (λ es' rest. list_from-push es' events e mid end rest next) (step f es) so_far
  where
    go : ((es' : Releases) → list_from es' events ≡ Some mid → list_from es' (events ++ e ∷ []) ≡ Some end)
        → (o : Option Releases) → option_and_then (λ next. list_from next events) o ≡ Some mid → option_and_then (λ next. list_from next (events ++ e ∷ [])) o ≡ Some end
    go rest None so_far = cc
    go rest (Some es') so_far = rest es' so_far

pub list_after-push : (events : List Event) (e : Event) (mid end : Releases) → list_after events ≡ Some mid → step e mid ≡ Some end → list_after (events ++ e ∷ []) ≡ Some end
list_after-push events e mid end so_far next = list_from-push [] events e mid end so_far next
