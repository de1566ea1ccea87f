-- Beside a one-shot a list allows a boot alone, and else an event's own rule decides.
use Rattle.std.proofs.Common.{◌≡◌, Bool, true, false, ◌∷◌, Some, None, refl, if◌then◌else◌}
use Rattle.rel_list.specs.declared.fault.ListError.TheVariants.{BadStatus}
use Rattle.rel_list.specs.declared.status.Status.TheVariants.{OneShot}
use Rattle.rel_list.specs.Releases.{Bundle, Entry, Releases}
use Rattle.rel_list.specs.Event.{Event, own_step, step, waits_for_boot}
use Rattle.rel_list.specs.Event.Event.{made}
use Rattle.rel_list.specs.Refusal.{own_refusal, refusal}

-- What an event that is allowed leads to is what its own rule says.
pub own_of_step : (e : Event) (es next : Releases) → step e es ≡ Some next → (waits_for_boot e es ≡ false) × (own_step e es ≡ Some next)
own_of_step e es next is = go (waits_for_boot e es) is
  where
    go : (b : Bool) → (if b then None else own_step e es) ≡ Some next → (b ≡ false) × (own_step e es ≡ Some next)
    go false is = (refl, is)
    go true is = cc

pub step_of_own : (e : Event) (es next : Releases) → waits_for_boot e es ≡ false → own_step e es ≡ Some next → step e es ≡ Some next
step_of_own e es next free is = rw free is

-- An event without a refusal has none by its own rule.
pub own_of_refusal : (e : Event) (es : Releases) → refusal e es ≡ None → (waits_for_boot e es ≡ false) × (own_refusal e es ≡ None)
own_of_refusal e es is = go (waits_for_boot e es) is
  where
    go : (b : Bool) → (if b then Some (BadStatus OneShot) else own_refusal e es) ≡ None → (b ≡ false) × (own_refusal e es ≡ None)
    go false is = (refl, is)
    go true is = cc

-- A first release comes into an empty list alone.
pub never_made_again : (p : Bundle) (e : Entry) (es next : Releases) → step (made p) (e ∷ es) ≡ Some next → ⊥
never_made_again p e es next is = let never : None ≡ Some next = (own_of_step (made p) (e ∷ es) next is).1 in cc
