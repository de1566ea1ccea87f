-- Lists of releases after one event more, and after a boot.
use Rattle.std.proofs.Common.{◌≡◌, Bool, true, false, [], ◌∷◌, ◌++◌, find, Option, Some, None, refl, sym, ap, ◌∙◌}
use Rattle.std.specs.Prelude.{if◌then◌else◌, is_some}
use Rattle.std.specs.Option.{option_and_then, option_map}
use Rattle.rel_list.specs.Releases.{Entry, Releases, has_current, has_one_shot}
use Rattle.rel_list.specs.Event.{Event, booted, booted_status, step, list_from, list_after}
use Rattle.rel_list.specs.Status.{is_current, is_one_shot}
use Rattle.rel_list.specs.declared.status.Status.{Status}
use Rattle.rel_list.specs.declared.status.Status.TheVariants.{Unpacked, Current, Old, Permanent, OneShot}
use Rattle.node_store.specs.Events.{Events}

-- from whatever list
list_from-more : (es : Releases) (events : Events) (e : Event) → list_from es (events ++ e ∷ []) ≡ option_and_then (step e) (list_from es events)
list_from-more es [] e = last (step e es)
  where
    last : (o : Option Releases) → option_and_then (λ l. Some l) o ≡ o
    last None = refl
    last (Some l) = refl
list_from-more es (f ∷ events) e = go (step f es) (λ l. list_from-more l events e)
  where
    go : (o : Option Releases) → ((l : Releases) → list_from l (events ++ e ∷ []) ≡ option_and_then (step e) (list_from l events))
        → option_and_then (λ l. list_from l (events ++ e ∷ [])) o ≡ option_and_then (step e) (option_and_then (λ l. list_from l events) o)
    go None more = refl
    go (Some l) more = more l

pub list_after-more : (events : Events) (e : Event) → list_after (events ++ e ∷ []) ≡ option_and_then (step e) (list_after events)
list_after-more events e = list_from-more [] events e

pub list_after-push : (events : Events) (e : Event) (mid end : Releases) → list_after events ≡ Some mid → step e mid ≡ Some end → list_after (events ++ e ∷ []) ≡ Some end
list_after-push events e mid end after next = list_after-more events e ∙ ap (option_and_then (step e)) after ∙ next

pub same_list : (events others : Events) (e : Event) → list_after events ≡ list_after others → list_after (events ++ e ∷ []) ≡ list_after (others ++ e ∷ [])
same_list events others e is = list_after-more events e ∙ ap (option_and_then (step e)) is ∙ sym (list_after-more others e)

becomes_current : (s : Status) → is_current (booted_status s) ≡ is_one_shot s
becomes_current Unpacked = refl
becomes_current Current = refl
becomes_current Old = refl
becomes_current Permanent = refl
becomes_current OneShot = refl

-- A release is current after a boot where one was a one-shot before it.
pub current-booted : (es : Releases) → has_current (booted es) ≡ has_one_shot es
current-booted [] = refl
current-booted (e ∷ es) = go (is_current (booted_status e.status)) (is_one_shot e.status) (becomes_current e.status) (current-booted es)
  where
    go : (a b : Bool) → a ≡ b → has_current (booted es) ≡ has_one_shot es
        → is_some (option_map (λ (n : Entry). n.release) (if a then Some (record e { status = booted_status e.status }) else find (λ (n : Entry). is_current n.status) (booted es)))
        ≡ is_some (option_map (λ (n : Entry). n.release) (if b then Some e else find (λ (n : Entry). is_one_shot n.status) es))
    go true true same rest = refl
    go false false same rest = rest
    go true false same rest = absurd cc
    go false true same rest = absurd cc
