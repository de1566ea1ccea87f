-- What becomes of a list by a record that brings a release.
use Rattle.std.proofs.Common.{◌≡◌, Bool, true, false, Option, Some, None, Result, ap, ◌∙◌}
use Rattle.std.specs.Prelude.{if◌then◌else◌, IsErr, IsErrOf}
use Rattle.std.specs.Option.{option_and_then}
use Rattle.std.specs.Result.{IsErrAnd}
use Rattle.rel_list.specs.declared.fault.ListError.{ListError}
use Rattle.rel_list.specs.declared.fault.ListError.TheVariants.{NoMemory}
use Rattle.rel_list.specs.Event.{Event, step}
use Rattle.rel_list.specs.Refusal.{refusal, IsRefusedWith}
use Rattle.rel_list.specs.Releases.{Bundle, Releases}
use Rattle.rel_list.proofs.RefusalLaws.{refused_where_not_allowed}
use Rattle.rel_records.specs.Parts.{fault_of_list}
use Rattle.rel_records.specs.declared.fault.RecordFault.{RecordFault}
use Rattle.rel_records.specs.declared.fault.RecordFault.TheVariants.{Bad}
use Rattle.rel_records.proofs.ReadingLemmas.{reported_bad}

-- an event that the list refuses is no step
not_taken : (e : Event) (es : Releases) (why : ListError) → refusal e es ≡ Some why → step e es ≡ None
not_taken e es why is = go (step e es) (λ allowed. (refused_where_not_allowed e es).1 allowed)
  where
    go : (o : Option Releases) → ((o ≡ None → ⊥) → refusal e es ≡ None) → o ≡ None
    go None free = cc
    go (Some next) free = let none = free (λ no. cc no) in cc (none, is)

refused_step : (e : Event) (es : Releases) (why : ListError) → IsRefusedWith e es why → fault_of_list why ≡ Bad → step e es ≡ None
refused_step e es NoMemory refused bad = cc bad
refused_step e es why refused bad = not_taken e es why refused

module _ (allowed : Bool) (brings : Bundle → Event) (es : Releases) (brought : Option Bundle) where
  -- what a record makes of the list
  abbrev pub taken : Option Releases
  taken = if allowed then option_and_then (λ p. step (brings p) es) brought else None

  -- it brings nothing
  pub nothing_brought : brought ≡ None → taken ≡ None
  nothing_brought none = go allowed
    where
      go : (b : Bool) → (if b then option_and_then (λ p. step (brings p) es) brought else None) ≡ None
      go true = ap (option_and_then (λ p. step (brings p) es)) none
      go false = cc

  -- the list refuses what it brings
  pub not_accepted : {T : Type 0} (p : Bundle) → brought ≡ Some p → (why : ListError) → IsRefusedWith (brings p) es why
      → (reported : Result T RecordFault) → IsErr reported × IsErrAnd reported (λ e. e ≡ fault_of_list why) → IsErrOf reported Bad → taken ≡ None
  not_accepted p is why refused reported of bad = go allowed
    where
      go : (b : Bool) → (if b then option_and_then (λ p. step (brings p) es) brought else None) ≡ None
      go true = ap (option_and_then (λ p. step (brings p) es)) is ∙ refused_step (brings p) es why refused (reported_bad reported (fault_of_list why) of bad)
      go false = cc

  -- the list takes it
  pub accepted : (p : Bundle) (next : Releases) → allowed ≡ true → brought ≡ Some p → step (brings p) es ≡ Some next → taken ≡ Some next
  accepted p next may is stepped =
      ap (λ b. if b then option_and_then (λ p. step (brings p) es) brought else None) may ∙ (ap (option_and_then (λ p. step (brings p) es)) is ∙ stepped)
