-- Which refusal a call on a store answers, and what it leaves of the store.
use Rattle.std.proofs.Common.{◌≡◌, ℕ, List, Bool, true, false, Result, Ok, Err, Vec, Global, ◌+◌, map, refl, sym, ◌∙◌, ap}
use Rattle.std.specs.Prelude.{◌↔◌, IsErrAnd, IsErrOf}
use Rattle.rel_store.specs.Layout.{base_of}
use Rattle.rel_store.specs.Records.{space}
use Rattle.rel_store.specs.State.{records_in, IsSame, IsSoundStore}
use Rattle.rel_store.specs.declared.error.StoreError.{StoreError}
use Rattle.rel_store.specs.declared.error.StoreError.TheVariants.{Full, Device, NoMemory, MustReopen}
use Rattle.rel_store.specs.declared.store.Store.{Store}

pub not_both : {b : Bool} → b ≡ true → b ≡ false → ⊥
not_both is isn't = cc

one_error : {T : Type 0} (e f x : StoreError) → x ≡ e → IsErrOf {T = T} (Err x) f → f ≡ e
one_error e f x is reported = cc

-- a refusal that it doesn't answer, under a condition that doesn't hold
answers_no : {T : Type 0} (e f : StoreError) (P : Type 0) (r : Result T StoreError) → (f ≡ e → ⊥) → (P → ⊥) → IsErrAnd r (λ x. x ≡ e) → IsErrOf r f ↔ P
answers_no e f P (Ok v) other never is = absurd is
answers_no e f P (Err x) other never is = (λ reported. absurd (other (one_error e f x is reported)), λ p. absurd (never p))

module _ {T : Type 0} (r : Result T StoreError) where
  pub device_not_reopened : (b : Bool) → b ≡ false → IsErrAnd r (λ x. x ≡ Device) → IsErrOf r MustReopen ↔ (b ≡ true)
  device_not_reopened b works is = answers_no Device MustReopen (b ≡ true) r (λ e. cc e) (λ failed. not_both failed works) is

  pub memory_not_reopened : (b : Bool) → b ≡ false → IsErrAnd r (λ x. x ≡ NoMemory) → IsErrOf r MustReopen ↔ (b ≡ true)
  memory_not_reopened b works is = answers_no NoMemory MustReopen (b ≡ true) r (λ e. cc e) (λ failed. not_both failed works) is

  pub device_not_full : (P : Type 0) → (P → ⊥) → IsErrAnd r (λ x. x ≡ Device) → IsErrOf r Full ↔ P
  device_not_full P never is = answers_no Device Full P r (λ e. cc e) never is

  pub memory_not_full : (P : Type 0) → (P → ⊥) → IsErrAnd r (λ x. x ≡ NoMemory) → IsErrOf r Full ↔ P
  memory_not_full P never is = answers_no NoMemory Full P r (λ e. cc e) never is

-- a success answers none, under a condition that doesn't hold
pub none_answered : {T : Type 0} (v : T) (f : StoreError) (P : Type 0) → (P → ⊥) → IsErrOf (Ok v) f ↔ P
none_answered v f P never = (λ reported. cc reported, λ p. absurd (never p))

pub same_store : {D : Type 0} (s : Store D) → IsSame s s
same_store s = record { disk = refl; records = refl; base = refl; end = refl; format = refl; failed = refl }

-- where only the memory for its records and for the next one is other, a store is as sound as it was
pub sound_still : {D : Type 0} (seen : D → List ℕ) (may_leave : D → List ℕ → Type 0) (s : Store D) (records : Vec (Vec ℕ Global) Global) (spare : Vec ℕ Global) → records.items ≡ s.records.items → IsSoundStore seen may_leave s
    → IsSoundStore seen may_leave (record { disk = s.disk; records = records; gate = s.gate; second_start = s.second_start; base = s.base; second_base = s.second_base; format = s.format; must_reopen = s.must_reopen; spare = spare })
sound_still seen may_leave s records spare items sound =
    let same : map (λ v. v.items) records.items ≡ records_in s = ap (map (λ v. v.items)) items in
    record {
      settled = λ works.
          let old = sound.settled works in
          record {
            works = old.works;
            records = old.records ∙ ap (λ l. Ok l) (sym same);
            durable = old.durable;
            end = old.end ∙ ap (λ l. base_of (seen s.disk) + space l) (sym same);
            start = old.start;
            base = old.base;
            chooses = old.chooses;
            format = old.format;
          };
    }
