-- From the bytes of a store to its report.
use Rattle.std.proofs.Common.{◌≡◌, inl, inr, ℕ, ◌≤◌, Bool, true, false, ◌||◌, not, List, [], ◌∷◌, ◌++◌, length, take, drop, min, Result, Err, refl, sym, ◌∙◌, ap, subst, arith}
use Rattle.std.specs.Prelude.{◌⊎◌, if◌then◌else◌, nat_lt, nat_le}
use Rattle.std.proofs.lemmas.Bool.Decides.{nat_tests}
use Rattle.std.proofs.lemmas.List.{take_min}
use Rattle.rel_records.specs.Lists.{IsBadRecord}
use Rattle.rel_records.specs.declared.fault.RecordsError.{RecordsError}
use Rattle.rel_records.specs.declared.fault.RecordsError.TheVariants as records
use Rattle.rel_store.specs.Contents.{OpenRefused}
use Rattle.rel_store.specs.Layout.{has_magic, base_of, base_slot}
use Rattle.rel_store.specs.Records.{records_from, records_of}
use Rattle.rel_store.specs.declared.error.StoreError.{StoreError}
use Rattle.rel_store.specs.declared.error.StoreError.TheVariants.{NotAStore, Damaged, Exists, Full, Device, NoMemory, MustReopen}
use Rattle.store_report.specs.Contents.{ShowsHeld, before_damage}
use Rattle.store_report.specs.List.{ShowsList}
use Rattle.store_report.specs.Report.{IsOfBytes, RefusesSo}

-- the same list of the same records, after the same text
pub shows_so : (f f' : ℕ) (bs bs' : List (List ℕ)) (old old' new : List ℕ) (sound : Bool) → f ≡ f' → bs ≡ bs' → old ≡ old' → ShowsList f bs old new sound → ShowsList f' bs' old' new sound
shows_so f f' bs bs' old old' new sound format bodies text shown =
    subst (λ o. ShowsList f' bs' o new sound) text (subst (λ b. ShowsList f' b old new sound) bodies (subst (λ k. ShowsList k bs old new sound) format shown))

-- the number of a bad record
pub bad_number : (format : ℕ) (bodies : List (List ℕ)) (n : ℕ) (e : RecordsError) → e ≡ records.BadRecord n
    → (e ≡ records.NoMemory) ⊎ ((i : ℕ) × (e ≡ records.BadRecord i) × IsBadRecord format bodies i) → IsBadRecord format bodies n
bad_number format bodies n e is (inl lack) = absurd cc
bad_number format bodies n e is (inr bad) =
    let same : bad.0 ≡ n = cc (is, bad.1) in
    subst (IsBadRecord format bodies) same bad.2

-- why an opening refuses bytes, where that is what is wrong with them
pub refuses_so : (bytes seen : List ℕ) (before now : ℕ) (e : StoreError) → seen ≡ bytes → OpenRefused seen before now e → RefusesSo bytes e
refuses_so bytes seen before now NotAStore same why = ap records_of (sym same) ∙ why
refuses_so bytes seen before now (Damaged at) same why = ap records_of (sym same) ∙ why
refuses_so bytes seen before now Exists same why = tt
refuses_so bytes seen before now Full same why = tt
refuses_so bytes seen before now Device same why = tt
refuses_so bytes seen before now NoMemory same why = tt
refuses_so bytes seen before now MustReopen same why = tt

-- where nothing is held, nothing is shown
pub none_held : (each : Bool) (bytes seen text : List ℕ) (before now : ℕ) (e : StoreError) → seen ≡ bytes → OpenRefused seen before now e → IsOfBytes e → ShowsHeld each bytes (records_of bytes) text text
none_held each bytes seen text before now NotAStore same why own = subst (λ o. ShowsHeld each bytes o text text) (sym (ap records_of (sym same) ∙ why)) refl
none_held each bytes seen text before now (Damaged at) same why own = subst (λ o. ShowsHeld each bytes o text text) (sym (ap records_of (sym same) ∙ why)) refl
none_held each bytes seen text before now Exists same why own = absurd own
none_held each bytes seen text before now Full same why own = absurd own
none_held each bytes seen text before now Device same why own = absurd own
none_held each bytes seen text before now NoMemory same why own = absurd own
none_held each bytes seen text before now MustReopen same why own = absurd own

-- a damaged store has its layout
pub damaged_long : (bytes : List ℕ) (at : ℕ) → records_of bytes ≡ Err (Damaged at) → 289 ≤ length bytes
damaged_long bytes at damaged = go (length bytes) (has_magic bytes) (if nat_lt (base_of bytes) 288 || nat_le (length bytes) (base_of bytes) then Err (Damaged (base_slot bytes)) else records_from (base_of bytes) 0 (drop (base_of bytes) bytes)) damaged
  where
    at_test : (n : ℕ) (b t : Bool) (r : Result (List (List ℕ)) StoreError) → t ≡ (nat_lt n 289 || not b) → (if t then Err NotAStore else r) ≡ Err (Damaged at) → 289 ≤ n
    at_test n b true r e is = absurd cc
    at_test n b false r e is = grind (arith, nat_tests)

    go : (n : ℕ) (b : Bool) (r : Result (List (List ℕ)) StoreError) → (if nat_lt n 289 || not b then Err NotAStore else r) ≡ Err (Damaged at) → 289 ≤ n
    go n b r is = at_test n b (nat_lt n 289 || not b) r refl is

-- the bytes before a damaged place, and a closed gate
pub cut_there : (bytes front : List ℕ) (at n end : ℕ) → n ≡ length bytes → end ≡ min at n → front ≡ take end bytes ++ 0 ∷ [] → front ≡ before_damage at bytes
cut_there bytes front at n end len is cut = cut ∙ ap (λ (l : List ℕ). l ++ 0 ∷ []) (ap (λ k. take k bytes) (is ∙ ap (min at) len) ∙ take_min at bytes)
