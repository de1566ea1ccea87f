-- What the first 288 bytes of a disk say of all of them.
use Rattle.std.proofs.Common.{◌≡◌, inl, inr, ◌⊎◌, ℕ, ◌<◌, ◌≤◌, Bool, true, false, ◌||◌, not, List, length, take, drop, Ok, Err, refl, sym, ◌∙◌, ap, subst, arith}
use Rattle.std.specs.Prelude.{◌==◌, if◌then◌else◌, nat_lt, nat_le, slice_index}
use Rattle.std.specs.Int.{w64, from_be_bytes}
use Rattle.std.proofs.lemmas.Bool.Decides.{nat_tests}
use Rattle.std.proofs.lemmas.List.{take-take}
use Rattle.rel_store.specs.Contents.{OpenRefused, RecordsRefused}
use Rattle.rel_store.specs.Layout.{part, has_magic, selected, base_slot, base_of, format_of}
use Rattle.rel_store.specs.Records.{records_from, records_of}
use Rattle.rel_store.specs.declared.error.StoreError.{StoreError}
use Rattle.rel_store.specs.declared.error.StoreError.TheVariants.{NotAStore, Damaged}
use Rattle.rel_store.proofs.Scan.{open_refused}
use Rattle.rel_store.proofs.Whole.{Sound, readable, index-same, magic-same, base-same}

-- byte 11 gives the format
pub format_same : (new old : List ℕ) → slice_index new 11 ≡ slice_index old 11 → format_of new ≡ format_of old
format_same new old kind = ap (λ (b : ℕ). if b == 0 then 1 else 2) kind

module _ (bytes layout : List ℕ) (is : layout ≡ take 288 bytes) where
  same : take 288 layout ≡ take 288 bytes
  same = ap (λ (l : List ℕ). take 288 l) is ∙ take-take 288 288 bytes (omega arith)

  pub no_magic : has_magic layout ≡ false → records_of bytes ≡ Err NotAStore
  no_magic none = go (nat_lt (length bytes) 289) (has_magic bytes) (sym (magic-same layout bytes same) ∙ none)
    where
      go : (a b : Bool) → b ≡ false → (if a || not b then Err NotAStore else (if nat_lt (base_of bytes) 288 || nat_le (length bytes) (base_of bytes) then Err (Damaged (base_slot bytes)) else records_from (base_of bytes) 0 (drop (base_of bytes) bytes))) ≡ Err NotAStore
      go true b e = refl
      go false true e = absurd cc
      go false false e = refl

  pub selector_there : (slice_index layout 9 == 1) ≡ (slice_index bytes 9 == 1)
  selector_there = ap (λ b. b == 1) (index-same 9 288 layout bytes (omega arith) same)

  pub choice_there : (slice_index layout 10 == 1) ≡ (slice_index bytes 10 == 1)
  choice_there = ap (λ b. b == 1) (index-same 10 288 layout bytes (omega arith) same)

  pub format_there : format_of layout ≡ format_of bytes
  format_there = format_same layout bytes (index-same 11 288 layout bytes (omega arith) same)

  module _ (slot base : ℕ) (long : 289 ≤ length bytes) (magic : has_magic layout ≡ true) (slot_is : slot ≡ base_slot layout) (base_is : base ≡ from_be_bytes w64 (part slot 8 layout)) where
    base_there : base ≡ base_of bytes
    base_there = base_is ∙ ap (λ s. from_be_bytes w64 (part s 8 layout)) slot_is ∙ base-same layout bytes same

    slot_there : slot ≡ base_slot bytes
    slot_there = slot_is ∙ ap (λ s. selected s 272 280) (index-same 10 288 layout bytes (omega arith) same)

    begins : has_magic bytes ≡ true
    begins = sym (magic-same layout bytes same) ∙ magic

    pub no_base : (base < 288) ⊎ (length bytes ≤ base) → records_of bytes ≡ Err (Damaged slot)
    no_base why =
        go (length bytes) (has_magic bytes) (base_of bytes) long begins (elim why [ inl low ↦ inl (omega (arith, low, base_there)) | inr far ↦ inr (omega (arith, far, base_there)) ])
        ∙ ap (λ at. Err (Damaged at)) (sym slot_there)
      where
        go : (n : ℕ) (b : Bool) (at : ℕ) → 289 ≤ n → b ≡ true → (at < 288) ⊎ (n ≤ at)
            → (if nat_lt n 289 || not b then Err NotAStore else (if nat_lt at 288 || nat_le n at then Err (Damaged (base_slot bytes)) else records_from at 0 (drop at bytes)))
            ≡ Err (Damaged (base_slot bytes))
        go n b at enough begun out =
            let first : (nat_lt n 289 || not b) ≡ false = grind (arith, nat_tests) in
            let second : (nat_lt at 288 || nat_le n at) ≡ true = elim out [ inl low ↦ grind (arith, nat_tests) | inr far ↦ grind (arith, nat_tests) ] in
            ap (λ t. if t then Err NotAStore else (if nat_lt at 288 || nat_le n at then Err (Damaged (base_slot bytes)) else records_from at 0 (drop at bytes))) first
            ∙ ap (λ t. if t then Err (Damaged (base_slot bytes)) else records_from at 0 (drop at bytes)) second

    module _ (low : 288 ≤ base) (high : base < length bytes) where
      sound_there : Sound bytes
      sound_there = record { long = long; begins = begins; low = omega (arith, low, base_there); high = omega (arith, high, base_there) }

      pub records_there : (bodies : List (List ℕ)) → records_from base 0 (drop base bytes) ≡ Ok bodies → records_of bytes ≡ Ok bodies
      records_there bodies read = readable bytes sound_there ∙ ap (λ p. records_from p 0 (drop p bytes)) (sym base_there) ∙ read

      pub place_there : base ≡ base_of bytes
      place_there = base_there

      pub refused_by_records : (before now : ℕ) (e : StoreError) → RecordsRefused (records_from base 0 (drop base bytes)) before now e → OpenRefused bytes before now e
      refused_by_records before now e why = open_refused bytes before now e sound_there (subst (λ p. RecordsRefused (records_from p 0 (drop p bytes)) before now e) base_there why)
