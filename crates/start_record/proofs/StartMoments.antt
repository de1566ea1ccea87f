-- What the moments of a write leave, in terms of starts.
use Rattle.std.proofs.Common.{◌≡◌, inl, inr, ℕ, ◌-◌, List, length, replicate, refl, sym, subst}
use Rattle.rel_disk.specs.Moments.{LeavesOnly}
use Rattle.rel_disk.proofs.Moments.{weakened}
use Rattle.rel_store.specs.Layout.{slot_with}
use Rattle.rel_store.specs.Records.{StandsWithEither}
use Rattle.start_record.specs.Text.{Versions, AreVersions, start_text, SpellsStart, SpellsEither}

-- the slot in which a start is written spells it
pub reads_back : (v : Versions) → AreVersions v → SpellsStart (slot_with (start_text v)) v
reads_back v are = record { versions = are; rest = replicate (127 - length (start_text v)) 0; is = refl }

-- where the old text or the new one stands, the old start or the new one does
either_start : (bodies : List (List ℕ)) (old : List ℕ) (v w : Versions) → SpellsStart old v → AreVersions w → (c : List ℕ) → StandsWithEither bodies old (slot_with (start_text w)) c → SpellsEither v w c
either_start bodies old v w spelled are c (inl stands) = inl (subst (λ slot. SpellsStart slot v) (sym stands.start) spelled)
either_start bodies old v w spelled are c (inr stands) = inr (subst (λ slot. SpellsStart slot w) (sym stands.start) (reads_back w are))

pub either_so : {D : Type 0} (moment : D → ℕ) (left_since : D → ℕ → List ℕ → Type 0) (old new : D) (bodies : List (List ℕ)) (slot text : List ℕ) (v w : Versions) → SpellsStart slot v → AreVersions w → text ≡ start_text w
    → LeavesOnly moment left_since old new (StandsWithEither bodies slot (slot_with text)) → LeavesOnly moment left_since old new (SpellsEither v w)
either_so moment left_since old new bodies slot text v w spelled are is leaves =
    weakened moment left_since old new _ (SpellsEither v w) (λ c stands. either_start bodies slot v w spelled are c (subst (λ t. StandsWithEither bodies slot (slot_with t) c) is stands)) leaves
