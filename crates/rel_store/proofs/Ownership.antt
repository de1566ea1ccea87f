-- What a call leaves of the bytes that are not its own.
use Rattle.std.proofs.Common.{◌≡◌, inl, inr, ◌⊎◌, ℕ, ◌+◌, ◌<◌, ◌≤◌, Bool, true, false, not, List, [], ◌∷◌, ◌++◌, length, take, drop, refl, sym, ◌∙◌, ap, subst, arith}
use Rattle.std.specs.Prelude.{◌==◌, if◌then◌else◌, slice_index}
use Rattle.std.proofs.lemmas.Bool.{cases_lt}
use Rattle.std.proofs.lemmas.List.{drop_at, length-take-le, take-append-le, take-take}
use Rattle.rel_disk.specs.Damage.{overwritten, Torn, Only}
use Rattle.rel_disk.specs.ImageLaws.{overwritten_is_torn}
use Rattle.rel_disk.specs.Moments.{LeavesOnly}
use Rattle.rel_disk.proofs.Moments.{started, weakened}
use Rattle.rel_disk.proofs.PlaceLemmas.{torn_keeps}
use Rattle.rel_store.specs.Changed.{LeavesOthers}
use Rattle.rel_store.specs.Layout.{selected}
use Rattle.rel_store.specs.Moments.{IsTornFrom, IsTornInSteps}

-- a call owns each byte of a write
abbrev pub Owns : (ℕ → Type 0) → ℕ → ℕ → Type 0
Owns is_own at n = (i : ℕ) → at ≤ i → i < at + n → is_own i

pub untouched : (is_own : ℕ → Type 0) (bytes : List ℕ) → LeavesOthers is_own bytes bytes
untouched is_own bytes = record { long = omega arith; kept = λ i lt others. refl }

pub both : (is_own : ℕ → Type 0) (a b c : List ℕ) → LeavesOthers is_own a b → LeavesOthers is_own b c → LeavesOthers is_own a c
both is_own a b c first second = record {
  long = omega (arith, first.long, second.long);
  kept = λ i lt others. second.kept i (omega (arith, first.long)) others ∙ first.kept i lt others;
}

pub torn_leaves : (is_own : ℕ → Type 0) (at n : ℕ) (old new : List ℕ) → Owns is_own at n → Torn at n old new → LeavesOthers is_own old new
torn_leaves is_own at n old new own torn =
    let keeps = torn_keeps at n old new torn in
    record { long = keeps.long; kept = λ i lt others. keeps.kept i lt (outside i others (cases_lt i at) (cases_lt i (at + n))) }
  where
    outside : (i : ℕ) → (is_own i → ⊥) → (i < at) ⊎ (at ≤ i) → (i < at + n) ⊎ (at + n ≤ i) → (i < at) ⊎ (at + n ≤ i)
    outside i others (inl before) far = inl before
    outside i others (inr from) (inr behind) = inr behind
    outside i others (inr from) (inl within) = absurd (others (own i from within))

pub written_leaves : (is_own : ℕ → Type 0) (at : ℕ) (bytes old new : List ℕ) → Owns is_own at (length bytes) → new ≡ overwritten at bytes old → LeavesOthers is_own old new
written_leaves is_own at bytes old new own written = torn_leaves is_own at (length bytes) old new own (subst (Torn at (length bytes) old) (sym written) (overwritten_is_torn at bytes old))

-- a byte, and what stands after it, are written one after the other
pub overwritten_in_two : (at byte : ℕ) (bytes old : List ℕ) → at + 1 ≤ length old → overwritten at (byte ∷ []) (overwritten (at + 1) bytes old) ≡ overwritten at (byte ∷ bytes) old
overwritten_in_two at byte bytes old within =
    let front = take (at + 1) old in
    let back = bytes ++ drop (at + 1 + length bytes) old in
    let long : length front ≡ at + 1 = length-take-le (at + 1) old within in
    let before : take at (front ++ back) ≡ take at old = take-append-le at front back (omega (arith, long)) ∙ take-take at (at + 1) old (omega arith) in
    let behind : drop (at + 1) (front ++ back) ≡ back = drop_at front back (at + 1) long in
    let size : at + 1 + length bytes ≡ at + length (byte ∷ bytes) = omega arith in
    ap (λ (l : List ℕ). l ++ (byte ∷ drop (at + 1) (front ++ back))) before
    ∙ ap (λ (l : List ℕ). take at old ++ (byte ∷ l)) behind
    ∙ ap (λ n. take at old ++ (byte ∷ (bytes ++ drop n old))) size

-- the images of a disk at the moments of a write, and of the byte that makes it count
module _ {D : Type 0} (moment : D → ℕ) (left_since : D → ℕ → List ℕ → Type 0) (seen : D → List ℕ) (may_leave : D → List ℕ → Type 0) (is_own : ℕ → Type 0) where
  pub at_rest : (old : D) → Only (seen old) (may_leave old) → ((c : List ℕ) → left_since old (moment old) c → may_leave old c) → LeavesOnly moment left_since old old (LeavesOthers is_own (seen old))
  at_rest old only only_now = started moment left_since old (LeavesOthers is_own (seen old)) (λ c left. subst (LeavesOthers is_own (seen old)) (sym (only c (only_now c left))) (untouched is_own (seen old)))

  -- and at those of a write that stands alone
  pub write_leaves : (old : D) → Only (seen old) (may_leave old) → (at n : ℕ) → Owns is_own at n → (new : D) → LeavesOnly moment left_since old new (IsTornFrom (may_leave old) at n) → LeavesOnly moment left_since old new (LeavesOthers is_own (seen old))
  write_leaves old only at n own new leaves = weakened moment left_since old new (IsTornFrom (may_leave old) at n) (LeavesOthers is_own (seen old)) each leaves
    where
      each : (c : List ℕ) → IsTornFrom (may_leave old) at n c → LeavesOthers is_own (seen old) c
      each c (inl now) = subst (LeavesOthers is_own (seen old)) (sym (only c now)) (untouched is_own (seen old))
      each c (inr torn) = torn_leaves is_own at n (seen old) c own (subst (λ d. Torn at n d c) (only torn.0 torn.1) torn.2)

  module _ (old : D) (only : Only (seen old) (may_leave old)) (at : ℕ) (bytes : List ℕ) (mark : ℕ) (own : Owns is_own at (length bytes)) (own_mark : Owns is_own mark 1) where
    pub steps_leave : (new : D) → LeavesOnly moment left_since old new (IsTornInSteps (may_leave old) at bytes mark (seen old)) → LeavesOnly moment left_since old new (LeavesOthers is_own (seen old))
    steps_leave new leaves = weakened moment left_since old new (IsTornInSteps (may_leave old) at bytes mark (seen old)) (LeavesOthers is_own (seen old)) each leaves
      where
        mid : List ℕ
        mid = overwritten at bytes (seen old)

        so_far : LeavesOthers is_own (seen old) mid
        so_far = written_leaves is_own at bytes (seen old) mid own refl

        each : (c : List ℕ) → IsTornInSteps (may_leave old) at bytes mark (seen old) c → LeavesOthers is_own (seen old) c
        each c (inl (inl now)) = subst (LeavesOthers is_own (seen old)) (sym (only c now)) (untouched is_own (seen old))
        each c (inl (inr torn)) = torn_leaves is_own at (length bytes) (seen old) c own (subst (λ d. Torn at (length bytes) d c) (only torn.0 torn.1) torn.2)
        each c (inr (inl now)) = subst (LeavesOthers is_own (seen old)) (sym now) so_far
        each c (inr (inr torn)) = both is_own (seen old) mid c so_far (torn_leaves is_own mark 1 mid c own_mark (subst (λ d. Torn mark 1 d c) torn.1 torn.2))

-- what is chosen for the start slot that doesn't count: its place, and its selector
pub other : (x y : ℕ) (second : Bool) (value : ℕ) (bytes : List ℕ) → second ≡ (slice_index bytes 9 == 1) → value ≡ (if not second then x else y) → value ≡ selected (slice_index bytes 9) x y
other x y second value bytes counts is = is ∙ turned second ∙ ap (λ (b : Bool). if b then y else x) counts
  where
    turned : (b : Bool) → (if not b then x else y) ≡ (if b then y else x)
    turned true = refl
    turned false = refl
