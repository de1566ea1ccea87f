use Rattle.std.proofs.Common.{◌≡◌, ℕ, ◌+◌, List, [], ◌∷◌, ◌++◌, length, take, drop, refl, sym, ◌∙◌, ap, subst}
use Rattle.rel_disk.specs.Damage.{Only, Torn, Follows, Within}
use Rattle.rel_disk.specs.Moments.{Elapses, LeavesOnly}
use Rattle.rel_disk.proofs.Moments.{started, goes_on}
use Rattle.disk_cases.proofs.disk_callers.append.Goals.{then-is_err-via-then-is_err, then-is_err-via-else-is_err+then-is_err-2}
use Rattle.disk_cases.proofs.disk_callers.append.Goals as goal

-- a list is the front of itself, with or without more after it
front_of : (old more : List ℕ) → take (length old) (old ++ more) ≡ old
front_of [] more = refl
front_of (x ∷ xs) more = ap (λ l. x ∷ l) (front_of xs more)

all_of : (old : List ℕ) → take (length old) old ≡ old
all_of [] = refl
all_of (x ∷ xs) = ap (λ l. x ∷ l) (all_of xs)

-- a write at the end keeps what was there
torn_behind : (old d c : List ℕ) (at n : ℕ) → at ≡ length old → d ≡ old → Torn at n d c → take (length old) c ≡ old
torn_behind old d c at n end same torn =
    let front : take at d ≡ old = (λ i. take (end i) (same i)) ∙ all_of old in
    let behind : List ℕ = torn.middle ++ (drop (at + n) d ++ torn.tail) in
    ap (take (length old)) (torn.is ∙ ap (λ l. l ++ behind) front) ∙ front_of old behind

module _ {D : Type 0} (seen : D → List ℕ) (may_leave : D → List ℕ → Type 0) (moment : D → ℕ) (left_since : D → ℕ → List ℕ → Type 0) (old : D) (only : Only (seen old) (may_leave old))
    (only_now : (c : List ℕ) → left_since old (moment old) c → may_leave old c) (mid : D) (crash : Within (may_leave old) (may_leave mid)) where
  abbrev Kept : List ℕ → Type 0
  Kept c = take (length (seen old)) c ≡ seen old

  whole : (c : List ℕ) → may_leave old c → Kept c
  whole c here = ap (take (length (seen old))) (only c here) ∙ all_of (seen old)

  -- the length was read
  measured : Elapses (moment old) (moment mid) (left_since old) (left_since mid) (may_leave mid) → LeavesOnly moment left_since old mid Kept
  measured time =
      goes_on moment left_since old old mid Kept (may_leave mid) (started moment left_since old Kept (λ c left. whole c (only_now c left))) time (λ c now. whole c (crash c now))

  module _ (at n : ℕ) (end : at ≡ length (seen old)) (new : D) (torn : Follows (Torn at n) (may_leave mid) (may_leave new)) where
    kept : (c : List ℕ) → may_leave new c → Kept c
    kept c now = let (d, before, step) = torn c now in torn_behind (seen old) d c at n end (only d (crash d before)) step

    -- the bytes were written, or a part of them
    written : Elapses (moment old) (moment mid) (left_since old) (left_since mid) (may_leave mid) → Elapses (moment mid) (moment new) (left_since mid) (left_since new) (may_leave new) → LeavesOnly moment left_since old new Kept
    written first second = goes_on moment left_since old mid new Kept (may_leave new) (measured first) second kept

    -- The bytes were written, or a part of them, and were synced after that.
    synced : (last : D) → Elapses (moment old) (moment mid) (left_since old) (left_since mid) (may_leave mid) → Elapses (moment mid) (moment new) (left_since mid) (left_since new) (may_leave new)
        → Within (may_leave new) (may_leave last) → Elapses (moment new) (moment last) (left_since new) (left_since last) (may_leave last) → LeavesOnly moment left_since old last Kept
    synced last first second within third = goes_on moment left_since old new last Kept (may_leave last) (written first second) third (λ c now. kept c (within c now))

pub returns-in_default-clause-kept_at_err : goal.returns-in_default-clause-kept_at_err
returns-in_default-clause-kept_at_err g c =
    measured g.D.Disk.seen g.D.Disk.may_leave g.D.Disk.moment g.D.Disk.left_since c.args.disk c.requires (g.met.D.Disk.only_now c.args.disk) c.len.new.self c.len.ensures.crash c.len.ensures.time

pub returns-then-is_err-clause-kept_at_err : goal.returns-then-is_err-clause-kept_at_err
returns-then-is_err-clause-kept_at_err g c =
    let leaves = LeavesOnly g.D.Disk.moment g.D.Disk.left_since c.args.disk in
    let kept : List ℕ → Type 0 = λ image. take (length (g.D.Disk.seen c.args.disk)) image ≡ g.D.Disk.seen c.args.disk in
    elim c.then-is_err.branch [
      | then-is_err-via-then-is_err w ↦ subst (λ disk. leaves disk kept) (sym w.disk-is)
          (written g.D.Disk.seen g.D.Disk.may_leave g.D.Disk.moment g.D.Disk.left_since c.args.disk c.requires (g.met.D.Disk.only_now c.args.disk) c.len.new.self c.len.ensures.crash c.in-Ok.end (length c.args.bytes.now) c.in-Ok.ensures.value
          c.write_at.new.self c.write_at.ensures.crash c.len.ensures.time c.write_at.ensures.time)
      | then-is_err-via-else-is_err+then-is_err-2 w ↦ subst (λ disk. leaves disk kept) (sym w.disk-is)
          (synced g.D.Disk.seen g.D.Disk.may_leave g.D.Disk.moment g.D.Disk.left_since c.args.disk c.requires (g.met.D.Disk.only_now c.args.disk) c.len.new.self c.len.ensures.crash c.in-Ok.end (length c.args.bytes.now) c.in-Ok.ensures.value
          c.write_at.new.self c.write_at.ensures.crash w.sync.new.self c.len.ensures.time c.write_at.ensures.time w.sync.ensures.crash w.sync.ensures.time)
    ]

pub returns-clause-kept : goal.returns-clause-kept
returns-clause-kept g c =
    synced g.D.Disk.seen g.D.Disk.may_leave g.D.Disk.moment g.D.Disk.left_since c.args.disk c.requires (g.met.D.Disk.only_now c.args.disk) c.len.new.self c.len.ensures.crash c.in-Ok.end (length c.args.bytes.now) c.in-Ok.ensures.value
    c.write_at.new.self c.write_at.ensures.crash c.sync.new.self c.len.ensures.time c.write_at.ensures.time c.sync.ensures.crash c.sync.ensures.time
