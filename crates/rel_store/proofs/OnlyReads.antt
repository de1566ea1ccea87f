-- Runs of reads, put together.
use Rattle.std.proofs.Common.{◌≡◌, ℕ, List, refl, ◌∙◌}
use Rattle.rel_disk.specs.Damage.{Within}
use Rattle.rel_disk.specs.Moments.{Elapses}
use Rattle.rel_disk.proofs.Moments.{started, goes_on, joined, weakened}
use Rattle.rel_store.specs.Contents.{HasOnlyRead}

module _ {D : Type 0} (seen : D → List ℕ) (may_leave : D → List ℕ → Type 0) (moment : D → ℕ) (left_since : D → ℕ → List ℕ → Type 0) (old : D) where
  -- before the first
  pub nothing_read : ((c : List ℕ) → left_since old (moment old) c → may_leave old c) → HasOnlyRead seen may_leave moment left_since old old
  nothing_read only_now = record { same = refl; crash = λ c now. now; any_moment = started moment left_since old (may_leave old) only_now }

  -- one call more
  pub read_next : (mid new : D) → HasOnlyRead seen may_leave moment left_since old mid → seen new ≡ seen mid → Within (may_leave mid) (may_leave new) → Elapses (moment mid) (moment new) (left_since mid) (left_since new) (may_leave new)
      → HasOnlyRead seen may_leave moment left_since old new
  read_next mid new so_far same crash time = record {
    same = same ∙ so_far.same;
    crash = λ c now. so_far.crash c (crash c now);
    any_moment = goes_on moment left_since old mid new (may_leave old) (may_leave new) so_far.any_moment time (λ c now. so_far.crash c (crash c now));
  }

  -- one run after another
  pub read_on : (mid new : D) → HasOnlyRead seen may_leave moment left_since old mid → HasOnlyRead seen may_leave moment left_since mid new → HasOnlyRead seen may_leave moment left_since old new
  read_on mid new first second = record {
    same = second.same ∙ first.same;
    crash = λ c now. first.crash c (second.crash c now);
    any_moment = joined moment left_since old mid new (may_leave old) first.any_moment (weakened moment left_since mid new (may_leave mid) (may_leave old) first.crash second.any_moment);
  }

  -- the first call
  pub read_first : ((c : List ℕ) → left_since old (moment old) c → may_leave old c) → (new : D) → seen new ≡ seen old → Within (may_leave old) (may_leave new) → Elapses (moment old) (moment new) (left_since old) (left_since new) (may_leave new)
      → HasOnlyRead seen may_leave moment left_since old new
  read_first only_now new same crash time = read_next old new (nothing_read only_now) same crash time

  -- the first two calls
  pub read_twice : ((c : List ℕ) → left_since old (moment old) c → may_leave old c) → (mid new : D) → seen mid ≡ seen old → Within (may_leave old) (may_leave mid) → Elapses (moment old) (moment mid) (left_since old) (left_since mid) (may_leave mid)
      → seen new ≡ seen mid → Within (may_leave mid) (may_leave new) → Elapses (moment mid) (moment new) (left_since mid) (left_since new) (may_leave new) → HasOnlyRead seen may_leave moment left_since old new
  read_twice only_now mid new same crash time same' crash' time' = read_next mid new (read_first only_now mid same crash time) same' crash' time'
