-- What a crash may leave at each moment of a run of commands.
use Rattle.std.proofs.Common.{inl, inr, ⊎_elim, ℕ, ◌≤◌, List, arith}
use Rattle.std.proofs.lemmas.Bool.{cases_lt}
use Rattle.rel_session.specs.Device.{Device, LeavesOnly, HasFailed}

-- What the laws of a device give, of those of the trait that are used here.
pub record IsDevice {D : Type 0} (v : Device D) : Type 0 where
  pub reads_an_image : (disk : D) → v.may_leave disk (v.seen disk)
  pub counts_now : (disk : D) (t : ℕ) (c : List ℕ) → t ≤ v.moment disk → v.may_leave disk c → v.left_since disk t c
  pub only_now : (disk : D) (c : List ℕ) → v.left_since disk (v.moment disk) c → v.may_leave disk c

module _ {D : Type 0} (v : Device D) where
  -- what all images have is had where it implies this
  pub weakened : (old new : D) (P Q : List ℕ → Type 0) → ((c : List ℕ) → P c → Q c) → LeavesOnly v old new P → LeavesOnly v old new Q
  weakened old new P Q implies leaves = record {
    later = leaves.later;
    each = λ c left. implies c (leaves.each c left);
    before = λ t c le left. ⊎_elim (λ was. inl was) (λ p. inr (implies c p)) (leaves.before t c le left);
  }

  -- one run after another, both of which leave only what has P
  pub joined : (old mid new : D) (P : List ℕ → Type 0) → LeavesOnly v old mid P → LeavesOnly v mid new P → LeavesOnly v old new P
  joined old mid new P first second = record {
    later = omega (arith, first.later, second.later);
    each = λ c left. ⊎_elim (first.each c) (λ p. p) (second.before (v.moment old) c first.later left);
    before = λ t c le left. ⊎_elim (first.before t c le) (λ p. inr p) (second.before t c (omega (arith, le, first.later)) left);
  }

  -- no call at all
  pub still : IsDevice v → (disk : D) → LeavesOnly v disk disk (v.may_leave disk)
  still laws disk = record { later = omega arith; each = laws.only_now disk; before = λ t c le left. inl left }

  -- a call failed in one of two runs
  pub failed_first : (old mid new : D) → v.failures mid ≤ v.failures new → HasFailed v old mid → HasFailed v old new
  failed_first old mid new counted (inl rose) = inl (omega arith)
  failed_first old mid new counted (inr stood) = inr stood

  pub failed_behind : (old mid new : D) → v.failures old ≤ v.failures mid → v.failures mid ≤ v.failures new → HasFailed v mid new → HasFailed v old new
  failed_behind old mid new first behind (inl rose) = inl (omega arith)
  failed_behind old mid new first behind (inr stood) = ⊎_elim (λ less. inl (omega arith)) (λ same. inr (omega arith)) (cases_lt (v.failures old) (v.failures mid))
