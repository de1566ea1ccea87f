use Rattle.std.proofs.Common.{ℕ, ◌<◌, ◌≤◌, refl, sym, ◌∙◌, arith}
use Rattle.rel_store.specs.State.{Fits}
use Rattle.rel_store.specs.declared.error.StoreError.TheVariants.{Device, NoMemory}
use Rattle.rel_store.proofs.Exits.{no_success, no_value}
use Rattle.rel_store.proofs.Scan.{passed_on}
use Rattle.rel_store.proofs.creation.lay_out.Goals as goal

pub returns-clause-spelled : goal.returns-clause-spelled
returns-clause-spelled g c = record { few = c.requires; short = c.if-first-gt-MAX_BODY.false; spelled = c.in_ok-bytes.ensures }

too_long : (n : ℕ) → 16777216 < n → Fits 289 n → ⊥
too_long n over fits = omega (arith, fits.0)

first_fits : (n : ℕ) → n ≤ 16777216 → Fits 289 n
first_fits n short = (short, omega arith)

pub returns-in_err-holds_a_store-clause-refused : goal.returns-in_err-holds_a_store-clause-refused
returns-in_err-holds_a_store-clause-refused g c = passed_on _ _ Device c.from_residual.ensures.1 (c.in_err-holds_a_store.ensures.cause refl)

pub returns-then-branch-clause-refused : goal.returns-then-branch-clause-refused
returns-then-branch-clause-refused g c = (sym c.in_ok-holds_a_store.ensures.value ∙ c.if-branch.true, record { same = c.holds_a_store.ensures.same; any_moment = c.holds_a_store.ensures.any_moment })

pub returns-then-first-gt-MAX_BODY-clause-refused : goal.returns-then-first-gt-MAX_BODY-clause-refused
returns-then-first-gt-MAX_BODY-clause-refused g c = (sym c.in_ok-holds_a_store.ensures.value ∙ c.if-branch.false, too_long _ c.if-first-gt-MAX_BODY.true, record { same = c.holds_a_store.ensures.same; any_moment = c.holds_a_store.ensures.any_moment })

pub returns-in_err-bytes-clause-refused : goal.returns-in_err-bytes-clause-refused
returns-in_err-bytes-clause-refused g c = passed_on _ _ NoMemory c.from_residual-in_err-bytes.ensures.1 (sym c.in_ok-holds_a_store.ensures.value ∙ c.if-branch.false, first_fits _ c.if-first-gt-MAX_BODY.false, record { same = c.holds_a_store.ensures.same; any_moment = c.holds_a_store.ensures.any_moment })

pub returns-in_err-records-clause-refused : goal.returns-in_err-records-clause-refused
returns-in_err-records-clause-refused g c = passed_on _ _ NoMemory c.from_residual-in_err-records.ensures.1 (sym c.in_ok-holds_a_store.ensures.value ∙ c.if-branch.false, first_fits _ c.if-first-gt-MAX_BODY.false, record { same = c.holds_a_store.ensures.same; any_moment = c.holds_a_store.ensures.any_moment })

pub returns-in_err-holds_a_store-clause-spelled : goal.returns-in_err-holds_a_store-clause-spelled
returns-in_err-holds_a_store-clause-spelled g c = no_value _ _ c.from_residual.ensures.0

pub returns-in_err-holds_a_store-clause-records : goal.returns-in_err-holds_a_store-clause-records
returns-in_err-holds_a_store-clause-records g c = no_value _ _ c.from_residual.ensures.0

pub returns-in_err-holds_a_store-clause-free : goal.returns-in_err-holds_a_store-clause-free
returns-in_err-holds_a_store-clause-free g c = no_success _ _ c.from_residual.ensures.0

pub returns-in_err-bytes-clause-spelled : goal.returns-in_err-bytes-clause-spelled
returns-in_err-bytes-clause-spelled g c = no_value _ _ c.from_residual-in_err-bytes.ensures.0

pub returns-in_err-bytes-clause-records : goal.returns-in_err-bytes-clause-records
returns-in_err-bytes-clause-records g c = no_value _ _ c.from_residual-in_err-bytes.ensures.0

pub returns-in_err-bytes-clause-free : goal.returns-in_err-bytes-clause-free
returns-in_err-bytes-clause-free g c = no_success _ _ c.from_residual-in_err-bytes.ensures.0

pub returns-in_err-records-clause-spelled : goal.returns-in_err-records-clause-spelled
returns-in_err-records-clause-spelled g c = no_value _ _ c.from_residual-in_err-records.ensures.0

pub returns-in_err-records-clause-records : goal.returns-in_err-records-clause-records
returns-in_err-records-clause-records g c = no_value _ _ c.from_residual-in_err-records.ensures.0

pub returns-in_err-records-clause-free : goal.returns-in_err-records-clause-free
returns-in_err-records-clause-free g c = no_success _ _ c.from_residual-in_err-records.ensures.0
