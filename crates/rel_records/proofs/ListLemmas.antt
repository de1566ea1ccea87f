-- What the records of a store make.
use Rattle.std.proofs.Common.{◌≡◌, ℕ, List, [], ◌∷◌, ◌++◌, Option, Some, None, refl, sym, ap, ◌∙◌, subst}
use Rattle.rel_list.specs.Releases.{Releases}
use Rattle.rel_records.specs.Limits.{has_one_permanent}
use Rattle.rel_records.specs.Record.{Record}
use Rattle.rel_records.specs.Reading.{Spells}
use Rattle.rel_records.specs.Lists.{assigned_in, MakesFrom, Makes, CannotStand, IsBadRecord, none_at_all, bad_after}
use Rattle.rel_records.proofs.BodyLemmas.{spells_once}

the_same : {A : Type 0} (o : Option A) (x y : A) → o ≡ Some x → o ≡ Some y → x ≡ y
the_same o x y p q = cc

-- one record more
pub makes-push : (format : ℕ) (es : Releases) (bodies : List (List ℕ)) (mid : Releases) (body : List ℕ) (r : Record) (end : Releases)
    → MakesFrom format es bodies mid → Spells body r → assigned_in format r mid ≡ Some end → MakesFrom format es (bodies ++ body ∷ []) end
makes-push format es [] mid body r end so_far spelled next = (r, end, spelled, subst (λ l. assigned_in format r l ≡ Some end) so_far next, refl)
makes-push format es (b ∷ bodies) mid body r end (r', next', spelled', taken', rest) spelled next =
    (r', next', spelled', taken', makes-push format next' bodies mid body r end rest spelled next)

-- records make one list
pub makes_once : (format : ℕ) (es : Releases) (bodies : List (List ℕ)) (a b : Releases) → MakesFrom format es bodies a → MakesFrom format es bodies b → a ≡ b
makes_once format es [] a b p q = p ∙ sym q
makes_once format es (body ∷ bodies) a b (r, next, spelled, taken, rest) (r', next', spelled', taken', rest') =
    let same : next ≡ next' = the_same (assigned_in format r es) next next' taken (subst (λ s. assigned_in format s es ≡ Some next') (spells_once body r' r spelled' spelled) taken') in
    makes_once format next' bodies a b (subst (λ l. MakesFrom format l bodies a) same rest) rest'

-- a front of records that make a list makes one, after which the next one stands
stands_there : (format : ℕ) (es : Releases) (before : List (List ℕ)) (body : List ℕ) (rest : List (List ℕ)) (mid end : Releases)
    → MakesFrom format es (before ++ body ∷ rest) end → MakesFrom format es before mid → CannotStand format body mid → ⊥
stands_there format es [] body rest mid end (r, next, spelled, taken, more) so_far cannot = cc (taken, subst (λ l. assigned_in format r l ≡ None) so_far (cannot r spelled))
stands_there format es (b ∷ before) body rest mid end (r, next, spelled, taken, more) (r', next', spelled', taken', so_far) cannot =
    let same : next' ≡ next = the_same (assigned_in format r es) next' next (subst (λ s. assigned_in format s es ≡ Some next') (spells_once b r' r spelled' spelled) taken') taken in
    stands_there format next before body rest mid end more (subst (λ l. MakesFrom format l before mid) same so_far) cannot

-- records that make a list have no bad one
pub makes_not_bad : (format : ℕ) (bodies : List (List ℕ)) (es : Releases) (i : ℕ) → Makes format bodies es → IsBadRecord format bodies i → ⊥
makes_not_bad format [] es i (is, one) none_at_all = cc (one, ap has_one_permanent is)
makes_not_bad format bodies es i (made, one) (bad_after before body rest mid so_far cannot) = stands_there format [] before body rest mid es made so_far cannot

-- a body whose record can't stand there can't
pub cannot_stand : (format : ℕ) (body : List ℕ) (es : Releases) (r : Record) → Spells body r → assigned_in format r es ≡ None → CannotStand format body es
cannot_stand format body es r spelled none s again = subst (λ t. assigned_in format t es ≡ None) (spells_once body r s spelled again) none
