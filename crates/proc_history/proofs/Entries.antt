-- Own entries, replay and legality of lists that are put together.
use Rattle.std.proofs.Common.{◌≡◌, ◌≢◌, ℕ, zero, suc, ◌==◌, Bool, true, false, if◌then◌else◌, List, [], ◌∷◌, ◌++◌, refl, ap, sym, subst, ◌∙◌, ⊎_elim, arith, append-nil}
use Rattle.std.proofs.lemmas.Bool.Decides.{nat_tests}
use mathlib.Core.List.{IsPrefix}
use Rattle.proc_history.specs.declared.value.Value.{Value}
use Rattle.proc_history.specs.Events.{HistoryEntry, MayDo, own}
use Rattle.proc_history.specs.Values.{after, MayCome}
use Rattle.proc_history.specs.Histories.{replay_from, LegalFrom}
use Rattle.proc_history.specs.Events.{ByHandler, MayAdd}

-- the entries of one number in two lists, one after the other
pub own-append : (n : ℕ) (g h : List HistoryEntry) → own n (g ++ h) ≡ own n g ++ own n h
own-append n [] h = refl
own-append n (e ∷ es) h = go (e.by == n) (own-append n es h)
  where
    go : (b : Bool) → own n (es ++ h) ≡ own n es ++ own n h → (if b then e ∷ own n (es ++ h) else own n (es ++ h)) ≡ (if b then e ∷ own n es else own n es) ++ own n h
    go true ih = ap (λ w. e ∷ w) ih
    go false ih = ih

pub replay-append : (v : Value) (g h : List HistoryEntry) → replay_from v (g ++ h) ≡ replay_from (replay_from v g) h
replay-append v [] h = refl
replay-append v (e ∷ es) h = replay-append (after v e.event) es h

pub legal-append : (v : Value) (g h : List HistoryEntry) → LegalFrom v g → LegalFrom (replay_from v g) h → LegalFrom v (g ++ h)
legal-append v [] h p q = q
legal-append v (e ∷ es) h p q = (p.0, p.1, legal-append (after v e.event) es h p.2 q)

-- each entry is by this number
abbrev pub AllBy : ℕ → List HistoryEntry → Type 0
AllBy n [] = Unit {0}
AllBy n (e ∷ es) = (e.by ≡ n) × AllBy n es

pub own_all_by : (n : ℕ) (es : List HistoryEntry) → AllBy n es → own n es ≡ es
own_all_by n [] a = refl
own_all_by n (e ∷ es) a =
    let rest = own_all_by n es a.1 in
    let yes : (e.by == n) ≡ true = let h = a.0 in grind (arith, nat_tests) in
    rw yes (ap (λ w. e ∷ w) rest)

pub own_none_by : (m n : ℕ) (es : List HistoryEntry) → AllBy n es → m ≢ n → own m es ≡ []
own_none_by m n [] a ne = refl
own_none_by m n (e ∷ es) a ne =
    let no : (e.by == m) ≡ false = let h = a.0 in grind (arith, nat_tests) in
    rw no (own_none_by m n es a.1 ne)

pub by_handler : (es : List HistoryEntry) → ByHandler es → AllBy 0 es
by_handler [] b = tt
by_handler (e ∷ es) b = (b.0, by_handler es b.2)

-- what a seat may add is its own
pub added_by : (n : ℕ) (es : List HistoryEntry) → MayAdd n es → AllBy n es
added_by zero es may = by_handler es may
added_by (suc n) es may = ⊎_elim
    (λ e. subst (AllBy (suc n)) (sym e) tt)
    (λ c. subst (AllBy (suc n)) (sym c.2) (refl, tt)) may

pub append_nothing : (g x : List HistoryEntry) → g ++ x ≡ g → x ≡ []
append_nothing [] x e = e
append_nothing (g ∷ gs) x e = append_nothing gs x (cc)

-- a beginning of a legal history is legal
pub legal_prefix : (v : Value) (g h : List HistoryEntry) → IsPrefix g h → LegalFrom v h → LegalFrom v g
legal_prefix v [] h p l = tt
legal_prefix v (e ∷ es) [] p l = absurd (cc (p.1))
legal_prefix v (e ∷ es) (x ∷ xs) p l =
    let heads : e ≡ x = cc (p.1) in
    let m : MayDo e.by e.event × MayCome v e.event × LegalFrom (after v e.event) xs =
    subst (λ (y : HistoryEntry). MayDo y.by y.event × MayCome v y.event × LegalFrom (after v y.event) xs) (sym heads) l in
    (m.0, m.1, legal_prefix (after v e.event) es xs (p.0, cc (p.1)) m.2)

append_both : (g x y : List HistoryEntry) → (g ++ x) ++ y ≡ g → (x ≡ []) × (y ≡ [])
append_both [] [] y e = (refl, e)
append_both [] (x ∷ xs) y e = absurd (cc)
append_both (g ∷ gs) x y e = append_both gs x y (cc)

-- what lies between two lists with the same own entries has them too
pub own_between : (n : ℕ) (g k h : List HistoryEntry) → IsPrefix g k → IsPrefix k h → own n g ≡ own n h → own n k ≡ own n h
own_between n g k h p q same =
    let whole : (own n g ++ own n p.0) ++ own n q.0 ≡ own n g =
    ap (λ w. w ++ own n q.0) (sym (own-append n g p.0)) ∙ (sym (own-append n (g ++ p.0) q.0) ∙ (ap (λ w. own n (w ++ q.0)) p.1 ∙ (ap (own n) q.1 ∙ sym same))) in
    let none : own n p.0 ≡ [] = (append_both (own n g) (own n p.0) (own n q.0) whole).0 in
    ap (own n) (sym p.1) ∙ (own-append n g p.0 ∙ (ap (λ w. own n g ++ w) none ∙ (append-nil (own n g) ∙ same)))
