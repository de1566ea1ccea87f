-- The passes that the handler has lent, and what lies after what it has seen.
use Rattle.std.proofs.Common.{◌≡◌, ◌≢◌, ◌⊎◌, ℕ, zero, suc, ◌==◌, not, cond, Bool, true, false, List, [], ◌∷◌, ◌++◌, refl, sym, subst, ◌∙◌, inl, inr, ⊎_elim, arith}
use Rattle.std.specs.List.{Contains}
use Rattle.std.proofs.lemmas.Bool.Decides.{nat_tests}
use Rattle.proc_history.specs.Events.{HistoryEntry, own}
use Rattle.proc_table.specs.Views.{all_but}
use Rattle.proc_history.proofs.Entries.{own-append, append_nothing}

pub none_lent : (n : ℕ) → ¬ Contains [] n
none_lent n c = absurd (let inside = c.1 in omega arith)

pub lent_first : (n : ℕ) (ns : List ℕ) → Contains (n ∷ ns) n
lent_first n ns = (0, omega arith, refl)

pub lent_more : (m n : ℕ) (ns : List ℕ) → Contains ns n → Contains (m ∷ ns) n
lent_more m n ns c = (suc c.0, let inside = c.1 in omega arith, c.2)

first_or : (m n : ℕ) (ns : List ℕ) → Contains (m ∷ ns) n → (m ≡ n) ⊎ Contains ns n
first_or m n ns (zero, inside, is) = inl is
first_or m n ns (suc k, inside, is) = inr (k, omega arith, is)

-- where one pass is lent, no other is
pub only_lent : (m n : ℕ) → Contains (m ∷ []) n → m ≡ n
only_lent m n c = ⊎_elim (λ e. e) (λ more. absurd (none_lent n more)) (first_or m n [] c)

-- the others are lent still
pub lent_still : (m n : ℕ) (ns : List ℕ) → n ≢ m → Contains ns n → Contains (all_but m ns) n
lent_still m n [] ne c = c
lent_still m n (x ∷ xs) ne c = ⊎_elim
    (λ e.
    let stays : (x == m) ≡ false = grind (arith, nat_tests) in
    rw stays (subst (λ y. Contains (y ∷ all_but m xs) n) (sym e) (lent_first n (all_but m xs))))
    (λ later. go (x == m) (lent_still m n xs ne later))
    (first_or x n xs c)
  where
    go : (b : Bool) → Contains (all_but m xs) n → Contains (cond (not b) (x ∷ all_but m xs) (all_but m xs)) n
    go true c = c
    go false c = lent_more x n (all_but m xs) c

pub none_left : (n : ℕ) → all_but n (n ∷ []) ≡ []
none_left n = let gone : (n == n) ≡ true = grind (arith, nat_tests) in rw gone refl

-- where nobody has an entry, there is none
pub nothing_by_nobody : (es : List HistoryEntry) → ((n : ℕ) → own n es ≡ []) → es ≡ []
nothing_by_nobody [] none = refl
nothing_by_nobody (e ∷ es) none =
    let by_itself : (e.by == e.by) ≡ true = grind (arith, nat_tests) in
    let there : own e.by (e ∷ es) ≡ e ∷ own e.by es = rw by_itself refl in
    absurd (let nothing = sym there ∙ none e.by in cc)

-- where each has the entries that it had before, nothing lies after
pub nothing_behind : (g b : List HistoryEntry) → ((n : ℕ) → own n (g ++ b) ≡ own n g) → b ≡ []
nothing_behind g b same = nothing_by_nobody b (λ n. append_nothing (own n g) (own n b) (sym (own-append n g b) ∙ same n))
