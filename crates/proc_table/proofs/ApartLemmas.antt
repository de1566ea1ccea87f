-- A call and the entries of a release stand apart.
use Rattle.std.proofs.Common.{◌≡◌, ◌≢◌, ◌⊎◌, List, [], ◌∷◌, ◌++◌, refl, ap, sym, subst, ◌∙◌, inl, inr, ⊎_elim}
use mathlib.Core.List.{IsPrefix}
use Rattle.proc_history.specs.Events.{HistoryEntry, entry}
use Rattle.proc_history.specs.Events.Event.{call}
use Rattle.proc_table.specs.Views.{seen}
use Rattle.proc_table.specs.Together.{CallsStandApart}
use Rattle.proc_history.proofs.Entries.{AllBy, by_handler}

-- an entry that isn't the handler's stands after entries that are
behind_all : (es b h : List HistoryEntry) (e : HistoryEntry) → AllBy 0 es → e.by ≢ 0 → IsPrefix es h → IsPrefix (b ++ e ∷ []) h → IsPrefix es b
behind_all [] b h e by ne p q = (b, refl)
behind_all (x ∷ xs) b [] e by ne p q = absurd (cc (p.1))
behind_all (x ∷ xs) [] (y ∷ ys) e by ne p q =
    let same : x ≡ e = cc (p.1, q.1) in
    absurd (ne (ap (λ (z : HistoryEntry). z.by) (sym same) ∙ by.0))
behind_all (x ∷ xs) (c ∷ cs) (y ∷ ys) e by ne p q =
    let heads : x ≡ c = cc (p.1, q.1) in
    let rest = behind_all xs cs ys e by.1 ne (p.0, cc (p.1)) (q.0, cc (q.1)) in
    (rest.0, cc (heads, rest.1))

stands_apart : (s es b h : List HistoryEntry) (e : HistoryEntry) → AllBy 0 es → e.by ≢ 0 → IsPrefix (s ++ es) h → IsPrefix (b ++ e ∷ []) h
    → IsPrefix (b ++ e ∷ []) s ⊎ IsPrefix (s ++ es) b
stands_apart [] es b h e by ne p q = inr (behind_all es b h e by ne p q)
stands_apart (x ∷ xs) es b [] e by ne p q = absurd (cc (p.1))
stands_apart (x ∷ xs) es [] (y ∷ ys) e by ne p q = inl (xs, cc (p.1, q.1))
stands_apart (x ∷ xs) es (c ∷ cs) (y ∷ ys) e by ne p q =
    let heads : x ≡ c = cc (p.1, q.1) in
    let tail = stands_apart xs es cs ys e by ne (p.0, cc (p.1)) (q.0, cc (q.1)) in
    ⊎_elim (λ l. inl (l.0, cc (heads, l.1))) (λ r. inr (r.0, cc (heads, r.1))) tail

pub calls_stand_apart : CallsStandApart
calls_stand_apart p round input o entries v w first second history by r pass c seen_handler seen_client =
    let apart = stands_apart (seen v p) entries (seen first p ++ c.between) history (entry first.number (call input o)) (by_handler entries by) pass
    (subst (λ l. IsPrefix l history) r.seen_is seen_handler) (subst (λ l. IsPrefix l history) c.seen_is seen_client) in
    ⊎_elim (λ l. inl (subst (λ m. IsPrefix m (seen v p)) (sym c.seen_is) l)) (λ l. inr (subst (λ m. IsPrefix m (seen first p ++ c.between)) (sym r.seen_is) l)) apart
