-- Blocks that stand in a history.
use Rattle.std.proofs.Common.{◌≡◌, ℕ, List, [], ◌∷◌, ◌++◌, refl, ap, sym, ◌∙◌, append-nil, append_assoc}
use Rattle.proc_history.specs.Events.{HistoryEntry}
use Rattle.proc_history.proofs.Entries.{own-append}
use Rattle.held_processes.specs.Course.{added}
use Rattle.held_processes.specs.Following.{AreStrangers, Stand}

pub no_strangers : (lent : List ℕ) → AreStrangers lent []
no_strangers lent = record { others = refl; alone = λ none. refl }

strangers_both : (lent : List ℕ) (a b : List HistoryEntry) → AreStrangers lent a → AreStrangers lent b → AreStrangers lent (a ++ b)
strangers_both lent a b x y = record {
  others = own-append 0 a b ∙ (λ i. x.others i ++ y.others i);
  alone = λ none i. x.alone none i ++ y.alone none i;
}

-- entries of others come after the blocks
pub stand_more : (lent : List ℕ) (first : List HistoryEntry) (bs : List (List HistoryEntry)) (h between : List HistoryEntry) → Stand lent first bs h → AreStrangers lent between
    → Stand lent first bs (h ++ between)
stand_more lent first [] h e s a = (s.0 ++ e, strangers_both lent s.0 e s.1 a, ap (λ l. l ++ e) s.2 ∙ append_assoc first s.0 e)
stand_more lent first (b ∷ bs) h e s a =
    (s.0, s.1 ++ e, s.2, strangers_both lent s.1 e s.3 a, ap (λ l. l ++ e) s.4 ∙ append_assoc (s.0 ++ b) s.1 e)

-- a block comes after them
pub stand_block : (lent : List ℕ) (first : List HistoryEntry) (bs : List (List HistoryEntry)) (h b : List HistoryEntry) → Stand lent first bs h → Stand lent first (b ∷ bs) (h ++ b)
stand_block lent first bs h b s = (h, [], s, no_strangers lent, sym (append-nil (h ++ b)))

-- where no pass is lent, the history is reported exactly
pub stand_alone : (lent : List ℕ) (first : List HistoryEntry) (bs : List (List HistoryEntry)) (h : List HistoryEntry) → lent ≡ [] → Stand lent first bs h → h ≡ first ++ added bs
stand_alone lent first [] h none s = s.2 ∙ ap (λ l. first ++ l) (s.1.alone none)
stand_alone lent first (b ∷ bs) h none s =
    s.4 ∙ (ap (λ l. (s.0 ++ b) ++ l) (s.3.alone none)
    ∙ (append-nil (s.0 ++ b)
    ∙ (ap (λ l. l ++ b) (stand_alone lent first bs s.0 none s.2) ∙ append_assoc first (added bs) b)))
