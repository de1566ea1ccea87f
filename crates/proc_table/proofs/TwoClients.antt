-- What two clients that met know of one process.
use Rattle.std.proofs.Common.{◌≡◌, ℕ, ◌++◌, ap, sym, ◌∙◌, append-nil}
use Rattle.proc_table.specs.declared.view.View.{View}
use Rattle.proc_table.specs.declared.pass.Tried.{Tried}
use Rattle.proc_table.specs.declared.pass.Tried.TheVariants.{Done, Crashed, Ended, Down}
use Rattle.proc_history.specs.Events.{own}
use Rattle.proc_table.specs.Views.{seen, mine}
use Rattle.proc_table.specs.Calls.{Answers, Joined}
use Rattle.proc_table.specs.Waits.{IsAnswer, AnswersAtLast}
use Rattle.proc_table.specs.Together.{answered, BothCalled}

-- what an answered call adds to the own entries
pub record Grown (p input : ℕ) (v : View) (t : Tried) (w : View) : Type 0 where
  pub number : w.number ≡ v.number
  pub mine_is : mine w p ≡ mine v p ++ answered v.number input t

grown : (p round input : ℕ) (v : View) (t : Tried) (w : View) → IsAnswer t → Answers p round input v t w → Grown p input v t w
grown p round input v (Done r) w i a = record { number = a.rest.number; mine_is = a.mine_is }
grown p round input v Crashed w i a = record { number = a.rest.number; mine_is = a.mine_is }
grown p round input v (Ended r) w i a = record { number = a.rest.number; mine_is = a.mine_is }
grown p round input v Down w i a = record { number = a.0.rest.number; mine_is = a.0.mine_is ∙ sym (append-nil (mine v p)) }
grown p round input v t w i a = absurd i

pub grown_at_last : (p round input : ℕ) (v : View) (t : Tried) (w : View) → AnswersAtLast p round input v t w → Grown p input v t w
grown_at_last p round input v t w a =
    let g = grown p round input a.before t w a.is_answer a.answers in
    let same = a.waited.is in
    record {
      number = g.number ∙ ap (λ (y : View). y.number) same;
      mine_is = g.mine_is ∙ ap (λ (y : View). mine y p ++ answered y.number input t) same;
    }

pub both_called : (p round input other : ℕ) (v w : View) (t u : Tried) (f s both : View) → AnswersAtLast p round input v t f → AnswersAtLast p round other w u s
    → Joined f s both → BothCalled p round input other v w t u both
both_called p round input other v w t u f s both a b j =
    let g = grown_at_last p round input v t f a in
    let h = grown_at_last p round other w u s b in
    record {
      first = f;
      second = s;
      answer = a;
      other_answer = b;
      joined = j;
      legal = j.legal p;
      calls = ap (λ n. own n (seen both p)) (sym g.number) ∙ (j.once p ∙ g.mine_is);
      other_calls = ap (λ n. own n (seen both p)) (sym h.number) ∙ (j.other_once p ∙ h.mine_is);
    }
