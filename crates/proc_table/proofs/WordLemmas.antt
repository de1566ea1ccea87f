-- Who has a process at a word.
use Rattle.std.proofs.Common.{◌≡◌, ◌≢◌, ℕ, zero, suc, slice_index, refl, sym, ◌∙◌, arith}
use Rattle.proc_table.specs.Views.{is_out, word_of}
use Rattle.proc_table.specs.Words.{HasAtWord, WordsShow}
use Rattle.proc_table.proofs.Runs.{reached_agrees, none_out}
use Rattle.proc_table.proofs.SlotTurns.{word_not_zero}

client_at_one : (n : ℕ) → word_of n ≡ 1 → n ≢ 0
client_at_one zero e z = absurd (omega arith)
client_at_one (suc n) e z = absurd (omega arith)

handler_above_one : (n m : ℕ) → word_of n ≡ suc (suc m) → n ≡ 0
handler_above_one zero m e = refl
handler_above_one (suc n) m e = absurd (omega arith)

pub words_report : WordsShow
words_report s r p = go (slice_index s.words p) refl
  where
    go : (k : ℕ) → slice_index s.words p ≡ k → HasAtWord p k s
    go zero e = λ i v sits. none_out (is_out v p) (λ o. word_not_zero v.number (sym ((((reached_agrees s r).each p).parts i v sits).word_where_out o) ∙ e))
    go (suc zero) e =
        let here = (reached_agrees s r).each p in
        let holder = here.taken (λ z. absurd (omega arith)) in
        let word = (here.parts holder.0 holder.1 holder.2).word_where_out holder.3 in
        (holder.0, holder.1, holder.2, client_at_one holder.1.number (sym word ∙ e), holder.3)
    go (suc (suc n)) e =
        let here = (reached_agrees s r).each p in
        let holder = here.taken (λ z. absurd (omega arith)) in
        let word = (here.parts holder.0 holder.1 holder.2).word_where_out holder.3 in
        (holder.0, holder.1, holder.2, handler_above_one holder.1.number n (sym word ∙ e), holder.3)
