-- Sessions in which neither the device failed nor memory was refused to a compaction have written one text.
use Rattle.std.proofs.Common.{◌≡◌, inl, inr, ℕ, List, [], ◌∷◌, ◌++◌, refl, sym, ap, ◌∙◌, subst, append_assoc}
use Rattle.node_answer.specs.Lines.{installed_text}
use Rattle.rel_handler.specs.declared.error.BootError.TheVariants as boot_error
use Rattle.rel_session.specs.Booting.{boot_line}
use Rattle.rel_unpack.specs.Source.{Source}
use Rattle.session_laws.specs.AnswerLaws.{AreSame, HasNoMemoryLine, HaveOneText, NoneLacksMemory, ReportsNoMemory}
use Rattle.rel_session.specs.Device.{Device}
use Rattle.session_laws.specs.LawsBelow.{BootLaws}
use Rattle.rel_session.specs.Node.{Reply}
use Rattle.rel_session.specs.Run.{EndsInFull, Ending, IsTextOf, answers_of}
use Rattle.rel_session.specs.Run.Ending.{ended, cut_off}
use Rattle.session_laws.proofs.Failures.{fails_only_with_the_device}
use Rattle.session_laws.proofs.OneAnswer.{have_one_answer}

pub same_text : (first second : List Reply) → AreSame first second → answers_of first ≡ answers_of second
same_text [] [] same = refl
same_text (a ∷ first) (b ∷ second) (answer, outcome, same) = λ k. answer k ++ same_text first second same k
same_text [] (b ∷ second) same = absurd same
same_text (a ∷ first) [] same = absurd same

-- a session that did not end early has written all its answers
pub whole_text : (ending : Ending) (replies : List Reply) (text : List ℕ) → EndsInFull ending → IsTextOf ending replies text → text ≡ answers_of replies
whole_text ended replies text whole is = is
whole_text cut_off replies text whole is = is
whole_text ending replies text whole is = absurd whole

-- an answer stands in the text
pub none_lacks : (replies : List Reply) → HasNoMemoryLine (answers_of replies) → NoneLacksMemory replies
none_lacks [] free = tt
none_lacks (a ∷ more) free = (
  here,
  none_lacks more (λ front line back is_line same.
      free (a.answer ++ front) line back is_line (ap (λ t. a.answer ++ t) same ∙ sym (append_assoc a.answer front (line ++ back)))),
)
  where
    here : ReportsNoMemory a.answer → ⊥
    here (inl is_line) = free [] a.answer (answers_of more) is_line refl
    here (inr (other, descr, stale, is)) =
        free (installed_text other descr stale) (boot_line boot_error.NoMemory) (answers_of more) (inr (inr (inl refl)))
        (ap (λ t. t ++ answers_of more) is ∙ append_assoc (installed_text other descr stale) (boot_line boot_error.NoMemory) (answers_of more))

pub have_one_text : BootLaws → {D : Type 0} (v : Device D) (base : Source) → HaveOneText v base
have_one_text laws v base single files p commands a b old new other later text written sure not_a not_b works works_too had had_too one two small small_too =
    let fine = fails_only_with_the_device v base files p commands a one.replies old new one.right one.leads works in
    let fine_too = fails_only_with_the_device v base files p commands b two.replies other later two.right two.leads works_too in
    let (ending, same) = have_one_answer laws base single files p commands a b one.replies two.replies sure not_a not_b fine.0 fine_too.0
    (none_lacks one.replies (subst HasNoMemoryLine (whole_text a one.replies text not_a one.written) had)) (none_lacks two.replies (subst HasNoMemoryLine (whole_text b two.replies written not_b two.written) had_too)) small small_too one.right two.right in
    (ending, whole_text a one.replies text not_a one.written ∙ same_text one.replies two.replies same ∙ sym (whole_text b two.replies written not_b two.written))
