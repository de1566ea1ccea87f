-- The list of a disk decides what a session answers, where the device does not fail and no answer is that a record does not
-- fit.
use Rattle.std.proofs.Common.{◌≡◌, ◌≢◌, inl, inr, ℕ, false, true, List, [], ◌∷◌, ◌++◌, Some, refl, sym, ap, ◌∙◌, subst, append_assoc}
use Rattle.std.specs.Option.{option_map}
use Rattle.rel_list.specs.Releases.{Releases}
use Rattle.rel_list.specs.Event.{booted, list_after}
use Rattle.node_store.specs.Events.{StoreState, booted_or_same}
use Rattle.node_store.specs.Image.{Extent, booted_extent, extent_of, holds_a_store}
use Rattle.rel_unpack.specs.Source.{Source}
use Rattle.node_answer.specs.Refusals.{refusal_line}
use Rattle.node_answer.specs.Refusals.NodeRefusal.{full}
use Rattle.session_laws.specs.AnswerLaws.{AreRefusedAlike, BootsToList, HaveOneList, HasNoLackLine, ListDecidesAnswers, ListDecidesText, NoneIsFull, NoneLacksMemory, StoreBootsTo}
use Rattle.rel_session.specs.Booting.{boot_line}
use Rattle.rel_session.specs.Device.{Device}
use Rattle.session_laws.specs.LawsBelow.{BootLaws}
use Rattle.rel_session.specs.Node.{DiskState, Reply}
use Rattle.rel_session.specs.Node.DiskState.{unknown_bytes, not_booted, running, dead}
use Rattle.rel_session.specs.Run.{answers_of}
use Rattle.session_laws.proofs.Failures.{fails_only_with_the_device}
use Rattle.session_laws.proofs.IdlePlaces.{IsFound, IsFoundIn}
use Rattle.session_laws.proofs.IdlePlaces.Found.{listed, unlisted}
use Rattle.session_laws.proofs.OneAnswer.{Alike, AreAsked, one_run}
use Rattle.session_laws.proofs.OneAnswer.Alike.{both_idle}
use Rattle.session_laws.proofs.OneText.{none_lacks, same_text, whole_text}

-- a boot finds the list that it leads to
found_in : (s : StoreState) (list : Releases) → StoreBootsTo s list → (x : Extent) × IsFoundIn s (listed (Some list) x)
found_in s list (sure, (before, after, leads)) =
    (booted_or_same s.extent (list_after s.known.acknowledged), (sure.0, ap (option_map booted) after ∙ ap (λ l. Some l) leads, refl))

found_at : (p : DiskState) (list : Releases) → BootsToList p list → (x : Extent) × IsFound p (listed (Some list) x)
found_at (unknown_bytes bytes) list (before, image, leads) = (booted_extent (extent_of bytes) before, (before, image, ap (λ l. Some l) leads, refl))
found_at (not_booted s) list there = found_in s list there
found_at (running events extent ps) list there = absurd there
found_at (dead s) list there = found_in s list there

alike_refused : (p q : DiskState) → AreRefusedAlike p q → Alike false p q
alike_refused (unknown_bytes x) (unknown_bytes y) (why, other, refuses, refuses_too, lines, held) =
    both_idle (unknown_bytes x) (unknown_bytes y) (unlisted (holds_a_store x) (boot_line why)) (unlisted (holds_a_store y) (boot_line other)) (refl, (why, refuses, refl)) (refl, (other, refuses_too, refl)) (held, lines)
alike_refused p q never = absurd never

alike_lists : (p q : DiskState) → HaveOneList p q → Alike false p q
alike_lists p q (inl (list, there, there_too)) =
    let (x, here) = found_at p list there in
    let (y, here_too) = found_at q list there_too in
    both_idle p q (listed (Some list) x) (listed (Some list) y) here here_too (refl, λ (never : false ≡ true). absurd cc)
alike_lists p q (inr refused) = alike_refused p q refused

-- how far a store reaches is not asked
asked_none_full : (replies : List Reply) → NoneIsFull replies → NoneLacksMemory replies → AreAsked false replies
asked_none_full [] free had = tt
asked_none_full (a ∷ more) (free, rest) (here, later) = (((λ (never : false ≡ true). absurd cc), (λ sure. free), here), asked_none_full more rest later)

pub list_decides_answers : BootLaws → (base : Source) → ListDecidesAnswers base
list_decides_answers laws base single files p q commands a b first second alike not_a not_b works works_too free free_too had had_too =
    one_run laws false base single files p q commands a b first second (alike_lists p q alike) not_a not_b works works_too (asked_none_full first free had) (asked_none_full second free_too had_too)

-- an answer stands in the text
none_is_full : (replies : List Reply) → ((front back : List ℕ) → answers_of replies ≢ front ++ (refusal_line full ++ back)) → NoneIsFull replies
none_is_full [] free = tt
none_is_full (a ∷ more) free = (
  λ is. free [] (answers_of more) (ap (λ t. t ++ answers_of more) is),
  none_is_full more (λ front back is. free (a.answer ++ front) back (ap (λ t. a.answer ++ t) is ∙ sym (append_assoc a.answer front (refusal_line full ++ back)))),
)

pub list_decides_text : BootLaws → {D E : Type 0} (v : Device D) (w : Device E) (base : Source) → ListDecidesText v w base
list_decides_text laws v w base single files p q commands a b old new other later text written alike not_a not_b works works_too free free_too one two =
    let fine = fails_only_with_the_device v base files p commands a one.replies old new one.right one.leads works in
    let fine_too = fails_only_with_the_device w base files q commands b two.replies other later two.right two.leads works_too in
    let is = whole_text a one.replies text not_a one.written in
    let also = whole_text b two.replies written not_b two.written in
    let (ending, same) = list_decides_answers laws base single files p q commands a b one.replies two.replies alike not_a not_b fine.0 fine_too.0
    (none_is_full one.replies (subst HasNoLackLine is free).0) (none_is_full two.replies (subst HasNoLackLine also free_too).0)
    (none_lacks one.replies (subst HasNoLackLine is free).1) (none_lacks two.replies (subst HasNoLackLine also free_too).1) one.right two.right in
    (ending, is ∙ same_text one.replies two.replies same ∙ sym also)
