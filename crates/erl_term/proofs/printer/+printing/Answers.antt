use Rattle.std.proofs.Common.{◌++◌, string_bytes, ap, sym, ◌∙◌, lit<, arith}
use Rattle.std.proofs.lemmas.Grind.{common_steps}
use Rattle.std.proofs.lemmas.Result.{on_ok_weaker}
use Rattle.erl_term.specs.declared.term.Term.{Term}
use Rattle.erl_term.specs.Value.{members_of, value_of}
use Rattle.erl_term.specs.Printing.{text_of}
use Rattle.erl_term.proofs.Characters.{fits-string}
use Rattle.erl_term.proofs.Commas.{prints-first, prints-next, texts_of-members_of}
use Rattle.erl_term.proofs.Members.{FitTerms-more}
use Rattle.erl_term.proofs.printer.+printing.Goals.{print_members-then-i-gt0+in_ok-push as then-i-gt0+in_ok-push, print_members-else-i-gt0 as else-i-gt0}
use Rattle.erl_term.proofs.printer.+printing.Goals as goal

pub print_members-loop-i-preserved : goal.print_members-loop-i-preserved
print_members-loop-i-preserved t c =
    let text = λ (u : Term). text_of (value_of u) in
    let items = c.args.items.now in
    let first = c.index-items-i.result in
    let old = string_bytes c.args.out.now in
    let out = string_bytes c.loop-i.out in
    let mid = string_bytes c.if-i-gt0.out in
    let new = string_bytes c.print_term.new.out in
    record {
      printed = elim c.if-i-gt0.branch [
        | then-i-gt0+in_ok-push w ↦ prints-next text items c.loop-i.i first c.loop-i-test.true w.if-i-gt0.true old out mid new c.loop-i.invariant.printed (ap string_bytes w.out-is ∙ w.in_ok-push.ensures.bytes ∙ ap (λ x. out ++ x) (w.in_ok-push.ensures.ascii (lit< tt))) (rw (← c.index-items-i.is) c.in_ok-print_term.ensures.printed)
        | else-i-gt0 w ↦ prints-first text items c.loop-i.i first c.loop-i-test.true (omega (arith, w.if-i-gt0.false)) old out mid new c.loop-i.invariant.printed (ap string_bytes w.out-is) (rw (← c.index-items-i.is) c.in_ok-print_term.ensures.printed)
      ];
      fit = FitTerms-more c.args.items.now c.loop-i.i c.index-items-i.result c.loop-i-test.true c.loop-i.invariant.fit (rw (← c.index-items-i.is) c.in_ok-print_term.ensures.fits);
    }

pub print_members-returns-clause-printed : goal.print_members-returns-clause-printed
print_members-returns-clause-printed t c = let e = texts_of-members_of c.args.items.now in grind (arith, common_steps, e)

pub print_list-returns-then-is_string-clause-fit : goal.print_list-returns-then-is_string-clause-fit
print_list-returns-then-is_string-clause-fit t c =
    let fit = fits-string (members_of c.args.items.now) (sym c.is_string.ensures ∙ c.if-is_string.true) in
    on_ok_weaker c.print_string.result (λ _. fit) c.print_string.ensures
