use Rattle.std.proofs.Common.{◌≡◌, slice_get, ◌∷◌, Some, sym, ◌∙◌, ap, arith}
use Rattle.erl_token.specs.Lexing.{join, put_item}
use Rattle.erl_number.specs.Views.{text_bytes}
use Rattle.erl_token.specs.Views.{items_from}
use Rattle.erl_token.specs.Contents.{content_bytes}
use Rattle.erl_token.proofs.JoinLemmas.{text_item, row_goes_on, row_breaks, row_ends, row_ends_there}
use Rattle.erl_number.proofs.DigitRows.{slice_get_byte}
use Rattle.erl_token.proofs.lexer.text_row.Goals as goal
use Rattle.erl_token.proofs.lexer.text_row.Goals.{in_default, in_default-2}

pub returns-in-Faulty : goal.returns-in-Faulty
returns-in-Faulty c =
    let here : slice_get (text_bytes c.args.text) c.loop-text.next ≡ Some 34 = slice_get_byte (slice_get (text_bytes c.args.text) c.loop-text.next) 34 (sym c.in-Some-eq34.ensures.is ∙ (λ j. Some (c.in-Some-eq34.field-0-test j))) in
    let reported = rw c.in-Faulty.is at c.in_ok-more.ensures in (
      c.loop-text.invariant.joined ∙ row_breaks (text_bytes c.args.text) (content_bytes c.loop-text.content) c.args.from c.loop-text.to c.loop-text.next c.in-Faulty.fault here reported,
      (omega (arith, c.loop-text.invariant.some, c.loop-text.invariant.onward)),
    )

pub loop-text-preserved : goal.loop-text-preserved
loop-text-preserved c =
    let here : slice_get (text_bytes c.args.text) c.loop-text.next ≡ Some 34 = slice_get_byte (slice_get (text_bytes c.args.text) c.loop-text.next) 34 (sym c.in-Some-eq34.ensures.is ∙ (λ j. Some (c.in-Some-eq34.field-0-test j))) in
    let reported = rw c.in-Closed.is at c.in_ok-more.ensures in
    let behind : items_from (text_bytes c.args.text) c.in-Closed.end ≡ items_from (text_bytes c.args.text) c.gap_end-next-in-Closed.result = ap join c.gap_end-next-in-Closed.ensures.same in
    record {
      joined =
          c.loop-text.invariant.joined
          ∙ (row_goes_on (text_bytes c.args.text) (content_bytes c.loop-text.content) (content_bytes c.in-Closed.more) c.args.from c.loop-text.to c.loop-text.next c.in-Closed.end here reported.0 reported.1
          ∙ (λ j. put_item (text_item (sym c.in_ok-content-in-Closed.ensures j) c.args.from c.in-Closed.end) (behind j)));
      behind = behind;
      some = omega (arith, reported.1, c.loop-text.invariant.some, c.loop-text.invariant.onward);
      onward = c.gap_end-next-in-Closed.ensures.onward;
      stops = c.gap_end-next-in-Closed.ensures.stops;
    }

pub returns : goal.returns
returns c = elim c.match-byte.branch [
  | in_default w ↦ (
      let at = slice_get_byte (slice_get (text_bytes c.args.text) c.loop-text.next) _ (sym w.in_default.ensures.is) in
      let stops = rw at at c.loop-text.invariant.stops in (
        c.loop-text.invariant.joined
            ∙ (row_ends (text_bytes c.args.text) (content_bytes c.loop-text.content) c.args.from c.loop-text.to c.loop-text.next _ at stops.0 stops.1 w.in_default.field-0-test.1
            ∙ ap (λ is. text_item (content_bytes c.loop-text.content) c.args.from c.loop-text.to ∷ is) (sym c.loop-text.invariant.behind)),
        c.loop-text.invariant.some,
      ))
  | in_default-2 w ↦ (
    c.loop-text.invariant.joined
        ∙ (row_ends_there (text_bytes c.args.text) (content_bytes c.loop-text.content) c.args.from c.loop-text.to c.loop-text.next (sym c.byte.ensures.is ∙ w.in_default.is) c.loop-text.invariant.stops
        ∙ ap (λ is. text_item (content_bytes c.loop-text.content) c.args.from c.loop-text.to ∷ is) (sym c.loop-text.invariant.behind)),
    c.loop-text.invariant.some,
  )
]
