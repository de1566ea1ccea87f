use Rattle.std.proofs.Common.{◌≡◌, ℕ, ◌+◌, ◌-◌, ◌<◌, slice_get, length, List, Some, sym, ◌∙◌, ap, subst, arith}
use Rattle.std.proofs.lemmas.Option.{slice_get_within}
use Rattle.erl_token.specs.Quotes.Quoted.{faulty}
use Rattle.erl_number.specs.Views.{text_bytes}
use Rattle.erl_token.specs.Contents.{content_bytes}
use Rattle.erl_token.proofs.QuoteLemmas.{IsRead, nothing_read, quote_byte, reads_run, reads_escape, closes_quote, bad_in_quotes, open_quote, senseless_escape, unfinished_escape, cut_behind, inside, run_cut, run_between, run_goes_on}
use Rattle.erl_token.proofs.quote.quoted_from.Goals as goal

pub loop-at-init : goal.loop-at-init
loop-at-init c = record {
  read = nothing_read c.args.quote c.args.from (text_bytes c.args.text);
  cut = cut_behind c.args.text.valid.now c.args.text.is_spoilt c.args.from c.args.quote c.requires.utf8 c.requires.begins (quote_byte c.requires.quote).0;
}

pub returns-then-byte-quote : goal.returns-then-byte-quote
returns-then-byte-quote c =
    let here : slice_get (text_bytes c.args.text) c.loop-at.at ≡ Some c.args.quote = sym c.in-Byte.ensures.byte ∙ ap Some c.if-byte-quote.true in (
      closes_quote c.args.quote c.args.from (text_bytes c.args.text) (content_bytes c.loop-at.content) c.loop-at.at c.loop-at.invariant.read here,
      (omega (arith, c.loop-at.invariant.read.onward)),
    )

pub returns-in-NotUtf8 : goal.returns-in-NotUtf8
returns-in-NotUtf8 c =
    bad_in_quotes c.args.quote c.args.from (text_bytes c.args.text) (content_bytes c.loop-at.content) c.loop-at.at 256 c.loop-at.invariant.read
    (sym c.in-NotUtf8.ensures.byte) (λ e. omega (arith, e, (quote_byte c.requires.quote).0)) (omega arith)

pub escape_at-requires : goal.escape_at-requires
escape_at-requires c =
    cut_behind c.args.text.valid.now c.args.text.is_spoilt c.loop-at.at c.in-Byte.byte c.requires.utf8 (sym c.in-Byte.ensures.byte) (omega arith)

pub loop-at-preserved-in-Means : goal.loop-at-preserved-in-Means
loop-at-preserved-in-Means c =
    let here : slice_get (text_bytes c.args.text) c.loop-at.at ≡ Some 92 = sym c.in-Byte.ensures.byte ∙ ap Some c.if-byte-eq92.true in
    let place : c.in-Means.end ≡ c.loop-at.at + 1 + (c.in-Means.end - (c.loop-at.at + 1)) = omega (arith, c.in-Means.ensures.ends.0) in
    record {
      read =
          subst (λ (s : List ℕ). IsRead c.args.quote c.args.from (text_bytes c.args.text) s c.in-Means.end) (sym c.in_ok-content-in-Means.ensures)
          (reads_escape c.args.quote c.args.from (text_bytes c.args.text) (content_bytes c.loop-at.content) c.loop-at.at c.in-Means.character (c.in-Means.end - (c.loop-at.at + 1)) c.in-Means.end
          c.loop-at.invariant.read (quote_byte c.requires.quote).1 here (sym c.in-Means.ensures.is) place);
      cut = c.in-Means.ensures.ends.2;
    }

pub returns-in-Senseless : goal.returns-in-Senseless
returns-in-Senseless c =
    let here : slice_get (text_bytes c.args.text) c.loop-at.at ≡ Some 92 = sym c.in-Byte.ensures.byte ∙ ap Some c.if-byte-eq92.true in
    senseless_escape c.args.quote c.args.from (text_bytes c.args.text) (content_bytes c.loop-at.content) c.loop-at.at c.loop-at.invariant.read (quote_byte c.requires.quote).1
    here (sym c.in-Senseless.ensures.is)

pub unclosed-requires : goal.unclosed-requires
unclosed-requires c =
    let (within, is) = inside c.args.text.valid.now c.args.text.is_spoilt c.loop-at.at c.in-Byte.byte (sym c.in-Byte.ensures.byte) (omega arith) in
    omega arith

pub returns-in-Unfinished : goal.returns-in-Unfinished
returns-in-Unfinished c =
    let here : slice_get (text_bytes c.args.text) c.loop-at.at ≡ Some 92 = sym c.in-Byte.ensures.byte ∙ ap Some c.if-byte-eq92.true in
    unfinished_escape c.args.quote c.args.from (text_bytes c.args.text) (content_bytes c.loop-at.content) c.loop-at.at c.loop-at.invariant.read (quote_byte c.requires.quote).1
    here (sym c.in-Unfinished.ensures.is) ∙ ap faulty (sym c.unclosed.ensures)

pub part-requires-clause-ends : goal.part-requires-clause-ends
part-requires-clause-ends c =
    run_cut c.args.quote c.args.text.valid.now c.args.text.is_spoilt c.loop-at.at c.run_end-end.result (quote_byte c.requires.quote).0 c.loop-at.invariant.cut.0 c.run_end-end.ensures.end

pub loop-at-smaller : goal.loop-at-smaller
loop-at-smaller c =
    let within : c.loop-at.at < length (text_bytes c.args.text) = slice_get_within (text_bytes c.args.text) c.loop-at.at c.in-Byte.byte (sym c.in-Byte.ensures.byte) in
    let onward : c.loop-at.at < c.run_end-end.result =
    run_goes_on c.args.quote (text_bytes c.args.text) c.loop-at.at c.in-Byte.byte c.run_end-end.result (sym c.in-Byte.ensures.byte) c.if-byte-quote.false (omega arith)
    c.if-byte-eq92.false c.run_end-end.ensures.end in
    omega arith

pub loop-at-preserved : goal.loop-at-preserved
loop-at-preserved c =
    let same = c.part.ensures ∙ run_between c.args.quote c.args.text.valid.now c.args.text.is_spoilt c.loop-at.at c.run_end-end.result c.loop-at.invariant.cut.0 c.run_end-end.ensures.end in
    record {
      read =
          subst (λ (s : List ℕ). IsRead c.args.quote c.args.from (text_bytes c.args.text) s c.run_end-end.result) (sym c.in_ok-content-in-Byte.ensures)
          (reads_run c.args.quote c.args.from (text_bytes c.args.text) (content_bytes c.loop-at.content) c.part.result.now c.loop-at.at c.run_end-end.result
          c.loop-at.invariant.read c.run_end-end.ensures.end same);
      cut = run_cut c.args.quote c.args.text.valid.now c.args.text.is_spoilt c.loop-at.at c.run_end-end.result (quote_byte c.requires.quote).0 c.loop-at.invariant.cut.0 c.run_end-end.ensures.end;
    }

pub returns-in-End : goal.returns-in-End
returns-in-End c = open_quote c.args.quote c.args.from (text_bytes c.args.text) (content_bytes c.loop-at.content) c.loop-at.at c.loop-at.invariant.read (sym c.in-End.ensures.byte)

pub part-requires-clause-ordered : goal.part-requires-clause-ordered
part-requires-clause-ordered c = omega (arith, c.run_end-end.ensures.end)

pub part-requires-clause-begins : goal.part-requires-clause-begins
part-requires-clause-begins c = c.loop-at.invariant.cut

pub loop-at-smaller-in-Means : goal.loop-at-smaller-in-Means
loop-at-smaller-in-Means c =
    let within : c.loop-at.at < length (text_bytes c.args.text) = slice_get_within (text_bytes c.args.text) c.loop-at.at c.in-Byte.byte (sym c.in-Byte.ensures.byte) in
    omega (arith, c.in-Means.ensures.ends.0)
