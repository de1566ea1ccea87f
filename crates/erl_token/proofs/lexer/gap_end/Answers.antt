use Rattle.std.proofs.Common.{◌<◌, length, sym, ◌∙◌, arith, rules}
use Rattle.std.proofs.lemmas.Option.{slice_get_within}
use Rattle.erl_number.specs.Views.{text_bytes}
use Rattle.erl_token.proofs.Lexemes.{skips_blank, skips_comment}
use Rattle.erl_token.proofs.lexer.gap_end.Goals as goal

pub loop-at-preserved-in-Blank : goal.loop-at-preserved-in-Blank
loop-at-preserved-in-Blank c = record {
  passed = c.loop-at.invariant.passed ∙ skips_blank (text_bytes c.args.text) c.loop-at.at c.in-Byte.byte (sym c.in-Byte.ensures.byte) (search rules);
  onward = search rules;
}

pub loop-at-smaller : goal.loop-at-smaller
loop-at-smaller c =
    let within : c.loop-at.at < length (text_bytes c.args.text) = slice_get_within (text_bytes c.args.text) c.loop-at.at c.in-Byte.byte (sym c.in-Byte.ensures.byte) in
    omega (arith, c.run_end-at.ensures.end)

pub loop-at-preserved : goal.loop-at-preserved
loop-at-preserved c = record {
  passed =
      c.loop-at.invariant.passed
      ∙ skips_comment (text_bytes c.args.text) c.loop-at.at c.in-Byte.byte c.run_end-at.result (sym c.in-Byte.ensures.byte) (search rules) c.run_end-at.ensures.end;
  onward = omega (arith, c.run_end-at.ensures.end, c.loop-at.invariant.onward);
}
