use Rattle.std.proofs.Common.{◌≡◌, ◌+◌, length, drop, arith, rules, sym}
use Rattle.erl_number.specs.Escapes.{leading}
use Rattle.erl_number.specs.Views.{text_bytes}
use Rattle.erl_number.specs.Scanned.{goes_on_with}
use Rattle.erl_number.proofs.Runs.{run_more, run_stops}
use Rattle.erl_number.proofs.Parts.{run_ends}
use Rattle.erl_number.proofs.run.run_end.Goals as goal

pub loop-at-preserved : goal.loop-at-preserved
loop-at-preserved c =
    let more : length (leading (goes_on_with c.args.run) (drop c.loop-at.at (text_bytes c.args.text)))
    ≡ length (leading (goes_on_with c.args.run) (drop (c.loop-at.at + 1) (text_bytes c.args.text))) + 1 =
    run_more (goes_on_with c.args.run) (text_bytes c.args.text) c.loop-at.at c.in-Byte.byte (sym c.in-Byte.ensures.byte) (search rules) in
    record { counted = omega (arith, c.loop-at.invariant.counted); within = search rules }

pub returns-then-not-goes_on_with-clause-end : goal.returns-then-not-goes_on_with-clause-end
returns-then-not-goes_on_with-clause-end c =
    let stops : length (leading (goes_on_with c.args.run) (drop c.loop-at.at (text_bytes c.args.text))) ≡ 0 =
    run_stops (goes_on_with c.args.run) (text_bytes c.args.text) c.loop-at.at c.in-Byte.byte (sym c.in-Byte.ensures.byte) (search rules) in
    omega (arith, c.loop-at.invariant.counted)

pub returns-in_default-clause-end : goal.returns-in_default-clause-end
returns-in_default-clause-end c =
    let past : length (leading (goes_on_with c.args.run) (drop c.loop-at.at (text_bytes c.args.text))) ≡ 0 =
    run_ends c.args.run (text_bytes c.args.text) c.loop-at.at c.at.result c.in_default.not-Byte c.at.ensures.byte in
    omega (arith, c.loop-at.invariant.counted)
