use Rattle.std.proofs.Common.{map, string_bytes, ap, ◌∙◌}
use Rattle.std.proofs.lemmas.List.{take_all}
use Rattle.std.proofs.lemmas.Result.{IfOk-from_err}
use Rattle.session_input.proofs.ParsedLines.{one_more_copy}
use Rattle.session_input.proofs.parsed_line.copies.Goals as goal

pub returns-in_err-copies : goal.returns-in_err-copies
returns-in_err-copies c = IfOk-from_err c.from_residual.result _ c.from_residual.ensures.0

pub loop-text-init : goal.loop-text-init
loop-text-init c = ap (map string_bytes) c.in_ok-copies.ensures.items

pub returns-in_err-from_str : goal.returns-in_err-from_str
returns-in_err-from_str c = IfOk-from_err c.from_residual-in_err-from_str.result _ c.from_residual-in_err-from_str.ensures.0

pub returns-in_err-push : goal.returns-in_err-push
returns-in_err-push c = IfOk-from_err c.from_residual-in_err-push.result _ c.from_residual-in_err-push.ensures.0

pub loop-text-preserved : goal.loop-text-preserved
loop-text-preserved c =
    one_more_copy c.args.texts.now c.loop-text.text-index _ c.loop-text.copies.items c.push.new.self.items c.in_ok-from_str.field-0
    c.loop-text-test.true c.in_ok-from_str.ensures.ok c.in_ok-push.ensures.items c.loop-text.invariant

pub returns : goal.returns
returns c = c.loop-text.invariant ∙ ap (map (λ text. text.now)) (take_all c.loop-text.text-index c.args.texts.now c.loop-text-test.false)
