use Rattle.std.proofs.Common.{◌≡◌, ◌<◌, ◌+◌, ◌∙◌, List, map, take, drop, length, get_or, subst, ap, arith}
use Rattle.std.proofs.lemmas.List.{length-map, length-take-le, take_all}
use Rattle.relup_instruction.specs.declared.instruction.Change.{Change}
use Rattle.relup_instruction.specs.Instruction.{change_of, conversion_of}
use Rattle.script_progress.specs.InMemory.{site_of}
use Rattle.script_progress.specs.Steps.{progress_of}
use Rattle.relup_exec.proofs.RowLemmas.{more, parted}
use Rattle.relup_exec.proofs.StepLemmas.{all_changed, change_passes, changed_more, mode_is, past_changes}
use Rattle.relup_exec.proofs.change.change_code.Goals as goal

pub returns-in_err-change_once : goal.returns-in_err-change_once
returns-in_err-change_once c = λ past v early done.
    let s = site_of c.args.sources.now in
    let mode = c.unwrap_or-mode.result in
    let all = c.args.conversion.now.changes.items in
    let front = map change_of (take c.loop-i.i all) in
    let so_far = c.loop-i.invariant past v done in
    let within : c.loop-i.i < length all = omega (arith, c.loop-i-test.true, c.deref-change-items.ensures.len) in
    change_passes s past early (conversion_of c.args.conversion.now) mode c.loop-i.i front (change_of c.change-item.result) (map change_of (drop (c.loop-i.i + 1) all)) c.in_err-change_once.field-0.0 c.from_residual.result (progress_of c.change_once.new.progress) c.change_once.new.progress.tree v
    (c.unwrap_or-mode.ensures ∙ mode_is c.args.conversion.now.mode)
    (parted change_of all c.loop-i.i c.change-item.result within (subst (λ (ys : List Change). c.change-item.result ≡ get_or ys c.loop-i.i c.change-item.result) c.deref-change-items.ensures.value c.change-item.is))
    (length-map (take c.loop-i.i all) change_of ∙ length-take-le c.loop-i.i all (omega (arith, within)))
    so_far.0 (c.in_err-change_once.ensures (past_changes s mode front past) v so_far.1) c.from_residual.ensures.1

pub loop-i-preserved : goal.loop-i-preserved
loop-i-preserved c = λ past v done.
    let s = site_of c.args.sources.now in
    let mode = c.unwrap_or-mode.result in
    let all = c.args.conversion.now.changes.items in
    let front = map change_of (take c.loop-i.i all) in
    let so_far = c.loop-i.invariant past v done in
    let within : c.loop-i.i < length all = omega (arith, c.loop-i-test.true, c.deref-change-items.ensures.len) in
    changed_more s past mode c.loop-i.i front (change_of c.change-item.result) (map change_of (take (c.loop-i.i + 1) all)) (progress_of c.change_once.new.progress) c.change_once.new.progress.tree v
    (more change_of all c.loop-i.i c.change-item.result within (subst (λ (ys : List Change). c.change-item.result ≡ get_or ys c.loop-i.i c.change-item.result) c.deref-change-items.ensures.value c.change-item.is))
    so_far.0 (c.in_ok-change_once.ensures (past_changes s mode front past) v so_far.1)

pub returns : goal.returns
returns c = λ past v early done.
    let s = site_of c.args.sources.now in
    let mode = c.unwrap_or-mode.result in
    let all = c.args.conversion.now.changes.items in
    let so_far = c.loop-i.invariant past v done in
    let whole : map change_of (take c.loop-i.i all) ≡ map change_of all = ap (map change_of) (take_all c.loop-i.i all (omega (arith, c.loop-i-test.false, c.deref-change-items.ensures.len))) in
    all_changed s past early (conversion_of c.args.conversion.now) mode (map change_of (take c.loop-i.i all)) (progress_of c.args.progress.now) (progress_of c.loop-i.progress) c.args.progress.now.tree c.loop-i.progress.tree v
    (c.unwrap_or-mode.ensures ∙ mode_is c.args.conversion.now.mode) whole done so_far
