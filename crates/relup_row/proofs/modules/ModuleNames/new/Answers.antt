use Rattle.std.proofs.Common.{◌≡◌, ◌<◌, get_or, length, sym, ap, ◌∙◌, arith}
use Rattle.relup_row.proofs.NameLemmas.{one_more}
use Rattle.relup_row.proofs.modules.ModuleNames.new.Goals as goal

pub loop-name-preserved : goal.loop-name-preserved
loop-name-preserved c =
    let names = c.args.names.items in
    let i = c.loop-name.name-index in
    let name = c.name-item.result in
    let within : i < length names = omega arith in
    let at : get_or names i name ≡ name = ap (λ ns. get_or ns i name) (sym c.deref-name-items.ensures.value) ∙ sym c.name-item.is in
    one_more names i name c.in_ok-clone.field-0 _ _ within at c.in_ok-clone.ensures.cases c.in_ok-insert.ensures.updates c.loop-name.invariant
