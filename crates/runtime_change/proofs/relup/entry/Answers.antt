use Rattle.std.proofs.Common.{◌≡◌, Ok, List, sym, ap, subst, ◌∙◌}
use Rattle.relup_instruction.specs.Instruction.{Instruction}
use Rattle.relup_file.specs.Relup.{EntryForm, entry_of}
use Rattle.relup_row.specs.Release.{RelupReleaseForm, relup_release_of}
use Rattle.runtime_change.specs.Runtime.{renewed}
use Rattle.runtime_change.specs.Relup.{when_ok, way_entry, renewed_entry}
use Rattle.runtime_change.proofs.relup.entry.Goals as goal

pub returns-clause-made : goal.returns-clause-made
returns-clause-made c =
    let e = entry_of c.in_ok-entry.entry in
    let other = relup_release_of c.args.other.now in
    let way = subst (λ (s : RelupReleaseForm). way_entry c.args.direction s other ≡ Ok e) c.in_ok-settled.ensures c.in_ok-entry.ensures.made in
    ap (when_ok (λ (x : EntryForm). Ok (renewed_entry c.args.restart c.args.direction (relup_release_of c.args.new.now) other x))) way
    ∙ ap (λ (is : List Instruction). Ok (record { vsn = e.vsn; descr = e.descr; script = is }))
    (ap (λ b. renewed c.args.restart c.args.direction b e.script) (sym c.changes_runtime-changes.ensures) ∙ sym c.in_ok-renew_script.ensures)
