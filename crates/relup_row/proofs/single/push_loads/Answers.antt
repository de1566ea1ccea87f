use Rattle.std.proofs.Common.{[], ◌∷◌, ◌++◌, map, string_bytes, refl, ap, ◌∙◌}
use Rattle.relup_instruction.specs.Instruction.{instruction_of, script_of}
use Rattle.relup_row.specs.Script.{load_plainly}
use Rattle.relup_block.proofs.WalkLemmas.{one_further, none_left}
use Rattle.relup_row.proofs.single.push_loads.Goals as goal

pub loop-name-preserved : goal.loop-name-preserved
loop-name-preserved c =
    one_further instruction_of string_bytes (map load_plainly) c.args.names.now c.loop-name.name-index c.name-item.result c.loop-name.out.items c.push_load.new.out.items (load_plainly (string_bytes c.name-item.result) ∷ []) _
    c.loop-name-test.true c.name-item.is refl
    (c.in_ok-push_load.ensures ∙ ap (λ n. script_of c.loop-name.out.items ++ (load_plainly n ∷ [])) c.as_str.ensures.value) c.loop-name.invariant

pub returns : goal.returns
returns c =
    none_left instruction_of string_bytes (map load_plainly) c.args.names.now c.loop-name.name-index c.loop-name.out.items _ refl c.loop-name-test.false c.loop-name.invariant
