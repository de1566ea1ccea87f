use Rattle.std.proofs.Common.{[], ◌∷◌, ◌++◌, List, map, ap, ◌∙◌}
use Rattle.std.proofs.lemmas.List.{append_assoc}
use Rattle.std.proofs.lemmas.Result.{on_ok_weaker}
use Rattle.relup_instruction.specs.declared.instruction.Instr.{Instr}
use Rattle.relup_instruction.specs.Instruction.{Instruction, script_of}
use Rattle.relup_row.specs.Fetches.{mention_of, fetching}
use Rattle.relup_block.specs.Memory.{Appends}
use Rattle.relup_translate.proofs.script.push_script.Goals as goal

all_appended : (old fetched ready pointed changed new : List Instr) (fs gs hs js : List Instruction) (i : Instruction)
    → Appends old fetched fs → Appends fetched ready gs → Appends ready pointed (i ∷ []) → Appends pointed changed hs → Appends changed new js
    → Appends old new (fs ++ (gs ++ (i ∷ (hs ++ js))))
all_appended old fetched ready pointed changed new fs gs hs js i first second third fourth fifth =
    let all_changed = fourth ∙ ap (λ is. is ++ hs) (third ∙ ap (λ is. is ++ (i ∷ [])) (second ∙ ap (λ is. is ++ gs) first)) in
    fifth ∙ (ap (λ is. is ++ js) all_changed ∙ simp append_assoc)

pub returns : goal.returns
returns c =
    let fetched = c.in_ok-push_fetches.ensures ∙ ap (λ ms. script_of c.args.out.now.items ++ fetching ms) (ap (map mention_of) c.deref.ensures.value ∙ c.in_ok-mentions.ensures) in
    on_ok_weaker c.push_restart.result (all_appended _ _ _ _ _ _ _ _ _ _ _ fetched c.in_ok-push_all_fetches.ensures c.in_ok-push_instr.ensures c.in_ok-push_changes.ensures) c.push_restart.ensures
