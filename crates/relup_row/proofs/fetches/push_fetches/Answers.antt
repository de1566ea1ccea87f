use Rattle.std.proofs.Common.{[], ◌∷◌, ◌++◌, map, refl, ap, ◌∙◌}
use Rattle.relup_instruction.specs.Instruction.{instruction_of, script_of}
use Rattle.relup_instruction.specs.Instruction.Instruction.{load_object_code}
use Rattle.relup_row.specs.Release.{relup_app_of}
use Rattle.relup_row.specs.Fetches.{module_of, mention_of, fetch, firsts}
use Rattle.relup_block.proofs.WalkLemmas.{one_further, none_left}
use Rattle.relup_row.proofs.FetchLemmas.{fetches_of}
use Rattle.relup_row.proofs.fetches.push_fetches.Goals as goal

pub loop-mention-preserved : goal.loop-mention-preserved
loop-mention-preserved c =
    let modules = firsts module_of (map mention_of c.args.mentions.now) in
    let app = relup_app_of c.mention-item.result.app.now in
    one_further instruction_of mention_of (fetches_of modules) c.deref-mention-items.result.now c.loop-mention.mention-index c.mention-item.result c.loop-mention.out.items c.push_fetch.new.out.items
    (load_object_code (fetch modules app) ∷ []) _ c.loop-mention-test.true c.mention-item.is refl
    (c.in_ok-push_fetch.ensures ∙ ap (λ ms. script_of c.loop-mention.out.items ++ (load_object_code (fetch ms app) ∷ [])) (ap (map mention_of) c.deref.ensures.value ∙ c.in_ok-modules.ensures))
    c.loop-mention.invariant

pub returns : goal.returns
returns c =
    let modules = firsts module_of (map mention_of c.args.mentions.now) in
    none_left instruction_of mention_of (fetches_of modules) c.deref-mention-items.result.now c.loop-mention.mention-index c.loop-mention.out.items _ refl
    c.loop-mention-test.false c.loop-mention.invariant
    ∙ ap (λ ms. script_of c.args.out.now.items ++ fetches_of modules ms) (ap (map mention_of) c.deref-mention-items.ensures.value ∙ c.in_ok-apps.ensures)
