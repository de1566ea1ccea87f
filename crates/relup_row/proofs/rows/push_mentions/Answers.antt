use Rattle.std.proofs.Common.{refl}
use Rattle.appup_file.specs.Instruction.{appup_instruction_of}
use Rattle.relup_row.specs.Release.{way_of}
use Rattle.relup_row.specs.Fetches.{mention_of}
use Rattle.relup_row.specs.Script.{mentions, mentions_by}
use Rattle.relup_block.proofs.WalkLemmas.{one_further, none_left}
use Rattle.relup_row.proofs.rows.push_mentions.Goals as goal

pub loop-instr-preserved : goal.loop-instr-preserved
loop-instr-preserved c =
    one_further mention_of appup_instruction_of (mentions (way_of c.args.way)) c.args.row.now c.loop-instr.instr-index c.instr-item.result c.loop-instr.out.items
    c.push_mentions_by.new.out.items (mentions_by (way_of c.args.way) (appup_instruction_of c.instr-item.result)) _ c.loop-instr-test.true c.instr-item.is refl c.in_ok-push_mentions_by.ensures c.loop-instr.invariant

pub returns : goal.returns
returns c =
    none_left mention_of appup_instruction_of (mentions (way_of c.args.way)) c.args.row.now c.loop-instr.instr-index c.loop-instr.out.items _ refl
    c.loop-instr-test.false c.loop-instr.invariant
