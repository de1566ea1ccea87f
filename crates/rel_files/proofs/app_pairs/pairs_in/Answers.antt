use Rattle.std.proofs.Common.{Bor, map}
use Rattle.erl_term.specs.declared.term.Term.{Term}
use Rattle.erl_term.specs.Value.{Value, value_of}
use Rattle.rel_files.specs.Parts.{pair_in}
use Rattle.rel_files.proofs.Rows.{row_more, row_none, row_all, viewed}
use Rattle.rel_files.specs.AppParts.{pairs_in}
use Rattle.rel_files.proofs.AppPairLemmas.{reads_pairs}
use Rattle.rel_files.proofs.app_pairs.pairs_in.Goals as goal

abbrev pair_of : Bor Term × Bor Term → Value × Value
pair_of p = (value_of p.0.now, value_of p.1.now)

pub loop-item-preserved : goal.loop-item-preserved
loop-item-preserved c =
    row_more pair_in pairs_in reads_pairs c.args.items.now c.loop-item.item-index c.item-item.result (map pair_of c.loop-item.pairs.items)
    (map pair_of c.push.new.self.items) (pair_of c.in-Some.pair) _ c.loop-item-test.true c.item-item.is (rw c.in-Some.is at c.pair_in.ensures)
    (viewed pair_of _ _ c.in-Some.pair c.in_ok-push.ensures.items) c.loop-item.invariant

pub returns : goal.returns
returns c = row_all pair_in pairs_in reads_pairs c.args.items.now c.loop-item.item-index (map pair_of c.loop-item.pairs.items) c.loop-item-test.false c.loop-item.invariant

pub returns-in_default : goal.returns-in_default
returns-in_default c =
    row_none pair_in pairs_in reads_pairs c.args.items.now c.loop-item.item-index c.item-item.result (map pair_of c.loop-item.pairs.items) _
    c.loop-item-test.true c.item-item.is (rw c.in_default.is at c.pair_in.ensures) c.loop-item.invariant
