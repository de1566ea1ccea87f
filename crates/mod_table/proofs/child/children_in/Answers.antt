use Rattle.std.proofs.Common.{map, refl}
use Rattle.mod_table.specs.InMemory.{child_of}
use Rattle.mod_table.specs.Children.{child_in, children_in}
use Rattle.rel_files.proofs.Rows.{ReadsEach, row_more, row_none, row_all, viewed}
use Rattle.mod_table.proofs.child.children_in.Goals as goal

each : ReadsEach child_in children_in
each = record { none = refl; more = λ v vs. refl }

pub loop-term-preserved : goal.loop-term-preserved
loop-term-preserved c =
    row_more child_in children_in each c.args.terms.now c.loop-term.term-index c.term-item.result (map child_of c.loop-term.children.items) (map child_of c.push.new.self.items) (child_of c.in-Some.child) _
    c.loop-term-test.true c.term-item.is (rw c.in-Some.is at c.in_ok-child.ensures) (viewed child_of _ _ c.in-Some.child c.in_ok-push.ensures.items) c.loop-term.invariant

pub returns : goal.returns
returns c = row_all child_in children_in each c.args.terms.now c.loop-term.term-index (map child_of c.loop-term.children.items) c.loop-term-test.false c.loop-term.invariant

pub returns-in_default : goal.returns-in_default
returns-in_default c =
    row_none child_in children_in each c.args.terms.now c.loop-term.term-index c.term-item.result (map child_of c.loop-term.children.items) _
    c.loop-term-test.true c.term-item.is (rw c.in_default.is at c.in_ok-child.ensures) c.loop-term.invariant
