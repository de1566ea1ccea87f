use Rattle.std.proofs.Common.{◌≡◌, ◌<◌, refl, length, None, Some, rules}
use Rattle.relup_block.specs.Order.{block_item_of}
use Rattle.relup_block.specs.Counts.{all_waiting, first_idle_behind, step_of, remaining, IsCounted, Steps}
use Rattle.relup_block.proofs.CountLemmas.{takes}
use Rattle.relup_block.proofs.StepLemmas.{idle_step, first_step, meet_step, where_ok}
use Rattle.relup_block.proofs.order.Left.step.Goals as goal

pub returns-in-Some-clause-steps : goal.returns-in-Some-clause-steps
returns-in-Some-clause-steps c is =
    let first : first_idle_behind 0 (all_waiting c.args.self.now.passed.items) ≡ Some c.in-Some.place = (search rules) in
    (idle_step c.args.rule c.args.self.now (record c.args.self.now { passed = c.take_out.new.passed }) c.in-Some.place (block_item_of c.take_out.result) first
    (takes c.args.rule c.args.self.now.passed.items c.take_out.new.passed.items c.in-Some.place c.take_out.result c.take_out.ensures.taken c.take_out.ensures.left) refl is).0

pub returns-in-Some-clause-counted : goal.returns-in-Some-clause-counted
returns-in-Some-clause-counted c is =
    let first : first_idle_behind 0 (all_waiting c.args.self.now.passed.items) ≡ Some c.in-Some.place = (search rules) in
    (idle_step c.args.rule c.args.self.now (record c.args.self.now { passed = c.take_out.new.passed }) c.in-Some.place (block_item_of c.take_out.result) first
    (takes c.args.rule c.args.self.now.passed.items c.take_out.new.passed.items c.in-Some.place c.take_out.result c.take_out.ensures.taken c.take_out.ensures.left) refl is).1

pub returns-in-Some-next-clause-steps : goal.returns-in-Some-next-clause-steps
returns-in-Some-next-clause-steps c =
    let none : first_idle_behind 0 (all_waiting c.args.self.now.passed.items) ≡ None = (search rules) in
    where_ok c.meet.result _ _ (λ s. IsCounted c.args.rule c.args.self.now → Steps c.args.rule (remaining c.args.self.now) (step_of s) (remaining c.meet.new.self)) c.meet.ensures.met c.meet.ensures.ahead
    (λ s met same is. (meet_step c.args.rule c.args.self.now c.meet.new.self (block_item_of c.in-Some-next.item) c.in-Some-next.behind (step_of s) none c.in-Some-next.ensures.0 met same is).0)

pub returns-in-Some-next-clause-counted : goal.returns-in-Some-next-clause-counted
returns-in-Some-next-clause-counted c =
    let none : first_idle_behind 0 (all_waiting c.args.self.now.passed.items) ≡ None = (search rules) in
    where_ok c.meet.result _ _ (λ s. IsCounted c.args.rule c.args.self.now → IsCounted c.args.rule c.meet.new.self) c.meet.ensures.met c.meet.ensures.ahead
    (λ s met same is. (meet_step c.args.rule c.args.self.now c.meet.new.self (block_item_of c.in-Some-next.item) c.in-Some-next.behind (step_of s) none c.in-Some-next.ensures.0 met same is).1)

pub returns-in-None-2-clause-steps : goal.returns-in-None-2-clause-steps
returns-in-None-2-clause-steps c is =
    let none : first_idle_behind 0 (all_waiting c.args.self.now.passed.items) ≡ None = (search rules) in
    let some : 0 < length c.args.self.now.passed.items = (search rules) in
    (first_step c.args.rule c.args.self.now (record c.args.self.now { passed = c.take_out-in-None-2.new.passed }) (block_item_of c.take_out-in-None-2.result) none
    (takes c.args.rule c.args.self.now.passed.items c.take_out-in-None-2.new.passed.items 0 c.take_out-in-None-2.result c.take_out-in-None-2.ensures.taken c.take_out-in-None-2.ensures.left)
    refl c.in-None-2.ensures some is).0

pub returns-in-None-2-clause-counted : goal.returns-in-None-2-clause-counted
returns-in-None-2-clause-counted c is =
    let none : first_idle_behind 0 (all_waiting c.args.self.now.passed.items) ≡ None = (search rules) in
    let some : 0 < length c.args.self.now.passed.items = (search rules) in
    (first_step c.args.rule c.args.self.now (record c.args.self.now { passed = c.take_out-in-None-2.new.passed }) (block_item_of c.take_out-in-None-2.result) none
    (takes c.args.rule c.args.self.now.passed.items c.take_out-in-None-2.new.passed.items 0 c.take_out-in-None-2.result c.take_out-in-None-2.ensures.taken c.take_out-in-None-2.ensures.left)
    refl c.in-None-2.ensures some is).1
