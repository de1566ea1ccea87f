use Rattle.relup_block.proofs.order.must_wait_for.Goals as goal

pub returns-in-DependentsFirst : goal.returns-in-DependentsFirst
returns-in-DependentsFirst c = rw c.in-DependentsFirst.is c.depends_on.ensures

pub returns-in-DependenciesFirst : goal.returns-in-DependenciesFirst
returns-in-DependenciesFirst c = rw c.in-DependenciesFirst.is c.depends_on-in-DependenciesFirst.ensures
