use Rattle.script_cases.proofs.ways.go_on.Given as goal

abbrev pub ghost-pass_point : goal.ghost-pass_point
ghost-pass_point g a = g.followed

abbrev pub ghost-change : goal.ghost-change
ghost-change g a = g.followed
