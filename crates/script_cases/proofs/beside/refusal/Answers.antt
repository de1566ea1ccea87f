use Rattle.std.proofs.Common.{[]}
use Rattle.relup_exec.specs.Outcome.{run_behind}
use Rattle.relup_exec.specs.Sites.{site_in, start_in, view_in}
use Rattle.script_cases.proofs.NothingHeldLemmas.{untouched_nothing}
use Rattle.script_cases.proofs.beside.refusal.Goals as goal

pub returns-in-Ok-clause-nothing : goal.returns-in-Ok-clause-nothing
returns-in-Ok-clause-nothing g c =
    let armed = c.in-Ok.ensures.armed in
    let courses = (run_behind (site_in c.args.site.now) (start_in c.args.site.now) [] armed.point.front).courses in
    untouched_nothing (view_in c.args.site.now) (view_in c.roll_back.new.site) (c.roll_back.ensures.untouched (view_in c.args.site.now) (courses, armed.follow, armed.quiet))

pub returns-in-Err-clause-nothing : goal.returns-in-Err-clause-nothing
returns-in-Err-clause-nothing g c = untouched_nothing (view_in c.args.site.now) (view_in c.run_before.new.site) c.in-Err.ensures.refused.untouched
