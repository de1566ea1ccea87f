use Rattle.std.proofs.Common.{map, string_bytes}
use Rattle.script_progress.specs.Steps.{progress_of}
use Rattle.relup_exec.proofs.PlainLemmas.{plain_carried}
use Rattle.relup_exec.proofs.release.do_plain.Goals as goal

pub returns-clause-carried : goal.returns-clause-carried
returns-clause-carried g c = λ s.
    plain_carried s g.past c.args.plain (map string_bytes c.args.names.now) (progress_of c.args.progress.now) c.do_all.new.held c.args.progress.now.tree c.args.access.now c.do_all.new.access
    c.requires.1.1 c.do_all.ensures.longer c.do_all.ensures.done
