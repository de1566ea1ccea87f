use Rattle.rel_session.proofs.GivenFiles.{given_more}
use Rattle.rel_session.proofs.given_files.GivenFiles.give.Goals as goal

pub returns : goal.returns
returns c = record { given = given_more c.args.self.now.given c.insert.new.self c.args.path c.args.file c.in_ok-insert.ensures.updates }
