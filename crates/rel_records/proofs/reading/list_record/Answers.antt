use Rattle.erl_term.specs.Value.{members_of, value_of}
use Rattle.rel_records.proofs.ReadingLemmas.{no_lists_say, says_change, says_lists, says_none}
use Rattle.rel_records.proofs.reading.list_record.Goals as goal

pub returns-in-Some-clause-says : goal.returns-in-Some-clause-says
returns-in-Some-clause-says c = says_lists (value_of c.args.term.now) (members_of c.in-Some.rows.now, members_of c.in-Some.libs.now) c.in-Some.ensures c.image_record.result c.image_record.ensures.says

pub returns-in-Some-clause-bad : goal.returns-in-Some-clause-bad
returns-in-Some-clause-bad c = λ bad none. no_lists_say (value_of c.args.term.now) (members_of c.in-Some.rows.now, members_of c.in-Some.libs.now) c.in-Some.ensures (c.image_record.ensures.bad bad)

pub returns-in-None-clause-says : goal.returns-in-None-clause-says
returns-in-None-clause-says c = says_change (value_of c.args.term.now) c.change_record.result c.change_record.ensures.says

pub returns-in-None-clause-bad : goal.returns-in-None-clause-bad
returns-in-None-clause-bad c = λ bad none. says_none (value_of c.args.term.now) none c.in-None.ensures (c.change_record.ensures.bad bad)
