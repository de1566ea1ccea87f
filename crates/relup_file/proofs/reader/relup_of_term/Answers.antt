use Rattle.erl_term.specs.Value.{value_of}
use Rattle.relup_file.proofs.RelupLemmas.{says, only, fault, fits}
use Rattle.relup_file.proofs.reader.relup_of_term.Goals as goal

pub returns-clause-says : goal.returns-clause-says
returns-clause-says c = says (value_of c.args.term.now) c.relup_in.result c.relup_in.ensures

pub returns-clause-only : goal.returns-clause-only
returns-clause-only c = only (value_of c.args.term.now) c.relup_in.result c.relup_in.ensures

pub returns-clause-fault : goal.returns-clause-fault
returns-clause-fault c = fault (value_of c.args.term.now) c.relup_in.result c.relup_in.ensures

pub returns-clause-fits : goal.returns-clause-fits
returns-clause-fits c = fits (value_of c.args.term.now) c.relup_in.result c.relup_in.ensures
