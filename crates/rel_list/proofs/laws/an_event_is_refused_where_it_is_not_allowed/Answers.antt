use Rattle.rel_list.proofs.RefusalLaws.{refused_where_not_allowed}
use Rattle.rel_list.proofs.laws.an_event_is_refused_where_it_is_not_allowed.Goals as goal

pub returns : goal.returns
returns c = refused_where_not_allowed
