use Rattle.node_store.proofs.Commits.{releases_startable}
use Rattle.rel_handler.proofs.handler.Handler.which_releases.Goals as goal

pub returns-else-self-clause-startable : goal.returns-else-self-clause-startable
returns-else-self-clause-startable g c sound = releases_startable c.self.inside.node ((rw (← c.self.view_is) at sound).ready c.if-self.false)
