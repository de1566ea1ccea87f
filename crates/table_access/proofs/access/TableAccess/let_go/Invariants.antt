use Rattle.table_access.proofs.access.TableAccess.let_go.Given as goal

abbrev pub ghost-let_go : goal.ghost-let_go
ghost-let_go g a = g.entries
