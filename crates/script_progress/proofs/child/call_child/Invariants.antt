use Rattle.script_progress.proofs.child.call_child.Given as goal

abbrev pub ghost-terminate_child : goal.ghost-terminate_child
ghost-terminate_child g a = g.past

abbrev pub ghost-delete_child : goal.ghost-delete_child
ghost-delete_child g a = g.past

abbrev pub ghost-restart_child : goal.ghost-restart_child
ghost-restart_child g a = g.past
