use Rattle.script_progress.proofs.calls.apply.Given as goal

abbrev pub ghost-call_app : goal.ghost-call_app
ghost-call_app g a = g.past

abbrev pub ghost-call_child : goal.ghost-call_child
ghost-call_child g a = g.past
