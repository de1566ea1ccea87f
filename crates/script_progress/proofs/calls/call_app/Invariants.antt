use Rattle.script_progress.proofs.calls.call_app.Given as goal

abbrev pub ghost-start_from : goal.ghost-start_from
ghost-start_from g a = g.past

abbrev pub ghost-stop_app : goal.ghost-stop_app
ghost-stop_app g a = g.past
