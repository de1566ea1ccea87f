-- Findings, and what a script mentions, without where they lie in memory.
use Rattle.std.specs.Prelude.{List, map}
use Rattle.relup_lint.specs.declared.index.ScriptIndex.{ScriptIndex}
use Rattle.relup_lint.specs.declared.refusal.Refusal.{Refusal}
use Rattle.relup_lint.specs.declared.refusal.Refusal.TheVariants.{NoTime, NotFetched, NotResumed, NotSuspended, NotStopped, NotStarted, NotRemoved, NotAlone, NotChanged, NotOneVersion, NotOfTarget}
use Rattle.relup_lint.specs.declared.refusal.Finding.{Finding}
use Rattle.relup_lint.specs.Findings.{RefusalForm, FindingForm, MentionsForm}
use Rattle.relup_lint.specs.Findings.RefusalForm.{no_time, not_fetched, not_resumed, not_suspended, not_stopped, not_started, not_removed, not_alone, not_changed, not_one_version, not_of_target}

abbrev pub refusal_of : Refusal → RefusalForm
refusal_of (NoTime name) = no_time name.now
refusal_of (NotFetched name) = not_fetched name.now
refusal_of (NotResumed name) = not_resumed name.now
refusal_of (NotSuspended name) = not_suspended name.now
refusal_of (NotStopped name) = not_stopped name.now
refusal_of (NotStarted name) = not_started name.now
refusal_of (NotRemoved name) = not_removed name.now
refusal_of (NotAlone name) = not_alone name.now
refusal_of (NotChanged name) = not_changed name.now
refusal_of (NotOneVersion name) = not_one_version name.now
refusal_of (NotOfTarget name) = not_of_target name.now

abbrev pub finding_of : Finding → FindingForm
finding_of f = record { app = f.app.now; number = f.number; refusal = refusal_of f.refusal }

abbrev pub all_findings : List Finding → List FindingForm
all_findings = map finding_of

abbrev pub mentions_of : ScriptIndex → MentionsForm
mentions_of i = record {
  target = i.modules;
  changed = i.changed;
  fetched = i.fetched;
  suspended = i.suspended;
  resumed = i.resumed;
  stopped = i.stopped;
  started = i.started;
  versions = i.versions;
  target_versions = i.target_versions;
}
