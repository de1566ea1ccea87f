use Rattle.std.proofs.Common.{◌≡◌, List, Some, None, ap, sym, subst, ◌∙◌}
use Rattle.std.specs.Option.{option_copied}
use Rattle.std.specs.Result.{IfOk, OnOk}
use Rattle.proc_history.specs.declared.beginning.Beginning.{Beginning}
use Rattle.node_start.specs.Begun.{HaveJustBegun, entry_beginnings, fresh_beginnings}
use Rattle.rel_list.specs.Keyed.{entry_of}
use Rattle.node_processes.specs.Fresh.{fresh_processes, fresh_entry, running_entry}
use Rattle.node_start.specs.Running.{started_in}
use Rattle.node_processes.specs.Processes.{Processes}
use Rattle.node_start.proofs.RunningLemmas.{running_is, startable_so, begins_behind, fresh_behind}
use Rattle.node_start.proofs.start.start_running.Goals as goal

pub start_release-requires-clause-libraries : goal.start_release-requires-clause-libraries
start_release-requires-clause-libraries g c =
    let found : running_entry c.in-Ok.list.now ≡ Some (entry_of c.in-Some.listed.now) =
    running_is c.releases.result.now c.in-Ok.list.now (Some c.in-Some.listed.now) c.releases.ensures.entries (sym (ap option_copied c.in-Some.is) ∙ c.running_of.ensures) in
    (startable_so c.as_slice.result.now c.as_slice-in-Some.result.now c.in-Some.listed.now c.in-Ok.list.now c.as_slice.ensures.value c.as_slice-in-Some.ensures.value (c.in-Ok.ensures.startable c.requires.sound) found).0

pub start_release-requires-clause-tested : goal.start_release-requires-clause-tested
start_release-requires-clause-tested g c =
    let found : running_entry c.in-Ok.list.now ≡ Some (entry_of c.in-Some.listed.now) =
    running_is c.releases.result.now c.in-Ok.list.now (Some c.in-Some.listed.now) c.releases.ensures.entries (sym (ap option_copied c.in-Some.is) ∙ c.running_of.ensures) in
    (startable_so c.as_slice.result.now c.as_slice-in-Some.result.now c.in-Some.listed.now c.in-Ok.list.now c.as_slice.ensures.value c.as_slice-in-Some.ensures.value (c.in-Ok.ensures.startable c.requires.sound) found).1

pub start_release-requires-clause-distinct : goal.start_release-requires-clause-distinct
start_release-requires-clause-distinct g c =
    let found : running_entry c.in-Ok.list.now ≡ Some (entry_of c.in-Some.listed.now) =
    running_is c.releases.result.now c.in-Ok.list.now (Some c.in-Some.listed.now) c.releases.ensures.entries (sym (ap option_copied c.in-Some.is) ∙ c.running_of.ensures) in
    (startable_so c.as_slice.result.now c.as_slice-in-Some.result.now c.in-Some.listed.now c.in-Ok.list.now c.as_slice.ensures.value c.as_slice-in-Some.ensures.value (c.in-Ok.ensures.startable c.requires.sound) found).2

pub returns-in-Some-clause-fresh : goal.returns-in-Some-clause-fresh
returns-in-Some-clause-fresh g c =
    let found : running_entry c.in-Ok.list.now ≡ Some (entry_of c.in-Some.listed.now) =
    running_is c.releases.result.now c.in-Ok.list.now (Some c.in-Some.listed.now) c.releases.ensures.entries (sym (ap option_copied c.in-Some.is) ∙ c.running_of.ensures) in
    let behind = fresh_behind c.as_slice.result.now c.as_slice-in-Some.result.now c.in-Some.listed.now c.in-Ok.list.now c.as_slice.ensures.value c.as_slice-in-Some.ensures.value found in
    subst (λ (f : Processes). IfOk c.start_release.result (λ s. started_in s c.start_release.new.seat.view ≡ f)) (behind ∙ ap fresh_processes c.in-Ok.ensures.releases.1) c.start_release.ensures.fresh

pub returns-in-Some-clause-begun : goal.returns-in-Some-clause-begun
returns-in-Some-clause-begun g c =
    let found : running_entry c.in-Ok.list.now ≡ Some (entry_of c.in-Some.listed.now) =
    running_is c.releases.result.now c.in-Ok.list.now (Some c.in-Some.listed.now) c.releases.ensures.entries (sym (ap option_copied c.in-Some.is) ∙ c.running_of.ensures) in
    let behind = begins_behind c.as_slice.result.now c.as_slice-in-Some.result.now c.in-Some.listed.now c.in-Ok.list.now c.as_slice.ensures.value c.as_slice-in-Some.ensures.value found in
    subst (λ (bs : List Beginning). OnOk c.start_release.result (HaveJustBegun bs c.start_release.new.seat.view)) (behind ∙ ap fresh_beginnings c.in-Ok.ensures.releases.1) c.start_release.ensures.begun

pub returns-in-None-clause-begun : goal.returns-in-None-clause-begun
returns-in-None-clause-begun g c =
    let found : running_entry c.in-Ok.list.now ≡ None =
    running_is c.releases.result.now c.in-Ok.list.now None c.releases.ensures.entries (sym (ap option_copied c.in-None.is) ∙ c.running_of.ensures) in
    subst (λ (bs : List Beginning). OnOk c.start_release-in-None.result (HaveJustBegun bs c.start_release-in-None.new.seat.view)) (sym (ap entry_beginnings found) ∙ ap fresh_beginnings c.in-Ok.ensures.releases.1) c.start_release-in-None.ensures.begun

pub returns-in-None-clause-fresh : goal.returns-in-None-clause-fresh
returns-in-None-clause-fresh g c =
    let found : running_entry c.in-Ok.list.now ≡ None =
    running_is c.releases.result.now c.in-Ok.list.now None c.releases.ensures.entries (sym (ap option_copied c.in-None.is) ∙ c.running_of.ensures) in
    subst (λ (f : Processes). IfOk c.start_release-in-None.result (λ s. started_in s c.start_release-in-None.new.seat.view ≡ f)) (sym (ap fresh_entry found) ∙ ap fresh_processes c.in-Ok.ensures.releases.1) c.start_release-in-None.ensures.fresh
