use Rattle.std.proofs.Common.{◌≡◌, length, ap, refl, sym, ◌∙◌, subst}
use Rattle.rel_list.specs.Event.{event_of}
use Rattle.rel_records.specs.Reading.{Spells}
use Rattle.rel_records.specs.Writing.{record_of}
use Rattle.rel_store.specs.State.{records_in}
use Rattle.node_store.specs.Commands.{AppendsEvent}
use Rattle.node_store.specs.Refusals.{CommandRefused}
use Rattle.node_store.specs.State.{list_in}
use Rattle.node_command.specs.Taking.{change_size, no_terms}
use Rattle.node_command.specs.declared.error.HandlerError.TheVariants.{NoMemory}
use Rattle.node_store.proofs.Commits.{all_same, unchanged, have_versions}
use Rattle.node_command.proofs.CommandLemmas.{list_allows, list_refuses}
use Rattle.node_store.proofs.CommandAnswers.{refused_append}
use Rattle.node_store.proofs.CommandLemmas.{refused_by_list}
use Rattle.node_store.proofs.node_store.NodeStore.append_change.Goals as goal

pub change_body-requires-clause-versions : goal.change_body-requires-clause-versions
change_body-requires-clause-versions g c =
    have_versions c.args.self.now.store.format (records_in c.args.self.now.store) (list_in c.args.self.now) (c.requires.sound.ready c.requires.works).list

-- the list doesn't allow it
pub returns-in-Some-clause-appends : goal.returns-in-Some-clause-appends
returns-in-Some-clause-appends g c =
    let e = event_of c.args.event in
    let h = c.args.self.now in
    let size = change_size e (list_in h) in
    record {
      commits = unchanged g.D.Disk h c.requires.sound (g.met.D.Disk.only_now _) e size;
      appended = tt;
      ready = tt;
      dead = tt;
      format = refl;
      refused = subst (CommandRefused g.D.Disk.failures e size h h) (sym c.from.ensures)
          (refused_by_list g.D.Disk.failures h e size _ c.requires.works (list_refuses e (list_in h) c.in-Some.why c.requires.listed (sym c.in-Some.ensures)));
    }

-- nothing was written yet
pub returns-in_err-body-clause-appends : goal.returns-in_err-body-clause-appends
returns-in_err-body-clause-appends g c =
    let e = event_of c.args.event in
    let h = c.args.self.now in
    let size = change_size e (list_in h) in
    refused_append g.D.Disk e size h h (unchanged g.D.Disk h c.requires.sound (g.met.D.Disk.only_now _) e size) refl c.from_residual.result NoMemory c.from_residual.ensures (c.requires.works, all_same h)

pub append-requires-clause-allowed : goal.append-requires-clause-allowed
append-requires-clause-allowed g c =
    (c.requires.works, list_allows (event_of c.args.event) (list_in c.args.self.now) c.requires.listed (sym c.in_default.ensures))

pub append-requires-clause-reported : goal.append-requires-clause-reported
append-requires-clause-reported g c =
    record {
      spells = subst (λ bytes. Spells bytes (record_of (event_of c.args.event) (list_in c.args.self.now))) (sym c.as_str.ensures.value) c.in_ok-body.ensures.spells;
      reports = c.in_ok-body.ensures.reports;
    }

pub returns-clause-appends : goal.returns-clause-appends
unfolding change_size
returns-clause-appends g c =
    let e = event_of c.args.event in
    let h = c.args.self.now in
    let long : length c.as_str.result.now ≡ change_size e (list_in h) = ap length (c.as_str.ensures.value ∙ c.in_ok-body.ensures.body no_terms) in
    subst (λ n. AppendsEvent g.D.Disk e n c.append.result h c.append.new.self) long c.append.ensures.appends
