use Rattle.std.proofs.Common.{◌≡◌, Ok, sym, ap, ◌∙◌, subst, length, map}
use Rattle.library.specs.InMemory.{shared_of}
use Rattle.rel_list.specs.Event.Event.{unpacked}
use Rattle.rel_list.specs.Keyed.{bundle_of}
use Rattle.rel_records.specs.Parts.{files_of}
use Rattle.rel_records.specs.Record.{adds}
use Rattle.rel_records.specs.Reading.{Spells}
use Rattle.rel_records.specs.Writing.{new_libraries, CanBeCarried}
use Rattle.rel_store.specs.State.{records_in}
use Rattle.rel_unpack.specs.Unpacking.{brought_of}
use Rattle.node_store.specs.Commands.{CommitsEvent}
use Rattle.node_store.specs.Commits.{IsRecordFor}
use Rattle.node_command.specs.declared.error.HandlerError.TheVariants.{NoMemory}
use Rattle.node_command.specs.Files.{bundle_brought, unpacked_size}
use Rattle.node_store.specs.State.{list_in}
use Rattle.node_command.specs.Taking.{commanded}
use Rattle.node_store.proofs.CommandAnswers.{refused_at_once}
use Rattle.node_store.proofs.Commits.{all_same, have_libraries, unpacked_reported}
use Rattle.node_command.proofs.ReleaseLemmas.{carried_rel, carried_relup, carried_says, own_libraries, shared_bundle, takes_it, written_size}
use Rattle.rel_handler.proofs.unpacking.take_in.Goals as goal

-- no memory for its libraries, or for its record
pub returns-in_err-libraries : goal.returns-in_err-libraries
returns-in_err-libraries g c =
    let h = c.args.node.now in
    let b = brought_of c.args.brought in
    refused_at_once g.D.Disk h c.requires.sound (g.met.D.Disk.only_now _) (unpacked (bundle_brought b)) (unpacked_size b (list_in h)) c.from_residual.result NoMemory c.from_residual.ensures (c.requires.alive, all_same h)

pub returns-in_err-body : goal.returns-in_err-body
returns-in_err-body g c =
    let h = c.args.node.now in
    let b = brought_of c.args.brought in
    refused_at_once g.D.Disk h c.requires.sound (g.met.D.Disk.only_now _) (unpacked (bundle_brought b)) (unpacked_size b (list_in h)) c.from_residual-in_err-body.result NoMemory c.from_residual-in_err-body.ensures (c.requires.alive, all_same h)

-- a record can carry it
pub unpacked_body-requires-clause-rel : goal.unpacked_body-requires-clause-rel
unpacked_body-requires-clause-rel g c =
    let n = c.new_bundle-rel.result in
    carried_rel n.rel n.relup (brought_of c.args.brought) c.new_bundle-rel.ensures.terms c.requires.terms

pub unpacked_body-requires-clause-relup : goal.unpacked_body-requires-clause-relup
unpacked_body-requires-clause-relup g c =
    let n = c.new_bundle-rel.result in
    carried_relup n.rel n.relup (brought_of c.args.brought) c.new_bundle-rel.ensures.terms c.requires.terms

pub unpacked_body-requires-clause-libraries : goal.unpacked_body-requires-clause-libraries
unpacked_body-requires-clause-libraries g c =
    let h = c.args.node.now in
    let b = brought_of c.args.brought in
    let have = have_libraries h.store.format (records_in h.store) (list_in h) (c.requires.sound.ready c.requires.alive).list in
    let own = own_libraries (list_in h) b (bundle_of c.new_bundle-rel.result.bundle) (map shared_of c.in_ok-libraries.libraries.items) have c.requires.whole.carried c.requires.agree c.new_bundle-rel.ensures.bundle c.in_ok-libraries.ensures in
    subst CanBeCarried (sym (ap (map shared_of) c.as_slice.ensures.value ∙ own)) c.requires.whole.carried

-- the list allows it
pub commit-requires-clause-allowed : goal.commit-requires-clause-allowed
commit-requires-clause-allowed g c =
    let h = c.args.node.now in
    let b = brought_of c.args.brought in
    let have = have_libraries h.store.format (records_in h.store) (list_in h) (c.requires.sound.ready c.requires.alive).list in
    let own = own_libraries (list_in h) b (bundle_of c.new_bundle-rel.result.bundle) (map shared_of c.in_ok-libraries.libraries.items) have c.requires.whole.carried c.requires.agree c.new_bundle-rel.ensures.bundle c.in_ok-libraries.ensures in
    let same = shared_bundle b (bundle_of c.new_bundle-rel.result.bundle) (map shared_of c.in_ok-libraries.libraries.items) c.new_bundle-rel.ensures.bundle own in
    let takes = takes_it b (list_in h) (c.requires.sound.free c.requires.alive) c.requires.small c.requires.fresh c.requires.agree c.requires.room in
    (c.requires.alive, (takes.0, subst (λ p. commanded (unpacked p) (list_in h) ≡ Ok takes.0) (sym same) takes.1))

-- the record reports the event
pub commit-requires-clause-reported : goal.commit-requires-clause-reported
commit-requires-clause-reported g c =
    let h = c.args.node.now in
    let b = brought_of c.args.brought in
    let p = bundle_brought b in
    let n = c.new_bundle-rel.result in
    let have = have_libraries h.store.format (records_in h.store) (list_in h) (c.requires.sound.ready c.requires.alive).list in
    let own = own_libraries (list_in h) b (bundle_of n.bundle) (map shared_of c.in_ok-libraries.libraries.items) have c.requires.whole.carried c.requires.agree c.new_bundle-rel.ensures.bundle c.in_ok-libraries.ensures in
    let same = shared_bundle b (bundle_of n.bundle) (map shared_of c.in_ok-libraries.libraries.items) c.new_bundle-rel.ensures.bundle own in
    let takes = takes_it b (list_in h) (c.requires.sound.free c.requires.alive) c.requires.small c.requires.fresh c.requires.agree c.requires.room in
    let spelled = rw (sym c.as_str.ensures.value) at c.in_ok-body.ensures.spells p.release p.relup (carried_says n.rel n.relup b c.new_bundle-rel.ensures.terms c.requires.terms) in
    subst (λ q. IsRecordFor c.as_str.result.now (unpacked q) (list_in h)) (sym same)
    (unpacked_reported p (list_in h) takes.0 c.as_str.result.now
    (subst (λ ls. Spells c.as_str.result.now (adds p.release (new_libraries (list_in h) ls) p.relup)) (ap (map shared_of) c.as_slice.ensures.value ∙ own) spelled)
    have c.requires.whole.complete takes.1)

-- the event was committed, or that was refused
pub returns : goal.returns
returns g c =
    let h = c.args.node.now in
    let b = brought_of c.args.brought in
    let n = c.new_bundle-rel.result in
    let have = have_libraries h.store.format (records_in h.store) (list_in h) (c.requires.sound.ready c.requires.alive).list in
    let own = own_libraries (list_in h) b (bundle_of n.bundle) (map shared_of c.in_ok-libraries.libraries.items) have c.requires.whole.carried c.requires.agree c.new_bundle-rel.ensures.bundle c.in_ok-libraries.ensures in
    let same = shared_bundle b (bundle_of n.bundle) (map shared_of c.in_ok-libraries.libraries.items) c.new_bundle-rel.ensures.bundle own in
    let long = written_size b (list_in h) (files_of n.rel n.relup) (map shared_of c.as_slice.result.now) c.as_str.result.now c.new_bundle-rel.ensures.terms (ap (map shared_of) c.as_slice.ensures.value ∙ own) (λ r o. c.as_str.ensures.value ∙ c.in_ok-body.ensures.body r o) in
    subst (λ m. CommitsEvent g.D.Disk (unpacked (bundle_brought b)) m c.commit.result h c.commit.new.self) long
    (subst (λ q. CommitsEvent g.D.Disk (unpacked q) (length c.as_str.result.now) c.commit.result h c.commit.new.self) same c.commit.ensures)
