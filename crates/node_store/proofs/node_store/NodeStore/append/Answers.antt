use Rattle.std.proofs.Common.{◌≡◌, ◌+◌, length, sym, ◌∙◌, subst, arith, true≢false}
use Rattle.rel_list.specs.Event.{event_of}
use Rattle.rel_records.proofs.FormatLemmas.{only_restarts_write_them}
use Rattle.node_store.specs.Refusals.{HasNoRoom}
use Rattle.node_store.specs.State.{extent_in, list_in, store_extent}
use Rattle.node_store.specs.declared.node_store.NodeStore.{NodeStore}
use Rattle.node_store.proofs.CommandAnswers.{appends_after, refused_append}
use Rattle.node_store.proofs.Commits.{rested, same_with, no_room}
use Rattle.node_store.proofs.Images.{leaves_boot_space}
use Rattle.node_store.proofs.node_store.NodeStore.append.Goals as goal

pub make_room-requires-clause-works : goal.make_room-requires-clause-works
make_room-requires-clause-works g c = (c.requires.sound.ready c.requires.allowed.0).store.works

pub write-requires-clause-behind : goal.write-requires-clause-behind
write-requires-clause-behind g c =
    leaves_boot_space (event_of c.args.event) c.requires.other (length c.args.body.now) (store_extent c.make_room.new.store) (list_in c.args.self.now)

-- its record writes no one-shot
pub write-requires-clause-format : goal.write-requires-clause-format
write-requires-clause-format g c = λ writes. absurd (true≢false (sym writes ∙ only_restarts_write_them (event_of c.args.event) (list_in c.args.self.now) c.requires.other))

-- there is no room
pub returns-in_err-make_room-clause-appends : goal.returns-in_err-make_room-clause-appends
returns-in_err-make_room-clause-appends g c =
    let h = c.args.self.now in
    let e = event_of c.args.event in
    let size = length c.args.body.now in
    let why = c.in_err-make_room.field-0.0 in
    let mid : NodeStore _ = record { store = c.make_room.new.store; list = h.list; dead = h.dead } in
    let still : size + 0 ≡ size = omega arith in
    refused_append g.D.Disk e size h mid (rested g.D.Disk h c.requires.sound (g.met.D.Disk.only_now _) e size c.make_room.new.store c.make_room.ensures.sound c.make_room.ensures.kept) c.make_room.ensures.kept.format c.from_residual.result why c.from_residual.ensures
    (no_room g.D.Disk.failures e size h mid why c.requires.allowed (same_with h c.make_room.new.store c.make_room.ensures.kept)
    (subst (λ n. HasNoRoom (extent_in h) n why) still c.in_err-make_room.ensures.refused))

pub returns-clause-appends : goal.returns-clause-appends
returns-clause-appends g c =
    let h = c.args.self.now in
    let mid : NodeStore _ = record { store = c.make_room.new.store; list = h.list; dead = h.dead } in
    appends_after g.D.Disk (event_of c.args.event) (length c.args.body.now) h mid c.write.new.self (same_with h c.make_room.new.store c.make_room.ensures.kept) c.make_room.ensures.kept.format c.write.result c.write.ensures.appends
