use Rattle.std.proofs.Common.{◌≡◌, inl, inr, true, None, refl, sym, ◌∙◌, subst, rules}
use Rattle.rel_list.specs.Event.Event.{unpacked}
use Rattle.node_command.specs.Files.{bundle_brought, unpacked_size, IsReportedAs}
use Rattle.node_command.specs.Place.{has_room, refusal_with}
use Rattle.rel_handler.specs.Unpacking.{UnpackingRefused}
use Rattle.rel_unpack.specs.Unpacking.{brought_of}
use Rattle.rel_handler.proofs.PlaceLemmas.{no_place}
use Rattle.node_command.proofs.Refusals.{refuses_with}
use Rattle.node_store.proofs.Commits.{unchanged, all_same}
use Rattle.node_command.proofs.ReleaseLemmas.{brings_same, still_agree, still_free, still_terms, still_whole, brought_free, agrees_so, room_so}
use Rattle.rel_records.specs.Limits.{is_small}
use Rattle.rel_files.specs.Release.{release_of}
use Rattle.rel_list.specs.Releases.{status_of}
use Rattle.std.specs.String.{string_bytes}
use Rattle.rel_handler.proofs.handler.Handler.set_unpacked.Goals as goal

-- a dead handler takes nothing in
pub returns-then-self-clause-refused : goal.returns-then-self-clause-refused
returns-then-self-clause-refused g c =
    rw (← c.self.view_is)
    (inl (refl, c.if-self.true, all_same c.self.inside.node))

-- the release's file is refused
pub returns-in_err-brought-clause-refused : goal.returns-in_err-brought-clause-refused
returns-in_err-brought-clause-refused g c =
    rw (← c.self.view_is)
    (let h = c.self.inside.node in
    refuses_with (UnpackingRefused g.D.Disk (g.F.Files.gives c.args.files.now) c.args.path.now h h) c.from_residual.result c.in_err-brought.field-0.0 c.from_residual.ensures
    (inr (inl (c.in_err-brought.ensures.refused, c.if-self.false, all_same h))))

-- the list has no place for it
pub returns-in_err-vsn-clause-refused : goal.returns-in_err-vsn-clause-refused
returns-in_err-vsn-clause-refused g c =
    rw (← c.self.view_is)
    (let h = c.self.inside.node in
    let source = g.F.Files.gives c.args.files.now in
    let b = brought_of c.in_ok-brought.brought in
    let why = c.in_err-vsn.field-0.0 in
    refuses_with (UnpackingRefused g.D.Disk source c.args.path.now h h) c.from_residual-in_err-vsn.result why c.from_residual-in_err-vsn.ensures
    (no_place g.D.Disk source c.args.path.now h b why c.if-self.false ((rw (← c.self.view_is) at c.requires).free c.if-self.false) c.in_ok-brought.ensures.small c.in_ok-brought.ensures.brought
    (unchanged g.D.Disk h (rw (← c.self.view_is) at c.requires) (g.met.D.Disk.only_now _) (unpacked (bundle_brought b)) (unpacked_size b h.list)) c.in_err-vsn.ensures.refused))

-- The files of the release are refused.
pub returns-in_err-brought-2-clause-refused : goal.returns-in_err-brought-2-clause-refused
returns-in_err-brought-2-clause-refused g c =
    rw (← c.self.view_is)
    (let h = c.self.inside.node in
    let source = g.F.Files.gives c.args.files.now in
    let why = c.in_err-brought-2.field-0.0 in
    let b = brought_of c.in_ok-brought.brought in
    refuses_with (UnpackingRefused g.D.Disk source c.args.path.now h h) c.from_residual-in_err-brought-2.result why c.from_residual-in_err-brought-2.ensures
    (inr (inr (inl (record {
      brought = b;
      read = c.in_ok-brought.ensures.brought;
      alive = c.if-self.false;
      fresh = c.in_ok-vsn.ensures.fresh;
      barred = subst (λ o. IsReportedAs o why) (sym (agrees_so b h.list c.in_ok-vsn.ensures.fresh c.in_ok-vsn.ensures.agree)) (subst (λ r. IsReportedAs (refusal_with r b) why) c.has_room.ensures c.in_err-brought-2.ensures.refused);
      same = all_same h;
    })))))

-- what is taken in agrees with the list, and a node may have it
pub take_in-requires-clause-agree : goal.take_in-requires-clause-agree
take_in-requires-clause-agree g c = still_agree c.self.inside.node.list c.in_ok-brought.brought c.in_ok-brought-2.brought c.in_ok-brought-2.ensures.brought c.in_ok-vsn.ensures.agree

pub take_in-requires-clause-terms : goal.take_in-requires-clause-terms
take_in-requires-clause-terms g c = still_terms c.in_ok-brought.brought c.in_ok-brought-2.brought c.in_ok-brought-2.ensures.brought c.in_ok-brought.ensures.terms

pub take_in-requires-clause-room : goal.take_in-requires-clause-room
take_in-requires-clause-room g c = sym c.has_room.ensures ∙ (room_so c.has_room.result (brought_of c.in_ok-brought.brought) c.in_ok-brought-2.ensures.free).0

pub take_in-requires-clause-free : goal.take_in-requires-clause-free
take_in-requires-clause-free g c = still_free true c.in_ok-brought.brought c.in_ok-brought-2.brought c.in_ok-brought-2.ensures.brought (room_so c.has_room.result (brought_of c.in_ok-brought.brought) c.in_ok-brought-2.ensures.free).1

pub take_in-requires-clause-whole : goal.take_in-requires-clause-whole
take_in-requires-clause-whole g c = still_whole c.in_ok-brought.brought c.in_ok-brought-2.brought c.in_ok-brought-2.ensures.brought c.in_ok-brought.ensures.whole
    (room_so c.has_room.result (brought_of c.in_ok-brought.brought) c.in_ok-brought-2.ensures.free).1

pub take_in-requires-clause-small : goal.take_in-requires-clause-small
take_in-requires-clause-small g c = subst (λ b. is_small (release_of b.file.release) ≡ true) (sym c.in_ok-brought-2.ensures.brought) c.in_ok-brought.ensures.small

pub take_in-requires-clause-fresh : goal.take_in-requires-clause-fresh
take_in-requires-clause-fresh g c = subst (λ b. status_of (string_bytes b.file.release.vsn) c.self.inside.node.list ≡ None) (sym c.in_ok-brought-2.ensures.brought) c.in_ok-vsn.ensures.fresh

-- the node refused the release
pub returns-in_err-take_in-clause-sound : goal.returns-in_err-take_in-clause-sound
returns-in_err-take_in-clause-sound g c = c.in_err-take_in.ensures.commits.sound

pub returns-in_err-take_in-clause-refused : goal.returns-in_err-take_in-clause-refused
returns-in_err-take_in-clause-refused g c =
    rw (← c.self.view_is)
    (let h = c.self.inside.node in
    let source = g.F.Files.gives c.args.files.now in
    let why = c.in_err-take_in.field-0.0 in
    let b = c.in_ok-brought-2.brought in
    let same = c.in_ok-brought-2.ensures.brought in
    let agree = c.in_ok-vsn.ensures.agree in
    refuses_with (UnpackingRefused g.D.Disk source c.args.path.now h c.take_in.new.node) c.from_residual-in_err-take_in.result why c.from_residual-in_err-take_in.ensures
    (inr (inr (inr (record {
      brought = brought_of b;
      read = brings_same source c.args.path.now c.in_ok-brought.brought b same c.in_ok-brought.ensures.brought;
      free = brought_free (brought_of b) h.list (still_agree h.list c.in_ok-brought.brought b same agree) (still_free (has_room h.list) c.in_ok-brought.brought b same (subst (λ r. refusal_with r (brought_of c.in_ok-brought.brought) ≡ None) c.has_room.ensures c.in_ok-brought-2.ensures.free));
      commits = c.in_err-take_in.ensures.commits;
      refused = c.in_err-take_in.ensures.refused;
    })))))

-- The release was taken in.
pub returns-clause-sound : goal.returns-clause-sound
returns-clause-sound g c = c.in_ok-take_in.ensures.commits.sound

pub returns-clause-unpacked : goal.returns-clause-unpacked
returns-clause-unpacked g c =
    rw (← c.self.view_is)
    (let h = c.self.inside.node in
    let b = c.in_ok-brought-2.brought in
    let same = c.in_ok-brought-2.ensures.brought in
    let agree = c.in_ok-vsn.ensures.agree in
    record {
      brought = brought_of b;
      read = brings_same (g.F.Files.gives c.args.files.now) c.args.path.now c.in_ok-brought.brought b same c.in_ok-brought.ensures.brought;
      free = brought_free (brought_of b) h.list (still_agree h.list c.in_ok-brought.brought b same agree) (still_free (has_room h.list) c.in_ok-brought.brought b same (subst (λ r. refusal_with r (brought_of c.in_ok-brought.brought) ≡ None) c.has_room.ensures c.in_ok-brought-2.ensures.free));
      commits = c.in_ok-take_in.ensures.commits;
      done = c.in_ok-take_in.ensures.done;
      works = c.in_ok-take_in.ensures.dead;
      start = c.in_ok-take_in.ensures.start refl;
      version = search rules;
    })
