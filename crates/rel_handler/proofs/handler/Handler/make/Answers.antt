use Rattle.std.proofs.Common.{◌≡◌, refl, sym, ap, ◌∙◌, subst, length, ◌≤◌}
use Rattle.rel_unpack.specs.Unpacking.{brought_of}
use Rattle.rel_list.specs.Releases.{has_one_shot}
use Rattle.rel_store.specs.Layout.{slot_with}
use Rattle.node_command.specs.Files.{bundle_brought, made_size}
use Rattle.rel_handler.specs.Moments.{WritesNothing}
use Rattle.rel_handler.specs.Refusals.{MakingRefused, reported_create}
use Rattle.rel_handler.proofs.Boots.{unwritten, nothing_begun, sound_so, begins_at, begins, made_new, fits_in_a_slot, is_create_error, making_refused}
use Rattle.node_store.specs.Image.{extent_after, first_extent, HasSpace, IsStarted, start_bytes}
use Rattle.node_store.specs.State.{store_extent}
use Rattle.node_store.proofs.Images.{each_image, no_boot_space, same_extent}
use Rattle.rel_handler.proofs.NewNodes.{started_new}
use Rattle.rel_handler.proofs.handler.Handler.make.Goals as goal

pub create-requires : goal.create-requires
create-requires g c =
    subst (λ text. length text ≤ 127) (sym (c.as_bytes-2.ensures.value ∙ c.in-Ok.ensures.start)) (fits_in_a_slot (bundle_brought (brought_of c.args.brought)).release c.requires.terms.says.release.versions)

pub create_error-requires : goal.create_error-requires
create_error-requires g c =
    let disk = c.in-Err.disk in
    let unwritten = WritesNothing g.D.Disk.seen g.D.Disk.may_leave g.D.Disk.moment g.D.Disk.left_since c.args.disk disk in
    is_create_error (g.D.Disk.seen c.args.disk) c.as_bytes.result.now (g.D.Disk.failures c.args.disk) (g.D.Disk.failures disk) unwritten c.in-Err.error c.in-Err.ensures.refused

pub returns-in-Ok-create-clause-sound : goal.returns-in-Ok-create-clause-sound
returns-in-Ok-create-clause-sound g c =
    let spelled = rw (sym c.as_bytes.ensures.value) at c.in-Ok.ensures.spells in
    sound_so g.D.Disk.seen g.D.Disk.may_leave c.in-Ok-create.store c.in-Ok.new.list c.in-Ok-create.ensures.settled (made_new c.in-Ok-create.store.format (bundle_brought (brought_of c.args.brought)) c.as_bytes.result.now _ c.in-Ok.new.list (c.requires.small, c.requires.whole.complete) spelled c.in-Ok-create.ensures.records c.in-Ok.ensures.list) (ap has_one_shot c.in-Ok.ensures.list)
    (λ d now. subst (λ l. IsStarted l d) (sym c.in-Ok.ensures.list)
    (started_new (bundle_brought (brought_of c.args.brought)) c.as_bytes-2.result.now d c.requires.terms.says.release.versions (c.as_bytes-2.ensures.value ∙ c.in-Ok.ensures.start)
    (ap (λ l. start_bytes l) (c.in-Ok-create.ensures.settled.durable d now) ∙ c.in-Ok-create.ensures.start)))

pub returns-in-Ok-create-clause-acknowledged : goal.returns-in-Ok-create-clause-acknowledged
returns-in-Ok-create-clause-acknowledged g c = λ d now.
    let spelled = rw (sym c.as_bytes.ensures.value) at c.in-Ok.ensures.spells in
    each_image g.D.Disk.seen g.D.Disk.may_leave c.in-Ok-create.store c.in-Ok.new.list c.in-Ok-create.ensures.settled (made_new c.in-Ok-create.store.format (bundle_brought (brought_of c.args.brought)) c.as_bytes.result.now _ c.in-Ok.new.list (c.requires.small, c.requires.whole.complete) spelled c.in-Ok-create.ensures.records c.in-Ok.ensures.list)
    (no_boot_space (store_extent c.in-Ok-create.store) c.in-Ok.new.list (ap has_one_shot c.in-Ok.ensures.list)) d now

pub returns-in-Ok-create-clause-any_moment : goal.returns-in-Ok-create-clause-any_moment
returns-in-Ok-create-clause-any_moment g c =
    let spelled = rw (sym c.as_bytes.ensures.value) at c.in-Ok.ensures.spells in
    begins g.D.Disk (bundle_brought (brought_of c.args.brought)) c.as_bytes.result.now c.as_bytes-2.result.now (c.requires.small, c.requires.whole.complete) c.requires.terms.says.release.versions (c.as_bytes-2.ensures.value ∙ c.in-Ok.ensures.start) spelled c.args.disk _ c.in-Ok-create.ensures.any_moment

pub returns-in-Ok-create-clause-begun : goal.returns-in-Ok-create-clause-begun
returns-in-Ok-create-clause-begun g c =
    let spelled = rw (sym c.as_bytes.ensures.value) at c.in-Ok.ensures.spells in
    let (at, begun) = c.in-Ok-create.ensures.begun in
    (at, begins_at g.D.Disk (bundle_brought (brought_of c.args.brought)) c.as_bytes.result.now c.as_bytes-2.result.now (c.requires.small, c.requires.whole.complete) c.requires.terms.says.release.versions (c.as_bytes-2.ensures.value ∙ c.in-Ok.ensures.start) spelled c.args.disk _ at begun)

pub returns-in-Ok-create-clause-start : goal.returns-in-Ok-create-clause-start
returns-in-Ok-create-clause-start g c = c.in-Ok-create.ensures.start ∙ ap slot_with (c.as_bytes-2.ensures.value ∙ c.in-Ok.ensures.start)

pub returns-in-Ok-create-clause-fits : goal.returns-in-Ok-create-clause-fits
returns-in-Ok-create-clause-fits g c =
    let long : length c.as_bytes.result.now ≡ made_size (brought_of c.args.brought) = ap length c.as_bytes.ensures.value ∙ c.in-Ok.ensures.body in
    subst (λ n. HasSpace first_extent n) long c.in-Ok-create.ensures.fits

pub returns-in-Ok-create-clause-extent : goal.returns-in-Ok-create-clause-extent
returns-in-Ok-create-clause-extent g c =
    let long : length c.as_bytes.result.now ≡ made_size (brought_of c.args.brought) = ap length c.as_bytes.ensures.value ∙ c.in-Ok.ensures.body in
    let first = c.as_bytes.result.now in
    let new = c.in-Ok-create.ensures in
    same_extent (store_extent c.in-Ok-create.store) (extent_after first_extent (length first)) new.base new.end (ap (λ bodies. length bodies) new.records) ∙ ap (λ n. extent_after first_extent n) long

pub returns-in-Ok-create-clause-taken : goal.returns-in-Ok-create-clause-taken
returns-in-Ok-create-clause-taken g c = c.in-Ok-create.ensures.taken

pub returns-clause-refused : goal.returns-clause-refused
returns-clause-refused g c =
    let long : length c.as_bytes.result.now ≡ made_size (brought_of c.args.brought) = ap length c.as_bytes.ensures.value ∙ c.in-Ok.ensures.body in
    let disk = c.in-Err.disk in
    let unwritten = WritesNothing g.D.Disk.seen g.D.Disk.may_leave g.D.Disk.moment g.D.Disk.left_since c.args.disk disk in
    let bytes = g.D.Disk.seen c.args.disk in
    let before = g.D.Disk.failures c.args.disk in
    let now = g.D.Disk.failures disk in
    let refused = making_refused bytes c.as_bytes.result.now before now unwritten c.in-Err.error c.in-Err.ensures.refused in
    subst (λ e. MakingRefused bytes (made_size (brought_of c.args.brought)) before now unwritten e) (sym c.create_error.ensures)
    (subst (λ n. MakingRefused bytes n before now unwritten (reported_create c.in-Err.error)) long refused)

pub returns-clause-any_moment : goal.returns-clause-any_moment
returns-clause-any_moment g c =
    let spelled = rw (sym c.as_bytes.ensures.value) at c.in-Ok.ensures.spells in
    begins g.D.Disk (bundle_brought (brought_of c.args.brought)) c.as_bytes.result.now c.as_bytes-2.result.now (c.requires.small, c.requires.whole.complete) c.requires.terms.says.release.versions (c.as_bytes-2.ensures.value ∙ c.in-Ok.ensures.start) spelled c.args.disk _ c.in-Err.ensures.any_moment

pub returns-in_default-clause-any_moment : goal.returns-in_default-clause-any_moment
returns-in_default-clause-any_moment g c = nothing_begun g.D.Disk c.args.disk (g.met.D.Disk.only_now c.args.disk) _

pub returns-in_default-clause-taken : goal.returns-in_default-clause-taken
returns-in_default-clause-taken g c = λ magic. (unwritten g.D.Disk.seen g.D.Disk.may_leave g.D.Disk.moment g.D.Disk.left_since c.args.disk (g.met.D.Disk.only_now c.args.disk), refl)

pub returns-in_default-clause-refused : goal.returns-in_default-clause-refused
returns-in_default-clause-refused g c =
    (unwritten g.D.Disk.seen g.D.Disk.may_leave g.D.Disk.moment g.D.Disk.left_since c.args.disk (g.met.D.Disk.only_now c.args.disk))

pub returns-clause-taken : goal.returns-clause-taken
returns-clause-taken g c = c.in-Err.ensures.taken
