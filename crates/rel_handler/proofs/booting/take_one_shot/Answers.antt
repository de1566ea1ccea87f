use Rattle.std.proofs.Common.{◌≡◌, ◌++◌, ◌∷◌, [], length, string_bytes, sym, ap, ◌∙◌, subst, true≢false, arith}
use Rattle.rel_disk.specs.Moments.{HasFailed}
use Rattle.rel_list.specs.Event.{booted}
use Rattle.rel_store.specs.Contents.{HasOnlyRead}
use Rattle.rel_store.specs.State as store
use Rattle.rel_handler.specs.Booting.{IsBooted}
use Rattle.node_store.specs.Image.{start_bytes}
use Rattle.node_store.specs.State.{disk_in, list_in}
use Rattle.node_store.proofs.Commits.{failed_so, opened, read_nothing}
use Rattle.rel_handler.proofs.OneShotLemmas.{booted_so, fits_reserved, leaves_others, taken, takes, takes_alone, takes_nothing}
use Rattle.rel_handler.proofs.booting.take_one_shot.Goals as goal

-- There is no one-shot.
pub returns-in_default-clause-leaves : goal.returns-in_default-clause-leaves
returns-in_default-clause-leaves g c =
    let h = c.args.node.now in
    takes_nothing g.D.Disk h c.requires.ready (g.met.D.Disk.only_now _) (disk_in h) (λ i. disk_in h)

pub returns-in_default-clause-others : goal.returns-in_default-clause-others
returns-in_default-clause-others g c =
    let h = c.args.node.now in
    leaves_others g.D.Disk h c.requires.ready (g.met.D.Disk.only_now _) (disk_in h) (λ i. disk_in h)

pub returns-in_default-clause-booted : goal.returns-in_default-clause-booted
returns-in_default-clause-booted g c = booted_so g.D.Disk c.args.node.now c.requires.ready c.requires.recorded (rw c.in_default.is at c.requires.body)

-- There is no memory for the record of the boot.
pub returns-then-is_err-clause-leaves : goal.returns-then-is_err-clause-leaves
returns-then-is_err-clause-leaves g c = takes_nothing g.D.Disk c.args.node.now c.requires.ready (g.met.D.Disk.only_now _) (store.disk_in c.reserve.new.self) c.reserve.ensures.kept.disk

pub returns-then-is_err-clause-others : goal.returns-then-is_err-clause-others
returns-then-is_err-clause-others g c = leaves_others g.D.Disk c.args.node.now c.requires.ready (g.met.D.Disk.only_now _) (store.disk_in c.reserve.new.self) c.reserve.ensures.kept.disk

pub returns-then-is_err-clause-refused : goal.returns-then-is_err-clause-refused
returns-then-is_err-clause-refused g c =
    let h = c.args.node.now in
    subst (λ d. HasOnlyRead g.D.Disk.seen g.D.Disk.may_leave g.D.Disk.moment g.D.Disk.left_since (disk_in h) d) (sym c.reserve.ensures.kept.disk) (read_nothing g.D.Disk h (g.met.D.Disk.only_now _))

-- the device failed in the append
pub returns-then-is_err-3-clause-leaves : goal.returns-then-is_err-3-clause-leaves
returns-then-is_err-3-clause-leaves g c =
    let h = c.args.node.now in
    let (one, reported, long) = rw c.in-Some.is at c.requires.body in
    let same = c.reserve.ensures.kept in
    let works = same.failed ∙ c.requires.ready.store.works in
    takes g.D.Disk h c.requires.ready one c.reserve.new.self same (string_bytes c.in-Some.body) reported long c.append.new.self _
    (rw c.as_bytes.ensures.value at c.append.ensures.any_moment works) (rw c.as_bytes.ensures.value at c.append.ensures.others works) (ap (λ d. start_bytes (g.D.Disk.seen d)) same.disk) c.append.ensures.counted

pub returns-then-is_err-3-clause-others : goal.returns-then-is_err-3-clause-others
returns-then-is_err-3-clause-others g c =
    let h = c.args.node.now in
    let (one, reported, long) = rw c.in-Some.is at c.requires.body in
    let same = c.reserve.ensures.kept in
    let works = same.failed ∙ c.requires.ready.store.works in
    takes_alone g.D.Disk h c.requires.ready one c.reserve.new.self same (string_bytes c.in-Some.body) reported long c.append.new.self (rw c.as_bytes.ensures.value at c.append.ensures.others works)

pub returns-then-is_err-3-clause-refused : goal.returns-then-is_err-3-clause-refused
returns-then-is_err-3-clause-refused g c =
    let h = c.args.node.now in
    let (one, reported, long) = rw c.in-Some.is at c.requires.body in
    let same = c.reserve.ensures.kept in
    let size = length (string_bytes c.in-Some.body) in
    let room = opened c.reserve.result _ c.if-is_err.ensures.value c.reserve.ensures.room size (let n = c.len.ensures in omega (arith, n)) in
    let fits = fits_reserved g.D.Disk h c.requires.ready one c.reserve.new.self same (string_bytes c.in-Some.body) reported long in
    let failed = failed_so g.D.Disk.failures c.reserve.new.self c.append.new.self size c.append.result c.if-is_err-3.ensures.value (rw c.as_bytes.ensures.value at c.append.ensures.refused) fits room (same.failed ∙ c.requires.ready.store.works) in
    subst (λ d. HasFailed (g.D.Disk.failures d) (g.D.Disk.failures (store.disk_in c.append.new.self))) same.disk failed

-- the record is there
pub returns-clause-leaves : goal.returns-clause-leaves
returns-clause-leaves g c =
    let h = c.args.node.now in
    let (one, reported, long) = rw c.in-Some.is at c.requires.body in
    let same = c.reserve.ensures.kept in
    let works = same.failed ∙ c.requires.ready.store.works in
    takes g.D.Disk h c.requires.ready one c.reserve.new.self same (string_bytes c.in-Some.body) reported long c.append.new.self _
    (rw c.as_bytes.ensures.value at c.append.ensures.any_moment works) (rw c.as_bytes.ensures.value at c.append.ensures.others works) (ap (λ d. start_bytes (g.D.Disk.seen d)) same.disk) c.append.ensures.counted

pub returns-clause-others : goal.returns-clause-others
returns-clause-others g c =
    let h = c.args.node.now in
    let (one, reported, long) = rw c.in-Some.is at c.requires.body in
    let same = c.reserve.ensures.kept in
    let works = same.failed ∙ c.requires.ready.store.works in
    takes_alone g.D.Disk h c.requires.ready one c.reserve.new.self same (string_bytes c.in-Some.body) reported long c.append.new.self (rw c.as_bytes.ensures.value at c.append.ensures.others works)

pub returns-clause-booted : goal.returns-clause-booted
returns-clause-booted g c =
    let h = c.args.node.now in
    let (one, reported, long) = rw c.in-Some.is at c.requires.body in
    let same = c.reserve.ensures.kept in
    let stepped = opened c.accept.result _ c.if-is_err-2.ensures.value c.accept.ensures.accepted in
    let next : booted (list_in h) ≡ c.accept.new.self = cc stepped in
    let added : store.records_in c.append.new.self ≡ store.records_in c.reserve.new.self ++ c.as_bytes.result.now ∷ [] = opened c.append.result _ c.if-is_err-3.ensures.value c.append.ensures.added in
    let end = opened c.append.result _ c.if-is_err-3.ensures.value c.append.ensures.end in
    subst (λ l. IsBooted g.D.Disk h (record { store = c.append.new.self; list = l; dead = h.dead })) next
    (taken g.D.Disk h c.requires.ready one c.reserve.new.self same (string_bytes c.in-Some.body) reported long c.append.new.self h.dead (opened c.append.result _ c.if-is_err-3.ensures.value c.append.ensures.settled)
    (rw c.as_bytes.ensures.value at added) c.append.ensures.base (rw c.as_bytes.ensures.value at end) c.append.ensures.format)

pub returns-clause-start : goal.returns-clause-start
returns-clause-start g c = opened c.append.result _ c.if-is_err-3.ensures.value c.append.ensures.start ∙ ap (λ d. start_bytes (g.D.Disk.seen d)) c.reserve.ensures.kept.disk

pub returns-clause-free : goal.returns-clause-free
returns-clause-free g c = λ none.
    let (one, reported, long) = rw c.in-Some.is at c.requires.body in
    absurd (true≢false (sym one ∙ none))
