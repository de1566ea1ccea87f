use Rattle.std.proofs.Common.{◌≡◌, ◌+◌, [], ◌∷◌, ◌++◌, refl, sym, subst, length}
use Rattle.rel_list.specs.Event.{event_of}
use Rattle.rel_store.specs.State as store
use Rattle.node_store.specs.Commits.{Commits}
use Rattle.node_command.proofs.CommandLemmas.{commanded_then, not_refused}
use Rattle.node_store.proofs.Commits.{opened, left_so, unchanged, failed_so, reserved_works, commits, ready_next, is_appended, store_same, taken_so}
use Rattle.node_store.proofs.node_store.NodeStore.write.Goals as goal

-- the list has no memory for the event
pub returns-then-is_err-clause-appends : goal.returns-then-is_err-clause-appends
returns-then-is_err-clause-appends g c =
    let h = c.args.self.now in
    let e = event_of c.args.event in
    let size = length c.args.body.now in
    let same : c.accept.new.self ≡ h.list = left_so c.accept.result _ c.if-is_err.ensures.value c.accept.ensures.unchanged in
    record {
      commits = subst (λ l. Commits g.D.Disk e size h (record { store = h.store; list = l; dead = h.dead })) (sym same) (unchanged g.D.Disk h c.requires.sound (g.met.D.Disk.only_now _) e size);
      appended = tt;
      ready = tt;
      dead = tt;
      format = refl;
      refused = (c.requires.allowed.0, record { disk = refl; list = same; dead = refl; extent = refl });
    }

pub returns-then-is_err-clause-device : goal.returns-then-is_err-clause-device
returns-then-is_err-clause-device g c = λ brings.
    let e = event_of c.args.event in
    absurd (taken_so e c.args.self.now.list c.accept.result c.if-is_err.ensures.value c.accept.ensures.refused (not_refused e c.args.self.now.list c.requires.allowed.1.0 c.requires.allowed.1.1) brings)

-- the device failed
pub returns-then-is_err-2-clause-appends : goal.returns-then-is_err-2-clause-appends
returns-then-is_err-2-clause-appends g c =
    let h = c.args.self.now in
    let e = event_of c.args.event in
    let size = length c.args.body.now in
    let stepped = opened c.accept.result _ c.if-is_err.ensures.value c.accept.ensures.accepted in
    let works = reserved_works g.D.Disk h c.requires.sound c.requires.allowed.0 h.store (store_same h.store) e c.accept.new.self c.args.body.now c.requires.reported c.requires.format stepped (c.requires.behind c.accept.new.self stepped) in
    let failed = failed_so g.D.Disk.failures h.store c.append.new.self size c.append.result c.if-is_err-2.ensures.value (rw c.as_bytes.ensures.value at c.append.ensures.refused) c.requires.space c.requires.room works in
    record {
      commits = commits g.D.Disk h c.requires.sound c.requires.allowed.0 h.store (store_same h.store) e c.accept.new.self c.args.body.now c.requires.reported c.requires.format stepped (c.requires.behind c.accept.new.self stepped) g.met.D.Disk.reads_an_image
          c.append.new.self _ (rw c.as_bytes.ensures.value at c.append.ensures.any_moment works) (rw c.as_bytes.ensures.value at c.append.ensures.others works) refl c.append.ensures.counted;
      appended = tt;
      ready = tt;
      dead = tt;
      format = c.append.ensures.format;
      refused = ((c.requires.allowed.0, c.requires.allowed.1, c.requires.space), failed, refl);
    }

-- the record is there
pub returns-clause-appends : goal.returns-clause-appends
returns-clause-appends g c =
    let h = c.args.self.now in
    let e = event_of c.args.event in
    let stepped = opened c.accept.result _ c.if-is_err.ensures.value c.accept.ensures.accepted in
    let works = reserved_works g.D.Disk h c.requires.sound c.requires.allowed.0 h.store (store_same h.store) e c.accept.new.self c.args.body.now c.requires.reported c.requires.format stepped (c.requires.behind c.accept.new.self stepped) in
    let added : store.records_in c.append.new.self ≡ store.records_in h.store ++ c.as_bytes.result.now ∷ [] = opened c.append.result _ c.if-is_err-2.ensures.value c.append.ensures.added in
    let end : store.end_in c.append.new.self ≡ store.end_in h.store + (5 + length c.as_bytes.result.now) = opened c.append.result _ c.if-is_err-2.ensures.value c.append.ensures.end in
    record {
      commits = commits g.D.Disk h c.requires.sound c.requires.allowed.0 h.store (store_same h.store) e c.accept.new.self c.args.body.now c.requires.reported c.requires.format stepped (c.requires.behind c.accept.new.self stepped) g.met.D.Disk.reads_an_image
          c.append.new.self _ (rw c.as_bytes.ensures.value at c.append.ensures.any_moment works) (rw c.as_bytes.ensures.value at c.append.ensures.others works) refl c.append.ensures.counted;
      appended = is_appended g.D.Disk h c.requires.sound c.requires.allowed.0 h.store (store_same h.store) e c.accept.new.self c.args.body.now c.requires.reported c.requires.format stepped (c.requires.behind c.accept.new.self stepped)
          c.append.new.self (opened c.append.result _ c.if-is_err-2.ensures.value c.append.ensures.settled) (rw c.as_bytes.ensures.value at added) c.append.ensures.base (rw c.as_bytes.ensures.value at end) c.append.ensures.format
          (commanded_then e h.list c.accept.new.self c.requires.allowed.1 stepped) c.requires.space;
      ready = ready_next g.D.Disk h c.requires.sound c.requires.allowed.0 h.store (store_same h.store) e c.accept.new.self c.args.body.now c.requires.reported c.requires.format stepped (c.requires.behind c.accept.new.self stepped)
          c.append.new.self (opened c.append.result _ c.if-is_err-2.ensures.value c.append.ensures.settled) (rw c.as_bytes.ensures.value at added) c.append.ensures.base (rw c.as_bytes.ensures.value at end) c.append.ensures.format;
      dead = refl;
      format = c.append.ensures.format;
      refused = tt;
    }

pub returns-clause-start : goal.returns-clause-start
returns-clause-start g c = opened c.append.result _ c.if-is_err-2.ensures.value c.append.ensures.start
