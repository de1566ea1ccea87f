use Rattle.std.proofs.Common.{inl, inr, [], ◌∷◌, None, Some, refl, string_bytes, sym, ap, ◌∙◌, subst}
use Rattle.std.specs.Option.{option_map}
use Rattle.rel_list.specs.Event.{recorded}
use Rattle.rel_records.specs.Lists.{Makes}
use Rattle.rel_store.specs.State.{records_in}
use Rattle.node_store.specs.State.{extent_in, list_in}
use Rattle.node_store.proofs.Commits.{store_same}
use Rattle.node_store.proofs.CompactionLemmas.{free_and_long, image_allowed, long_reaches, not_compacted, short_stays, stays}
use Rattle.node_store.proofs.node_store.NodeStore.compact.Goals as goal

-- the store is short, or a release is a one-shot
pub returns-then-not-may_be_compacted-clause-compacts : goal.returns-then-not-may_be_compacted-clause-compacts
returns-then-not-may_be_compacted-clause-compacts g c =
    let h = c.args.self.now in
    not_compacted g.D.Disk h c.requires.ready h.store (store_same h.store) c.requires.dead (g.met.D.Disk.only_now _)

pub returns-then-not-may_be_compacted-clause-done : goal.returns-then-not-may_be_compacted-clause-done
returns-then-not-may_be_compacted-clause-done g c =
    let h = c.args.self.now in
    stays g.D.Disk h c.requires.ready h.store (store_same h.store) (record { settled = λ works. c.requires.ready.store }) (inl (sym (short_stays (extent_in h) (list_in h) (sym c.if-not-may_be_compacted.ensures))))

-- its records make its list
pub image_body-requires : goal.image_body-requires
image_body-requires g c = record { made = (c.args.self.now.store.format, records_in c.args.self.now.store, c.requires.ready.list.makes) }

pub compact_to-requires-clause-may : goal.compact_to-requires-clause-may
compact_to-requires-clause-may g c = sym c.if-not-may_be_compacted.ensures

pub compact_to-requires-clause-image : goal.compact_to-requires-clause-image
compact_to-requires-clause-image g c =
    sym c.in-Ok-Some.ensures.body ∙ (ap (λ o. option_map string_bytes o) c.in-Ok-Some.field-0-is ∙ ap (λ body. Some body) (sym c.as_bytes.ensures.value))

pub compact_to-requires-clause-makes : goal.compact_to-requires-clause-makes
compact_to-requires-clause-makes g c =
    let h = c.args.self.now in
    let none = (free_and_long (extent_in h) (list_in h) (sym c.if-not-may_be_compacted.ensures)).0 in
    subst (λ body. Makes h.store.format (body ∷ []) (recorded (list_in h))) (sym c.as_bytes.ensures.value)
    (c.in-Ok-Some.ensures.makes _ c.in-Ok-Some.field-0-is h.store.format (image_allowed h.store.format (list_in h) none))

-- there is no image
pub returns-in-Ok-None-clause-compacts : goal.returns-in-Ok-None-clause-compacts
returns-in-Ok-None-clause-compacts g c =
    let h = c.args.self.now in
    not_compacted g.D.Disk h c.requires.ready h.store (store_same h.store) c.requires.dead (g.met.D.Disk.only_now _)

pub returns-in-Ok-None-clause-done : goal.returns-in-Ok-None-clause-done
returns-in-Ok-None-clause-done g c =
    let h = c.args.self.now in
    stays g.D.Disk h c.requires.ready h.store (store_same h.store) (record { settled = λ works. c.requires.ready.store })
    (inl (sym (long_reaches (extent_in h) (list_in h) None (sym c.if-not-may_be_compacted.ensures) (sym c.in-Ok-None.ensures.body ∙ ap (λ o. option_map string_bytes o) c.in-Ok-None.field-0-is))))

-- there is no memory
pub returns-in-Err-clause-compacts : goal.returns-in-Err-clause-compacts
returns-in-Err-clause-compacts g c =
    let h = c.args.self.now in
    not_compacted g.D.Disk h c.requires.ready h.store (store_same h.store) c.requires.dead (g.met.D.Disk.only_now _)

pub returns-in-Err-clause-done : goal.returns-in-Err-clause-done
returns-in-Err-clause-done g c =
    let h = c.args.self.now in
    stays g.D.Disk h c.requires.ready h.store (store_same h.store) (record { settled = λ works. c.requires.ready.store }) (inr ((free_and_long (extent_in h) (list_in h) (sym c.if-not-may_be_compacted.ensures)).1, refl))
