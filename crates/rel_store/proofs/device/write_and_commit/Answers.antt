use Rattle.std.proofs.Common.{[], ◌∷◌, length, inl, inr, ap, arith, ◌∙◌}
use Rattle.rel_disk.specs.Damage.{overwritten}
use Rattle.rel_disk.specs.ImageLaws.{overwritten_is_torn}
use Rattle.rel_disk.proofs.Moments.{joined, weakened}
use Rattle.rel_disk.proofs.PlaceLemmas.{torn_keeps}
use Rattle.rel_store.proofs.Exits.{on_success}
use Rattle.rel_store.proofs.device.write_and_commit.Goals as goal

-- no byte is lost in the first write
pub write_through-requires-2 : goal.write_through-requires-2
write_through-requires-2 g c =
    let old = g.D.Disk.seen c.args.disk.now in
    let keeps = torn_keeps c.args.at (length c.args.bytes.now) old (overwritten c.args.at c.args.bytes.now old) (overwritten_is_torn c.args.at c.args.bytes.now old) in
    omega (arith, c.requires.mark, keeps.long, ap length c.in_ok-write_through.ensures.written)

pub returns-in_err-write_through-clause-any_moment : goal.returns-in_err-write_through-clause-any_moment
returns-in_err-write_through-clause-any_moment g c = weakened g.D.Disk.moment g.D.Disk.left_since c.args.disk.now c.write_through.new.disk _ _ (λ f torn. inl torn) c.write_through.ensures.any_moment

pub returns-clause-any_moment : goal.returns-clause-any_moment
returns-clause-any_moment g c =
    let old = c.args.disk.now in
    let mid = c.write_through.new.disk in
    let new = c.write_through-2.new.disk in
    joined g.D.Disk.moment g.D.Disk.left_since old mid new _ (weakened g.D.Disk.moment g.D.Disk.left_since old mid _ _ (λ f torn. inl torn) c.write_through.ensures.any_moment)
    (weakened g.D.Disk.moment g.D.Disk.left_since mid new _ _ (λ f torn. inr (elim torn [
      | inl now ↦ inl (c.in_ok-write_through.ensures.durable f now ∙ c.in_ok-write_through.ensures.written)
      | inr at ↦ inr (at.0, c.in_ok-write_through.ensures.durable at.0 at.1 ∙ c.in_ok-write_through.ensures.written, at.2)
    ])) c.write_through-2.ensures.any_moment)

pub returns-clause-written : goal.returns-clause-written
returns-clause-written g c = on_success _ _ c.write_through-2.result (λ is. is ∙ ap (overwritten c.args.mark (c.args.value ∷ [])) c.in_ok-write_through.ensures.written) c.write_through-2.ensures.written
