use Rattle.std.proofs.Common.{◌≡◌, List, ℕ, length, take, drop, ap, sym, subst, subst₂, ◌∙◌}
use Rattle.std.proofs.lemmas.List.{take_at}
use Rattle.rel_disk.specs.Calls.{Call, content}
use Rattle.rel_disk.specs.Images.{Image}
use Rattle.rel_disk.specs.LogState.{LogState}
use Rattle.rel_disk.specs.MemState.{MemState}
use Rattle.rel_disk.specs.Picks.{IsFilledBy, IsLeft}
use Rattle.rel_disk.specs.Places.{smallest_length}
use Rattle.rel_disk.proofs.PickLemmas.{filled_by, left_is_image}
use Rattle.rel_disk.proofs.mem_disk.MemDisk.image.Goals as goal
use Rattle.rel_disk.proofs.mem_disk.MemDisk.image.Goals.{in-Kept, in-Filled, in-Short}

pub returns-clause-left : goal.returns-clause-left
returns-clause-left c =
    let first = c.args.self.first in
    let calls = c.args.self.calls in
    let image = c.restart.new.self.first in
    let inside = c.disk.inside in
    let all : inside.bytes.items ≡ content first calls = c.disk.invariant.is ∙ ap (λ (d : MemState). content d.first d.calls) c.disk.view_is in
    let same_calls : inside.log.calls ≡ calls = ap (λ (d : MemState). d.calls) c.disk.view_is in
    let smallest : inside.smallest ≡ smallest_length first calls = c.disk.invariant.shortest ∙ ap (λ (d : MemState). smallest_length d.first d.calls) c.disk.view_is in
    let kept : image ≡ c.match-pick.disk-inside.bytes.items = ap (λ (l : LogState). l.first) c.restart.ensures ∙ c.deref.ensures.value in
    elim c.match-pick.branch [
      | in-Kept w ↦ subst (λ k. IsLeft k first calls image) (sym w.in-Kept.is) (kept ∙ ap (λ d. d.bytes.items) w.disk-inside-is ∙ all)
      | in-Filled w ↦
          let filled = filled_by w.in-Filled.byte inside.log.calls w.deref_mut.result.now w.fill.new.bytes w.fill.ensures in
          let put_back = take_at w.fill.new.bytes (drop (length w.fill.new.bytes) inside.bytes.items) _ (w.fill.ensures.long ∙ w.deref_mut.ensures.len) in
          subst (λ k. IsLeft k first calls image) (sym w.in-Filled.is)
          (subst (λ (l : List Call). IsFilledBy w.in-Filled.byte l (content first calls) image) same_calls
          (subst₂ (IsFilledBy w.in-Filled.byte inside.log.calls) (w.deref_mut.ensures.value ∙ all) (sym (kept ∙ ap (λ d. d.bytes.items) w.disk-inside-is ∙ put_back)) filled))
      | in-Short w ↦
          subst (λ k. IsLeft k first calls image) (sym w.in-Short.is)
          (kept ∙ ap (λ d. d.bytes.items) w.disk-inside-is ∙ w.truncate.ensures.items ∙ ap (λ (n : ℕ). take n inside.bytes.items) smallest ∙ ap (take (smallest_length first calls)) all)
    ]

pub returns-clause-may_leave : goal.returns-clause-may_leave
returns-clause-may_leave c =
    let reads : content c.restart.new.self.first c.restart.new.self.calls ≡ c.restart.new.self.first = ap (λ (l : LogState). content l.first l.calls) c.restart.ensures ∙ sym (ap (λ (l : LogState). l.first) c.restart.ensures) in
    subst (Image c.args.self.first c.args.self.calls) (sym reads) (left_is_image c.args.pick c.args.self.first c.args.self.calls c.restart.new.self.first (returns-clause-left c))
