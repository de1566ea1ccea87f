use Rattle.std.proofs.Common.{◌≡◌, ◌<◌, [], length, map, slice_index_or, string_bytes, refl, sym, subst}
use Rattle.held_processes.specs.Course.{Courses}
use Rattle.held_processes.specs.Following.{AllFollow}
use Rattle.held_processes.specs.Operations.{modules_by_slot}
use Rattle.held_processes.proofs.SlotLemmas.{longer_both, longer_still}
use Rattle.relup_exec.specs.Plain.{plain_operation}
use Rattle.relup_exec.proofs.PlainLemmas.{done_more}
use Rattle.relup_exec.proofs.RowLemmas.{item_at, read_at}
use Rattle.relup_exec.proofs.release.do_all.Goals as goal

pub loop-at-init : goal.loop-at-init
loop-at-init g c = (refl, longer_still c.args.access.now, c.requires.1.1)

pub do_next-requires : goal.do_next-requires
do_next-requires g c κs live =
    let inside : c.loop-at.at < length c.args.names.now = subst (λ n. c.loop-at.at < n) c.loop-at.invariant.0 c.loop-at-test.true in
    (live.0, (live.1, (inside, c.loop-at.invariant.2)))

pub loop-at-preserved : goal.loop-at-preserved
loop-at-preserved g c =
    let names = c.args.names.now in
    let at = c.loop-at.at in
    let inside : at < length names = subst (λ n. at < n) c.loop-at.invariant.0 c.loop-at-test.true in
    let item = item_at names at inside in
    let named : slice_index_or (map string_bytes names) at [] ≡ string_bytes item.0 = read_at string_bytes names at item.0 [] inside item.1 in (
      c.loop-at.invariant.0,
      longer_both c.args.access.now c.loop-at.access c.do_next.new.access c.loop-at.invariant.1 c.do_next.ensures.longer,
      subst (λ (cs : Courses). AllFollow g.followed.first cs c.do_next.new.held c.do_next.new.access)
          (sym (done_more (plain_operation c.args.plain) names at item.0 (slice_index_or (map string_bytes names) at []) (modules_by_slot c.args.tree.now) g.followed.courses inside item.1 named))
          c.do_next.ensures.done,
    )
