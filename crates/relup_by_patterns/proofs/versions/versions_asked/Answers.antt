use Rattle.std.proofs.Common.{string_bytes, refl}
use Rattle.relup_row.specs.Release.{relup_app_of, relup_release_of}
use Rattle.relup_by_patterns.specs.Plain.{versions_in, asked}
use Rattle.relup_block.proofs.WalkLemmas.{one_further, none_left}
use Rattle.relup_by_patterns.proofs.versions.versions_asked.Goals as goal

pub loop-release-preserved : goal.loop-release-preserved
loop-release-preserved c =
    one_further string_bytes relup_release_of (asked (relup_app_of c.args.app.now)) c.args.releases.now c.loop-release.release-index c.release-item.result c.loop-release.asked.items c.push_versions.new.asked.items
    (versions_in (relup_app_of c.args.app.now) (relup_release_of c.release-item.result)) _ c.loop-release-test.true c.release-item.is refl
    (rw c.deref.ensures.value at c.in_ok-push_versions.ensures) c.loop-release.invariant

pub returns : goal.returns
returns c =
    none_left string_bytes relup_release_of (asked (relup_app_of c.args.app.now)) c.args.releases.now c.loop-release.release-index c.loop-release.asked.items _ refl
    c.loop-release-test.false c.loop-release.invariant
