use Rattle.std.proofs.Common.{◌≡◌, true, Err, ap, length, rules}
use Rattle.std.specs.Prelude.{◌&&◌, nat_lt}
use Rattle.rel_files.specs.Release.{release_of}
use Rattle.rel_list.specs.Event.Event.{unpacked}
use Rattle.rel_list.specs.Keyed.{bundle_of}
use Rattle.rel_records.specs.Limits.{is_small, most_releases}
use Rattle.rel_records.proofs.BundleLemmas.{accepted, not_accepted, nothing_brought}
use Rattle.rel_records.proofs.ReadingLemmas.{reported_bad}
use Rattle.rel_records.proofs.releases.unpack.Goals as goal

-- the record brings nothing
pub returns-in_err-bundle-clause-bad : goal.returns-in_err-bundle-clause-bad
returns-in_err-bundle-clause-bad c = λ bad.
    nothing_brought _ unpacked c.args.list.now _ (c.in_err-bundle.ensures.bad (ap (λ f. Err f) (reported_bad c.from_residual.result c.in_err-bundle.field-0.0 c.from_residual.ensures bad)))

-- the list refuses what it brings
pub returns-in_err-accept-clause-bad : goal.returns-in_err-accept-clause-bad
returns-in_err-accept-clause-bad c = λ bad.
    not_accepted _ unpacked c.args.list.now _ (bundle_of c.in_ok-bundle.bundle) c.in_ok-bundle.ensures.brought c.in_err-accept.field-0.0 c.in_err-accept.ensures.refused
    c.from_residual-in_err-accept.result c.from_residual-in_err-accept.ensures bad

-- it takes it
pub returns-clause-taken : goal.returns-clause-taken
returns-clause-taken c =
    let may : is_small (release_of c.args.release) && nat_lt (length c.args.list.now) most_releases ≡ true = search rules in
    accepted _ unpacked c.args.list.now _ (bundle_of c.in_ok-bundle.bundle) _ may c.in_ok-bundle.ensures.brought c.in_ok-accept.ensures.accepted
