use Rattle.std.proofs.Common.{◌≡◌, Some, None, refl}
use Rattle.erl_term.specs.Value.{value_of}
use Rattle.rel_files.specs.Release.{release_of}
use Rattle.rel_files.specs.Name.{AreDistinct, IsFirstTwice}
use Rattle.rel_files.specs.Sketch.{sketch_in, release_in}
use Rattle.rel_files.specs.Sketched.{sketch_of}
use Rattle.rel_files.proofs.Distinct.{names}
use Rattle.rel_files.proofs.Outcomes.{no_form, reports_duplicate, no_duplicate, reports_version, no_bad_version, reports_release, reports_only}
use Rattle.rel_files.proofs.reader.rel_of_term.Goals as goal

pub returns-in_default-clause-only : goal.returns-in_default-clause-only
returns-in_default-clause-only c = λ r is.
    let none : None ≡ sketch_in (value_of c.args.term.now) = rw c.in_default.is at c.in_ok-draft.ensures in
    absurd (no_form (value_of c.args.term.now) none _ is.shape)

pub returns-in_default-clause-fault : goal.returns-in_default-clause-fault
returns-in_default-clause-fault c = λ _.
    let none : None ≡ sketch_in (value_of c.args.term.now) = rw c.in_default.is at c.in_ok-draft.ensures in
    (no_form (value_of c.args.term.now) none, refl)

pub returns-in-Some-2-clause-only : goal.returns-in-Some-2-clause-only
returns-in-Some-2-clause-only c = λ r is.
    let drafted : Some (sketch_of c.in-Some.draft) ≡ sketch_in (value_of c.args.term.now) = rw c.in-Some.is at c.in_ok-draft.ensures in
    let twice : IsFirstTwice (names c.as_slice.result.now) c.in-Some-2.name.now = rw c.in-Some-2.is at c.in_ok-name.ensures in
    absurd (no_duplicate (value_of c.args.term.now) c.in-Some.draft c.as_slice.result.now drafted c.as_slice.ensures.value c.in-Some-2.name.now twice r is)

pub returns-in-Some-2-clause-fault : goal.returns-in-Some-2-clause-fault
returns-in-Some-2-clause-fault c = λ _.
    let drafted : Some (sketch_of c.in-Some.draft) ≡ sketch_in (value_of c.args.term.now) = rw c.in-Some.is at c.in_ok-draft.ensures in
    let twice : IsFirstTwice (names c.as_slice.result.now) c.in-Some-2.name.now = rw c.in-Some-2.is at c.in_ok-name.ensures in
    reports_duplicate (value_of c.args.term.now) c.in-Some.draft c.as_slice.result.now drafted c.as_slice.ensures.value _ _ twice c.in_ok-from_str.ensures.ok

pub returns-in-Some-3-clause-says : goal.returns-in-Some-3-clause-says
returns-in-Some-3-clause-says c =
    let drafted : Some (sketch_of c.in-Some.draft) ≡ sketch_in (value_of c.args.term.now) = rw c.in-Some.is at c.in_ok-draft.ensures in
    let distinct : AreDistinct (names c.as_slice.result.now) = rw c.in_default-2.is at c.in_ok-name.ensures in
    let some : Some (release_of c.in-Some-3.release) ≡ release_in (sketch_of c.in-Some.draft) = rw c.in-Some-3.is at c.in_ok-release.ensures in
    reports_release (value_of c.args.term.now) c.in-Some.draft c.as_slice.result.now drafted c.as_slice.ensures.value _ distinct some

pub returns-in-Some-3-clause-only : goal.returns-in-Some-3-clause-only
returns-in-Some-3-clause-only c = λ r is.
    let drafted : Some (sketch_of c.in-Some.draft) ≡ sketch_in (value_of c.args.term.now) = rw c.in-Some.is at c.in_ok-draft.ensures in
    let some : Some (release_of c.in-Some-3.release) ≡ release_in (sketch_of c.in-Some.draft) = rw c.in-Some-3.is at c.in_ok-release.ensures in
    reports_only (value_of c.args.term.now) c.in-Some.draft c.as_slice.result.now drafted c.as_slice.ensures.value _ some r is

pub returns-in-None-clause-only : goal.returns-in-None-clause-only
returns-in-None-clause-only c = λ r is.
    let drafted : Some (sketch_of c.in-Some.draft) ≡ sketch_in (value_of c.args.term.now) = rw c.in-Some.is at c.in_ok-draft.ensures in
    let none : None ≡ release_in (sketch_of c.in-Some.draft) = rw c.in-None.is at c.in_ok-release.ensures in
    absurd (no_bad_version (value_of c.args.term.now) c.in-Some.draft c.as_slice.result.now drafted c.as_slice.ensures.value none r is)

pub returns-in-None-clause-fault : goal.returns-in-None-clause-fault
returns-in-None-clause-fault c = λ _.
    let drafted : Some (sketch_of c.in-Some.draft) ≡ sketch_in (value_of c.args.term.now) = rw c.in-Some.is at c.in_ok-draft.ensures in
    let distinct : AreDistinct (names c.as_slice.result.now) = rw c.in_default-2.is at c.in_ok-name.ensures in
    let none : None ≡ release_in (sketch_of c.in-Some.draft) = rw c.in-None.is at c.in_ok-release.ensures in
    reports_version (value_of c.args.term.now) c.in-Some.draft c.as_slice.result.now drafted c.as_slice.ensures.value distinct none
