use Rattle.rel_files.specs.Name.{AreDistinct, IsFirstTwice}
use Rattle.std.proofs.Common.{rules}
use Rattle.rel_files.specs.AppFile.{with_term}
use Rattle.rel_files.specs.AppInMemory.{contents_of}
use Rattle.rel_files.proofs.AppReadings.{read}
use Rattle.rel_files.proofs.app_reader.check_contents.Goals as goal

pub returns-in-Some-clause-fault : goal.returns-in-Some-clause-fault
returns-in-Some-clause-fault c = λ v at some other.
    let contents = contents_of c.args.contents.now in
    let twice : IsFirstTwice contents.modules c.in-Some.module.now = rw c.in-Some.is at c.in_ok-module.ensures in
    (with_term v contents, read v contents some, search (rules, twice))

pub returns-then-not-is_version-clause-fault : goal.returns-then-not-is_version-clause-fault
returns-then-not-is_version-clause-fault c = λ v at some other.
    let contents = contents_of c.args.contents.now in
    let distinct : AreDistinct contents.modules = rw c.in_default.is at c.in_ok-module.ensures in
    (with_term v contents, read v contents some, distinct, search rules)
