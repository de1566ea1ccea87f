use Rattle.std.proofs.Common.{◌≡◌, Some, rules}
use Rattle.erl_term.specs.Value.{value_of, members_of}
use Rattle.rel_files.specs.AppInMemory.{specification_of}
use Rattle.library.specs.Library.{term_parts}
use Rattle.library.proofs.Terms.{is_library, not_placed}
use Rattle.library.proofs.record.library_of_term.Goals as goal

pub returns-in-Some-3 : goal.returns-in-Some-3
returns-in-Some-3 c =
    let parts : term_parts (value_of c.args.term.now) ≡ Some (value_of c.in-Some.app.now, members_of c.in-Some.tables.now) = search rules in
    let says = rw c.in-Some-2.is at c.in_ok-app.ensures in
    let (us, are, found) = rw c.in-Some-3.is at (rw c.as_slice.ensures.value at c.in_ok-tables.ensures) in
    is_library (value_of c.args.term.now) (value_of c.in-Some.app.now) (members_of c.in-Some.tables.now) (specification_of c.in-Some-2.app) us _ parts says are found

pub returns-in-None : goal.returns-in-None
returns-in-None c =
    let parts : term_parts (value_of c.args.term.now) ≡ Some (value_of c.in-Some.app.now, members_of c.in-Some.tables.now) = search rules in
    let says = rw c.in-Some-2.is at c.in_ok-app.ensures in
    not_placed (value_of c.args.term.now) (value_of c.in-Some.app.now) (members_of c.in-Some.tables.now) (specification_of c.in-Some-2.app) parts says
    (rw c.in-None.is at (rw c.as_slice.ensures.value at c.in_ok-tables.ensures))
