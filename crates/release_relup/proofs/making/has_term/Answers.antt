use Rattle.std.proofs.Common.{subst, sym, IsTrue}
use Rattle.erl_term.specs.Value.{value_of}
use Rattle.rel_files.specs.OneTermFile.{HasFileTerm}
use Rattle.rel_files.proofs.OneTermFile.{has_term, one_value}
use Rattle.worker_table.proofs.Sameness.{same_are_equal}
use Rattle.release_relup.proofs.making.has_term.Goals as goal

pub returns-in-Ok : goal.returns-in-Ok
returns-in-Ok c =
    let v = value_of c.in-Ok.file.term in
    let w = value_of c.args.term.now in
    let here = has_term c.args.bytes.now c.in-Ok.file.at v c.in-Ok.ensures.says in (
      λ is. subst (HasFileTerm c.args.bytes.now) ((same_are_equal v w).0 (subst IsTrue c.is_same.ensures is)) here,
      λ has. subst IsTrue (sym c.is_same.ensures) ((same_are_equal v w).1 (one_value c.args.bytes.now v w here has)),
    )

pub returns-in_ok-unless_memory-in-Err : goal.returns-in_ok-unless_memory-in-Err
returns-in_ok-unless_memory-in-Err c = (λ is. absurd cc, λ has. absurd (c.in_ok-unless_memory-in-Err.ensures (c.in-Err.ensures.only has.0 has.1)))
