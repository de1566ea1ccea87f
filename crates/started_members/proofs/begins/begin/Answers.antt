use Rattle.std.proofs.Common.{[], length, ap, sym, subst, refl, arith}
use Rattle.proc_table.proofs.CountLemmas.{begins_take_one}
use Rattle.started_members.specs.Preparations.{IsBegunWith, begun_with}
use Rattle.started_members.specs.Members.{process_and}
use Rattle.started_members.proofs.begins.begin.Goals as goal

-- there is a slot for it
pub unreachable-requires : goal.unreachable-requires
unreachable-requires g c =
    let began = rw c.in_default-begin_lowest.is at c.begin_lowest.ensures.began in
    let none = begins_take_one.1 c.args.access.now began.0 in
    let one = ap (λ o. length (process_and o [])) c.in-Some.is in
    omega (arith, one, none, c.requires.slots)

pub returns : goal.returns
returns g c = record {
  began =
      subst (λ o. IsBegunWith o c.args.preparation.member c.args.access.now (begun_with c.args.preparation.member c.in-Some.field-0 c.in-Ok.pid) c.begin_lowest.new.self) (sym c.in-Some.is)
      (c.in-Ok.pid, rw c.in-Ok.is at c.begin_lowest.ensures.began, refl);
}
