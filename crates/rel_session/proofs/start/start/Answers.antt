use Rattle.std.proofs.Common.{◌≡◌, ◌++◌, refl, subst, codes, string_bytes}
use Rattle.std.specs.Prelude.{IfOk}
use Rattle.node_answer.specs.Lines.{ok_line}
use Rattle.rel_session.proofs.DeviceLemmas.{IsDevice}
use Rattle.rel_session.proofs.StartReplies.{reported, reported_none}
use Rattle.rel_session.proofs.start.start.Goals as goal

pub returns-in-Err-clause-reported : goal.returns-in-Err-clause-reported
returns-in-Err-clause-reported g c =
    let laws : IsDevice g.D.Disk = record { reads_an_image = g.met.D.Disk.reads_an_image; counts_now = g.met.D.Disk.counts_now; only_now = g.met.D.Disk.only_now } in
    reported_none g.D.Disk laws c.args.node.now (record c.args.node.now { handler = c.start.new.self }) c.requires.works refl c.in-Err.ensures.read c.in-Err.why c.in-Err.ensures.refused

pub returns-in-Ok-clause-reported : goal.returns-in-Ok-clause-reported
returns-in-Ok-clause-reported g c =
    let laws : IsDevice g.D.Disk = record { reads_an_image = g.met.D.Disk.reads_an_image; counts_now = g.met.D.Disk.counts_now; only_now = g.met.D.Disk.only_now } in
    let (r, listed, of) = c.in-Ok.ensures.reports in
    reported g.D.Disk laws c.args.node.now (record c.args.node.now { handler = c.start.new.self }) c.requires.works refl c.in-Ok.ensures.read c.in-Ok.ensures.works.1 (r, listed) c.start_line.result c.answer_of.result c.answer_of.ensures.same
    (subst (λ v. IfOk c.start_line.result (λ text. string_bytes text ≡ ok_line (v.erts ++ (codes " " ++ v.vsn)))) of c.start_line.ensures)
