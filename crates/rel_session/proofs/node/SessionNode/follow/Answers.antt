use Rattle.std.proofs.Common.{refl, sym, ap, subst}
use Rattle.std.specs.Prelude.{string_bytes}
use Rattle.session_input.specs.Commands.{command_of, given_of}
use Rattle.session_input.specs.declared.error.SessionError.TheVariants.{NoMemory}
use Rattle.rel_session.specs.InMemory.{FollowsCommand}
use Rattle.rel_session.proofs.DeviceLemmas.{IsDevice}
use Rattle.rel_session.proofs.ReplyTexts.{gives, follows, not_followed}
use Rattle.rel_session.proofs.node.SessionNode.follow.Goals as goal

pub returns-in-File-clause-followed : goal.returns-in-File-clause-followed
returns-in-File-clause-followed g c =
    let laws : IsDevice g.D.Disk = record { reads_an_image = g.met.D.Disk.reads_an_image; counts_now = g.met.D.Disk.counts_now; only_now = g.met.D.Disk.only_now } in
    let base = g.F.Files.gives c.args.base.now in
    let old = c.args.self in
    subst (λ x. FollowsCommand g.D.Disk base (command_of x) c.keep-kept.result old (record { place = old.place; files = c.keep-kept.new.files })) (sym c.in-File.is)
    (gives g.D.Disk laws base old c.keep-kept.new.files (string_bytes c.in-File.path) (given_of c.in-File.file) c.keep-kept.result c.keep-kept.ensures.kept c.keep-kept.ensures.reported)

pub returns-in-Quit-clause-followed : goal.returns-in-Quit-clause-followed
returns-in-Quit-clause-followed g c = (ap command_of c.in-Quit.is, refl)

pub returns-in-Ok-clause-followed : goal.returns-in-Ok-clause-followed
returns-in-Ok-clause-followed g c =
    follows g.D.Disk (g.F.Files.gives c.args.base.now) c.args.self c.answer-place.result.0 c.args.command (c.in_default.not-File, c.in_default.not-Quit) c.answer-place.result.1 c.line_of.result
    c.line_of.ensures c.answer-place.ensures.answered

-- memory was refused before it was followed
pub returns-in_default-memory_refusal-clause-followed : goal.returns-in_default-memory_refusal-clause-followed
returns-in_default-memory_refusal-clause-followed g c =
    let laws : IsDevice g.D.Disk = record { reads_an_image = g.met.D.Disk.reads_an_image; counts_now = g.met.D.Disk.counts_now; only_now = g.met.D.Disk.only_now } in
    not_followed g.D.Disk laws (g.F.Files.gives c.args.base.now) (command_of c.args.command) NoMemory c.args.self
