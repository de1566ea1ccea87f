use Rattle.rel_unpack.specs.Unpacking.{brought_of}
use Rattle.node_command.proofs.ReleaseLemmas.{brought_terms, brought_whole, refused_as}
use Rattle.node_command.proofs.release.bring_release.Goals as goal

pub returns-in_err-unpack_release-clause-refused : goal.returns-in_err-unpack_release-clause-refused
returns-in_err-unpack_release-clause-refused g c =
    refused_as (g.F.Files.gives c.args.files.now) c.args.path.now c.from_residual.result c.in_err-unpack_release.field-0.0
    c.from_residual.ensures.1 c.in_err-unpack_release.ensures.answer

-- its terms say it
pub returns-clause-terms : goal.returns-clause-terms
returns-clause-terms g c =
    brought_terms (g.F.Files.gives c.args.files.now) c.args.path.now c.in_ok-unpack_release.field-0 c.in_ok-unpack_release.ensures.answer c.in_ok-unpack_release.ensures.within

-- and where it isn't refused a node may have it
pub returns-clause-whole : goal.returns-clause-whole
returns-clause-whole g c = λ free.
    brought_whole (g.F.Files.gives c.args.files.now) c.args.path.now (brought_of c.in_ok-unpack_release.field-0) c.in_ok-unpack_release.ensures.answer free
