use Rattle.std.proofs.Common.{◌≡◌, inl, true, refl, sym, subst}
use Rattle.rel_files.specs.Release.{release_of}
use Rattle.rel_records.specs.Limits.{is_small}
use Rattle.rel_unpack.specs.declared.unpacking.ReleaseFiles.{ReleaseFiles}
use Rattle.rel_unpack.specs.Unpacking.{brought_of}
use Rattle.rel_handler.proofs.Boots.{unwritten}
use Rattle.rel_handler.proofs.CreationLemmas.{not_made_of, read_alone}
use Rattle.node_command.proofs.ReleaseLemmas.{brings_same, still_free, still_terms, still_whole}
use Rattle.rel_handler.proofs.ReleaseLemmas.{made_so, not_made_so}
use Rattle.rel_handler.proofs.handler.Handler.create.Goals as goal

-- the release's file is refused
pub returns-in-Err-clause-taken : goal.returns-in-Err-clause-taken
returns-in-Err-clause-taken g c = λ there.
    (unwritten g.D.Disk.seen g.D.Disk.may_leave g.D.Disk.moment g.D.Disk.left_since c.args.disk (g.met.D.Disk.only_now c.args.disk), refl)

pub returns-in-Err-clause-refused : goal.returns-in-Err-clause-refused
returns-in-Err-clause-refused g c =
    inl (c.in-Err.ensures.refused, unwritten g.D.Disk.seen g.D.Disk.may_leave g.D.Disk.moment g.D.Disk.left_since c.args.disk (g.met.D.Disk.only_now c.args.disk))

-- a node may have it
pub make-requires-clause-terms : goal.make-requires-clause-terms
make-requires-clause-terms g c = still_terms c.in-Ok.brought c.in-Ok-unless_refused.brought c.in-Ok-unless_refused.ensures.brought c.in-Ok.ensures.terms

pub make-requires-clause-free : goal.make-requires-clause-free
make-requires-clause-free g c = still_free true c.in-Ok.brought c.in-Ok-unless_refused.brought c.in-Ok-unless_refused.ensures.brought c.in-Ok-unless_refused.ensures.free

pub make-requires-clause-small : goal.make-requires-clause-small
make-requires-clause-small g c = subst (λ (r : ReleaseFiles). is_small (release_of r.file.release) ≡ true) (sym c.in-Ok-unless_refused.ensures.brought) c.in-Ok.ensures.small

pub make-requires-clause-whole : goal.make-requires-clause-whole
make-requires-clause-whole g c =
    still_whole c.in-Ok.brought c.in-Ok-unless_refused.brought c.in-Ok-unless_refused.ensures.brought c.in-Ok.ensures.whole c.in-Ok-unless_refused.ensures.free

-- what the path brings was made a node, or not
pub returns-in-Ok-unless_refused-clause-made : goal.returns-in-Ok-unless_refused-clause-made
returns-in-Ok-unless_refused-clause-made g c =
    let source = g.F.Files.gives c.args.files.now in
    let b = c.in-Ok-unless_refused.brought in
    made_so g.D.Disk source c.args.path.now (brought_of b) (brings_same source c.args.path.now c.in-Ok.brought b c.in-Ok-unless_refused.ensures.brought c.in-Ok.ensures.brought)
    (still_free true c.in-Ok.brought b c.in-Ok-unless_refused.ensures.brought c.in-Ok-unless_refused.ensures.free) c.args.disk c.make.result c.make.ensures.list c.make.ensures.acknowledged c.make.ensures.start c.make.ensures.fits c.make.ensures.extent c.make.ensures.begun

pub returns-in-Ok-unless_refused-clause-refused : goal.returns-in-Ok-unless_refused-clause-refused
returns-in-Ok-unless_refused-clause-refused g c =
    let source = g.F.Files.gives c.args.files.now in
    let b = c.in-Ok-unless_refused.brought in
    not_made_so g.D.Disk source c.args.path.now (brought_of b) (brings_same source c.args.path.now c.in-Ok.brought b c.in-Ok-unless_refused.ensures.brought c.in-Ok.ensures.brought)
    (still_free true c.in-Ok.brought b c.in-Ok-unless_refused.ensures.brought c.in-Ok-unless_refused.ensures.free) c.args.disk c.make.result c.make.ensures.any_moment c.make.ensures.refused

pub returns-in-Err-unless_refused-clause-refused : goal.returns-in-Err-unless_refused-clause-refused
returns-in-Err-unless_refused-clause-refused g c =
    not_made_of g.D.Disk c.args.disk c.existing_or-error.new.disk c.existing_or-error.ensures.read c.existing_or-error.ensures.unsynced (g.F.Files.gives c.args.files.now) c.args.path.now (brought_of c.in-Ok.brought) c.in-Ok.ensures.brought
    c.in-Err-unless_refused.why c.existing_or-error.result c.in-Err-unless_refused.ensures.refused c.existing_or-error.ensures.reported

-- nothing is written over what was only read
pub returns-in-Err-unless_refused-clause-taken : goal.returns-in-Err-unless_refused-clause-taken
returns-in-Err-unless_refused-clause-taken g c = λ there.
    (read_alone g.D.Disk c.args.disk c.existing_or-error.new.disk c.existing_or-error.ensures.read, refl)
