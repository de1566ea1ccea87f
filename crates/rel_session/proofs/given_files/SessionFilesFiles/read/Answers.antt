use Rattle.std.proofs.Common.{◌≢◌, Ok, Err, subst}
use Rattle.std.specs.Prelude.{IfOk, IfErr}
use Rattle.std.specs.Option.{option_map}
use Rattle.file_source.specs.declared.files.FilesError.TheVariants.{NoMemory}
use Rattle.session_input.specs.Commands.{given_of}
use Rattle.rel_session.specs.Files.{GivenOr}
use Rattle.rel_session.proofs.given_files.SessionFilesFiles.read.Goals as goal

pub returns-in-Some-clause-read : goal.returns-in-Some-clause-read
returns-in-Some-clause-read g c =
    let base = g.F.Files.gives c.args.self.now.base.now c.args.path.now in
    subst (λ found. IfOk c.read_given.result (λ bytes. GivenOr (option_map given_of found) base (Ok bytes.items))) c.in-Some.ensures.value c.read_given.ensures.read

pub returns-in-Some-clause-refused : goal.returns-in-Some-clause-refused
returns-in-Some-clause-refused g c =
    let base = g.F.Files.gives c.args.self.now.base.now c.args.path.now in
    subst (λ found. IfErr c.read_given.result (λ e. e ≢ NoMemory → GivenOr (option_map given_of found) base (Err e))) c.in-Some.ensures.value c.read_given.ensures.refused

pub returns-in-None-clause-read : goal.returns-in-None-clause-read
returns-in-None-clause-read g c =
    let base = g.F.Files.gives c.args.self.now.base.now c.args.path.now in
    subst (λ found. IfOk c.read.result (λ bytes. GivenOr (option_map given_of found) base (Ok bytes.items))) c.in-None.ensures.value c.read.ensures.read

pub returns-in-None-clause-refused : goal.returns-in-None-clause-refused
returns-in-None-clause-refused g c =
    let base = g.F.Files.gives c.args.self.now.base.now c.args.path.now in
    subst (λ found. IfErr c.read.result (λ e. e ≢ NoMemory → GivenOr (option_map given_of found) base (Err e))) c.in-None.ensures.value c.read.ensures.refused
