use Rattle.std.proofs.Common.{subst, ◌∙◌, Ok}
use Rattle.appup_file.specs.Instruction.{appup_of}
use Rattle.rel_unpack.specs.Source.{FileSays}
use Rattle.relup_command.specs.Appups.{appup_form}
use Rattle.relup_command.proofs.appups.read_appup_of.Goals as goal

pub returns-in-Ok : goal.returns-in-Ok
returns-in-Ok g c =
    subst (λ p. FileSays appup_form (g.F.Files.gives c.args.files.now) p (Ok (appup_of c.in-Ok.appup))) (c.as_str.ensures.value ∙ c.in_ok-path.ensures) c.in-Ok.ensures
