use Rattle.std.proofs.Common.{ap}
use Rattle.std.specs.Option.{option_map}
use Rattle.relup_instruction.specs.declared.instruction.PurgeMode.{PurgeMode}
use Rattle.appup_file.specs.Instruction.{UpdateForm, update_of}
use Rattle.appup_file.proofs.instruction.Update.with_post.Goals as goal

pub returns : goal.returns
returns c = let u : UpdateForm = update_of c.args.self in ap (option_map (λ (x : PurgeMode). record u { post = x })) c.in_ok-self.ensures
