use Rattle.std.proofs.Common.{ap}
use Rattle.std.specs.Option.{option_map}
use Rattle.appup_file.specs.declared.instruction.ModType.{ModType}
use Rattle.appup_file.specs.Instruction.{UpdateForm, update_of}
use Rattle.appup_file.proofs.instruction.Update.with_mod_type.Goals as goal

pub returns : goal.returns
returns c = let u : UpdateForm = update_of c.args.self in ap (option_map (λ (x : ModType). record u { mod_type = x })) c.in_ok-self.ensures
