use Rattle.std.proofs.Common.{string_bytes}
use Rattle.library.specs.InMemory.{library_of}
use Rattle.loaded_modules.specs.Loaded.{module_at, module_in}
use Rattle.loaded_modules.proofs.NamedLemmas.{copied-read}
use Rattle.loaded_modules.proofs.loaded.Loaded.copy.Goals as goal

pub returns : goal.returns
returns c =
    copied-read string_bytes module_in _ _ (λ a b same. same) (λ a b same. λ j. module_at (library_of (same.0 j)) (same.1 j)) c.args.self.now.modules.entries c.in_ok-clone.field-0.entries
    c.in_ok-clone.ensures.cases
