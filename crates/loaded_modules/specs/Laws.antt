-- The two views of what is loaded.
use Rattle.std.specs.Prelude.{◌≡◌, ℕ, List}
use Rattle.loaded_modules.specs.declared.loaded.Loaded.{Loaded}
use Rattle.loaded_modules.specs.Loaded.{modules_in, module_named, listed_in}

-- What is loaded under a name is what the list of the loaded modules has under it.
abbrev pub FoundAsListed : Type 0
FoundAsListed = (l : Loaded) (name : List ℕ) → modules_in l name ≡ module_named name (listed_in l)
