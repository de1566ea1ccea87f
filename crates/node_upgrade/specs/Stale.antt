-- Modules that are loaded in another version than a release has.
use Rattle.std.specs.Prelude.{ℕ, Bool, true, false, not, List, [], ◌∷◌, ◌++◌, map, filter, Option, None, Some}
use Rattle.std.specs.Str.{bytes_eq}
use Rattle.library.specs.Library.{Library}
use Rattle.relup_instruction.specs.Instruction.{Instruction}
use Rattle.relup_instruction.specs.Instruction.Instruction.{load}
use Rattle.relup_exec.specs.Script.{version_in}
use Rattle.loaded_modules.specs.Loaded.{Module, NamedModules, listed_modules}
use Rattle.node_upgrade.specs.Names.{sorted_names}

abbrev pub same_version : Option (List ℕ) → Option (List ℕ) → Bool
same_version None None = true
same_version (Some a) (Some b) = bytes_eq a b
same_version a b = false

-- the module is loaded in another version than the release has, or only one of the two has it
abbrev pub is_stale : NamedModules → NamedModules → List ℕ → Bool
is_stale loaded target name = not (same_version (version_in name loaded) (version_in name target))

abbrev pub names_in : NamedModules → List (List ℕ)
names_in ms = map (λ (m : List ℕ × Module). m.0) ms

-- the names of the modules that a script loads
abbrev pub names_loaded : List Instruction → List (List ℕ)
names_loaded [] = []
names_loaded (load p ∷ is) = p.name ∷ names_loaded is
names_loaded (i ∷ is) = names_loaded is

-- the names of the modules that may be stale after a script: of what is loaded before it, of what the release has, and of what the
-- script loads
abbrev pub names_concerned : NamedModules → NamedModules → List Instruction → List (List ℕ)
names_concerned loaded target script = names_in loaded ++ (names_in target ++ names_loaded script)

-- the stale modules where a release of these libraries was installed, by the bytes of their names
abbrev pub stale_modules : NamedModules → List Library → List (List ℕ)
stale_modules loaded target =
    let ms = listed_modules target in
    sorted_names (filter (is_stale loaded ms) (names_in loaded ++ names_in ms))
