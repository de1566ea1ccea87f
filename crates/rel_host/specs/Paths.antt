-- Paths below a folder, as bytes.
use Rattle.std.specs.Prelude.{◌≡◌, ◌≢◌, ◌==◌, ℕ, Bool, false, List, [], Option, Some, None, Result, Err, codes, slice_index, String, string_bytes}
use Rattle.std.specs.declared.alloc.Global.{Global}
use Rattle.std.specs.List.{All, list_any, slice_split}
use Rattle.std.specs.Str.{bytes_eq}
use Rattle.file_source.specs.declared.files.FilesError.{FilesError}
use Rattle.file_source.specs.declared.files.FilesError.TheVariants.{Missing}

-- the parts of a path, between which '/' stands
abbrev pub parts : List ℕ → List (List ℕ)
parts path = slice_split (λ b. b == 47) path

-- whether one of the path's parts is `..`
abbrev pub climbs : List ℕ → Bool
climbs path = list_any (λ part. bytes_eq part (codes "..")) (parts path)

-- The path leads below the folder in which it begins: it isn't empty, doesn't begin with '/', has no part `..` and no byte 0.
pub record IsBelow (path : List ℕ) : Type 0 where
  pub some : path ≢ []
  pub relative : slice_index path 0 ≢ 47
  pub down : climbs path ≡ false
  pub text : All (λ b. b ≢ 0) path

-- There is a folder, and its name isn't empty.
abbrev pub HasFolder : Option (String Global) → Type 0
HasFolder None = ⊥
HasFolder (Some root) = string_bytes root ≢ []

-- What a read may give: without such a folder, or of a path that doesn't lead below it, nothing but Missing. What the folder
-- holds isn't known.
abbrev pub Gives : Option (String Global) → List ℕ → Result (List ℕ) FilesError → Type 0
Gives root path given = (HasFolder root → IsBelow path → ⊥) → given ≡ Err Missing
