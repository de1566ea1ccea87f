-- What a crash leaves of a replacement.
use Rattle.std.specs.Prelude.{◌≡◌, ◌⊎◌, ℕ, Bool, false, List, [], ◌∷◌, ◌++◌, Option, Some, take, if◌then◌else◌}
use Rattle.std.specs.Str.{bytes_eq}
use Rattle.file_replacement.specs.Calls.{Call, replacement}
use Rattle.file_replacement.specs.Calls.Call.{removed}
use Rattle.file_replacement.specs.Folder.{Folder, Target, after_all, MayLeave}
use Rattle.file_replacement.specs.Folder.Target.{old_file}

-- A path leads to what was there before, also after a crash.
pub record IsSettled (d : Folder) (path : List ℕ) (t : Target) : Type 0 where
  pub leads : d.leads path ≡ t
  pub only : d.may_lead path ≡ t ∷ []

-- the first calls of a replacement, and maybe the removal of the new file after them
abbrev pub part_of : List ℕ → List ℕ → List ℕ → ℕ → Bool → List Call
part_of path new text n is_removed = take n (replacement path new text) ++ (if is_removed then removed new ∷ [] else [])

-- After each part of a replacement the path may be left with what was there before, or with the new text. A crash within a call, and
-- a call that failed, leave what may be left before the call or after it.
abbrev pub LeavesOldOrNew : Type 0
LeavesOldOrNew = (d : Folder) (path new text : List ℕ) (old left : Option (List ℕ)) (n : ℕ) (is_removed : Bool)
    → bytes_eq path new ≡ false → IsSettled d path old_file
    → MayLeave (after_all (part_of path new text n is_removed) d) old path left → (left ≡ old) ⊎ (left ≡ Some text)

-- After a whole replacement the new text is left.
abbrev pub LeavesNew : Type 0
LeavesNew = (d : Folder) (path new text : List ℕ) (old left : Option (List ℕ))
    → bytes_eq path new ≡ false
    → MayLeave (after_all (replacement path new text) d) old path left → left ≡ Some text
