-- What a crash may leave of a folder, by the calls that were made on it.
use Rattle.std.specs.Prelude.{◌≡◌, ◌⊎◌, ℕ, Bool, true, false, List, [], ◌∷◌, ◌++◌, Option, None, Some, if◌then◌else◌}
use Rattle.std.specs.Str.{bytes_eq}
use Rattle.file_replacement.specs.Calls.{Call}
use Rattle.file_replacement.specs.Calls.Call.{made, wrote, synced, renamed, synced_folder, removed}

-- What a path may lead to: no file, the file that was there before, or the one that was made last.
pub data Target : Type 0 where
  nothing : Target
  old_file : Target
  new_file : Target

-- A folder: what each path leads to, with all else that a crash may leave of it, the bytes of the file that was made last, and
-- whether that file was synced since they were written.
pub record Folder : Type 0 where
  pub leads : List ℕ → Target
  pub may_lead : List ℕ → List Target
  pub bytes : List ℕ
  pub is_synced : Bool

-- something under a path, and all else as it was
abbrev pub put : {A : Type 0} → List ℕ → A → (List ℕ → A) → List ℕ → A
put path a f p = if bytes_eq p path then a else f p

-- a path that leads to something else from now on, and what it led to may be left of it until the folder is synced
abbrev pub led : List ℕ → Target → Folder → Folder
led path to d = record d { leads = put path to d.leads; may_lead = put path (to ∷ d.may_lead path) d.may_lead }

-- the folder after a call
abbrev pub after : Call → Folder → Folder
after (made path) d = led path new_file (record d { bytes = []; is_synced = false })
after (wrote bs) d = record d { bytes = d.bytes ++ bs; is_synced = false }
after synced d = record d { is_synced = true }
after (renamed from to) d = led from nothing (led to (d.leads from) d)
after (synced_folder path) d = record d { may_lead = λ p. d.leads p ∷ [] }
after (removed path) d = led path nothing d

abbrev pub after_all : List Call → Folder → Folder
after_all [] d = d
after_all (c ∷ cs) d = after_all cs (after c d)

-- What a crash leaves where a path leads to this: the bytes of the new file are left whole once that file was synced, and else
-- anything may be left.
abbrev pub Leaves : Folder → Option (List ℕ) → Target → Option (List ℕ) → Type 0
Leaves d old nothing left = left ≡ None
Leaves d old old_file left = left ≡ old
Leaves d old new_file left = d.is_synced ≡ true → left ≡ Some d.bytes

-- one of these
abbrev pub LeavesOne : Folder → Option (List ℕ) → List Target → Option (List ℕ) → Type 0
LeavesOne d old [] left = ⊥
LeavesOne d old (t ∷ ts) left = Leaves d old t left ⊎ LeavesOne d old ts left

-- What a crash may leave at a path, where the file that was there before has this text, or where there was none.
abbrev pub MayLeave : Folder → Option (List ℕ) → List ℕ → Option (List ℕ) → Type 0
MayLeave d old path left = LeavesOne d old (d.may_lead path) left
