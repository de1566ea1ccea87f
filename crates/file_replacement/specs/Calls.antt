-- The calls by which a file is replaced.
use Rattle.std.specs.Prelude.{◌≡◌, ◌⊎◌, ℕ, List, [], ◌∷◌}
use Rattle.file_replacement.specs.declared.replacement.ReplaceError.{ReplaceError}
use Rattle.file_replacement.specs.declared.replacement.ReplaceError.TheVariants as error

-- a call of a host: a new file of a path is made, bytes are written into the file that was made last, that file is synced, a file gets
-- another path, the folder of a path is synced, or a file is removed
pub data Call : Type 0 where
  made : List ℕ → Call
  wrote : List ℕ → Call
  synced : Call
  renamed : List ℕ → List ℕ → Call
  synced_folder : List ℕ → Call
  removed : List ℕ → Call

-- the calls by which the file of a path gets a text, by way of a new file
abbrev pub replacement : List ℕ → List ℕ → List ℕ → List Call
replacement path new text = made new ∷ wrote text ∷ synced ∷ renamed new path ∷ synced_folder path ∷ []

-- Calls were done one after another, and have led from the one state to the other.
abbrev pub Did : {H : Type 0} → (Call → H → H → Type 0) → List Call → H → H → Type 0
Did did [] old new = new ≡ old
Did {H} did (c ∷ cs) old new = (mid : H) × did c old mid × Did did cs mid new

-- A file was removed, or could not be.
abbrev pub Tidies : {H : Type 0} → (Call → H → H → Type 0) → (Call → H → H → Type 0) → List ℕ → H → H → Type 0
Tidies did failed new old tidy = did (removed new) old tidy ⊎ failed (removed new) old tidy

-- Some calls were done, and then one has failed.
abbrev pub FailsAfter : {H : Type 0} → (Call → H → H → Type 0) → (Call → H → H → Type 0) → List Call → Call → H → H → Type 0
FailsAfter {H} did failed calls c old new = (mid : H) × Did did calls old mid × failed c mid new

-- the same, and then the new file was removed, or could not be
abbrev pub FailsTidily : {H : Type 0} → (Call → H → H → Type 0) → (Call → H → H → Type 0) → List ℕ → List Call → Call → H → H → Type 0
FailsTidily {H} did failed path calls c old new = (mid : H) × FailsAfter did failed calls c old mid × Tidies did failed path mid new

-- What has come before an error: the calls up to the one that failed, and the removal of a new file that was not renamed.
abbrev pub Stops : {H : Type 0} → (Call → H → H → Type 0) → (Call → H → H → Type 0) → ReplaceError → List ℕ → List ℕ → List ℕ → H → H → Type 0
Stops did failed error.Exists path new text = FailsAfter did failed [] (made new)
Stops did failed error.Make path new text = FailsAfter did failed [] (made new)
Stops did failed error.Write path new text = FailsTidily did failed new (made new ∷ []) (wrote text)
Stops did failed error.Sync path new text = FailsTidily did failed new (made new ∷ wrote text ∷ []) synced
Stops did failed error.Rename path new text = FailsTidily did failed new (made new ∷ wrote text ∷ synced ∷ []) (renamed new path)
Stops did failed error.SyncFolder path new text = FailsAfter did failed (made new ∷ wrote text ∷ synced ∷ renamed new path ∷ []) (synced_folder path)
