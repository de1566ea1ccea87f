-- What a crash may leave of a disk after its calls, newest first.
use Rattle.std.specs.Prelude.{◌≡◌, ◌⊎◌, ℕ, ◌≤◌, List, [], ◌∷◌, length}
use Rattle.rel_disk.specs.Damage.{Torn, Cut}
use Rattle.rel_disk.specs.Calls.{Call, wrote, cut_to, synced, content}

-- each write and each cut since the last sync damages what the calls before it may leave
abbrev pub Image : List ℕ → List Call → List ℕ → Type 0
Image first [] c = c ≡ first
Image first (wrote at bytes ∷ older) c = (d : List ℕ) × Image first older d × Torn at (length bytes) d c
Image first (cut_to len ∷ older) c = (d : List ℕ) × Image first older d × Cut len d c
Image first (synced ∷ older) c = c ≡ content first older

-- The bytes are an image after these calls, or were one when there were fewer, but at least t.
abbrev pub ImageSince : List ℕ → List Call → ℕ → List ℕ → Type 0
ImageSince first [] t c = Image first [] c
ImageSince first (call ∷ older) t c = Image first (call ∷ older) c ⊎ ((t ≤ length older) × ImageSince first older t c)
