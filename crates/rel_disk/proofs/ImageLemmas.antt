-- What one call more does to what a read gives, and to the images.
use Rattle.std.proofs.Common.{◌≡◌, ℕ, List, ◌∷◌, length, sym, subst}
use Rattle.rel_disk.specs.Calls.{Call, wrote, synced, content}
use Rattle.rel_disk.specs.Damage.{Torn, Within}
use Rattle.rel_disk.specs.Images.{Image}
use Rattle.rel_disk.specs.ImageLaws.{content_is_image, overwritten_is_torn}

-- a write that is done is one of its outcomes
pub written_part : (first same : List ℕ) (at : ℕ) (bytes : List ℕ) (old new : List Call) → same ≡ first → new ≡ wrote at bytes ∷ old → Torn at (length bytes) (content first old) (content same new)
written_part first same at bytes old new is calls =
    subst (λ l. Torn at (length bytes) (content first old) (content l new)) (sym is)
    (subst (λ (l : List Call). Torn at (length bytes) (content first old) (content first l)) (sym calls) (overwritten_is_torn at bytes (content first old)))

-- a sync leaves one of the images from before it
pub synced_within : (first same : List ℕ) (old new : List Call) → same ≡ first → new ≡ synced ∷ old → Within (Image first old) (Image same new)
synced_within first same old new is calls =
    subst (λ l. Within (Image first old) (Image l new)) (sym is)
    (subst (λ l. Within (Image first old) (Image first l)) (sym calls) (λ c here. subst (Image first old) (sym here) (content_is_image first old)))
