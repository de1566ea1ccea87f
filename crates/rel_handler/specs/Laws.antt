-- Laws of the bytes of disks, whatever boots them.
use Rattle.std.specs.Prelude.{◌≡◌, ◌⊎◌, ℕ, List, true}
use Rattle.rel_list.specs.Releases.{Releases}
use Rattle.rel_list.specs.Event.{booted, recorded}
use Rattle.node_store.specs.Image.{Extent, booted_extent, holds_a_store, IsImageOf}
use Rattle.rel_handler.specs.Refusals.{IsBootRefusal}
use Rattle.rel_handler.specs.declared.error.BootError.{BootError}

-- The bytes of a disk stand for a list, as records report it, or a boot refuses them.
abbrev pub BootsOrIsRefused : Type 0
BootsOrIsRefused =
    (bytes : List ℕ) → ((es : Releases) × IsImageOf bytes es × (recorded es ≡ es)) ⊎ ((why : BootError) × IsBootRefusal bytes why)

-- Two lists for which bytes stand differ in nothing that a boot finds: both leave the same list, in stores that reach as far.
pub record BootAlike (es fs : Releases) : Type 0 where
  pub recorded : recorded es ≡ recorded fs
  pub booted : booted es ≡ booted fs
  pub extents : (x : Extent) → booted_extent x es ≡ booted_extent x fs

abbrev pub StandsForOneList : Type 0
StandsForOneList = (bytes : List ℕ) (es fs : Releases) → IsImageOf bytes es → IsImageOf bytes fs → BootAlike es fs

-- Bytes that stand for a list hold a store.
abbrev pub ImagesAreStores : Type 0
ImagesAreStores = (bytes : List ℕ) (es : Releases) → IsImageOf bytes es → holds_a_store bytes ≡ true

-- A boot refuses no bytes that stand for a list.
abbrev pub RefusesNoImage : Type 0
RefusesNoImage = (bytes : List ℕ) (es : Releases) (why : BootError) → IsImageOf bytes es → IsBootRefusal bytes why → ⊥
