-- The image of a list: the one record that makes it.
use Rattle.std.specs.Prelude.{◌≡◌, ℕ, true, List, [], ◌∷◌, map, if◌then◌else◌, Option, None, Some}
use Rattle.erl_term.specs.Value.{Value, values_of}
use Rattle.rel_list.specs.Event.{recorded_status}
use Rattle.rel_list.specs.Releases.{Entry, Releases, libraries_of}
use Rattle.rel_records.specs.Depth.{is_within}
use Rattle.rel_records.specs.Format.{allows}
use Rattle.rel_records.specs.Lists.{Makes}
use Rattle.rel_records.specs.Record.{Imaged, Record, images, imaged_term, image_term, library_terms, printed}

-- a release of the list as an image has it
abbrev pub imaged : Entry → Imaged
imaged e = record { release = e.release; status = e.status; relup = e.relup }

-- the term of a release of the list, as records report it
abbrev pub recorded_row : Entry → Value
recorded_row e = imaged_term (imaged (record e { status = recorded_status e.status }))

-- The record: the releases in the order of the list, and its libraries, each where a release mentions it first.
abbrev pub image_record : Releases → Record
image_record es = images (map imaged es) (libraries_of es)

-- the term of the image of a list
abbrev pub image_value : Releases → Value
image_value es = image_term (values_of (map imaged_term (map imaged es))) (library_terms (libraries_of es))

-- The body of the image of a list, where it can be read back. A relup may hold a term so deep that it can't.
unfoldable pub image_of : Releases → Option (List ℕ)
image_of es = if is_within 72 (image_value es) then Some (printed (image_value es)) else None

-- The body alone makes the list, in a store of each format that may have the image.
abbrev pub MakesAsImage : Releases → List ℕ → Type 0
MakesAsImage es body = (format : ℕ) → allows format (image_record es) ≡ true → Makes format (body ∷ []) es
