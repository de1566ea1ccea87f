-- What a report shows of the list that records make.
use Rattle.std.specs.Prelude.{◌≡◌, ◌⊎◌, ℕ, Bool, true, false, List, ◌++◌, codes}
use Rattle.rel_list.specs.Releases.{Releases}
use Rattle.rel_records.specs.Lists.{Makes, IsBadRecord}
use Rattle.store_report.specs.Lines.{number_line, releases_text}

-- The releases of a list, and that the store is sound.
abbrev pub list_text : Releases → List ℕ
list_text es = releases_text es ++ codes "sound\n"

-- After the old text stand the releases of the list that these records make, as a boot reads it, or the number of the first bad
-- record. The answer is which.
abbrev pub ShowsList : ℕ → List (List ℕ) → List ℕ → List ℕ → Bool → Type 0
ShowsList format bodies old new sound =
    ((es : Releases) × Makes format bodies es × (new ≡ old ++ list_text es) × (sound ≡ true))
    ⊎ ((n : ℕ) × IsBadRecord format bodies n × (new ≡ old ++ number_line (codes "bad record") n) × (sound ≡ false))
