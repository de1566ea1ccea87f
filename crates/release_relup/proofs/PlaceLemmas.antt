-- What is none in bytes that have a term, and in bytes that haven't one.
use Rattle.std.proofs.Common.{◌≡◌, ap, ◌∙◌, refl, ℕ, List, Option, None}
use Rattle.erl_term.specs.Value.{Value}
use Rattle.rel_files.specs.OneTermFile.{HasFileTerm, HasTermAt}
use Rattle.rel_files.proofs.OneTermFile.{has_term, one_value}
use Rattle.appup_file.specs.declared.shape.ShapeFault.{ShapeFault}
use Rattle.appup_file.specs.Shape.{shape_fault}
use Rattle.release_relup.specs.Refusal.{PlaceIn}

pub place_of_term : (bytes : List ℕ) (at : ℕ) (v : Value) (o : Option ShapeFault) → HasTermAt bytes at v → o ≡ shape_fault v → PlaceIn bytes o
place_of_term bytes at v o has is =
    let here = has_term bytes at v has in
    record { found = λ w other. is ∙ ap shape_fault (one_value bytes v w here other); missing = λ none. absurd (none v here) }

pub place_of_none : (bytes : List ℕ) → ((v : Value) → HasFileTerm bytes v → ⊥) → PlaceIn bytes None
place_of_none bytes never = record { found = λ v has. absurd (never v has); missing = λ none. refl }
