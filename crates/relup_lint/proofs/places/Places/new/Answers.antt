use Rattle.std.proofs.Common.{ap, ◌∙◌}
use Rattle.std.specs.Map.{lookup}
use Rattle.std.specs.Str.{bytes_eq}
use Rattle.relup_lint.specs.Names.{row_texts}
use Rattle.relup_lint.proofs.LookLemmas.{looked_up_plain}
use Rattle.relup_lint.proofs.places.Places.new.Goals as goal

pub invariant_of-result : goal.invariant_of-result
invariant_of-result c =
    λ name. c.in_ok-first.ensures name
    ∙ (looked_up_plain name c.deref.result.now
    ∙ ap (λ rows. lookup (bytes_eq name) (row_texts rows)) c.deref.ensures.value)
