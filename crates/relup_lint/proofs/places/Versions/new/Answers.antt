use Rattle.std.proofs.Common.{List, ℕ, Bor, ap, ◌∙◌}
use Rattle.std.specs.Map.{lookup}
use Rattle.std.specs.Option.{option_map}
use Rattle.std.specs.Str.{bytes_eq}
use Rattle.relup_lint.specs.Names.{version_texts}
use Rattle.relup_lint.proofs.LookLemmas.{looked_up}
use Rattle.relup_lint.proofs.places.Versions.new.Goals as goal

pub invariant_of-result : goal.invariant_of-result
invariant_of-result c =
    λ name. ap (option_map (λ (v : Bor (List ℕ)). v.now)) (c.in_ok-first.ensures name)
    ∙ (looked_up (λ (v : Bor (List ℕ)). v.now) name c.deref.result.now
    ∙ ap (λ rows. lookup (bytes_eq name) (version_texts rows)) c.deref.ensures.value)
