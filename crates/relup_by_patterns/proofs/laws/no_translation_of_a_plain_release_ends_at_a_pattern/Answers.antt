use Rattle.relup_by_patterns.proofs.PatternLemmas.{ends_at_no_pattern}
use Rattle.relup_by_patterns.proofs.laws.no_translation_of_a_plain_release_ends_at_a_pattern.Goals as goal

pub returns : goal.returns
returns c = ends_at_no_pattern
