use Rattle.std.proofs.Common.{◌++◌, ◌∙◌, ap}
use Rattle.store_report.proofs.Texts.{two}
use Rattle.store_report.proofs.report.push_damage.Goals as goal

pub returns : goal.returns
returns c = two _ _ _ _ _ c.in_ok-push_number.ensures (c.in_ok-push_text.ensures ∙ ap (λ words. c.push_number.new.text.items ++ words) c.damage_words.ensures)
