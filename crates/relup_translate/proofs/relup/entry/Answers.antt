use Rattle.std.proofs.Common.{◌≡◌, sym, ap, ◌∙◌}
use Rattle.erl_term.specs.declared.term.Term.TheFolds.{fold-roll-Term}
use Rattle.erl_term.specs.declared.term.Term.TheVariants as variant
use Rattle.erl_term.specs.Value.{value_of, members_of}
use Rattle.erl_term.specs.Value.Value.{list}
use Rattle.relup_translate.specs.Translation.{way_script}
use Rattle.relup_translate.proofs.relup.entry.Goals as goal

pub returns : goal.returns
returns c =
    let is : value_of (variant.List c.new.result) ≡ list (members_of c.new.result.items) = ap value_of (sym (variant.rolls-List c.new.result)) ∙ fold-roll-Term _ _ _ in
    λ j. record {
      vsn = c.in_ok-clone.ensures.cases j;
      descr = (is ∙ ap (λ ts. list (members_of ts)) c.new.ensures.items) j;
      script = (c.in_ok-way_script.ensures ∙ ap way_script c.between.ensures) j;
    }
