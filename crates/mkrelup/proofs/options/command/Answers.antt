use Rattle.std.proofs.Common.{◌≡◌, ◌∙◌, ap}
use Rattle.std.proofs.lemmas.Result.{IfOk-weaker}
use Rattle.clap.specs.Words.{App, Rule, with_rule}
use Rattle.mkrelup.proofs.options.command.Goals as goal

-- a command and an argument more, by what each is
with_one : {a b : App} {r s : Rule} → a ≡ b → r ≡ s → with_rule a r ≡ with_rule b s
with_one {b = b} {r = r} app rule = ap (λ (a : App). with_rule a r) app ∙ ap (with_rule b) rule

pub returns : goal.returns
returns c = IfOk-weaker c.arg-7.result _ _
    (λ all added. added.shape c.release.ensures.local
    ∙ with_one (c.in_ok-arg-6.ensures.shape c.flag-2.ensures.local
    ∙ with_one (c.in_ok-arg-5.ensures.shape c.value_option-2.ensures.local
    ∙ with_one (c.in_ok-arg-4.ensures.shape c.flag.ensures.local
    ∙ with_one (c.in_ok-arg-3.ensures.shape c.values_option-2.ensures.local
    ∙ with_one (c.in_ok-arg-2.ensures.shape c.values_option.ensures.local
    ∙ with_one (c.in_ok-arg.ensures.shape c.value_option.ensures.local
    ∙ with_one c.bare_command.ensures c.value_option.ensures.rule) c.values_option.ensures.rule) c.values_option-2.ensures.rule) c.flag.ensures.rule)
    c.value_option-2.ensures.rule) c.flag-2.ensures.rule) c.release.ensures.rule)
    c.arg-7.ensures
