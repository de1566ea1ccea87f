use Rattle.std.proofs.Common.{◌≡◌, ◌∙◌, ap}
use Rattle.std.proofs.lemmas.Result.{IfOk-weaker}
use Rattle.clap.specs.Words.{App, Rule, Text, with_rule}
use Rattle.rel_host.specs.Options.{option_rule}
use Rattle.rel_host.proofs.options.command.Goals as goal

-- a command and an option more, by what each is
with_option : {a b : App} {r : Rule} {name : Text} → a ≡ b → r ≡ option_rule name → with_rule a r ≡ with_rule b (option_rule name)
with_option {b = b} {r = r} app rule = ap (λ (a : App). with_rule a r) app ∙ ap (with_rule b) rule

pub returns : goal.returns
returns c = IfOk-weaker c.arg-2.result _ _
    (λ both added. added.shape c.option-2.ensures.local
    ∙ with_option (c.in_ok-arg.ensures.shape c.option.ensures.local
    ∙ with_option c.bare_command.ensures c.option.ensures.rule) c.option-2.ensures.rule)
    c.arg-2.ensures
