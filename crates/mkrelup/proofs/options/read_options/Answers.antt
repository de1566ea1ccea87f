use Rattle.std.proofs.Common.{◌≡◌, ◌∙◌, ap, map, sym, subst, true, []}
use Rattle.clap.specs.Words.{App, HasKind, HasMatchesOf, fault_of, is_simple_and_free}
use Rattle.mkrelup.specs.Options.{mkrelup}
use Rattle.mkrelup.proofs.OptionLemmas.{mkrelup_is_free, answer_is}
use Rattle.mkrelup.proofs.options.read_options.Goals as goal

pub returns-in_err-matches-clause-answered : goal.returns-in_err-matches-clause-answered
returns-in_err-matches-clause-answered g c =
    let words = map g.S.AsStr.text c.args.words.now in
    answer_is c.in_err-matches.field-0.0 c.from_residual-in_err-matches.result (fault_of mkrelup words)
    (subst (λ (a : App). HasKind (fault_of a words) c.in_err-matches.field-0.0) c.in_ok-command.ensures (c.in_err-matches.ensures.kinds (ap is_simple_and_free c.in_ok-command.ensures ∙ mkrelup_is_free)))
    c.from_residual-in_err-matches.ensures.1

pub returns-clause-given : goal.returns-clause-given
returns-clause-given g c =
    let words = map g.S.AsStr.text c.args.words.now in
    c.in_ok-options_of.ensures words (subst (λ (a : App). HasMatchesOf a words c.in_ok-matches.matches) c.in_ok-command.ensures c.in_ok-matches.ensures.matches)

pub returns-clause-taken : goal.returns-clause-taken
returns-clause-taken g c =
    let words = map g.S.AsStr.text c.args.words.now in
    ap (λ a. fault_of a words) (sym c.in_ok-command.ensures) ∙ c.in_ok-matches.ensures.kinds (ap is_simple_and_free c.in_ok-command.ensures ∙ mkrelup_is_free)
