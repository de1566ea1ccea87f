use Rattle.std.proofs.Common.{◌≡◌, ◌∙◌, ap, map, sym, subst, true}
use Rattle.clap.specs.Words.{App, HasMatchesOf, fault_of, is_simple_and_free, takes}
use Rattle.rel_host.specs.Options.{relnode}
use Rattle.rel_host.proofs.OptionLemmas.{relnode_is_free, refusal_is}
use Rattle.rel_host.proofs.options.read_options.Goals as goal

pub returns-in_err-matches-clause-refused : goal.returns-in_err-matches-clause-refused
returns-in_err-matches-clause-refused g c =
    let words = map g.S.AsStr.text c.args.words.now in
    refusal_is c.in_err-matches.field-0.0 c.from_residual-in_err-matches.result (takes relnode words ≡ true)
    (λ taken. c.in_err-matches.ensures.passes (ap (λ a. takes a words) c.in_ok-command.ensures ∙ taken))
    c.from_residual-in_err-matches.ensures.1

pub returns-clause-given : goal.returns-clause-given
returns-clause-given g c =
    let words = map g.S.AsStr.text c.args.words.now in
    c.in_ok-options_of.ensures words (subst (λ (a : App). HasMatchesOf a words c.in_ok-matches.matches) c.in_ok-command.ensures c.in_ok-matches.ensures.matches)

pub returns-clause-taken : goal.returns-clause-taken
returns-clause-taken g c =
    let words = map g.S.AsStr.text c.args.words.now in
    ap (λ a. fault_of a words) (sym c.in_ok-command.ensures) ∙ c.in_ok-matches.ensures.kinds (ap is_simple_and_free c.in_ok-command.ensures ∙ relnode_is_free)
