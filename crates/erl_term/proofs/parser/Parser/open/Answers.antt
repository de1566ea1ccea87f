use Rattle.std.proofs.Common.{◌≡◌, [], ◌∷◌, ◌++◌, length, map, reverse, nat_lt, true, Ok, sym, ◌∙◌, ap, arith}
use Rattle.std.proofs.lemmas.Bool.Decides.{nat_tests}
use Rattle.erl_term.specs.declared.parser.Slot.TheVariants.{First}
use Rattle.erl_term.specs.Machine.State.{inside}
use Rattle.erl_token.specs.Views.{item_value}
use Rattle.erl_term.specs.Views.{progress_of, state_of, level_of, all_levels}
use Rattle.erl_term.proofs.Passes.{progress}
use Rattle.erl_term.proofs.ParserLemmas.{opening_is_read, opening_steps, levels_more}
use Rattle.erl_term.proofs.parser.Parser.open.Goals as goal

pub returns-in_ok-push-in-Inside-clause-step : goal.returns-in_ok-push-in-Inside-clause-step
returns-in_ok-push-in-Inside-clause-step c =
    let read = progress_of c.args.self.now in
    let limit = c.args.self.now.limit in
    let item = item_value c.args.item.now in
    let kind = opening_is_read c.args.item.now.token c.args.bracket c.requires in
    let room : nat_lt (length (all_levels read.state)) limit ≡ true = grind (arith, nat_tests, c.open_brackets.ensures, c.if-open_brackets-self.false) in
    let pushed : c.in-Inside.outer.items ++ c.in-Inside.innermost ∷ [] ≡ c.push.new.self.items =
    (λ j. c.in-Inside.outer.items ++ sym c.replace.ensures.value j ∷ []) ∙ sym c.in_ok-push-in-Inside.ensures.items in
    let levels : all_levels read.state ≡ reverse (map level_of c.push.new.self.items) =
    ap (λ s. all_levels (state_of s)) c.in-Inside.is ∙ (levels_more c.in-Inside.innermost c.in-Inside.outer.items ∙ ap (λ ls. reverse (map level_of ls)) pushed) in
    opening_steps limit read item c.args.bracket c.in_ok-expect_term.ensures.begins kind room
    ∙ ((λ j. Ok (progress read.done (inside First (record { from = item.from; members = sym c.none.ensures j }) (levels j))))
    ∙ (λ j. Ok (progress read.done (inside First (level_of (sym c.replace.ensures.after j)) (reverse (map level_of c.push.new.self.items))))))
