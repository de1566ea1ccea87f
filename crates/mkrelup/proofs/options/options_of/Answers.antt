use Rattle.std.proofs.Common.{◌≡◌, ◌∙◌, ap, codes, List, [], Option, option_map}
use Rattle.std.specs.Prelude.{unwrap_or}
use Rattle.clap.specs.Words.{Text, all_of, first_of, first_value, found_of, matched_of, matches_of, raw_values}
use Rattle.mkrelup.specs.Options.{mkrelup}
use Rattle.mkrelup.proofs.OptionLemmas.{mkrelup_is_simple, value_is, values_are, flag_is}
use Rattle.mkrelup.proofs.options.options_of.Goals as goal

pub returns : goal.returns
returns c = λ words has.
    let one : (id : Text) → first_value (found_of c.args.matches.now) id ≡ first_of id (matches_of mkrelup words) = λ id. value_is mkrelup words c.args.matches.now id mkrelup_is_simple has in
    let all : (id : Text) → option_map raw_values (matched_of (found_of c.args.matches.now) id) ≡ all_of id (matches_of mkrelup words) = λ id. values_are mkrelup words c.args.matches.now id mkrelup_is_simple has in
    record {
      new = c.in_ok-new.ensures ∙ ap (λ (o : Option Text). unwrap_or o []) (c.get_str.ensures ∙ one (codes "NEW.rel"));
      ups = c.in_ok-ups.ensures ∙ ap (λ (o : Option (List Text)). unwrap_or o []) (c.get_strs.ensures ∙ all (codes "up"));
      downs = c.in_ok-downs.ensures ∙ ap (λ (o : Option (List Text)). unwrap_or o []) (c.get_strs-2.ensures ∙ all (codes "down"));
      root = c.in_ok-root.ensures ∙ ap (λ (o : Option Text). unwrap_or o (codes ".")) (c.get_str-2.ensures ∙ one (codes "root"));
      out = c.in_ok-out.ensures ∙ c.get_str-3.ensures ∙ one (codes "out");
      restart = flag_is mkrelup words c.args.matches.now (codes "restart-emulator") c.get_flag-restart.result mkrelup_is_simple has c.get_flag-restart.ensures.none c.get_flag-restart.ensures.value c.get_flag-restart.ensures.other;
      check = flag_is mkrelup words c.args.matches.now (codes "check") c.get_flag-check.result mkrelup_is_simple has c.get_flag-check.ensures.none c.get_flag-check.ensures.value c.get_flag-check.ensures.other;
    }
