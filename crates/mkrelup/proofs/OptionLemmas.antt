-- What clap's exact meaning of the words gives the program's options.
use Rattle.std.proofs.Common.{◌≡◌, ◌⊎◌, ⊎_elim, ◌∙◌, ap, sym, refl, Bool, true, false, List, Option, None, Some, option_map, codes, Result, Ok, Err, IfErr, IsErrAnd, subst}
use Rattle.clap.specs.Words.{App, HasKind, HasMatchesOf, IsAmong, Kinds, Text, all_of, first_of, first_value, found_of, is_simple, is_simple_and_free, kind_of, matched_of, matches_of, one_of, one_text, raw_values}
use Rattle.clap.specs.declared.error.Error.{Error}
use Rattle.clap.specs.declared.error.kind.ErrorKind.{ErrorKind}
use Rattle.clap.specs.declared.error.kind.ErrorKind.TheVariants.{OutOfMemory}
use Rattle.clap.specs.declared.parser.matches.ArgMatches.{ArgMatches}
use Rattle.clap.proofs.OnLiterals.{clap_on_literals}
use Rattle.clap.proofs.WalkLemmas.{first_value-rows, one_text-rows, raw_values-rows}
use Rattle.mkrelup.specs.Options.{mkrelup, IsFlag, IsAnswer, error_of}
use Rattle.mkrelup.specs.declared.options.OptionsError.{OptionsError}
use Rattle.mkrelup.specs.declared.options.OptionsError.TheVariants as error

pub mkrelup_is_simple : is_simple mkrelup ≡ true
unfolding clap_on_literals
mkrelup_is_simple = refl

pub mkrelup_is_free : is_simple_and_free mkrelup ≡ true
unfolding clap_on_literals
mkrelup_is_free = refl

module _ (command : App) (words : List Text) (m : ArgMatches) (id : Text) where
  -- The value of an option is that of clap's meaning.
  pub value_is : is_simple command ≡ true → HasMatchesOf command words m → first_value (found_of m) id ≡ first_of id (matches_of command words)
  value_is simple has = first_value-rows (found_of m) id ∙ ap (first_of id) (has simple).0

  -- All values of an option are those of clap's meaning.
  pub values_are : is_simple command ≡ true → HasMatchesOf command words m → option_map raw_values (matched_of (found_of m) id) ≡ all_of id (matches_of command words)
  values_are simple has = raw_values-rows (found_of m) id ∙ ap (all_of id) (has simple).0

  -- Whether a flag is set is clap's meaning.
  pub flag_is : (is_set : Bool) → is_simple command ≡ true → HasMatchesOf command words m
      → (one_text (found_of m) id ≡ None → is_set ≡ false)
      → (one_text (found_of m) id ≡ Some (codes "true") → is_set ≡ true)
      → (one_text (found_of m) id ≡ Some (codes "false") → is_set ≡ false)
      → IsFlag (one_of id (matches_of command words)) is_set
  flag_is is_set simple has none value other =
      let same = one_text-rows (found_of m) id ∙ ap (one_of id) (has simple).0 in
      record { missing = λ e. none (same ∙ e); set = λ e. value (same ∙ e); unset = λ e. other (same ∙ e) }

-- An error of one of these kinds is an answer of one, or out of memory.
answered : (kinds : Kinds) (e : Error) (k : ErrorKind) → kind_of e ≡ k → (k ≡ OutOfMemory) ⊎ IsAmong (kind_of e) kinds → IsAnswer kinds (error_of e k)
answered kinds e OutOfMemory is h = tt
answered kinds e k is h = ⊎_elim (λ no. absurd cc) (λ among. among) h

-- what clap answers is reported as this
pub answer_is : {T : Type 0} (e : Error) (r : Result T OptionsError) (kinds : Kinds) → HasKind kinds e
    → IsErrAnd r (λ f. f ≡ error_of e (kind_of e)) → IfErr r (IsAnswer kinds)
answer_is e (Ok x) kinds h given = tt
answer_is e (Err f) kinds h given = subst (IsAnswer kinds) (sym given) (answered kinds e (kind_of e) refl h)
