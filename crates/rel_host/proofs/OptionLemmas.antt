-- What clap's exact meaning of the words gives the program's options.
use Rattle.std.proofs.Common.{◌≡◌, ◌∙◌, ap, refl, true, List, Result, Ok, Err, IfErr, IsErrAnd}
use Rattle.clap.specs.Words.{App, HasMatchesOf, Text, first_of, first_value, found_of, is_simple, is_simple_and_free, kind_of, matches_of}
use Rattle.clap.specs.declared.error.Error.{Error}
use Rattle.clap.specs.declared.error.kind.ErrorKind.TheVariants.{OutOfMemory}
use Rattle.clap.specs.declared.parser.matches.ArgMatches.{ArgMatches}
use Rattle.clap.proofs.OnLiterals.{clap_on_literals}
use Rattle.clap.proofs.WalkLemmas.{first_value-rows}
use Rattle.rel_host.specs.Options.{relnode, refusal_of}
use Rattle.rel_host.specs.declared.options.OptionsError.{OptionsError}
use Rattle.rel_host.specs.declared.options.OptionsError.TheVariants as refusal

pub relnode_is_simple : is_simple relnode ≡ true
unfolding clap_on_literals
relnode_is_simple = refl

pub relnode_is_free : is_simple_and_free relnode ≡ true
unfolding clap_on_literals
relnode_is_free = refl

-- the value of an option is that of clap's meaning
pub value_is : (command : App) (words : List Text) (m : ArgMatches) (id : Text) → is_simple command ≡ true → HasMatchesOf command words m
    → first_value (found_of m) id ≡ first_of id (matches_of command words)
value_is command words m id simple has = first_value-rows (found_of m) id ∙ ap (first_of id) (has simple).0

-- clap's error, where it can only be out of memory, is reported as this
pub refusal_is : {T : Type 0} (e : Error) (r : Result T OptionsError) (P : Type 0) → (P → kind_of e ≡ OutOfMemory)
    → IsErrAnd r (λ f. f ≡ refusal_of (kind_of e)) → IfErr r (λ f. P → f ≡ refusal.NoMemory)
refusal_is e (Ok x) P only given = tt
refusal_is e (Err f) P only given = λ p. given ∙ ap refusal_of (only p)
