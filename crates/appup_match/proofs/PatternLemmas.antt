-- What the contracts of `regex` say of a text, as `regular_expression` has it.
use Rattle.std.proofs.Common.{◌≡◌, ◌≢◌, ℕ, ◌<◌, ◌≤◌, true, false, List, length, Option, None, Some, IsSome, IsSomeAnd, IfSome, option_map, refl, sym, ap, ◌∙◌, arith, get_or, ⊎_elim, ◌⊎◌, IsUtf8}
use Rattle.std.proofs.lemmas.Bool.{cases_Bool, cond-true, le-leb}
use Rattle.std.proofs.lemmas.Bool.Decides.{nat_tests}
use Rattle.std.proofs.lemmas.Str.{IsUtf8-from_is_utf8, is_utf8-from_IsUtf8}
use Rattle.std.specs.Option.{option_and_then}
use Rattle.std.specs.Str.{is_utf8, chars}
use Rattle.regex_syntax.specs.Brackets.{Nested}
use Rattle.regex_syntax.specs.Grammar.{Names, read, group_count}
use Rattle.regex_syntax.specs.declared.error.ErrorKind.{ErrorKind}
use Rattle.regex_syntax.specs.declared.error.ErrorKind.TheVariants.{OutOfMemory}
use Rattle.regex.specs.Patterns.{Re, find_str, span, default_config, SameCaptures, Reads, Refuses}
use Rattle.regex.specs.Failures.{IsPattern}
use Rattle.regex.specs.Strings.{regex_pattern, regex_source, regex_config, IsReadFromSource}
use Rattle.regex.specs.declared.string.regex.Regex.{Regex}
use Rattle.regex.proofs.ForCallers.{span_alike}
use Rattle.appup_match.specs.Match.{within_nesting, regular_expression, text_verdict, is_whole}

-- bytes that aren't UTF-8
pub none_without_utf8 : (bs : List ℕ) → (IsUtf8 bs → ⊥) → regular_expression bs ≡ None
none_without_utf8 bs h =
    ⊎_elim
    (λ (is_text : is_utf8 bs ≡ true). absurd (h (IsUtf8-from_is_utf8 bs is_text)))
    (λ (is_none : is_utf8 bs ≡ false). rw is_none)
    (cases_Bool (is_utf8 bs))

reading : (bs : List ℕ) → IsUtf8 bs → regular_expression bs ≡ option_and_then within_nesting (read default_config (chars bs))
reading bs h = rw (is_utf8-from_IsUtf8 bs h)

of_read : (o : Option (Nested Re × Names)) (a : Re) (names : Names) →
    IsSomeAnd o (λ (re, found). (re.depth ≤ default_config.nest_limit) × SameCaptures a re.value × (names ≡ found) × (group_count a ≤ length names)) →
    (re : Re) × (option_and_then within_nesting o ≡ Some re) × SameCaptures a re
of_read None a names p = absurd p
of_read (Some found) a names p = (found.0.value, cond-true _ (Some found.0.value) None (le-leb _ _ p.0), p.1)

too_deep : (o : Option (Nested Re × Names)) → IfSome o (λ (re, found). default_config.nest_limit < re.depth) → option_and_then within_nesting o ≡ None
too_deep None p = refl
too_deep (Some found) p = grind (arith, nat_tests)

-- a text that is refused
pub none_of_refusal : (bs : List ℕ) (kind : ErrorKind) → IsUtf8 bs → Refuses default_config bs kind → kind ≢ OutOfMemory → regular_expression bs ≡ None
unfolding Refuses
none_of_refusal bs kind utf8 p not_memory =
    reading bs utf8
    ∙ ⊎_elim (λ memory. absurd (not_memory memory)) (λ q. ⊎_elim (λ none. rw none) (λ deep. too_deep _ deep.1) q) p

-- a text that is taken
pub some_of_pattern : (bs : List ℕ) → IsUtf8 bs → IsPattern default_config bs → IsSome (regular_expression bs)
unfolding Reads
some_of_pattern bs utf8 p = let r = of_read _ _ _ p.2 in rw (reading bs utf8, r.1)

-- what a search by the compiled pattern tells
pub verdict_of_search : (r : Regex) (bs vsn : List ℕ) → IsUtf8 bs → regex_source r ≡ bs → regex_config r ≡ default_config → IsReadFromSource r →
    ((k : ℕ) → get_or vsn k 0 < 256) → text_verdict vsn bs ≡ Some (is_whole vsn (option_map span (find_str (regex_pattern r) vsn 0)))
unfolding Reads
verdict_of_search r bs vsn utf8 is_source is_default is_read bytes =
    let found = of_read _ _ _ (rw (is_source, is_default) at is_read) in
    rw (reading bs utf8, found.1) (ap (λ o. Some (is_whole vsn o)) (sym (span_alike found.2 vsn bytes true 0)))
