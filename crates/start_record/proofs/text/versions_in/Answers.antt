use Rattle.std.proofs.Common.{◌≡◌, ◌∷◌, ◌++◌, [], true, length, sym, ◌∙◌, ap, subst, rules, arith}
use Rattle.std.proofs.lemmas.Option.{MatchOption-at_none, MatchOption-at_some}
use Rattle.std.proofs.lemmas.List.{append_cancel_right}
use Rattle.std.proofs.lemmas.Str.Pattern.{split_parts, strip_suffix_char}
use Rattle.rel_files.specs.Name.{is_text}
use Rattle.start_record.specs.Text.{start_text}
use Rattle.start_record.proofs.SpellingLemmas.{is_utf8, has_space, cut_so}
use Rattle.start_record.proofs.text.versions_in.Goals.{else-is_version-via-then-is_version+else-is_version-2, else-is_version-via-else-is_version}
use Rattle.start_record.proofs.text.versions_in.Goals as goal

-- what the length counts is no text
pub returns-in_err-text_in-clause-none : goal.returns-in_err-text_in-clause-none
returns-in_err-text_in-clause-none c = λ none v spelled. c.text_in.ensures.none (search rules) (start_text v) spelled.rest (is_utf8 v spelled.versions) spelled.is

-- it has no space
pub returns-in_err-erts-clause-none : goal.returns-in_err-erts-clause-none
returns-in_err-erts-clause-none c = λ none v spelled.
    let read = c.in_ok-text_in.ensures.found in
    has_space c.args.slot.now c.in_ok-text_in.field-0.now read.0 read.1 v spelled c.split_once.result c.split_once.ensures.cases c.in_err-erts.was

-- it has no new line at its end
pub returns-in_err-vsn-clause-none : goal.returns-in_err-vsn-clause-none
returns-in_err-vsn-clause-none c = λ none v spelled.
    let read = c.in_ok-text_in.ensures.found in
    let parts = cut_so c.args.slot.now c.in_ok-text_in.field-0.now read.0 read.1 v spelled c.split_once.result c.split_once.ensures.cases c.in_ok-erts.erts c.in_ok-erts.rest c.in_ok-erts.was in
    MatchOption-at_none {o = c.strip_suffix.result} _ _ c.in_err-vsn.was (strip_suffix_char 10 c.in_ok-erts.rest.now c.strip_suffix.result c.strip_suffix.ensures.cases (omega arith)) v.vsn parts.1

pub returns-then-is_version-2-clause-found : goal.returns-then-is_version-2-clause-found
returns-then-is_version-2-clause-found c =
    let text = c.in_ok-text_in.field-0.now in
    let read = c.in_ok-text_in.ensures.found in
    let parts = (MatchOption-at_some {o = c.split_once.result} _ _ (c.in_ok-erts.erts, c.in_ok-erts.rest) c.in_ok-erts.was (split_parts 32 text c.split_once.result c.split_once.ensures.cases (omega arith))).0 in
    let ends = MatchOption-at_some {o = c.strip_suffix.result} _ _ c.in_ok-vsn.vsn c.in_ok-vsn.was (strip_suffix_char 10 c.in_ok-erts.rest.now c.strip_suffix.result c.strip_suffix.ensures.cases (omega arith)) in
    let is : text ≡ c.in_ok-erts.erts.now ++ 32 ∷ (c.in_ok-vsn.vsn.now ++ 10 ∷ []) = parts ∙ ap (λ l. c.in_ok-erts.erts.now ++ 32 ∷ l) ends in
    record {
      versions = (search rules, search rules);
      rest = read.0;
      is = subst (λ t. c.args.slot.now ≡ length t ∷ (t ++ read.0)) is read.1;
    }

-- one of the two is no version
pub returns-else-is_version-clause-none : goal.returns-else-is_version-clause-none
returns-else-is_version-clause-none c = λ none v spelled.
    let read = c.in_ok-text_in.ensures.found in
    let parts = cut_so c.args.slot.now c.in_ok-text_in.field-0.now read.0 read.1 v spelled c.split_once.result c.split_once.ensures.cases c.in_ok-erts.erts c.in_ok-erts.rest c.in_ok-erts.was in
    let ends = MatchOption-at_some {o = c.strip_suffix.result} _ _ c.in_ok-vsn.vsn c.in_ok-vsn.was (strip_suffix_char 10 c.in_ok-erts.rest.now c.strip_suffix.result c.strip_suffix.ensures.cases (omega arith)) in
    let vsn = append_cancel_right c.in_ok-vsn.vsn.now v.vsn (10 ∷ []) (sym ends ∙ parts.1) in
    let erts_is : is_text 33 c.in_ok-erts.erts.now ≡ true = ap (is_text 33) parts.0 ∙ spelled.versions.0 in
    let vsn_is : is_text 33 c.in_ok-vsn.vsn.now ≡ true = ap (is_text 33) vsn ∙ spelled.versions.1 in
    elim c.else-is_version.branch [
      | else-is_version-via-then-is_version+else-is_version-2 w ↦ (cc)
      | else-is_version-via-else-is_version w ↦ (cc)
    ]
