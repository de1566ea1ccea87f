use Rattle.std.proofs.Common.{◌≡◌, ◌∷◌, ◌++◌, length, drop, IsNone, sym, subst, arith, rules}
use Rattle.std.specs.Str.{IsUtf8}
use Rattle.start_record.proofs.SpellingLemmas.{behind_length, ok_some, ok_none, same_text}
use Rattle.start_record.proofs.text.text_in.Goals as goal

pub returns-clause-found : goal.returns-clause-found
returns-clause-found c =
    let found = c.in_ok-get.ensures.lookup.0 in
    let bytes = c.in_ok-get.field-0.now in
    let parts = behind_length c.args.slot.now bytes c.from-len.result c.told-slot (search rules) (omega (arith, found.1, c.told-slot)) found.2 in
    rw c.ok.ensures.value (ok_some c.from_utf8.result _ _ _ c.from_utf8.ensures.cases (λ s is.
    (drop c.from-len.result (drop 1 c.args.slot.now), subst (λ t. c.args.slot.now ≡ length t ∷ (t ++ drop c.from-len.result (drop 1 c.args.slot.now))) (sym is.0) parts)))

pub returns-clause-none : goal.returns-clause-none
returns-clause-none c = λ none text rest is_text is.
    let found = c.in_ok-get.ensures.lookup.0 in
    let bytes = c.in_ok-get.field-0.now in
    let parts = behind_length c.args.slot.now bytes c.from-len.result c.told-slot (search rules) (omega (arith, found.1, c.told-slot)) found.2 in
    let (e, bad) = ok_none c.from_utf8.result _ _ c.from_utf8.ensures.cases (subst IsNone c.ok.ensures.value none) in
    bad.0 (subst IsUtf8 (same_text c.args.slot.now text rest bytes _ is parts) is_text)
