use Rattle.std.proofs.Common.{◌≡◌, ◌++◌, ◌+◌, ◌≤◌, ℕ, List, [], ◌∷◌, ap, arith, rules, length, length-append, length-take, subst, sym, take, ◌∙◌}
use Rattle.std.specs.Prelude.{OnOk}
use Rattle.std.proofs.lemmas.Grind.{common_steps}
use Rattle.std.proofs.lemmas.List.{take_min}
use Rattle.rel_disk.specs.Calls.{content}
use Rattle.rel_store.specs.Records.{records_of}
use Rattle.store_report.specs.Contents.{ShowsHeld, before_damage}
use Rattle.store_report.proofs.report.push_before.Goals as goal

long_before : (at : ℕ) (bytes front : List ℕ) → front ≡ before_damage at bytes → length front ≤ length bytes + 1
long_before at bytes front is = omega (arith, ap length is, length-append (take at bytes) (0 ∷ []), length-take at bytes)

pub push_held-requires-clause-seen : goal.push_held-requires-clause-seen
push_held-requires-clause-seen c = ap (λ d. content d.first d.calls) c.in_ok-disk.ensures ∙ c.as_slice.ensures.value ∙ sym c.as_slice-2.ensures.value

pub push_held-requires-clause-short : goal.push_held-requires-clause-short
push_held-requires-clause-short c =
    let cut : c.in_ok-before.before.items ≡ take c.min-end.result c.args.bytes.now = first_of (search rules, grind (arith, common_steps)) in
    let front : c.as_slice-2.result.now ≡ before_damage c.args.at c.args.bytes.now =
    c.as_slice-2.ensures.value ∙ c.in_ok-push.ensures.items ∙ ap (λ (l : List ℕ). l ++ 0 ∷ []) (cut ∙ ap (λ k. take k c.args.bytes.now) c.min-end.ensures ∙ take_min c.args.at c.args.bytes.now) in
    omega (arith, c.requires, long_before c.args.at c.args.bytes.now c.as_slice-2.result.now front)

pub returns : goal.returns
returns c =
    let cut : c.in_ok-before.before.items ≡ take c.min-end.result c.args.bytes.now = first_of (search rules, grind (arith, common_steps)) in
    let front : c.as_slice-2.result.now ≡ before_damage c.args.at c.args.bytes.now =
    c.as_slice-2.ensures.value ∙ c.in_ok-push.ensures.items ∙ ap (λ (l : List ℕ). l ++ 0 ∷ []) (cut ∙ ap (λ k. take k c.args.bytes.now) c.min-end.ensures ∙ take_min c.args.at c.args.bytes.now) in
    subst (λ bytes. OnOk c.push_held.result (ShowsHeld c.args.each_record bytes (records_of bytes) c.args.text.now.items c.push_held.new.text.items)) front c.push_held.ensures
