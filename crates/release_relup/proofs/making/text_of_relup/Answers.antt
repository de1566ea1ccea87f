use Rattle.std.proofs.Common.{◌≡◌, true, false, IsTrue, List, ℕ, rules, subst, sym, string_bytes}
use Rattle.erl_term.specs.Value.{value_of}
use Rattle.rel_files.specs.OneTermFile.{HasFileTerm}
use Rattle.relup_file.specs.Relup.{relup_of}
use Rattle.release_relup.proofs.PrintLemmas.{is_printed, is_too_deep}
use Rattle.release_relup.proofs.making.text_of_relup.Goals as goal

pub returns-then-branch-clause-printed : goal.returns-then-branch-clause-printed
returns-then-branch-clause-printed c =
    let v = value_of c.in_ok-term.term in
    let same : c.as_bytes.result.now ≡ string_bytes c.push_str.new.self = search rules in
    let branch : IsTrue c.in_ok-has_term.field-0 = search rules in
    is_printed (relup_of c.args.relup.now) v (string_bytes c.push_str.new.self) (string_bytes c.in_ok-text.text) c.in_ok-term.ensures c.in_ok-text.ensures.printed
    c.in_ok-push_str.ensures.bytes (subst (λ (b : List ℕ). HasFileTerm b v) same (c.in_ok-has_term.ensures.0 branch))

pub returns-clause-refused : goal.returns-clause-refused
returns-clause-refused c =
    let v = value_of c.in_ok-term.term in
    let same : c.as_bytes.result.now ≡ string_bytes c.push_str.new.self = search rules in
    let branch : c.in_ok-has_term.field-0 ≡ false = search rules in
    is_too_deep (relup_of c.args.relup.now) v (string_bytes c.push_str.new.self) (string_bytes c.in_ok-text.text) c.in_ok-term.ensures (c.in_ok-text.ensures.reads_back 64)
    c.in_ok-push_str.ensures.bytes
    (λ has. let yes : c.in_ok-has_term.field-0 ≡ true = c.in_ok-has_term.ensures.1 (subst (λ (b : List ℕ). HasFileTerm b v) (sym same) has) in absurd cc)
