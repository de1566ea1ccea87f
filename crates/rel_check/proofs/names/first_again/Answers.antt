use Rattle.std.proofs.Common.{◌≡◌, ◌∷◌, ◌+◌, map, drop, true, false, sym, ap, ◌∙◌, arith}
use Rattle.std.proofs.lemmas.List.{drop_more}
use Rattle.rel_files.proofs.Distinct.{is_seen}
use Rattle.rel_check.specs.InMemory.{named_of}
use Rattle.rel_check.specs.Names.{first_again}
use Rattle.rel_check.proofs.Seen.{met_after, met_again, met_one_more}
use Rattle.rel_check.proofs.names.first_again.Goals as goal

pub returns-then-not-branch : goal.returns-then-not-branch
returns-then-not-branch c =
    let names = c.args.names.now in
    let later = drop (c.loop-named.named-index + 1) names in
    let split : drop c.loop-named.named-index names ≡ c.named-item.result ∷ later =
    drop_more names c.loop-named.named-index c.named-item.result c.loop-named-test.true ∙ ap (λ m. m ∷ later) (sym c.named-item.is) in
    let met : is_seen c.named-item.result.name.now c.loop-named.seen.keys ≡ true = grind arith in
    met_again (λ n. is_seen n c.loop-named.seen.keys) (map named_of (drop c.loop-named.named-index names)) (map named_of later) (named_of c.named-item.result)
    (first_again (map named_of names)) (ap (map named_of) split) met c.loop-named.invariant

pub loop-named-preserved : goal.loop-named-preserved
loop-named-preserved c =
    let names = c.args.names.now in
    let later = drop (c.loop-named.named-index + 1) names in
    let split : drop c.loop-named.named-index names ≡ c.named-item.result ∷ later =
    drop_more names c.loop-named.named-index c.named-item.result c.loop-named-test.true ∙ ap (λ m. m ∷ later) (sym c.named-item.is) in
    let new : is_seen c.named-item.result.name.now c.loop-named.seen.keys ≡ false = grind arith in
    met_one_more (λ n. is_seen n c.loop-named.seen.keys) (λ n. is_seen n c.insert.new.self.keys) (map named_of (drop c.loop-named.named-index names)) (map named_of later) (named_of c.named-item.result)
    (first_again (map named_of names)) (ap (map named_of) split) new
    (λ m. met_after c.named-item.result.name.now m _ _ (c.in_ok-insert.ensures.updates.0 (record { ref_ptr = (0, 0); now = m })))
    c.loop-named.invariant
