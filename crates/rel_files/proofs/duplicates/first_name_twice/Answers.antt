use Rattle.std.proofs.Common.{◌≡◌, ◌<◌, ◌∙◌, ℕ, List, [], Bor, get_or, length, refl, sym, true, false, arith}
use Rattle.std.proofs.lemmas.List.{get_or_default}
use Rattle.rel_files.proofs.Distinct.{is_seen, twice_at, seen-more, distinct-more}
use Rattle.rel_files.proofs.duplicates.first_name_twice.Goals as goal

-- the name at a place, which is there
at : List (Bor (List ℕ)) → ℕ → Bor (List ℕ)
at ns i = get_or ns i (record { ref_ptr = (0, 0); now = [] })

there : (ns : List (Bor (List ℕ))) (i : ℕ) → i < length ns → get_or ns i (at ns i) ≡ at ns i
unfolding at
there ns i within = get_or_default ns i _ _ within

pub returns-then-not-branch : goal.returns-then-not-branch
unfolding at
returns-then-not-branch c =
    let names = c.args.names.now in
    let i = c.loop-name.name-index in
    let within : i < length names = omega arith in
    let seen : is_seen (at names i).now c.loop-name.seen.keys ≡ true = grind arith in
    twice_at names i (at names i) (at names i).now within (there names i within) refl
    c.loop-name.invariant.distinct (sym (c.loop-name.invariant.seen (at names i).now) ∙ seen)

pub loop-name-preserved : goal.loop-name-preserved
unfolding at
loop-name-preserved c =
    let names = c.args.names.now in
    let i = c.loop-name.name-index in
    let within : i < length names = omega arith in
    let new : is_seen (at names i).now c.loop-name.seen.keys ≡ false = grind arith in
    record {
      seen = seen-more names i (at names i) (at names i) _ _ within (there names i within) refl
          c.loop-name.invariant.seen c.in_ok-insert.ensures.keys;
      distinct = distinct-more names i (at names i) (at names i).now within (there names i within) refl
          c.loop-name.invariant.distinct (sym (c.loop-name.invariant.seen (at names i).now) ∙ new);
    }
