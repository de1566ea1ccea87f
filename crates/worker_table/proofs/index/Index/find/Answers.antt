use Rattle.std.proofs.Common.{rules, ◌≡◌, ◌<◌, ◌≤◌, ◌+◌, ◌-◌, ◌*◌, ◌^◌, suc, arith, length, map, inl, ⊎_elim, sym, ap, subst, ◌∙◌}
use Rattle.std.proofs.lemmas.List.{length-map}
use Rattle.worker_table.specs.Keys.{IsRising, number_at}
use Rattle.worker_table.specs.Stored.{row_of}
use Rattle.worker_table.proofs.SearchLemmas.{IsHalved, IsNarrowed, entry_at, found, go_above, go_below, halve, missed, row_at, spares_one, spends_few}
use Rattle.worker_table.proofs.index.Index.find.Goals as goal

pub order_of-requires : goal.order_of-requires
order_of-requires g c =
    let rows = map row_of c.as_slice-entries.result.now in
    let few : length rows < 2 ^ 64 = search (rules, length-map c.as_slice-entries.result.now row_of) in
    let spare = spares_one (length rows) (c.loop-low.high - c.loop-low.low) (c.loop-low.ticks - c.args.ticks.now) few (omega (arith, c.loop-low-test.true)) c.loop-low.invariant.2 in
    omega (arith, spare, c.requires, c.loop-low.invariant.1)

pub loop-low-preserved-in-Less : goal.loop-low-preserved-in-Less
loop-low-preserved-in-Less g c =
    let entries = c.as_slice-entries.result.now in
    let rows = map row_of entries in
    let low = c.loop-low.low in
    let at = c.middle-at.result in
    let narrow = c.loop-low.invariant.0 in
    let rising = subst (λ l. IsRising (map row_of l)) (sym c.as_slice-entries.ensures.value) c.self.invariant in
    let within : at < length entries = omega (arith, c.middle-at.ensures.within, narrow.within, length-map entries row_of) in
    let spent : c.order_of.new.ticks - c.args.ticks.now ≡ suc (c.loop-low.ticks - c.args.ticks.now) = omega (arith, c.order_of.ensures.ticks, c.loop-low.invariant.1) in (
      go_below c.args.wanted rows low c.loop-low.high at (row_of (entry_at entries at)) rising narrow c.middle-at.ensures.within.0 (omega (arith, c.middle-at.ensures.within.1, c.loop-low-test.true)) (row_at entries at within) (sym c.order_of.ensures.order ∙ c.in-Less.is),
      omega (arith, c.order_of.ensures.ticks, c.loop-low.invariant.1),
      subst (λ n. IsHalved (length rows) (at - low) n) (sym spent) (halve (length rows) (c.loop-low.high - low) (at - low) _ (omega (arith, c.loop-low-test.true)) (omega (arith, c.middle-at.ensures.halves.0)) c.loop-low.invariant.2),
      inl (omega (arith, c.order_of.ensures.ticks, c.loop-low.invariant.1)),
    )

pub returns-in-Equal-clause-found : goal.returns-in-Equal-clause-found
returns-in-Equal-clause-found g c =
    let entries = c.as_slice-entries.result.now in
    let at = c.middle-at.result in
    let narrow = c.loop-low.invariant.0 in
    let rising = subst (λ l. IsRising (map row_of l)) (sym c.as_slice-entries.ensures.value) c.self.invariant in
    let within : at < length entries = omega (arith, c.middle-at.ensures.within, narrow.within, length-map entries row_of) in
    found c.args.wanted (map row_of entries) at (row_of (entry_at entries at)) rising (row_at entries at within) (sym c.order_of.ensures.order ∙ c.in-Equal.is)
    ∙ ap (number_at c.args.wanted) (ap (map row_of) c.as_slice-entries.ensures.value ∙ c.self.view_is)

pub returns-in-Equal-clause-cost : goal.returns-in-Equal-clause-cost
returns-in-Equal-clause-cost g c =
    let rows = map row_of c.as_slice-entries.result.now in
    let spent : c.order_of.new.ticks - c.args.ticks.now ≡ suc (c.loop-low.ticks - c.args.ticks.now) = omega (arith, c.order_of.ensures.ticks, c.loop-low.invariant.1) in
    let halved = halve (length rows) (c.loop-low.high - c.loop-low.low) 0 _ (omega (arith, c.loop-low-test.true)) (omega arith) c.loop-low.invariant.2 in
    subst (λ l. 2 ^ (c.order_of.new.ticks - c.args.ticks.now) ≤ 2 * length l + 1) (ap (map row_of) c.as_slice-entries.ensures.value ∙ c.self.view_is)
    (subst (λ n. 2 ^ n ≤ 2 * length rows + 1) (sym spent) halved.cost)

pub returns-in-Equal-clause-bound : goal.returns-in-Equal-clause-bound
returns-in-Equal-clause-bound g c =
    let rows = map row_of c.as_slice-entries.result.now in
    let few : length rows < 2 ^ 64 = search (rules, length-map c.as_slice-entries.result.now row_of) in
    let spare = spares_one (length rows) (c.loop-low.high - c.loop-low.low) (c.loop-low.ticks - c.args.ticks.now) few (omega (arith, c.loop-low-test.true)) c.loop-low.invariant.2 in
    (omega (arith, c.order_of.ensures.ticks, c.loop-low.invariant.1), omega (arith, spare, c.order_of.ensures.ticks, c.loop-low.invariant.1))

pub loop-low-preserved : goal.loop-low-preserved
loop-low-preserved g c =
    let entries = c.as_slice-entries.result.now in
    let rows = map row_of entries in
    let low = c.loop-low.low in
    let at = c.middle-at.result in
    let narrow = c.loop-low.invariant.0 in
    let rising = subst (λ l. IsRising (map row_of l)) (sym c.as_slice-entries.ensures.value) c.self.invariant in
    let within : at < length entries = omega (arith, c.middle-at.ensures.within, narrow.within, length-map entries row_of) in
    let spent : c.order_of.new.ticks - c.args.ticks.now ≡ suc (c.loop-low.ticks - c.args.ticks.now) = omega (arith, c.order_of.ensures.ticks, c.loop-low.invariant.1) in (
      go_above c.args.wanted rows low c.loop-low.high at (row_of (entry_at entries at)) rising narrow c.middle-at.ensures.within.0 (omega (arith, c.middle-at.ensures.within.1, c.loop-low-test.true)) (row_at entries at within) (sym c.order_of.ensures.order ∙ c.in-Greater.is),
      omega (arith, c.order_of.ensures.ticks, c.loop-low.invariant.1),
      subst (λ n. IsHalved (length rows) (c.loop-low.high - (at + 1)) n) (sym spent) (halve (length rows) (c.loop-low.high - low) (c.loop-low.high - (at + 1)) _ (omega (arith, c.loop-low-test.true)) (omega (arith, c.middle-at.ensures.halves.1)) c.loop-low.invariant.2),
      inl (omega (arith, c.order_of.ensures.ticks, c.loop-low.invariant.1)),
    )

pub returns-clause-found : goal.returns-clause-found
returns-clause-found g c =
    let rows = map row_of c.as_slice-entries.result.now in
    let narrow = c.loop-low.invariant.0 in
    let rising = subst (λ l. IsRising (map row_of l)) (sym c.as_slice-entries.ensures.value) c.self.invariant in
    let met : c.loop-low.high ≡ c.loop-low.low = omega (arith, c.loop-low-test.false, narrow.ordered) in
    missed c.args.wanted rows c.loop-low.low rising (subst (λ n. IsNarrowed c.args.wanted rows c.loop-low.low n) met narrow)
    ∙ ap (number_at c.args.wanted) (ap (map row_of) c.as_slice-entries.ensures.value ∙ c.self.view_is)

pub returns-clause-bound : goal.returns-clause-bound
returns-clause-bound g c =
    let rows = map row_of c.as_slice-entries.result.now in
    let few : length rows < 2 ^ 64 = search (rules, length-map c.as_slice-entries.result.now row_of) in
    let all = spends_few (length rows) (c.loop-low.high - c.loop-low.low) (c.loop-low.ticks - c.args.ticks.now) few c.loop-low.invariant.2 in
    (c.loop-low.invariant.1, omega (arith, all, c.loop-low.invariant.1))

pub returns-clause-least : goal.returns-clause-least
returns-clause-least g c some =
    let size : length (map row_of c.as_slice-entries.result.now) ≡ length c.args.self.now = ap length (ap (map row_of) c.as_slice-entries.ensures.value ∙ c.self.view_is) in
    ⊎_elim (λ more. more) (λ all. let low = all.0 in let high = all.1 in absurd (omega (arith, c.loop-low-test.false))) c.loop-low.invariant.3
