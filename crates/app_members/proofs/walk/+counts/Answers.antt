use Rattle.std.proofs.Common.{◌≡◌, suc, ◌∷◌, ◌+◌, map, drop, length, Some, sym, ap, subst, refl, ◌∙◌, add-zero, arith, length-append}
use Rattle.std.specs.List.{flat_map}
use Rattle.std.specs.Option.{option_map}
use Rattle.std.proofs.lemmas.List.{drop_more, drop_all}
use Rattle.mod_table.specs.declared.table.Table.TheVariants.{Super}
use Rattle.mod_table.specs.InMemory.{child_of}
use Rattle.mod_table.specs.Tables.{first_of}
use Rattle.app_members.specs.InMemory.{Counts, FaultIs, IsBelow, counted}
use Rattle.loaded_modules.specs.Loaded.{modules_in, tables_of}
use Rattle.app_members.specs.Walk.{child_fault, child_members, children_fault, children_members, fault_from, members_from}
use Rattle.mod_table.proofs.ChildTables.{of_kind_is_found}
use Rattle.app_members.proofs.WalkLemmas.{none_left, deepest, fault_below, members_one_below, no_fault_here, fault_passed, count_known, count_noted, one_counted, more_counted, fits_so, passed_on}
use Rattle.app_members.proofs.walk.+counts.Goals as goal

pub count_child-returns-in-Some-known_through-clause-counts : goal.count_child-returns-in-Some-known_through-clause-counts
count_child-returns-in-Some-known_through-clause-counts t c =
    let left = c.args.left in
    let tables = tables_of (modules_in c.args.loaded.now) in
    let child = child_of c.args.child.now in
    let s = c.in-Super.supervisor in
    let at = sym c.child_table.ensures ∙ (ap (option_map (λ t. t.now)) c.in-Some.is ∙ ap Some c.in-Super.is) in
    let there = ap tables c.as_str-name.ensures.value ∙ of_kind_is_found child.kind (tables child.start) (Super s) at in
    let known = count_known tables c.args.noted.now c.as_str-name.result.now left c.in-Some-known_through.known s c.requires there (sym c.known_through.ensures ∙ c.in-Some-known_through.is) in (
      ap (child_fault (children_fault left tables) child) at ∙ known.sound,
      λ depth. c.saturating_add.ensures
          ∙ (one_counted (length (children_members left tables (suc depth) s.children)) c.in-Some-known_through.known (known.members (suc depth))
          ∙ ap (λ o. counted (length (child_members (children_members left tables (suc depth)) depth child o))) (sym at)),
    )

pub count_child-returns-clause-noted : goal.count_child-returns-clause-noted
count_child-returns-clause-noted t c =
    let left = c.args.left in
    let tables = tables_of (modules_in c.args.loaded.now) in
    let child = child_of c.args.child.now in
    let s = c.in-Super.supervisor in
    let at = sym c.child_table.ensures ∙ (ap (option_map (λ t. t.now)) c.in-Some.is ∙ ap Some c.in-Super.is) in
    let there = ap tables c.as_str-name.ensures.value ∙ of_kind_is_found child.kind (tables child.start) (Super s) at in
    let counts = c.in_ok-members.ensures.counts in
    let below : IsBelow tables s.children (record { through = left; members = c.in_ok-members.members }) = record {
      sound = ap (children_fault left tables) (sym c.children.ensures) ∙ counts.0;
      members = λ depth. counts.1 depth ∙ ap (λ cs. counted (length (children_members left tables depth cs))) c.children.ensures;
    } in
    count_noted tables c.count_children.new.noted c.note.new.noted c.as_str-name.result.now _ s there below c.in_ok-note.ensures c.in_ok-members.ensures.noted

pub count_child-returns-clause-counts : goal.count_child-returns-clause-counts
count_child-returns-clause-counts t c =
    let left = c.args.left in
    let tables = tables_of (modules_in c.args.loaded.now) in
    let child = child_of c.args.child.now in
    let s = c.in-Super.supervisor in
    let at = sym c.child_table.ensures ∙ (ap (option_map (λ t. t.now)) c.in-Some.is ∙ ap Some c.in-Super.is) in
    let counts = c.in_ok-members.ensures.counts in (
      ap (child_fault (children_fault left tables) child) at ∙ (ap (children_fault left tables) (sym c.children.ensures) ∙ counts.0),
      λ depth. c.saturating_add-2.ensures
          ∙ (one_counted (length (children_members left tables (suc depth) s.children)) c.in_ok-members.members
          (counts.1 (suc depth) ∙ ap (λ cs. counted (length (children_members left tables (suc depth) cs))) c.children.ensures)
          ∙ ap (λ o. counted (length (child_members (children_members left tables (suc depth)) depth child o))) (sym at)),
    )

pub count_children-returns-in_default-clause-counts : goal.count_children-returns-in_default-clause-counts
count_children-returns-in_default-clause-counts t c =
    deepest (tables_of (modules_in c.args.loaded.now)) c.args.left (map child_of c.args.children.now) (none_left c.args.left c.in_default.ensures)

pub count_children-returns-in_err-more-clause-counts : goal.count_children-returns-in_err-more-clause-counts
count_children-returns-in_err-more-clause-counts t c =
    let children = c.args.children.now in
    let below = c.in-Some.below in
    let tables = tables_of (modules_in c.args.loaded.now) in
    let later = drop (c.loop-child.child-index + 1) children in
    let child = child_of c.child-item.result in
    let e = c.in_err-more.field-0.0 in
    let split : drop c.loop-child.child-index children ≡ c.child-item.result ∷ later =
    drop_more children c.loop-child.child-index c.child-item.result c.loop-child-test.true ∙ ap (λ m. m ∷ later) (sym c.child-item.is) in
    let whole = fault_below tables c.args.left below (map child_of children) (omega (arith, c.in-Some.ensures.0, c.in-Some.ensures.1)) in
    passed_on (Counts (children_fault c.args.left tables (map child_of children)) (λ depth. children_members c.args.left tables depth (map child_of children)))
    c.from_residual.result e c.from_residual.ensures
    (subst (FaultIs e) (sym whole)
    (fault_passed (fault_from below tables) (map child_of (drop c.loop-child.child-index children)) (map child_of later) child _ e (ap (map child_of) split) c.loop-child.invariant.fault
    c.in_err-more.ensures.counts))

pub count_children-loop-child-preserved : goal.count_children-loop-child-preserved
count_children-loop-child-preserved t c =
    let children = c.args.children.now in
    let below = c.in-Some.below in
    let tables = tables_of (modules_in c.args.loaded.now) in
    let later = drop (c.loop-child.child-index + 1) children in
    let child = child_of c.child-item.result in
    let split : drop c.loop-child.child-index children ≡ c.child-item.result ∷ later =
    drop_more children c.loop-child.child-index c.child-item.result c.loop-child-test.true ∙ ap (λ m. m ∷ later) (sym c.child-item.is) in
    let counts = c.in_ok-more.ensures.counts in record {
      noted = c.in_ok-more.ensures.noted;
      fits = fits_so _ _ c.saturating_add-count.ensures;
      fault = no_fault_here (fault_from below tables) (map child_of (drop c.loop-child.child-index children)) (map child_of later) child _ _ (ap (map child_of) split)
          counts.0 refl c.loop-child.invariant.fault;
      counts = λ depth.
          let one = members_from below tables depth in
          let sum = ap (λ cs. length (flat_map one (map child_of cs))) split ∙ length-append (one child) (flat_map one (map child_of later)) in
          more_counted c.loop-child.count c.saturating_add-count.result c.in_ok-more.more (length (one child)) (length (flat_map one (map child_of later))) _
          (ap (λ n. counted (c.loop-child.count + n)) (sym sum) ∙ c.loop-child.invariant.counts depth) (counts.1 depth) c.saturating_add-count.ensures;
    }

pub count_children-returns-clause-counts : goal.count_children-returns-clause-counts
count_children-returns-clause-counts t c =
    let children = c.args.children.now in
    let below = c.in-Some.below in
    let tables = tables_of (modules_in c.args.loaded.now) in
    let fault = fault_from below tables in
    let past = c.loop-child-test.false in
    let one_less : c.args.left ≡ below + 1 = omega (arith, c.in-Some.ensures.0, c.in-Some.ensures.1) in
    let none = drop_all c.loop-child.child-index children (omega (arith, past)) in (
      fault_below tables c.args.left below (map child_of children) one_less
          ∙ (sym c.loop-child.invariant.fault ∙ ap (λ cs. first_of fault (map child_of cs)) none),
      λ depth.
          let all = ap (λ ms. counted (length ms)) (members_one_below tables c.args.left below depth (map child_of children) one_less) in
          let left : counted (c.loop-child.count + 0) ≡ _ = ap (λ cs. counted (c.loop-child.count + length (flat_map (members_from below tables depth) (map child_of cs)))) (sym none) ∙ c.loop-child.invariant.counts depth in
          c.loop-child.invariant.fits ∙ (ap counted (sym (add-zero c.loop-child.count)) ∙ (left ∙ sym all)),
    )
