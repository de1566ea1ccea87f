-- Where a missing module is named.
use Rattle.std.proofs.Common.{◌≡◌, ℕ, zero, suc, Bool, true, false, List, [], ◌∷◌, Option, None, Some, Contains, if◌then◌else◌, refl, sym, ap, subst, ◌∙◌}
use Rattle.std.specs.Option.{option_or, option_and_then}
use Rattle.std.specs.Str.{bytes_eq}
use Rattle.mod_table.specs.declared.table.Table.{Table}
use Rattle.mod_table.specs.declared.table.Table.TheVariants.{Worker, Super}
use Rattle.mod_table.specs.Table.{ChildSpec}
use Rattle.rel_check.specs.Modules.{Part, Module, table_of, modules_in}
use Rattle.mod_table.specs.Tables.{first_of, child_table}
use Rattle.rel_check.specs.Walk.{missing_at, missing_below, is_started, top_of, missing_from, part_missing, tables_of}
use Rattle.rel_check.specs.Laws.{IsNamedIn, MissingIsNamed}
use Rattle.rel_check.specs.Laws.IsNamedIn.{as_top, as_child}
use Rattle.mod_table.proofs.ChildTables.{of_kind_is_found}
use Rattle.rel_check.proofs.Members.{first_member, later_member}

-- what is found of a list is found of a member
found_of : {X Y : Type 0} (f : X → Option Y) (xs : List X) (y : Y) → first_of f xs ≡ Some y → (x : X) × Contains xs x × (f x ≡ Some y)
found_of f [] y found = absurd cc
found_of {X} {Y} f (x ∷ xs) y found = go (f x) refl (found_of f xs y)
  where
    go : (o : Option Y) → f x ≡ o → (first_of f xs ≡ Some y → (z : X) × Contains xs z × (f z ≡ Some y)) → (z : X) × Contains (x ∷ xs) z × (f z ≡ Some y)
    go None is rest =
        let (z, member, at) = rest (ap (λ o. option_or o (first_of f xs)) (sym is) ∙ found) in
        (z, later_member x xs z member, at)
    go (Some w) is rest =
        let here : Some w ≡ Some y = ap (λ o. option_or o (first_of f xs)) (sym is) ∙ found in
        (x, first_member x xs, is ∙ here)

-- a table that is found is that of a module
table_found : (ms : List Module) (q : List ℕ) (t : Table) → table_of ms q ≡ Some t → (m : Module) × Contains ms m × (m.table ≡ Some t)
table_found [] q t found = absurd cc
table_found (x ∷ ms) q t found = go (table_of ms q) refl (bytes_eq x.name q) refl (table_found ms q t)
  where
    go : (o : Option Table) → table_of ms q ≡ o → (b : Bool) → bytes_eq x.name q ≡ b → (table_of ms q ≡ Some t → (m : Module) × Contains ms m × (m.table ≡ Some t))
        → (m : Module) × Contains (x ∷ ms) m × (m.table ≡ Some t)
    go (Some u) is b at rest =
        let (m, member, table) = rest (is ∙ (ap (λ o. option_or o (if bytes_eq x.name q then x.table else None)) (sym is) ∙ found)) in
        (m, later_member x ms m member, table)
    go None is true at rest =
        (x, first_member x ms, (λ j. option_or (sym is j) (if sym at j then x.table else None)) ∙ found)
    go None is false at rest =
        let lost : None ≡ Some t = (λ j. option_or (sym is j) (if sym at j then x.table else None)) ∙ found in absurd cc

IsTableIn : List Part → Table → Type 0
IsTableIn ps t = (m : Module) × Contains (modules_in ps) m × (m.table ≡ Some t)

-- a module that is missing below a table of the release
named_below : (ps : List Part) (n : ℕ) (t : Table) (q : List ℕ) → IsTableIn ps t → missing_below n (tables_of ps) t ≡ Some q → IsNamedIn ps q
unfolding IsTableIn missing_below
named_below ps zero (Worker w) q there missing = absurd cc
named_below ps zero (Super s) q there missing = absurd cc
named_below ps (suc n) (Worker w) q there missing = absurd cc
named_below ps (suc n) (Super s) q (m, member, table) missing =
    let (c, child, at) = found_of (λ (d : ChildSpec). missing_at (missing_below n (tables_of ps)) d.start (child_table (tables_of ps) d)) s.children q missing in
    go c child (child_table (tables_of ps) c) refl at (named_below ps n)
  where
    go : (c : ChildSpec) → Contains s.children c → (o : Option Table) → child_table (tables_of ps) c ≡ o → missing_at (missing_below n (tables_of ps)) c.start (child_table (tables_of ps) c) ≡ Some q
        → ((t : Table) (p : List ℕ) → IsTableIn ps t → missing_below n (tables_of ps) t ≡ Some p → IsNamedIn ps p) → IsNamedIn ps q
    go c child None is at below =
        let same : Some c.start ≡ Some q = ap (missing_at (missing_below n (tables_of ps)) c.start) (sym is) ∙ at in
        let here : c.start ≡ q = cc in
        subst (IsNamedIn ps) here (as_child m s c member table child)
    go c child (Some t) is at below =
        below t q (table_found (modules_in ps) c.start t (of_kind_is_found c.kind (tables_of ps c.start) t is))
        (ap (missing_at (missing_below n (tables_of ps)) c.start) (sym is) ∙ at)

-- a top that is named is that of the file
top_is : (p : Part) (m : List ℕ) → top_of p ≡ Some m → p.library.app.top ≡ Some m
top_is p m is = go (is_started p.app.start) refl
  where
    go : (b : Bool) → is_started p.app.start ≡ b → p.library.app.top ≡ Some m
    go true at = ap (λ b. if b then p.library.app.top else None) (sym at) ∙ is
    go false at = let lost : None ≡ Some m = ap (λ b. if b then p.library.app.top else None) (sym at) ∙ is in absurd cc

-- a module that is missing from the top of an application on
named_from : (ps : List Part) (p : Part) (q : List ℕ) → Contains ps p → part_missing (tables_of ps) p ≡ Some q → IsNamedIn ps q
unfolding IsTableIn
named_from ps p q member missing = go (top_of p) refl
  where
    at_top : (m : List ℕ) → top_of p ≡ Some m → (o : Option Table) → tables_of ps m ≡ o → missing_from (tables_of ps) m o ≡ Some q → IsNamedIn ps q
    at_top m top None found at = absurd cc
    at_top m top (Some (Worker w)) found at =
        let here : m ≡ q = cc in
        subst (IsNamedIn ps) here (as_top p m member (top_is p m top))
    at_top m top (Some (Super s)) found at = named_below ps 8 (Super s) q (table_found (modules_in ps) m (Super s) found) at

    go : (o : Option (List ℕ)) → top_of p ≡ o → IsNamedIn ps q
    go None top = let lost : None ≡ Some q = ap (λ o. option_and_then (λ m. missing_from (tables_of ps) m (tables_of ps m)) o) (sym top) ∙ missing in absurd cc
    go (Some m) top = at_top m top (tables_of ps m) refl (ap (λ o. option_and_then (λ m. missing_from (tables_of ps) m (tables_of ps m)) o) (sym top) ∙ missing)

pub missing_named : MissingIsNamed
missing_named ps q missing =
    let (p, member, at) = found_of (part_missing (tables_of ps)) ps q missing in
    named_from ps p q member at
