-- The modules that the files of an application name have names.
use Rattle.std.proofs.Common.{◌≡◌, ℕ, Bool, true, false, List, [], ◌∷◌, Option, Some, None, codes, ap, subst, ◌∙◌}
use Rattle.std.specs.Prelude.{◌&&◌, if◌then◌else◌}
use Rattle.std.specs.List.{AllByRecursion}
use Rattle.std.specs.Option.{option_map, option_and_then}
use Rattle.std.specs.Str.{bytes_eq}
use Rattle.erl_term.specs.Value.{Value, Values}
use Rattle.erl_term.specs.Value.Value.{tuple}
use Rattle.erl_term.specs.Value.Values.{no_values, value}
use Rattle.rel_files.specs.Name.{IsName}
use Rattle.rel_files.specs.Parts.{list_in, pair_in, three, word_in}
use Rattle.rel_files.specs.Sketch.{name_in, names_of, version_or_empty}
use Rattle.rel_files.proofs.Options.{mapped, chained}
use Rattle.rel_files.proofs.Texts.{from_names}
use Rattle.rel_files.specs.AppFile.{Specification, specification_in, with_term}
use Rattle.rel_files.specs.AppParts.{Entries, Contents, contents, contents_in, entries_in, modules_at, module_in, names_none, top_at, value_at, vsn_in}
use Rattle.mod_table.specs.declared.child.ChildKind.{ChildKind}
use Rattle.mod_table.specs.declared.child.Restart.{Restart}
use Rattle.mod_table.specs.declared.table.Table.TheVariants.{Worker, Super}
use Rattle.mod_table.specs.Children.{ChildParts, child_in, child_of_parts, child_parts, children_in, is_shutdown, kind_in, lists_only, restart_in, start_in}
use Rattle.mod_table.specs.File.{table_in}
use Rattle.worker_table.specs.Headed.{worker_in}
use Rattle.mod_table.specs.Headed.{super_in}
use Rattle.worker_table.specs.Parts.{tagged_in}
use Rattle.mod_table.specs.Table.{ChildSpec, SuperTable}

-- what is read as a name is one
named : (v : Value) (s : List ℕ) → name_in v ≡ Some s → IsName s
named v s is =
    let alone : names_of (value v no_values) ≡ Some (s ∷ []) = ap (λ (o : Option (List ℕ)). option_and_then (λ n. option_map (λ ns. n ∷ ns) (Some [])) o) is in
    (from_names (value v no_values) (s ∷ []) alone).1.0

-- The modules that a `.app` file lists have names.
modules_named : (o : Option Value) (ms : List (List ℕ)) → modules_at o ≡ Some ms → AllByRecursion IsName ms
modules_named None ms is = let same : [] ≡ ms = cc in subst (AllByRecursion IsName) same tt
modules_named (Some v) ms is =
    let (vs, listed, names) = chained names_of (list_in v) ms is in
    (from_names vs ms names).1

top_named : (o : Option Value) (top : Option (List ℕ)) → top_at o ≡ Some top → (m : List ℕ) → top ≡ Some m → IsName m
top_named None top is m has =
    let none : None ≡ top = cc in
    let never : None ≡ Some m = none ∙ has in absurd cc
top_named (Some v) top is m has = go (names_none v) is
  where
    go : (b : Bool) → (if b then Some None else option_map Some (module_in v)) ≡ Some top → IsName m
    go true at =
        let none : None ≡ top = cc in
        let never : None ≡ Some m = none ∙ has in absurd cc
    go false at =
        let (n, found, is_top) = mapped Some (module_in v) top at in
        let (p, pair, name) = chained (λ (p : Value × Value). name_in p.0) (pair_in v) n found in
        let same : Some n ≡ Some m = is_top ∙ has in
        let one : n ≡ m = cc in
        subst IsName one (named p.0 n name)

pub record NamesModules (s : Specification) : Type 0 where
  pub modules : AllByRecursion IsName s.modules
  pub top : (m : List ℕ) → s.top ≡ Some m → IsName m

pub application_names : (v : Value) (s : Specification) → specification_in v ≡ Some s → NamesModules s
application_names v s is =
    let (c, has, same) = mapped (with_term v) (contents_in v) s is in
    let (e, entries, says) = chained contents (entries_in v) c has in
    subst NamesModules same (of_contents e c says)
  where
    of_contents : (e : Entries) (c : Contents) → contents e ≡ Some c → NamesModules (with_term v c)
    of_contents e c says =
        let made : List ℕ → List (List ℕ) → Option (List ℕ) → Contents = λ vsn ms top. record { name = e.name; vsn = vsn; modules = ms; top = top } in
        let mods = modules_at (value_at (codes "modules") e.pairs) in
        let tops = top_at (value_at (codes "mod") e.pairs) in
        let (vsn, has_vsn, of_vsn) = chained (λ vsn. option_and_then (λ ms. option_map (made vsn ms) tops) mods) (vsn_in e.pairs) c says in
        let (ms, has_modules, of_modules) = chained (λ ms. option_map (made vsn ms) tops) mods c of_vsn in
        let (top, has_top, same) = mapped (made vsn ms) tops c of_modules in record {
          modules = subst (λ (d : Contents). AllByRecursion IsName d.modules) same (modules_named (value_at (codes "modules") e.pairs) ms has_modules);
          top = λ m is. top_named (value_at (codes "mod") e.pairs) top has_top m (ap (λ (d : Contents). d.top) same ∙ is);
        }

-- The module that starts a child of a supervisor has a name.
start_named : (v : Value) (s : List ℕ) → start_in v ≡ Some s → IsName s
start_named (tuple vs) s is =
    let (m, has, name) = chained (λ (m : Value × Value × Value). name_in m.0) (three vs) s is in
    named m.0 s name
start_named v s is = absurd cc

abbrev pub StartsNamed : ChildSpec → Type 0
StartsNamed c = IsName c.start

child_named : (p : ChildParts) (c : ChildSpec) → child_of_parts p ≡ Some c → StartsNamed c
child_named p c is =
    let made : List ℕ → List ℕ → Restart → ChildKind → Option ChildSpec = λ id start restart kind.
    if is_shutdown p.shutdown && lists_only start p.modules then Some (record { id = id; start = start; restart = restart; kind = kind }) else None in
    let (id, has_id, of_id) = chained (λ id. option_and_then (λ start. option_and_then (λ restart. option_and_then (made id start restart) (kind_in p.kind)) (restart_in p.restart)) (start_in p.start)) (word_in p.id) c is in
    let (start, has_start, of_start) = chained (λ start. option_and_then (λ restart. option_and_then (made id start restart) (kind_in p.kind)) (restart_in p.restart)) (start_in p.start) c of_id in
    let (restart, has_restart, of_restart) = chained (λ restart. option_and_then (made id start restart) (kind_in p.kind)) (restart_in p.restart) c of_start in
    let (kind, has_kind, of_kind) = chained (made id start restart) (kind_in p.kind) c of_restart in
    go start (record { id = id; start = start; restart = restart; kind = kind }) (is_shutdown p.shutdown && lists_only start p.modules) of_kind (start_named p.start start has_start)
  where
    go : (start : List ℕ) (d : ChildSpec) (b : Bool) → (if b then Some d else None) ≡ Some c → IsName d.start → IsName c.start
    go start d true at name = let same : d ≡ c = cc in subst StartsNamed same name
    go start d false at name = absurd cc

children_named : (vs : Values) (cs : List ChildSpec) → children_in vs ≡ Some cs → AllByRecursion StartsNamed cs
children_named no_values cs is = let same : [] ≡ cs = cc in subst (AllByRecursion StartsNamed) same tt
children_named (value v vs) cs is =
    let (c, has, rest) = chained (λ c. option_map (λ ds. c ∷ ds) (children_in vs)) (child_in v) cs is in
    let (p, parts, says) = chained child_of_parts (child_parts v) c has in
    let (ds, has_all, same) = mapped (λ (ds : List ChildSpec). c ∷ ds) (children_in vs) cs rest in
    subst (AllByRecursion StartsNamed) same (child_named p c says, children_named vs ds has_all)

super_named : (vs : Values) (s : SuperTable) → super_in vs ≡ Some s → AllByRecursion StartsNamed s.children
super_named vs s is =
    let made : List ℕ → List ℕ → List ChildSpec → SuperTable = λ name vsn children. record { name = name; vsn = vsn; children = children } in
    let (m, has, of_members) = chained (λ (m : Value × Value × Value). option_and_then (λ name. option_and_then (λ vsn. option_map (made name vsn) (option_and_then children_in (list_in m.2))) (version_or_empty m.1)) (name_in m.0)) (three vs) s is in
    let (name, has_name, of_name) = chained (λ name. option_and_then (λ vsn. option_map (made name vsn) (option_and_then children_in (list_in m.2))) (version_or_empty m.1)) (name_in m.0) s of_members in
    let (vsn, has_vsn, of_vsn) = chained (λ vsn. option_map (made name vsn) (option_and_then children_in (list_in m.2))) (version_or_empty m.1) s of_name in
    let (cs, has_children, same) = mapped (made name vsn) (option_and_then children_in (list_in m.2)) s of_vsn in
    let (ws, listed, are) = chained children_in (list_in m.2) cs has_children in
    subst (λ (t : SuperTable). AllByRecursion StartsNamed t.children) {x = made name vsn cs} same (children_named ws cs are)

pub table_names : (v : Value) (s : SuperTable) → table_in v ≡ Some (Super s) → AllByRecursion StartsNamed s.children
table_names v s is =
    let (t, has, of) = chained (λ (t : List ℕ × Values). if bytes_eq t.0 (codes "worker") then option_map Worker (worker_in t.1) else if bytes_eq t.0 (codes "supervisor") then option_map Super (super_in t.1) else None) (tagged_in v) (Super s) is in
    go t.1 (bytes_eq t.0 (codes "worker")) (bytes_eq t.0 (codes "supervisor")) of
  where
    go : (vs : Values) (b c : Bool) → (if b then option_map Worker (worker_in vs) else if c then option_map Super (super_in vs) else None) ≡ Some (Super s) → AllByRecursion StartsNamed s.children
    go vs true c at = let (w, has, never) = mapped Worker (worker_in vs) (Super s) at in absurd cc
    go vs false true at =
        let (u, has, same) = mapped Super (super_in vs) (Super s) at in
        let one : u ≡ s = cc in
        subst (λ (t : SuperTable). AllByRecursion StartsNamed t.children) one (super_named vs u has)
    go vs false false at = absurd cc
