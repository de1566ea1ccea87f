use Rattle.std.proofs.Common.{◌≡◌, None, List, [], refl, sym, ap, subst, ◌∙◌, map, arith}
use Rattle.std.specs.List.{AllByRecursion}
use Rattle.held_processes.proofs.NothingHeldLemmas.{first_nothing}
use Rattle.library.specs.InMemory.{shared_of}
use Rattle.library.specs.Library.{AreLibrariesOf, Library}
use Rattle.rel_check.specs.Fault.{release_fault}
use Rattle.rel_files.specs.Name.{AreDistinct}
use Rattle.sup_tree.specs.declared.begins.NewApp.{NewApp}
use Rattle.proc_table.specs.Agrees.{slots}
use Rattle.proc_table.specs.Free.{free_count}
use Rattle.proc_table.specs.Views.{handler_view}
use Rattle.proc_table.specs.declared.view.View.{View}
use Rattle.rel_check.specs.Modules.{parts}
use Rattle.mod_table.specs.Tables.{Tables}
use Rattle.rel_files.specs.Release.{Application, application_of}
use Rattle.loaded_modules.specs.Loaded.{modules_in, tables_of}
use Rattle.sup_tree.specs.Tree.{App, app_of}
use Rattle.node_processes.specs.Fresh.{started_parts, tables_in}
use Rattle.node_start.specs.Starting.{AppsBegan, AreReady, HasNoFault, HaveMemory, IsAlone, StartedAll}
use Rattle.node_start.proofs.FreshLemmas.{fresh_so}
use Rattle.node_start.proofs.ReadyLemmas.{are_ready}
use Rattle.node_start.proofs.StartLemmas.{all_started, as_many_begin, still_alone}
use Rattle.node_start.proofs.start.start_release.Goals as goal

-- Applications for which memory was there began in a new table: they are started, one after another.
release_started : (as' : List Application) (ls : List Library) (tables : Tables) (ns : List NewApp) (apps : List App) (v w : View) → tables ≡ tables_in ls
    → AreLibrariesOf as' ls → release_fault as' ls ≡ None → AreDistinct (map (λ (a : Application). a.name) as') → v ≡ handler_view slots
    → HaveMemory tables (started_parts (parts as' ls)) ns → AppsBegan ns v apps w → StartedAll (tables_in ls) (started_parts (parts as' ls)) [] v apps w
release_started as' ls tables ns apps v w same libraries tested distinct new memory began =
    all_started (tables_in ls) (started_parts (parts as' ls)) ns [] apps v w
    (subst (λ (u : View). AreReady (tables_in ls) (started_parts (parts as' ls)) [] u) (sym new) (are_ready as' ls libraries tested distinct))
    (subst (λ (t : Tables). HaveMemory t (started_parts (parts as' ls)) ns) same memory) began

pub prepare_apps-requires : goal.prepare_apps-requires
prepare_apps-requires g c =
    let as' = map application_of c.args.apps.now in
    let ls = map shared_of c.args.libraries.now in
    let tables : tables_of (modules_in c.in_ok-loaded.loaded) ≡ tables_in ls = λ i. tables_of (λ name. c.in_ok-loaded.ensures.loaded name i) in
    let ready = are_ready as' ls c.requires.libraries c.requires.tested c.requires.distinct in
    subst (λ (t : Tables). AllByRecursion (HasNoFault t) (started_parts (parts as' ls))) (sym tables) ready.sound

pub begin_apps-requires-clause-slots : goal.begin_apps-requires-clause-slots
begin_apps-requires-clause-slots g c =
    let as' = map application_of c.args.apps.now in
    let ls = map shared_of c.args.libraries.now in
    let tables : tables_of (modules_in c.in_ok-loaded.loaded) ≡ tables_in ls = λ i. tables_of (λ name. c.in_ok-loaded.ensures.loaded name i) in
    let ready = are_ready as' ls c.requires.libraries c.requires.tested c.requires.distinct in
    let memory = subst (λ (t : Tables). HaveMemory t (started_parts (parts as' ls)) c.in_ok-prepared.prepared.items) tables c.in_ok-prepared.ensures in
    let many = (as_many_begin (tables_in ls) (started_parts (parts as' ls)) c.in_ok-prepared.prepared.items memory).0 in
    let free = ap free_count c.requires.new in
    let room = ready.room in
    omega (arith, many, free, room)

pub begin_apps-requires-clause-ready : goal.begin_apps-requires-clause-ready
begin_apps-requires-clause-ready g c =
    (as_many_begin (tables_of (modules_in c.in_ok-loaded.loaded)) (started_parts (parts (map application_of c.args.apps.now) (map shared_of c.args.libraries.now))) c.in_ok-prepared.prepared.items
    c.in_ok-prepared.ensures).1

pub returns-clause-alone : goal.returns-clause-alone
returns-clause-alone g c =
    let as' = map application_of c.args.apps.now in
    let ls = map shared_of c.args.libraries.now in
    let tables : tables_of (modules_in c.in_ok-loaded.loaded) ≡ tables_in ls = λ i. tables_of (λ name. c.in_ok-loaded.ensures.loaded name i) in
    let v = c.args.seat.now.view in
    let w = c.begin_apps.new.seat.view in
    let apps = map app_of c.begin_apps.new.started.items in
    let started = release_started as' ls (tables_of (modules_in c.in_ok-loaded.loaded)) c.in_ok-prepared.prepared.items apps v w tables
    c.requires.libraries c.requires.tested c.requires.distinct c.requires.new c.in_ok-prepared.ensures c.begin_apps.ensures.began in
    still_alone (tables_in ls) (started_parts (parts as' ls)) [] apps v w (subst IsAlone (sym c.requires.new) (record { lent = refl; free = first_nothing })) started

pub returns-clause-fresh : goal.returns-clause-fresh
returns-clause-fresh g c =
    let as' = map application_of c.args.apps.now in
    let ls = map shared_of c.args.libraries.now in
    let tables : tables_of (modules_in c.in_ok-loaded.loaded) ≡ tables_in ls = λ i. tables_of (λ name. c.in_ok-loaded.ensures.loaded name i) in
    let v = c.args.seat.now.view in
    let w = c.begin_apps.new.seat.view in
    let apps = map app_of c.begin_apps.new.started.items in
    let started = release_started as' ls (tables_of (modules_in c.in_ok-loaded.loaded)) c.in_ok-prepared.prepared.items apps v w tables
    c.requires.libraries c.requires.tested c.requires.distinct c.requires.new c.in_ok-prepared.ensures c.begin_apps.ensures.began in
    let begun = fresh_so ls (started_parts (parts as' ls)) apps v w c.requires.new started in
    λ i. record { values = begun.0 i; apps = (c.of-2.ensures ∙ begun.1) i; modules = c.in_ok-loaded.ensures.listed i }

pub returns-clause-begun : goal.returns-clause-begun
returns-clause-begun g c =
    let as' = map application_of c.args.apps.now in
    let ls = map shared_of c.args.libraries.now in
    let tables : tables_of (modules_in c.in_ok-loaded.loaded) ≡ tables_in ls = λ i. tables_of (λ name. c.in_ok-loaded.ensures.loaded name i) in
    let v = c.args.seat.now.view in
    let w = c.begin_apps.new.seat.view in
    let apps = map app_of c.begin_apps.new.started.items in
    let started = release_started as' ls (tables_of (modules_in c.in_ok-loaded.loaded)) c.in_ok-prepared.prepared.items apps v w tables
    c.requires.libraries c.requires.tested c.requires.distinct c.requires.new c.in_ok-prepared.ensures c.begin_apps.ensures.began in
    (fresh_so ls (started_parts (parts as' ls)) apps v w c.requires.new started).2
