use Rattle.std.proofs.Common.{◌≡◌, is_some, string_bytes, ap, sym, subst₂, ◌∙◌, arith}
use Rattle.rel_files.specs.AppInMemory.{specification_of}
use Rattle.app_members.specs.InMemory.{new_members_of}
use Rattle.app_members.specs.Loaded.{modules_in, tables_of}
use Rattle.app_members.specs.Walk.{app_members}
use Rattle.started_members.specs.Begins.{members_at}
use Rattle.started_members.specs.Members.{pids_of}
use Rattle.sup_tree.specs.Starts.{IsReady}
use Rattle.sup_tree.specs.Tree.{app_of, app_named}
use Rattle.sup_tree.proofs.AppLemmas.{app_pushed, not_there, ready_began, ready_starts}
use Rattle.sup_tree.proofs.tree.Tree.start_app.Goals as goal

pub begin-started-requires-clause-slots : goal.begin-started-requires-clause-slots
begin-started-requires-clause-slots g c =
    let name = c.as_str-2.result.now in
    let members = app_members (tables_of (modules_in c.args.loaded.now)) (specification_of c.args.app.now).top in
    let are : new_members_of c.as_slice.result.now ≡ members = ap new_members_of c.as_slice.ensures.value ∙ c.in_ok-members.ensures.1 in
    let ready = subst₂ (λ n ms. IsReady n ms c.in_ok-new.new) c.as_str-2.ensures.value are c.in_ok-new.ensures in
    let same = ready_starts _ members c.in_ok-new.new ready in
    let few = c.in_ok-members.ensures.2 in
    omega (arith, same, few, c.free_count.ensures)

pub returns : goal.returns
returns g c = record {
  started =
      let name = string_bytes c.args.app.now.name in
      let apps = c.args.self.now in
      let members = app_members (tables_of (modules_in c.args.loaded.now)) (specification_of c.args.app.now).top in
      let are : new_members_of c.as_slice.result.now ≡ members = ap new_members_of c.as_slice.ensures.value ∙ c.in_ok-members.ensures.1 in
      let ready = subst₂ (λ n ms. IsReady n ms c.in_ok-new.new) c.as_str-2.ensures.value are c.in_ok-new.ensures in
      let begun = ready_began name members c.in_ok-new.new c.args.access.now (app_of c.begin-started.result) c.begin-started.new.access ready c.begin-started.ensures.began in
      record {
        new = not_there (app_named name apps) (ap (λ n. is_some (app_named n apps)) (sym c.as_str.ensures.value) ∙ (sym c.is_started.ensures ∙ c.if-is_started.false));
        sound = c.in_ok-members.ensures.0;
        processes = begun.processes;
        began = begun.began;
        tree = app_pushed _ _ _ _ apps (record { name = name; members = members_at members (pids_of begun.processes) }) c.push_reserved.ensures.items c.in_ok-reserve.ensures.items c.self.view_is
            begun.stands;
      };
}
