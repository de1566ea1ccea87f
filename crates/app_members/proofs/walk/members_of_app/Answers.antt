use Rattle.std.proofs.Common.{ap, sym, subst₂, ◌∙◌}
use Rattle.rel_files.specs.AppInMemory.{specification_of}
use Rattle.app_members.specs.InMemory.{AreUnlessFault, new_member_of, new_members_of}
use Rattle.loaded_modules.specs.Loaded.{modules_in, tables_of}
use Rattle.app_members.proofs.AppLemmas.{top_fault, top_members, without_top}
use Rattle.app_members.proofs.walk.members_of_app.Goals as goal

pub returns-in-Some : goal.returns-in-Some
returns-in-Some c =
    let tables = tables_of (modules_in c.args.loaded.now) in
    let top = (specification_of c.args.app.now).top in
    let is = rw c.in-Some.is at c.in_ok-top.ensures in
    let m = new_member_of c.in-Some.top in
    subst₂ (λ fault all. AreUnlessFault fault all c.members_with.result) (sym (top_fault tables top m is)) (sym (top_members tables top m is)) c.members_with.ensures

pub returns-in-None : goal.returns-in-None
returns-in-None c =
    let tables = tables_of (modules_in c.args.loaded.now) in
    let is = rw c.in-None.is at c.in_ok-top.ensures in
    (without_top tables (specification_of c.args.app.now).top is.0 is.1, ap new_members_of c.new.ensures.items ∙ sym is.2)
