use Rattle.std.proofs.Common.{◌∙◌, List, length, ap, subst, arith}
use Rattle.std.specs.Prelude.{Ok, Err}
use Rattle.std.specs.List.{remove_range}
use Rattle.app_members.specs.Loaded.{modules_in, tables_of}
use Rattle.app_members.proofs.WalkLemmas.{passed_on}
use Rattle.started_members.specs.declared.member.Member.{Member}
use Rattle.started_members.specs.Preparations.{AllBegan, to_begin}
use Rattle.started_members.specs.Places.{in_place, replaced}
use Rattle.started_members.specs.Begins.{restart_members}
use Rattle.started_members.proofs.BeginLemmas.{all_stand, as_many, in_order}
use Rattle.started_members.proofs.PlaceLemmas.{fewer_left, put_there}
use Rattle.sup_tree.specs.Restarts.{BeginsAgain, app_at}
use Rattle.sup_tree.specs.Tree.{app_of}
use Rattle.sup_tree.proofs.RestartLemmas.{child_ended, child_prepared, not_begun}
use Rattle.sup_tree.proofs.restarts.begin_again.Goals as goal

pub returns-in_err-prepared : goal.returns-in_err-prepared
returns-in_err-prepared g c = record {
  begun = λ p at.
      let tables = tables_of (modules_in c.args.loaded.now) in
      let app = app_of c.args.app.now in
      let v = c.args.access.now in
      let e = c.in_err-prepared.field-0.0 in
      let fault = child_prepared tables app.name c.as_str.result.now p app.members c.args.start c.args.end c.index.result.now (Err e) at c.index.ensures c.as_str.ensures c.in_err-prepared.ensures in
      passed_on (λ r. BeginsAgain tables app.name p (app_at p app) app v r app v) c.from_residual.result e c.from_residual.ensures
      (not_begun tables app.name p (app_at p app) app v e fault);
}

pub returns-then-process_count-free_count : goal.returns-then-process_count-free_count
returns-then-process_count-free_count g c = record {
  begun = λ p at.
      let tables = tables_of (modules_in c.args.loaded.now) in
      let app = app_of c.args.app.now in
      let ready = child_prepared tables app.name c.as_str.result.now p app.members c.args.start c.args.end c.index.result.now (Ok c.in_ok-prepared.prepared) at c.index.ensures c.as_str.ensures c.in_ok-prepared.ensures in
      let needed = c.process_count.ensures ∙ (ap (λ ps. length (to_begin ps)) (c.as_slice.ensures.value ∙ ready.1) ∙ as_many app.name (restart_members tables p.child)) in (
        record {
          sound = ready.0;
          ended = child_ended p app.members c.reserve.new.self.items c.args.start c.args.end c.index-2.result.now c.args.access.now c.end_member.new.access at c.reserve.ensures.items c.index-2.ensures c.end_member.ensures.ended;
          few = omega (arith, c.if-process_count-free_count.true, c.free_count.ensures, needed);
        },
        λ j. record { name = app.name; members = c.reserve.ensures.items j },
      );
}

pub put_in-requires-clause-room : goal.put_in-requires-clause-room
put_in-requires-clause-room g c =
    let taken = c.take_out.ensures.others ∙ ap (λ (ns : List Member). remove_range ns c.args.start c.args.end) c.reserve.ensures.items in
    let few = fewer_left c.requires.range.0 c.args.app.now.members.items c.take_out.new.members.items c.args.start c.args.end c.requires.range.1 taken in
    let stand = all_stand c.in_ok-prepared.prepared.items c.end_member.new.access c.begin_all.new.members.items c.begin_all.new.access c.begin_all.ensures.began in
    omega (arith, few, stand, c.take_out.ensures.room, c.in_ok-reserve.ensures.ok, c.len-2.ensures, c.in_ok-prepared.prepared.ok.0, c.reserve.new.self.ok.0, ap length c.reserve.ensures.items)

pub returns : goal.returns
returns g c = record {
  begun = λ p at.
      let tables = tables_of (modules_in c.args.loaded.now) in
      let app = app_of c.args.app.now in
      let v = c.end_member.new.access in
      let w = c.begin_all.new.access in
      let stand = c.begin_all.new.members.items in
      let ready = child_prepared tables app.name c.as_str.result.now p app.members c.args.start c.args.end c.index.result.now (Ok c.in_ok-prepared.prepared) at c.index.ensures c.as_str.ensures c.in_ok-prepared.ensures in
      let begun = in_order app.name (restart_members tables p.child) v stand w (subst (λ ps. AllBegan ps v stand w) ready.1 c.begin_all.ensures.began) in
      let taken = c.take_out.ensures.others ∙ ap (λ (ns : List Member). remove_range ns c.args.start c.args.end) c.reserve.ensures.items in
      let put = put_there p app.members c.take_out.new.members.items stand c.put_in.new.members.items c.args.start c.args.end at taken c.put_in.ensures in
      record {
        sound = ready.0;
        after_end = v;
        ended = child_ended p app.members c.reserve.new.self.items c.args.start c.args.end c.index-2.result.now c.args.access.now v at c.reserve.ensures.items c.index-2.ensures c.end_member.ensures.ended;
        processes = begun.processes;
        began = begun.began;
        is = λ j. record { name = app.name; members = (put ∙ (λ k. replaced (in_place (begun.members k)) p)) j };
      };
}
