use Rattle.std.proofs.Common.{◌≡◌, List, Vec, Global, ◌+◌, ◌<◌, ◌≤◌, true, false, min, map, length, sym, subst, ap, ◌∙◌, arith}
use Rattle.library.specs.InMemory.{shared_of}
use Rattle.loaded_modules.specs.Loaded.{modules_in, tables_of}
use Rattle.node_processes.specs.Fresh.{started_parts}
use Rattle.rel_check.specs.Modules.{parts}
use Rattle.rel_check.specs.Walk.{is_started}
use Rattle.rel_files.specs.declared.release.RelApp.{RelApp}
use Rattle.rel_files.specs.Release.{application_of}
use Rattle.sup_tree.specs.declared.begins.NewApp.{NewApp}
use Rattle.node_start.proofs.StartLemmas.{TakesAll, left_from, none_left, sound_here, sound_later, takes_all, takes_none, takes_one}
use Rattle.node_start.proofs.start.prepare_apps.Goals as goal
use Rattle.node_start.proofs.start.prepare_apps.Goals.{then-starts+in_ok-ready+in_ok-push, else-starts}

pub prepare-requires : goal.prepare-requires
prepare-requires c =
    let tables = tables_of (modules_in c.args.loaded.now) in
    let within : c.loop-place.place < min (length c.args.apps.now) (length c.args.libraries.now) = omega (arith, c.loop-place-test.true, c.min-place-end.ensures) in
    let starts : is_started c.index-apps-place.result.start ≡ true = ap (λ (a : RelApp). is_started a.start) c.index-apps-place.is ∙ (sym c.starts.ensures ∙ c.if-starts.true) in
    sound_here c.args.apps.now c.args.libraries.now c.loop-place.place c.index-apps-place.result c.index-libraries-place.result within c.index-apps-place.is c.index-libraries-place.is
    tables c.as_ref-library.result.now c.as_ref-library.ensures starts c.loop-place.invariant.sound

pub loop-place-preserved : goal.loop-place-preserved
loop-place-preserved c = elim c.if-starts.branch [
  | then-starts+in_ok-ready+in_ok-push w ↦
      let tables = tables_of (modules_in c.args.loaded.now) in
      let all = started_parts (parts (map application_of c.args.apps.now) (map shared_of c.args.libraries.now)) in
      let within : c.loop-place.place < min (length c.args.apps.now) (length c.args.libraries.now) = omega (arith, c.loop-place-test.true, c.min-place-end.ensures) in
      let starts : is_started c.index-apps-place.result.start ≡ true = ap (λ (a : RelApp). is_started a.start) c.index-apps-place.is ∙ (sym c.starts.ensures ∙ w.if-starts.true) in record {
        sound = sound_later c.args.apps.now c.args.libraries.now c.loop-place.place c.index-apps-place.result c.index-libraries-place.result within c.index-apps-place.is c.index-libraries-place.is
            tables true starts c.loop-place.invariant.sound;
        taken = subst (λ (ns : List NewApp). TakesAll tables all ns (left_from c.args.apps.now c.args.libraries.now (c.loop-place.place + 1))) (ap (λ (v : Vec NewApp Global). v.items) (sym w.prepared-is))
            (takes_one c.args.apps.now c.args.libraries.now c.loop-place.place c.index-apps-place.result c.index-libraries-place.result within c.index-apps-place.is c.index-libraries-place.is
            tables all c.loop-place.prepared.items w.push.new.self.items c.as_ref-library.result.now w.in_ok-ready.ready c.as_ref-library.ensures starts w.in_ok-ready.ensures w.in_ok-push.ensures.items
            c.loop-place.invariant.taken);
      }
  | else-starts w ↦
      let tables = tables_of (modules_in c.args.loaded.now) in
      let all = started_parts (parts (map application_of c.args.apps.now) (map shared_of c.args.libraries.now)) in
      let within : c.loop-place.place < min (length c.args.apps.now) (length c.args.libraries.now) = omega (arith, c.loop-place-test.true, c.min-place-end.ensures) in
      let starts : is_started c.index-apps-place.result.start ≡ false = ap (λ (a : RelApp). is_started a.start) c.index-apps-place.is ∙ (sym c.starts.ensures ∙ w.if-starts.false) in record {
        sound = sound_later c.args.apps.now c.args.libraries.now c.loop-place.place c.index-apps-place.result c.index-libraries-place.result within c.index-apps-place.is c.index-libraries-place.is
            tables false starts c.loop-place.invariant.sound;
        taken = subst (λ (ns : List NewApp). TakesAll tables all ns (left_from c.args.apps.now c.args.libraries.now (c.loop-place.place + 1))) (ap (λ (v : Vec NewApp Global). v.items) (sym w.prepared-is))
            (takes_none c.args.apps.now c.args.libraries.now c.loop-place.place c.index-apps-place.result c.index-libraries-place.result within c.index-apps-place.is c.index-libraries-place.is
            tables all c.loop-place.prepared.items starts c.loop-place.invariant.taken);
      }
]

pub returns : goal.returns
returns c =
    let tables = tables_of (modules_in c.args.loaded.now) in
    let all = started_parts (parts (map application_of c.args.apps.now) (map shared_of c.args.libraries.now)) in
    let past : min (length c.args.apps.now) (length c.args.libraries.now) ≤ c.loop-place.place = omega (arith, c.loop-place-test.false, c.min-place-end.ensures) in
    takes_all tables all (left_from c.args.apps.now c.args.libraries.now c.loop-place.place) c.loop-place.prepared.items
    (none_left c.args.apps.now c.args.libraries.now c.loop-place.place past) c.loop-place.invariant.taken
