use Rattle.std.proofs.Common.{◌≡◌, ◌+◌, ◌<◌, ◌≤◌, ◌^◌, ◌∙◌, ◌∷◌, ◌&&◌, not, [], Bool, true, false, Ok, Err, List, ℕ, get_or, length, length-append, take, drop, refl, sym, ap, subst, subst₂, arith}
use Rattle.std.specs.Prelude.{vec_capacity}
use Rattle.std.proofs.lemmas.List.{length-map, length-take-le, take_all}
use Rattle.relup_instruction.specs.declared.instruction.Instr.{Instr}
use Rattle.relup_instruction.specs.Instruction.{Instruction, instruction_of, script_of}
use Rattle.relup_instruction.specs.Instruction.Instruction.{point_of_no_return}
use Rattle.relup_file.specs.Script.{is_point}
use Rattle.held_processes.specs.Course.{Courses, on_all}
use Rattle.held_processes.specs.Course.Operation.{finish, pass_point}
use Rattle.held_processes.specs.Following.{AllFollow, AreLeft}
use Rattle.script_progress.specs.Script.{Site, courses_within}
use Rattle.script_progress.specs.Fault.{Cause}
use Rattle.script_progress.specs.InMemory.{cause_of, site_of}
use Rattle.script_progress.specs.Steps.{CarriesOutLate, GoesByLooks, HasDone, IsCarriedOut, IsFailed, IsLate, Past, ProgressForm, progress_of}
use Rattle.loaded_modules.specs.Loaded.{listed_in}
use Rattle.relup_exec.specs.InMemory.{armed_in}
use Rattle.relup_exec.specs.Outcome.{IsBrokenFrom, Ran, RanLate, began_at, past_behind, run_behind, still_early}
use Rattle.relup_exec.proofs.PointLemmas.{front_is, point_is}
use Rattle.relup_exec.proofs.OutcomeLemmas.{point_passed, run_more_late}
use Rattle.relup_exec.proofs.RowLemmas.{more, next_is, parted}
use Rattle.relup_exec.proofs.RunLemmas.{behind_point, late_at, late_at_first, late_later, late_push, ran_later, still_push}
use Rattle.relup_exec.proofs.after.run_late.Goals as goal

pub pass_point-requires : goal.pass_point-requires
pass_point-requires g c κs within =
    let armed = c.requires.1.1.0 in
    let script = c.args.run.script.now in
    let front = armed.point.front in
    let long = length-append front (point_of_no_return ∷ armed.point.rest) in
    let inside : c.args.run.done < length script = omega (arith, ap length armed.point.is, long, armed.point.place_is, length-map script instruction_of) in
    let follow = subst (λ (is : List Instruction). AllFollow g.start.first (run_behind (site_of c.args.run.sources.now) g.start [] is).courses c.args.run.progress.held c.args.access.now)
    (sym (front_is script c.args.run.done armed.point)) armed.follow in
    (within, (inside, follow))

pub loop-i-init : goal.loop-i-init
loop-i-init g c =
    let s = site_of c.args.run.sources.now in
    let script = c.args.run.script.now in
    let place = c.args.run.done in
    let armed = c.requires.1.1.0 in
    let w = c.pass_point.new in
    let front = point_is script place armed.point in
    let bs = w.self.reported.items in
    let none : [] ≡ bs = sym (ap (λ v. v.items) c.pass_point.ensures.reported ∙ armed.reported) in
    let follow = subst (λ (is : List Instruction). AllFollow g.start.first (on_all pass_point (run_behind s g.start [] is).courses) w.self.progress.held w.access) (front_is script place armed.point)
    c.pass_point.ensures.passed in
    let passed = point_passed s g.start (script_of script) (armed_in c.args.run) w.self.progress.held c.args.access.now w.access armed follow c.pass_point.ensures.longer in
    let a : ProgressForm = record { held = w.self.progress.held; fetched = (armed_in c.args.run).fetched; next = (armed_in c.args.run).next } in
    let rest = c.pass_point.ensures.rest in
    let done = subst₂ (λ (reported : List Bool) (is : List Instruction). HasDone (past_behind s g.start reported is) a (armed_in c.args.run).apps w.access) none (sym front) passed.1 in (
      omega arith,
      ap (still_early true) front ∙ behind_point armed.point.front [] true,
      subst (λ (reported : List Bool). length reported < place + 1) none (omega arith),
      subst (λ v. length (script_of script) ≤ vec_capacity v) (sym c.pass_point.ensures.reported) armed.room,
      subst₂ (Ran s g.start w.access) none (sym front) passed.0,
      record { follow = done.follow; fetched = ap listed_in rest.0 ∙ done.fetched; next = ap listed_in rest.1 ∙ done.next; apps = rest.2 ∙ done.apps; values = done.values },
      subst₂ (RanLate s g.start c.args.access.now w.access) none (sym front)
          (late_at_first s g.start.first c.args.access.now w.access armed.point.front (began_at s g.start) armed.point.early c.pass_point.ensures.longer),
      c.pass_point.ensures.counted,
      c.pass_point.ensures.same,
    )

pub next_late-requires : goal.next_late-requires
next_late-requires g c =
    let script = c.args.run.script.now in
    let s = site_of c.args.run.sources.now in
    let armed = c.requires.1.1.0 in
    let so_far = script_of (take c.loop-i.i script) in
    let i = instruction_of c.index-script-i.result in
    let parts = parted instruction_of script c.loop-i.i c.index-script-i.result c.loop-i-test.true c.index-script-i.is in
    let long : length so_far ≡ c.loop-i.i = length-map (take c.loop-i.i script) instruction_of ∙ length-take-le c.loop-i.i script (omega (arith, c.loop-i-test.true)) in
    let late : IsLate i = late_at armed.point.front armed.point.rest so_far (script_of (drop (c.loop-i.i + 1) script)) i armed.point.late (sym armed.point.is ∙ parts)
    (omega (arith, long, c.loop-i.invariant.0, armed.point.place_is)) in
    let counted = c.loop-i.invariant.7 in
    let same = c.loop-i.invariant.8 in
    let bs = c.loop-i.run.reported.items in
    let inside = subst₂ (λ (n : ℕ) (is : List Instr). n < length is) (sym counted) (sym same.script) c.loop-i-test.true in
    let room : length c.loop-i.run.reported.items < vec_capacity c.loop-i.run.reported = omega (arith, c.loop-i-test.true, length-map script instruction_of, c.loop-i.invariant.2, c.loop-i.invariant.3) in
    let past : past_behind (site_of c.loop-i.run.sources.now) g.start bs (script_of (take c.loop-i.run.done c.loop-i.run.script.now)) ≡ past_behind s g.start bs so_far =
    λ j. past_behind (site_of (same.sources j)) g.start bs (script_of (take (counted j) (same.script j))) in
    let done = subst (λ (p : Past). HasDone p (progress_of c.loop-i.run.progress) c.loop-i.run.progress.tree c.loop-i.access) (sym past) c.loop-i.invariant.5 in
    λ κs live. (live.0, (live.1, (late, (inside, (room, done)))))

pub loop-i-preserved : goal.loop-i-preserved
loop-i-preserved g c =
    let s = site_of c.args.run.sources.now in
    let script = c.args.run.script.now in
    let so_far = script_of (take c.loop-i.i script) in
    let i = instruction_of c.index-script-i.result in
    let grown = more instruction_of script c.loop-i.i c.index-script-i.result c.loop-i-test.true c.index-script-i.is in
    let w = c.next_late.new in
    let stays = c.in-Ok.field-0 in
    let bs = c.loop-i.run.reported.items in
    let counted = c.loop-i.invariant.7 in
    let same = c.loop-i.invariant.8 in
    let past : past_behind (site_of c.loop-i.run.sources.now) g.start bs (script_of (take c.loop-i.run.done c.loop-i.run.script.now)) ≡ past_behind s g.start bs so_far =
    λ j. past_behind (site_of (same.sources j)) g.start bs (script_of (take (counted j) (same.script j))) in
    let carried = subst₂ (λ (x : Site) (p : Past). IsCarriedOut x p false stays i (progress_of w.self.progress) w.self.progress.tree c.loop-i.access w.access) (λ j. site_of (same.sources j)) past c.in-Ok.ensures.carried in
    let looked = subst (λ (p : Past). GoesByLooks p i (Ok stays) c.loop-i.access w.access) past c.in-Ok.ensures.looked in
    let pushed = sym {A = List Bool} c.in-Ok.ensures.reported in
    let done = run_more_late s g.start bs so_far stays i (progress_of w.self.progress) w.self.progress.tree c.loop-i.access w.access c.loop-i.invariant.1 c.loop-i.invariant.4 carried looked in (
      omega (arith, c.loop-i.invariant.0),
      ap (still_early true) grown ∙ (still_push true so_far i ∙ ap (λ e. e && not (is_point i)) c.loop-i.invariant.1),
      subst (λ (rs : List Bool). length rs < c.loop-i.i + 1) pushed (omega (arith, length-append bs (stays ∷ []), c.loop-i.invariant.2)),
      subst (λ (n : ℕ). length (script_of script) ≤ n) (sym c.next_late.ensures.room) c.loop-i.invariant.3,
      subst₂ (Ran s g.start w.access) pushed (sym grown) done.0,
      subst₂ (λ (rs : List Bool) (is : List Instruction). HasDone (past_behind s g.start rs is) (progress_of w.self.progress) w.self.progress.tree w.access)
          pushed (sym grown) done.1,
      subst₂ (RanLate s g.start c.args.access.now w.access) pushed (sym grown)
          (late_push s g.start.first c.args.access.now c.loop-i.access w.access true bs so_far stays i (began_at s g.start) c.loop-i.invariant.1 c.loop-i.invariant.6 (carried.0, looked)),
      c.in-Ok.ensures.counted ∙ ap (λ n. n + 1) counted,
      record { sources = c.next_late.ensures.same.sources ∙ same.sources; script = c.next_late.ensures.same.script ∙ same.script },
    )

pub close-requires : goal.close-requires
close-requires g c κs within =
    let s = site_of c.args.run.sources.now in
    let script = c.args.run.script.now in
    let so_far = script_of (take c.loop-i.i script) in
    let i = instruction_of c.index-script-i.result in
    let w = c.next_late.new in
    let bs = c.loop-i.run.reported.items in
    let counted = c.loop-i.invariant.7 in
    let same = c.loop-i.invariant.8 in
    let e = c.in-Err.failure in
    let past : past_behind (site_of c.loop-i.run.sources.now) g.start bs (script_of (take c.loop-i.run.done c.loop-i.run.script.now)) ≡ past_behind s g.start bs so_far =
    λ j. past_behind (site_of (same.sources j)) g.start bs (script_of (take (counted j) (same.script j))) in
    let failed = subst₂ (λ (x : Site) (p : Past). IsFailed x p i e w.self.progress.held c.loop-i.access w.access) (λ j. site_of (same.sources j)) past c.in-Err.ensures.carried in
    let sources = c.next_late.ensures.same.sources ∙ same.sources in
    let here = c.next_late.ensures.same.script ∙ same.script in
    let at = c.in-Err.ensures.unreported.1 ∙ counted in
    let reported = ap (λ v. v.items) c.in-Err.ensures.unreported.0 in
    let next : get_or (script_of w.self.script.now) w.self.done point_of_no_return ≡ i =
    (λ j. get_or (script_of (here j)) (at j) point_of_no_return) ∙ next_is script c.loop-i.i c.index-script-i.result c.loop-i-test.true c.index-script-i.is in
    let inside = subst₂ (λ (n : ℕ) (is : List Instr). n < length is) (sym at) (sym here) c.loop-i-test.true in
    let courses : courses_within (site_of w.self.sources.now) false (get_or (script_of w.self.script.now) w.self.done point_of_no_return) e.modules e.slot (run_behind (site_of w.self.sources.now) g.start w.self.reported.items (script_of (take w.self.done w.self.script.now)))
    ≡ courses_within s false i e.modules e.slot (run_behind s g.start bs so_far) =
    λ j. courses_within (site_of (sources j)) false (next j) e.modules e.slot (run_behind (site_of (sources j)) g.start (reported j) (script_of (take (at j) (here j)))) in
    let numbered = subst (λ (is : List Instr). length is < 2 ^ 32) (sym here) c.requires.1.1.1 in
    (within, (inside, (subst (λ (cs : Courses). AllFollow g.start.first cs w.self.progress.held w.access) (sym courses) failed.partly, numbered)))

pub returns-in-Err-clause-broken : goal.returns-in-Err-clause-broken
returns-in-Err-clause-broken g c =
    let s = site_of c.args.run.sources.now in
    let script = c.args.run.script.now in
    let so_far = script_of (take c.loop-i.i script) in
    let i = instruction_of c.index-script-i.result in
    let parts = parted instruction_of script c.loop-i.i c.index-script-i.result c.loop-i-test.true c.index-script-i.is in
    let long : length so_far ≡ c.loop-i.i = length-map (take c.loop-i.i script) instruction_of ∙ length-take-le c.loop-i.i script (omega (arith, c.loop-i-test.true)) in
    let w = c.next_late.new in
    let bs = c.loop-i.run.reported.items in
    let counted = c.loop-i.invariant.7 in
    let same = c.loop-i.invariant.8 in
    let e = c.in-Err.failure in
    let past : past_behind (site_of c.loop-i.run.sources.now) g.start bs (script_of (take c.loop-i.run.done c.loop-i.run.script.now)) ≡ past_behind s g.start bs so_far =
    λ j. past_behind (site_of (same.sources j)) g.start bs (script_of (take (counted j) (same.script j))) in
    let failed = subst₂ (λ (x : Site) (p : Past). IsFailed x p i e w.self.progress.held c.loop-i.access w.access) (λ j. site_of (same.sources j)) past c.in-Err.ensures.carried in
    let looked = subst (λ (p : Past). GoesByLooks p i (Err e) c.loop-i.access w.access) past c.in-Err.ensures.looked in
    let sources = c.next_late.ensures.same.sources ∙ same.sources in
    let here = c.next_late.ensures.same.script ∙ same.script in
    let at = c.in-Err.ensures.unreported.1 ∙ counted in
    let reported = ap (λ v. v.items) c.in-Err.ensures.unreported.0 in
    let next : get_or (script_of w.self.script.now) w.self.done point_of_no_return ≡ i =
    (λ j. get_or (script_of (here j)) (at j) point_of_no_return) ∙ next_is script c.loop-i.i c.index-script-i.result c.loop-i-test.true c.index-script-i.is in
    let courses : courses_within (site_of w.self.sources.now) false (get_or (script_of w.self.script.now) w.self.done point_of_no_return) e.modules e.slot (run_behind (site_of w.self.sources.now) g.start w.self.reported.items (script_of (take w.self.done w.self.script.now)))
    ≡ courses_within s false i e.modules e.slot (run_behind s g.start bs so_far) =
    λ j. courses_within (site_of (sources j)) false (next j) e.modules e.slot (run_behind (site_of (sources j)) g.start (reported j) (script_of (take (at j) (here j)))) in
    subst₂ (λ (n : ℕ) (k : Cause). IsBrokenFrom s g.start (script_of script) c.args.access.now n k c.close.new.access) (sym (c.close.ensures.instr ∙ ap (λ n. n + 1) at)) (ap cause_of (sym c.close.ensures.cause))
    (record {
      broken = record {
        front = so_far;
        instruction = i;
        at = record { rest = script_of (drop (c.loop-i.i + 1) script); is = parts; counted = ap (λ n. n + 1) (sym long) };
        late = c.loop-i.invariant.1;
        reported = bs;
        began = c.loop-i.access;
        ran = c.loop-i.invariant.4;
        then_view = failed.then_view;
        since = failed.since;
        fails = failed.fails;
        ended = w.access;
        longer = failed.longer;
        looked = looked;
        modules = e.modules;
        slot = e.slot;
        stops = failed.stops;
        left = subst (λ (cs : Courses). AreLeft g.start.first (on_all finish cs) c.close.new.access) courses c.close.ensures.left;
        last = c.close.ensures.longer;
      };
      late = c.loop-i.invariant.6;
    })

pub end-requires : goal.end-requires
end-requires g c κs within =
    let s = site_of c.args.run.sources.now in
    let script = c.args.run.script.now in
    let bs = c.loop-i.run.reported.items in
    let same = c.loop-i.invariant.8 in
    let whole : script_of (take c.loop-i.i script) ≡ script_of script = ap script_of (take_all c.loop-i.i script c.loop-i-test.false) in
    let done = subst (λ (is : List Instruction). HasDone (past_behind s g.start bs is) (progress_of c.loop-i.run.progress) c.loop-i.run.progress.tree c.loop-i.access) whole c.loop-i.invariant.5 in
    let courses : (run_behind (site_of c.loop-i.run.sources.now) g.start bs (script_of c.loop-i.run.script.now)).courses ≡ (run_behind s g.start bs (script_of script)).courses =
    λ j. (run_behind (site_of (same.sources j)) g.start bs (script_of (same.script j))).courses in
    (within, subst (λ (cs : Courses). AllFollow g.start.first cs c.loop-i.run.progress.held c.loop-i.access) (sym courses) done.follow)

pub returns-clause-finished : goal.returns-clause-finished
returns-clause-finished g c =
    let s = site_of c.args.run.sources.now in
    let script = c.args.run.script.now in
    let bs = c.loop-i.run.reported.items in
    let same = c.loop-i.invariant.8 in
    let whole : script_of (take c.loop-i.i script) ≡ script_of script = ap script_of (take_all c.loop-i.i script c.loop-i-test.false) in
    let done = subst (λ (is : List Instruction). HasDone (past_behind s g.start bs is) (progress_of c.loop-i.run.progress) c.loop-i.run.progress.tree c.loop-i.access) whole c.loop-i.invariant.5 in
    let courses : (run_behind (site_of c.loop-i.run.sources.now) g.start bs (script_of c.loop-i.run.script.now)).courses ≡ (run_behind s g.start bs (script_of script)).courses =
    λ j. (run_behind (site_of (same.sources j)) g.start bs (script_of (same.script j))).courses in
    record {
      finished = record {
        reported = bs;
        ran = ran_later s g.start.first g.start.first c.loop-i.access c.end.new.access true bs (script_of script) (began_at s g.start) c.end.ensures.longer
            (subst (Ran s g.start c.loop-i.access bs) whole c.loop-i.invariant.4);
        loaded_is = ap listed_in c.end.ensures.loaded ∙ done.next;
        apps_are = c.end.ensures.tree ∙ done.apps;
        left = subst (λ (cs : Courses). AreLeft g.start.first (on_all finish cs) c.end.new.access) courses c.end.ensures.left;
      };
      late = late_later s g.start.first c.args.access.now c.loop-i.access c.end.new.access true bs (script_of script) (began_at s g.start) c.end.ensures.longer
          (subst (RanLate s g.start c.args.access.now c.loop-i.access bs) whole c.loop-i.invariant.6);
    }
