use Rattle.std.proofs.Common.{◌≡◌, ap, ap₂, subst, ◌∙◌, [], ◌++◌, map, Option}
use Rattle.std.specs.List.{flat_map}
use Rattle.std.specs.Option.{option_map}
use Rattle.appup_file.specs.Instruction.{row_of}
use Rattle.relup_lint.specs.declared.refusal.Finding.{Finding}
use Rattle.relup_lint.specs.Script.{ScriptForm, all_placed, all_targets, placed}
use Rattle.relup_lint.specs.Findings.{IsFirst, IsReported, findings}
use Rattle.relup_lint.specs.Memory.{finding_of}
use Rattle.relup_row.specs.Release.{relup_app_of, relup_release_of, way_of}
use Rattle.release_relup.specs.Scripts.{app_placed}
use Rattle.release_relup.proofs.ScriptLemmas.{script_in, same_script}
use Rattle.release_relup.proofs.judgement.found_between.Goals as goal

pub returns-in-Some : goal.returns-in-Some
returns-in-Some c =
    let other = relup_release_of c.args.other.now in
    let row = flat_map (app_placed c.args.direction other) in
    let first : all_placed c.push_entry.new.script.items ≡ placed [] 1 (row_of c.in_ok-instrs.instrs.items) =
    c.in_ok-push_entry.ensures ∙ ap₂ (λ xs ys. all_placed xs ++ placed [] 1 (row_of ys)) c.new-script.ensures.items c.deref.ensures.value in
    let is = same_script c.args.direction (relup_release_of c.args.new.now) other (way_of c.between-way.result) (all_placed c.deref-3.result.now) (all_placed c.push_entry.new.script.items)
    (all_targets c.deref-4.result.now) c.between-way.ensures (ap all_targets c.deref-4.ensures.value ∙ c.in_ok-target.ensures) (first ∙ ap (placed [] 1) c.in_ok-instrs.ensures)
    (ap all_placed c.deref-3.ensures.value ∙ c.in_ok-push_apps.ensures ∙ ap (λ xs. all_placed c.push_entry.new.script.items ++ row (map relup_app_of xs)) c.deref-2.ensures.value) in
    record {
      finding = finding_of c.in-Some.finding;
      first =
          subst (λ (s : ScriptForm). IsFirst (findings s) (finding_of c.in-Some.finding)) is
          (subst (λ (o : Option Finding). IsReported (findings (script_in (all_placed c.deref-3.result.now) (all_targets c.deref-4.result.now))) (option_map finding_of o)) c.in-Some.is c.in_ok-finding.ensures);
      app = c.in_ok-reported-in-Some.ensures.app;
      number = c.in_ok-reported-in-Some.ensures.number;
    }

pub returns : goal.returns
returns c =
    let other = relup_release_of c.args.other.now in
    let row = flat_map (app_placed c.args.direction other) in
    let first : all_placed c.push_entry.new.script.items ≡ placed [] 1 (row_of c.in_ok-instrs.instrs.items) =
    c.in_ok-push_entry.ensures ∙ ap₂ (λ xs ys. all_placed xs ++ placed [] 1 (row_of ys)) c.new-script.ensures.items c.deref.ensures.value in
    let is = same_script c.args.direction (relup_release_of c.args.new.now) other (way_of c.between-way.result) (all_placed c.deref-3.result.now) (all_placed c.push_entry.new.script.items)
    (all_targets c.deref-4.result.now) c.between-way.ensures (ap all_targets c.deref-4.ensures.value ∙ c.in_ok-target.ensures) (first ∙ ap (placed [] 1) c.in_ok-instrs.ensures)
    (ap all_placed c.deref-3.ensures.value ∙ c.in_ok-push_apps.ensures ∙ ap (λ xs. all_placed c.push_entry.new.script.items ++ row (map relup_app_of xs)) c.deref-2.ensures.value) in
    subst (λ (s : ScriptForm). findings s ≡ []) is
    (subst (λ (o : Option Finding). IsReported (findings (script_in (all_placed c.deref-3.result.now) (all_targets c.deref-4.result.now))) (option_map finding_of o)) c.in-None.is c.in_ok-finding.ensures)
