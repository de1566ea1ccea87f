use Rattle.std.proofs.Common.{◌≡◌, List, ℕ, sym, subst, ◌∙◌, string_bytes}
use Rattle.std.specs.Result.{IfOk}
use Rattle.loaded_modules.specs.Loaded.{listed_in}
use Rattle.node_processes.proofs.CommandLemmas.{called_nothing, is_called, call_of_none}
use Rattle.node_processes.proofs.processes.Processes.call.Goals as goal

pub returns-in-Some-clause-called : goal.returns-in-Some-clause-called
returns-in-Some-clause-called g c =
    sym (is_called c.args.app.now c.args.id.now c.args.input c.args.self.now.seat.view _ c.args.self.now.tree (listed_in c.args.self.now.loaded) c.in-Some.pid c.call_alone-tried.result
    (sym c.find.ensures ∙ c.in-Some.is) c.call_alone-tried.ensures.answer).leaves

pub returns-in-Some-clause-reported : goal.returns-in-Some-clause-reported
returns-in-Some-clause-reported g c =
    let called = is_called c.args.app.now c.args.id.now c.args.input c.args.self.now.seat.view _ c.args.self.now.tree (listed_in c.args.self.now.loaded) c.in-Some.pid c.call_alone-tried.result
    (sym c.find.ensures ∙ c.in-Some.is) c.call_alone-tried.ensures.answer in
    subst (λ (line : List ℕ). IfOk c.line_of_call.result (λ text. string_bytes text ≡ line)) (sym called.reported) c.line_of_call.ensures

pub returns-in-None-clause-called : goal.returns-in-None-clause-called
returns-in-None-clause-called g c =
    sym (call_of_none c.args.app.now c.args.id.now c.args.input c.args.self.now.seat.view c.args.self.now.tree (listed_in c.args.self.now.loaded) (sym c.find.ensures ∙ c.in-None.is)).1

pub returns-in-None-clause-reported : goal.returns-in-None-clause-reported
returns-in-None-clause-reported g c =
    let none = call_of_none c.args.app.now c.args.id.now c.args.input c.args.self.now.seat.view c.args.self.now.tree (listed_in c.args.self.now.loaded) (sym c.find.ensures ∙ c.in-None.is) in
    subst (λ (line : List ℕ). IfOk c.from_str.result (λ text. string_bytes text ≡ line)) (sym none.0) c.from_str.ensures.ok

pub returns-in-Some-clause-sound : goal.returns-in-Some-clause-sound
returns-in-Some-clause-sound g c = record {
  table = c.call_alone-tried.ensures.table ∙ c.requires.table;
  alone = c.call_alone-tried.ensures.alone;
  free = called_nothing c.in-Some.pid.slot c.in-Some.pid.round c.args.input c.args.self.now.seat.view c.call_alone-tried.result _ c.requires.free c.call_alone-tried.ensures.answer;
}
