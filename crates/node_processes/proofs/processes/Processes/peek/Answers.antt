use Rattle.std.proofs.Common.{◌≡◌, List, ℕ, sym, subst, ◌∙◌, string_bytes}
use Rattle.std.specs.Result.{IfOk}
use Rattle.loaded_modules.specs.Loaded.{listed_in}
use Rattle.node_processes.proofs.CommandLemmas.{peek_of_found, peek_of_none}
use Rattle.node_processes.proofs.processes.Processes.peek.Goals as goal

pub returns-in-Some-clause-reported : goal.returns-in-Some-clause-reported
returns-in-Some-clause-reported g c =
    let found = peek_of_found c.args.app.now c.args.id.now c.args.self.now.seat.view c.args.self.now.tree (listed_in c.args.self.now.loaded) c.in-Some.pid (sym c.find.ensures ∙ c.in-Some.is) in
    subst (λ (line : List ℕ). IfOk c.state_line.result (λ text. string_bytes text ≡ line)) (sym found) c.state_line.ensures.reported

pub returns-in-None-clause-reported : goal.returns-in-None-clause-reported
returns-in-None-clause-reported g c =
    let none = peek_of_none c.args.app.now c.args.id.now c.args.self.now.seat.view c.args.self.now.tree (listed_in c.args.self.now.loaded) (sym c.find.ensures ∙ c.in-None.is) in
    subst (λ (line : List ℕ). IfOk c.from_str.result (λ text. string_bytes text ≡ line)) (sym none) c.from_str.ensures.ok
