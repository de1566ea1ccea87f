use Rattle.std.proofs.Common.{◌≡◌, List, ℕ, sym, subst, ◌∙◌, string_bytes}
use Rattle.std.specs.Result.{IfOk}
use Rattle.loaded_modules.specs.Loaded.{listed_in}
use Rattle.node_processes.proofs.FloodLemmas.{always_err, always_ok, is_flood_of, left_by_flood, left_by_refused}
use Rattle.node_processes.proofs.processes.Processes.flood.Goals as goal

pub returns-in_ok-counts-in-Some-clause-flooded : goal.returns-in_ok-counts-in-Some-clause-flooded
returns-in_ok-counts-in-Some-clause-flooded g c =
    let flood = is_flood_of c.args.app.now c.args.id.now c.args.input c.args.times c.args.self.now.seat.view _ c.args.self.now.tree (listed_in c.args.self.now.loaded) c.in-Some.pid c.in_ok-counts-in-Some.counts
    (sym c.find.ensures ∙ c.in-Some.is) c.in_ok-counts-in-Some.ensures.flooded in
    always_ok c.line_of_counts.result _ (sym flood.leaves)

pub returns-in_ok-counts-in-Some-clause-reported : goal.returns-in_ok-counts-in-Some-clause-reported
returns-in_ok-counts-in-Some-clause-reported g c =
    let flood = is_flood_of c.args.app.now c.args.id.now c.args.input c.args.times c.args.self.now.seat.view _ c.args.self.now.tree (listed_in c.args.self.now.loaded) c.in-Some.pid c.in_ok-counts-in-Some.counts
    (sym c.find.ensures ∙ c.in-Some.is) c.in_ok-counts-in-Some.ensures.flooded in
    subst (λ (line : List ℕ). IfOk c.line_of_counts.result (λ text. string_bytes text ≡ line)) (sym flood.reported) c.line_of_counts.ensures

pub returns-in_ok-counts-in-Some-clause-refused : goal.returns-in_ok-counts-in-Some-clause-refused
returns-in_ok-counts-in-Some-clause-refused g c =
    always_err c.line_of_counts.result _
    (left_by_flood c.args.app.now c.args.id.now c.args.input c.args.times c.args.self.now.seat.view _ c.args.self.now.tree (listed_in c.args.self.now.loaded) c.in-Some.pid c.in_ok-counts-in-Some.counts
    (sym c.find.ensures ∙ c.in-Some.is) c.in_ok-counts-in-Some.ensures.flooded)

pub returns-in_err-counts-in-Some-clause-refused : goal.returns-in_err-counts-in-Some-clause-refused
returns-in_err-counts-in-Some-clause-refused g c =
    always_err c.from_residual.result _
    (left_by_refused c.args.app.now c.args.id.now c.args.input c.args.times c.args.self.now.seat.view _ c.args.self.now.tree (listed_in c.args.self.now.loaded) c.in-Some.pid (sym c.find.ensures ∙ c.in-Some.is) c.in_err-counts-in-Some.ensures.refused)
