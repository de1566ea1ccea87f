use Rattle.std.proofs.Common.{length, nat_le, sym, ap, ◌∙◌}
use Rattle.std.proofs.lemmas.List.{length-map}
use Rattle.node_store.proofs.node_store.NodeStore.is_long.Goals as goal

pub returns : goal.returns
returns g c = ap (λ n. nat_le 64 n) (sym (length-map c.records.result.now _) ∙ ap (λ bodies. length bodies) c.records.ensures)
