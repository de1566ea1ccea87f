-- The release that runs after a boot is one of the list.
use Rattle.std.proofs.Common.{◌≡◌, Option, Some, None, refl, ◌∙◌}
use Rattle.std.specs.List.{AllByRecursion, find}
use Rattle.std.specs.Option.{option_or}
use Rattle.rel_list.specs.Releases.{Entry, Releases}
use Rattle.rel_list.specs.Status.{is_current, is_permanent}
use Rattle.rel_records.proofs.EachRelease.{each-found}
use Rattle.node_processes.specs.Fresh.{running_entry}

-- The release that runs is one of the list: what holds of each holds of it.
pub running_found : (P : Entry → Type 0) (es : Releases) (e : Entry) → AllByRecursion P es → running_entry es ≡ Some e → P e
running_found P es e all is = go (find (λ (f : Entry). is_current f.status) es) refl is
  where
    go : (o : Option Entry) → find (λ (f : Entry). is_current f.status) es ≡ o → option_or o (find (λ (f : Entry). is_permanent f.status) es) ≡ Some e → P e
    go None none then = each-found P (λ (f : Entry). is_permanent f.status) es e all then
    go (Some f) found then = each-found P (λ (f : Entry). is_current f.status) es e all (found ∙ then)
