-- What the map of a list keeps, whatever changes it.
use Rattle.std.proofs.Common.{ℕ, List, map, String, string_bytes, sym, subst}
use Rattle.std.specs.declared.alloc.Global.{Global}
use Rattle.std.specs.Map.{remove_entry}
use Rattle.std.specs.Str.{bytes_eq}
use Rattle.rel_list.specs.declared.listed.ListedRelease.{ListedRelease}
use Rattle.rel_list.specs.declared.change.StatusChange.{StatusChange}
use Rattle.rel_list.specs.declared.change.StatusChange.TheVariants.{Install, Restart, MakePermanent, Boot, Assign}
use Rattle.rel_list.specs.Releases.{Releases}
use Rattle.rel_list.specs.Event.{with_statuses}
use Rattle.rel_list.specs.Change.{status_after, changed, MayBeMade}
use Rattle.rel_list.specs.Keyed.{entries_in, IsOrderly, IsKept}
use Rattle.rel_list.proofs.Lookups.{AreKeyed-changed, entries_in-changed, AreKeyed-removed, entries_in-removed}
use Rattle.rel_list.proofs.EventLaws.{orderly-installed, orderly-restarted, orderly-made_permanent, orderly-booted, orderly-assigned, orderly-without}

orderly-changed : (c : StatusChange) (es : Releases) → MayBeMade c es → IsOrderly es → IsOrderly (with_statuses (status_after c) es)
orderly-changed (Install v) es may o = orderly-installed v.now es o
orderly-changed (Restart v) es may o = orderly-restarted v.now es o
orderly-changed (MakePermanent v) es may o = orderly-made_permanent v.now es o
orderly-changed Boot es may o = orderly-booted es o
orderly-changed (Assign v t) es may o = orderly-assigned v.now t es may o

pub kept-changed : (c : StatusChange) (ps : List (String Global × ListedRelease)) → MayBeMade c (entries_in ps) → IsKept ps → IsKept (map (changed c) ps)
kept-changed c ps may kept = record {
  keyed = AreKeyed-changed c ps kept.keyed;
  orderly = subst IsOrderly (sym (entries_in-changed c ps)) (orderly-changed c (entries_in ps) may kept.orderly);
}

pub kept-removed : (v : List ℕ) (ps : List (String Global × ListedRelease)) → IsKept ps → IsKept (remove_entry (λ k. bytes_eq v (string_bytes k)) ps)
kept-removed v ps kept = record {
  keyed = AreKeyed-removed v ps kept.keyed;
  orderly = subst IsOrderly (sym (entries_in-removed v ps kept.keyed)) (orderly-without v (entries_in ps) kept.orderly);
}
