-- A release that was brought, and a list that has no place for it.
use Rattle.std.proofs.Common.{◌≡◌, inl, inr, ℕ, true, false, List, Ok, sym, subst}
use Rattle.rel_disk.specs.declared.disk.Disk.{Ghosts}
use Rattle.rel_list.specs.Event.Event.{unpacked}
use Rattle.rel_list.specs.Releases.{has_one_shot}
use Rattle.rel_records.specs.Limits.{is_small}
use Rattle.rel_unpack.specs.Source.{Source}
use Rattle.rel_unpack.specs.Unpacking.{Brought}
use Rattle.node_store.specs.Commits.{Commits}
use Rattle.node_command.specs.Files.{bundle_brought, unpacked_size, Brings}
use Rattle.node_store.specs.State.{is_dead, list_in}
use Rattle.node_command.specs.Place.{HasNoPlace}
use Rattle.rel_handler.specs.Unpacking.{UnpackingRefused}
use Rattle.node_command.specs.declared.error.HandlerError.{HandlerError}
use Rattle.node_command.specs.declared.error.HandlerError.TheVariants.{ExistingRelease}
use Rattle.node_store.specs.declared.node_store.NodeStore.{NodeStore}
use Rattle.node_store.proofs.CommandLemmas.{refused_by_list}
use Rattle.node_command.proofs.CommandLemmas.{there_already}
use Rattle.node_command.proofs.ReleaseLemmas.{barred_so, listed_free, no_memory}
use Rattle.node_store.proofs.Commits.{all_same}

-- A release for which the list has no place isn't taken in, and nothing has changed.
pub no_place : {D : Type 0} (v : Ghosts D) (source : Source) (path : List ℕ) (h : NodeStore D) (b : Brought) (e : HandlerError) → is_dead h ≡ false → has_one_shot (list_in h) ≡ false → is_small b.found.release ≡ true → Brings source path (Ok b)
    → Commits v (unpacked (bundle_brought b)) (unpacked_size b (list_in h)) h h → HasNoPlace b (list_in h) e → UnpackingRefused v source path h h e
no_place v source path h b e alive free small read still (inl none) =
    subst (UnpackingRefused v source path h h) (sym none) (inr (inl (no_memory source path, alive, all_same h)))
no_place v source path h b e alive free small read still (inr (inl (is, listed))) =
    subst (UnpackingRefused v source path h h) (sym is) (inr (inr (inr (record {
      brought = b;
      read = read;
      free = listed_free b (list_in h) listed;
      commits = still;
      refused = refused_by_list v.failures h (unpacked (bundle_brought b)) (unpacked_size b (list_in h)) ExistingRelease alive (there_already (bundle_brought b) (list_in h) free small listed);
    }))))
no_place v source path h b e alive free small read still (inr (inr (fresh, barred))) =
    inr (inr (inl (record { brought = b; read = read; alive = alive; fresh = fresh; barred = barred_so b (list_in h) e fresh barred; same = all_same h })))
