-- What was made of the release of a path.
use Rattle.std.proofs.Common.{◌≡◌, inr, ℕ, List, [], ◌∷◌, None, Ok, Err}
use Rattle.std.specs.Prelude.{Result, IfOk, IfErr, OnOk}
use Rattle.rel_unpack.specs.Source.{Source}
use Rattle.rel_unpack.specs.Unpacking.{Brought}
use Rattle.rel_disk.specs.declared.disk.Disk.{Ghosts}
use Rattle.rel_list.specs.declared.status.Status.TheVariants.{Permanent}
use Rattle.rel_list.specs.Releases.{entry}
use Rattle.rel_list.specs.Event.Event.{made}
use Rattle.rel_store.specs.Layout.{slot_with}
use Rattle.node_store.specs.Events.{log_with_doubt}
use Rattle.node_command.specs.Files.{bundle_brought, made_size, Brings}
use Rattle.node_store.specs.Start.{start_text}
use Rattle.node_store.specs.Image.{extent_after, first_extent, HasSpace, IsImageWithExtent}
use Rattle.node_command.specs.Place.{own_refusal}
use Rattle.rel_handler.specs.Moments.{Begins, BeginsAt, WritesNothing}
use Rattle.rel_handler.specs.Refusals.{MakingRefused}
use Rattle.node_store.specs.State.{disk_in, disk_of, extent_in, list_in, start_in}
use Rattle.rel_handler.specs.Unpacking.{IsMade, NodeCreationRefused}
use Rattle.node_command.specs.declared.error.HandlerError.{HandlerError}
use Rattle.node_store.specs.declared.node_store.NodeStore.{NodeStore}

-- What was made of what the path brings.
module _ {D : Type 0} (v : Ghosts D) (source : Source) (path : List ℕ) (b : Brought) (read : Brings source path (Ok b)) (free : own_refusal b ≡ None) (disk : D) where
  pub made_so : (r : Result (NodeStore D) (HandlerError × D)) → IfOk r (λ h. list_in h ≡ entry (bundle_brought b) Permanent ∷ []) → IfOk r (λ h. (c : List ℕ) → v.may_leave (disk_in h) c → IsImageWithExtent c (list_in h) (extent_in h))
      → IfOk r (λ h. start_in v.seen h ≡ slot_with (start_text b.found.release)) → OnOk r (HasSpace first_extent (made_size b)) → IfOk r (λ h. extent_in h ≡ extent_after first_extent (made_size b))
      → OnOk r ((at : D) × BeginsAt v (log_with_doubt [] (made (bundle_brought b))) disk (disk_of r) at) → IfOk r (IsMade v source path disk)
  made_so (Ok h) list images start fits extent (at, begun) =
      record { brought = b; read = read; free = free; list = list; acknowledged = images; start = start; fits = fits; extent = extent; synced = at; begun = begun }
  made_so (Err e) list images start fits extent begun = tt

  pub not_made_so : (r : Result (NodeStore D) (HandlerError × D)) → Begins v (log_with_doubt [] (made (bundle_brought b))) disk (disk_of r)
      → IfErr r (λ e. MakingRefused (v.seen disk) (made_size b) (v.failures disk) (v.failures e.1) (WritesNothing v.seen v.may_leave v.moment v.left_since disk e.1) e.0) → IfErr r (λ e. NodeCreationRefused v source path disk e.1 e.0)
  not_made_so (Ok h) begins refused = tt
  not_made_so (Err e) begins refused = inr (inr (record { brought = b; read = read; clear = λ other works. free; idle = λ barred. absurd (barred free); any_moment = begins; refused = refused }))
