-- What is reported of a release that is refused for its applications.
use Rattle.std.proofs.Common.{◌≡◌, inl, inr, ℕ, List, [], Ok, sym, subst}
use Rattle.rel_disk.specs.declared.disk.Disk.{Ghosts}
use Rattle.rel_disk.proofs.Moments.{weakened}
use Rattle.rel_list.specs.Event.Event.{made}
use Rattle.rel_store.specs.Contents.{HasOnlyRead}
use Rattle.rel_store.specs.Moments.{IsTornFrom}
use Rattle.rel_unpack.specs.Source.{Source}
use Rattle.rel_unpack.specs.Unpacking.{Brought}
use Rattle.node_store.specs.Events.{EventLog, log_with_doubt}
use Rattle.node_command.specs.Files.{bundle_brought, made_size, Brings, IsReportedAs}
use Rattle.node_command.specs.Place.{own_refusal}
use Rattle.rel_handler.specs.Moments.{Begins, WritesNothing}
use Rattle.rel_handler.specs.Refusals.{MakingRefused}
use Rattle.rel_handler.specs.Unpacking.{IsExistingOr, NodeCreationRefused}
use Rattle.node_command.specs.declared.error.HandlerError.{HandlerError}

module _ {D : Type 0} (v : Ghosts D) (old now : D) (read : HasOnlyRead v.seen v.may_leave v.moment v.left_since old now) where
  -- nothing was written
  pub read_alone : WritesNothing v.seen v.may_leave v.moment v.left_since old now
  read_alone = record { same = read.same; any_moment = read.any_moment }

  not_begun : v.syncs now ≡ v.syncs old → (k : EventLog) → Begins v k old now
  not_begun unsynced k = inl (record { until = weakened v.moment v.left_since old now (v.may_leave old) (IsTornFrom (v.may_leave old) 0 1) (λ c left. inl left) read.any_moment; unsynced = unsynced })

  -- Without a sync no node was made.
  pub not_made_of : v.syncs now ≡ v.syncs old → (source : Source) (path : List ℕ) (b : Brought) → Brings source path (Ok b) → (why e : HandlerError) → IsReportedAs (own_refusal b) why
      → IsExistingOr why (v.seen old) (v.failures old) (v.failures now) e → NodeCreationRefused v source path old now e
  not_made_of unsynced source path b brings why e of (inl (is, there)) = inr (inr (record {
    brought = b;
    read = brings;
    clear = λ other works. absurd (other is);
    idle = λ barred. read_alone;
    any_moment = not_begun unsynced (log_with_doubt [] (made (bundle_brought b)));
    refused = subst (MakingRefused (v.seen old) (made_size b) (v.failures old) (v.failures now) (WritesNothing v.seen v.may_leave v.moment v.left_since old now)) (sym is) (there, read_alone);
  }))
  not_made_of unsynced source path b brings why e of (inr (inl (is, failed))) = inr (inr (record {
    brought = b;
    read = brings;
    clear = λ other works. absurd (works is);
    idle = λ barred. read_alone;
    any_moment = not_begun unsynced (log_with_doubt [] (made (bundle_brought b)));
    refused = subst (MakingRefused (v.seen old) (made_size b) (v.failures old) (v.failures now) (WritesNothing v.seen v.may_leave v.moment v.left_since old now)) (sym is) failed;
  }))
  not_made_of unsynced source path b brings why e of (inr (inr (is, free))) =
      inr (inl (record { brought = b; read = brings; free = free; barred = subst (IsReportedAs (own_refusal b)) (sym is) of; unwritten = read_alone }))
