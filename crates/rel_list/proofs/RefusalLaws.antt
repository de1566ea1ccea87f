-- An event has a refusal exactly where the list doesn't allow it.
use Rattle.std.proofs.Common.{◌≡◌, ◌≢◌, ◌↔◌, Bool, true, false, ◌||◌, [], ◌∷◌, Option, Some, None, is_some, refl, if◌then◌else◌}
use Rattle.rel_list.specs.declared.status.Status.{Status}
use Rattle.rel_list.specs.declared.status.Status.TheVariants.{Unpacked, Current, Old, Permanent, OneShot}
use Rattle.rel_list.specs.declared.fault.ListError.{ListError}
use Rattle.rel_list.specs.declared.fault.ListError.TheVariants as reported
use Rattle.rel_list.specs.Status.{is_current, is_old, is_permanent, runs}
use Rattle.rel_list.specs.Releases.{Releases, first_different, status_of, has_current}
use Rattle.rel_list.specs.Event.{Event, may_be_installed, may_be_made_permanent, may_be_removed, may_be_rebooted, list_installed, list_restarted, list_made_permanent, without, own_step, step, waits_for_boot}
use Rattle.rel_list.specs.Event.Event.{made, unpacked, installed, restart_installed, made_permanent, removed, reboot_old, boot}
use Rattle.rel_list.specs.Refusal.{own_refusal, refusal, listed_refusal}

abbrev no_refusal : Option ListError
no_refusal = None

abbrev no_list : Option Releases
no_list = None

-- no refusal, and a list
allows : (es : Releases) → (no_refusal ≡ None) ↔ (Some es ≢ None)
allows es = (λ same e. cc, λ n. refl)

-- a refusal, and no list
refuses : (error : ListError) → (Some error ≡ None) ↔ (no_list ≢ None)
refuses error = (λ e. cc, λ n. absurd (n refl))

by_installation : (other : Bool) (o : Option Status) (es : Releases)
    → (listed_refusal (λ s. if runs other s then Some reported.AlreadyInstalled else None) o ≡ None) ↔ ((if may_be_installed other o then Some es else None) ≢ None)
by_installation other None es = refuses _
by_installation other (Some Unpacked) es = allows es
by_installation other (Some Current) es = refuses _
by_installation other (Some Old) es = allows es
by_installation true (Some Permanent) es = allows es
by_installation false (Some Permanent) es = refuses _
by_installation other (Some OneShot) es = refuses _

by_permanence : (o : Option Status) (es : Releases)
    → (listed_refusal (λ s. if is_current s then None else Some (reported.BadStatus s)) o ≡ None) ↔ ((if may_be_made_permanent o then Some es else None) ≢ None)
by_permanence None es = refuses _
by_permanence (Some Unpacked) es = refuses _
by_permanence (Some Current) es = allows es
by_permanence (Some Old) es = refuses _
by_permanence (Some Permanent) es = refuses _
by_permanence (Some OneShot) es = refuses _

by_removal : (other : Bool) (o : Option Status) (es : Releases)
    → (listed_refusal (λ s. if is_permanent s then Some reported.Permanent else if runs other s then Some reported.Running else None) o ≡ None)
    ↔ ((if may_be_removed o then Some es else None) ≢ None)
by_removal other None es = refuses _
by_removal other (Some Unpacked) es = allows es
by_removal other (Some Current) es = refuses _
by_removal other (Some Old) es = allows es
by_removal other (Some Permanent) es = refuses _
by_removal other (Some OneShot) es = refuses _

by_reboot : (o : Option Status) (es : Releases)
    → (listed_refusal (λ s. if is_old s then None else Some (reported.BadStatus s)) o ≡ None) ↔ ((if may_be_rebooted o then Some es else None) ≢ None)
by_reboot None es = refuses _
by_reboot (Some Unpacked) es = refuses _
by_reboot (Some Current) es = refuses _
by_reboot (Some Old) es = allows es
by_reboot (Some Permanent) es = refuses _
by_reboot (Some OneShot) es = refuses _

by_fit : (listed different : Bool) (es : Releases)
    → ((if listed then Some reported.ExistingRelease else if different then Some reported.LibDiffers else None) ≡ None) ↔ ((if listed || different then None else Some es) ≢ None)
by_fit true different es = refuses _
by_fit false true es = refuses _
by_fit false false es = allows es

by_own_rule : (e : Event) (es : Releases) → (own_refusal e es ≡ None) ↔ (own_step e es ≢ None)
by_own_rule (made p) [] = allows _
by_own_rule (made p) (e ∷ es) = refuses _
by_own_rule (unpacked p) es = by_fit (is_some (status_of p.release.vsn es)) (is_some (first_different es p.libraries)) _
by_own_rule (installed v) es = by_installation (has_current es) (status_of v es) (list_installed v es)
by_own_rule (restart_installed v) es = by_installation (has_current es) (status_of v es) (list_restarted v es)
by_own_rule (made_permanent v) es = by_permanence (status_of v es) (list_made_permanent v es)
by_own_rule (removed v) es = by_removal (has_current es) (status_of v es) (without v es)
by_own_rule (reboot_old v) es = by_reboot (status_of v es) (list_made_permanent v es)
by_own_rule boot es = allows _

pub refused_where_not_allowed : (e : Event) (es : Releases) → (refusal e es ≡ None) ↔ (step e es ≢ None)
refused_where_not_allowed e es = go (waits_for_boot e es)
  where
    go : (b : Bool) → ((if b then Some (reported.BadStatus OneShot) else own_refusal e es) ≡ None) ↔ ((if b then None else own_step e es) ≢ None)
    go true = refuses _
    go false = by_own_rule e es
