-- Why a list doesn't take an event.
use Rattle.std.specs.Prelude.{◌≡◌, ℕ, List, Bool, true, false, IsTrue, [], ◌∷◌, is_some, if◌then◌else◌, Option, None, Some}
use Rattle.rel_list.specs.declared.status.Status.{Status}
use Rattle.rel_list.specs.declared.status.Status.TheVariants.{OneShot}
use Rattle.rel_list.specs.declared.fault.ListError.{ListError}
use Rattle.rel_list.specs.declared.fault.ListError.TheVariants.{NoSuchRelease, ExistingRelease, LibDiffers, AlreadyInstalled, BadStatus, Permanent, Running, NoMemory}
use Rattle.rel_list.specs.Status.{is_current, is_old, is_permanent, runs}
use Rattle.rel_list.specs.Releases.{Releases, first_different, status_of, has_current}
use Rattle.rel_list.specs.Event.{Event, waits_for_boot}
use Rattle.rel_list.specs.Event.Event.{made, unpacked, installed, restart_installed, made_permanent, removed, reboot_old, boot}

-- NoSuchRelease comes first, where no release has the version. Else the status of the release decides.
abbrev pub listed_refusal : (Status → Option ListError) → Option Status → Option ListError
listed_refusal by_status None = Some NoSuchRelease
listed_refusal by_status (Some s) = by_status s

-- why the list doesn't allow an installation
abbrev pub installation_refusal : List ℕ → Releases → Option ListError
installation_refusal v es = listed_refusal (λ s. if runs (has_current es) s then Some AlreadyInstalled else None) (status_of v es)

-- Why an event's own rule doesn't allow it: the first condition that the event fails, in the order in which they stand here.
abbrev pub own_refusal : Event → Releases → Option ListError
own_refusal (made p) [] = None
own_refusal (made p) (e ∷ es) = Some ExistingRelease
own_refusal (unpacked p) es =
    if is_some (status_of p.release.vsn es) then Some ExistingRelease
    else if is_some (first_different es p.libraries) then Some LibDiffers
    else None
own_refusal (installed v) es = installation_refusal v es
own_refusal (restart_installed v) es = installation_refusal v es
own_refusal (made_permanent v) es = listed_refusal (λ s. if is_current s then None else Some (BadStatus s)) (status_of v es)
own_refusal (removed v) es =
    listed_refusal (λ s. if is_permanent s then Some Permanent else if runs (has_current es) s then Some Running else None) (status_of v es)
own_refusal (reboot_old v) es = listed_refusal (λ s. if is_old s then None else Some (BadStatus s)) (status_of v es)
own_refusal boot es = None

-- Why the list doesn't allow an event: beside a one-shot all but a boot is refused for that, and else the event's own rule reports
-- it.
abbrev pub refusal : Event → Releases → Option ListError
refusal e es = if waits_for_boot e es then Some (BadStatus OneShot) else own_refusal e es

-- the event brings a release, which takes memory
abbrev pub brings_release : Event → Bool
brings_release (made p) = true
brings_release (unpacked p) = true
brings_release e = false

-- What an event is refused with: its refusal by the list, or out of memory for a release that the list would take.
abbrev pub IsRefusedWith : Event → Releases → ListError → Type 0
IsRefusedWith e es NoMemory = (refusal e es ≡ None) × IsTrue (brings_release e)
IsRefusedWith e es error = refusal e es ≡ Some error
