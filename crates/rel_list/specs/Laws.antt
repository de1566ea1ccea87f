-- Laws of the list and its events, whatever keeps them.
use Rattle.std.specs.Prelude.{◌≡◌, ◌≢◌, ◌↔◌, ◌≤◌, ℕ, Bool, List, [], ◌∷◌, ◌++◌, length, map, true, false, None, Some}
use Rattle.rel_list.specs.declared.status.Status.{Status}
use Rattle.rel_list.specs.declared.status.Status.TheVariants.{Permanent}
use Rattle.rel_list.specs.Status.{is_permanent, is_temporary}
use Rattle.rel_list.specs.Releases.{Bundle, Releases, bundle_in, status_of, of_status, permanent, has_one_shot, HasDistinctVersions}
use Rattle.rel_list.specs.Event.{Event, step, booted_status, booted, recorded, list_from, list_after}
use Rattle.rel_list.specs.Event.Event.{made, installed, restart_installed, made_permanent, reboot_old, boot}
use Rattle.rel_list.specs.Refusal.{refusal}

-- No version stands twice in a list, whatever events made it.
abbrev pub VersionsAreDistinct : Type 0
VersionsAreDistinct = (events : List Event) (es : Releases) → list_after events ≡ Some es → HasDistinctVersions es

-- At most one release is current or a one-shot, whatever events made the list.
abbrev pub AtMostOneIsTemporary : Type 0
AtMostOneIsTemporary = (events : List Event) (es : Releases) → list_after events ≡ Some es → length (of_status is_temporary es) ≤ 1

-- Once a first release was made, exactly one release is permanent, whatever events follow.
abbrev pub OneIsPermanent : Type 0
OneIsPermanent =
    (before after : List Event) (p : Bundle) (es : Releases) → list_after (before ++ made p ∷ after) ≡ Some es → length (of_status is_permanent es) ≡ 1

-- neither does the event bring the first release nor does it have another one become permanent
abbrev pub leaves_permanent : Event → Bool
leaves_permanent (made p) = false
leaves_permanent (made_permanent v) = false
leaves_permanent (reboot_old v) = false
leaves_permanent e = true

-- No other event changes which release is permanent.
abbrev pub PermanentStays : Type 0
PermanentStays = (e : Event) (es next : Releases) → leaves_permanent e ≡ true → step e es ≡ Some next → permanent next ≡ permanent es

-- the event is an installation whose script ends with a restart
abbrev pub makes_one_shot : Event → Bool
makes_one_shot (restart_installed v) = true
makes_one_shot e = false

-- No other event leads to a list with a one-shot.
abbrev pub OneShotsComeFromRestarts : Type 0
OneShotsComeFromRestarts = (e : Event) (es next : Releases) → makes_one_shot e ≡ false → step e es ≡ Some next → has_one_shot next ≡ false

-- After an installation with a restart records report the list as it is.
abbrev pub RestartsAreRecorded : Type 0
RestartsAreRecorded = (v : List ℕ) (es next : Releases) → step (restart_installed v) es ≡ Some next → recorded next ≡ next

-- A boot leaves no one-shot: what it starts as one, the next boot doesn't.
abbrev pub BootLeavesNoOneShot : Type 0
BootLeavesNoOneShot = (es : Releases) → has_one_shot (booted es) ≡ false

-- Where no release is a one-shot, a boot after a boot changes nothing.
abbrev pub SecondBootChangesNothing : Type 0
SecondBootChangesNothing = (es : Releases) → has_one_shot es ≡ false → list_from es (boot ∷ boot ∷ []) ≡ list_from es (boot ∷ [])

-- A boot changes the statuses of current releases and of one-shots alone.
abbrev pub BootChangesTemporaryOnes : Type 0
BootChangesTemporaryOnes = (s : Status) → (booted_status s ≢ s) ↔ (is_temporary s ≡ true)

-- Where a release isn't permanent, its installation, a boot and its installation again give what one installation gives.
abbrev pub InstallsAlikeBehindABoot : Type 0
InstallsAlikeBehindABoot =
    (v : List ℕ) (es : Releases) → status_of v es ≢ Some Permanent → list_from es (installed v ∷ boot ∷ installed v ∷ []) ≡ list_from es (installed v ∷ [])

-- An event has a refusal exactly where the list doesn't allow it.
abbrev pub RefusedWhereNotAllowed : Type 0
RefusedWhereNotAllowed = (e : Event) (es : Releases) → (refusal e es ≡ None) ↔ (step e es ≢ None)

-- the releases of a list without their statuses
abbrev pub bundles_of : Releases → List Bundle
bundles_of es = map bundle_in es

-- No version stands twice, the list is as records report it, exactly one release is permanent, and at most one is a one-shot.
pub record IsRecorded (es : Releases) : Type 0 where
  pub distinct : HasDistinctVersions es
  pub as_recorded : recorded es ≡ es
  pub one_permanent : length (of_status is_permanent es) ≡ 1
  pub one_temporary : length (of_status is_temporary es) ≤ 1

-- Events lead from such a list to each other one of the same releases in the same order.
abbrev pub RecordedListsAreReached : Type 0
RecordedListsAreReached =
    (es next : Releases) → IsRecorded es → IsRecorded next → bundles_of next ≡ bundles_of es → (events : List Event) × (list_from es events ≡ Some next)
