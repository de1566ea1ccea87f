-- Which events lead to a list with a one-shot, and what records report of it.
use Rattle.std.proofs.Common.{◌≡◌, ℕ, Bool, true, false, List, [], ◌∷◌, ◌++◌, Some, refl, ◌∙◌, subst, true≢false, if◌then◌else◌}
use Rattle.std.specs.Str.{bytes_eq}
use Rattle.rel_list.specs.declared.status.Status.{Status}
use Rattle.rel_list.specs.declared.status.Status.TheVariants.{Unpacked, Current, Old, Permanent, OneShot}
use Rattle.rel_list.specs.Status.{is_one_shot}
use Rattle.rel_list.specs.Releases.{Entry, Releases, entry, has_current, has_one_shot, status_of}
use Rattle.rel_list.specs.Event.{Event, booted, booted_status, installed_status, is_barred, list_installed, list_made_permanent, list_restarted, may_be_installed, may_be_made_permanent, may_be_rebooted, may_be_removed, own_step, permanent_status, recorded, recorded_status, restarted_status, waits_for_boot, with_statuses, without}
use Rattle.rel_list.specs.Event.Event.{made, unpacked, installed, restart_installed, made_permanent, removed, reboot_old, boot}
use Rattle.rel_list.specs.Laws.{OneShotsComeFromRestarts, RestartsAreRecorded, makes_one_shot}
use Rattle.rel_list.proofs.BootLaws.{boot_leaves_no_one_shot, first_is_none, none_is_one_shot}
use Rattle.rel_list.proofs.EventLaws.{allowed, allowed_else}
use Rattle.rel_list.proofs.OwnRules.{own_of_step}

-- Where none becomes one that wasn't, a list without one stays so.
pub none_more : (f : List ℕ → Status → Status) → ((vsn : List ℕ) (s : Status) → is_one_shot s ≡ false → is_one_shot (f vsn s) ≡ false) → (es : Releases)
    → has_one_shot es ≡ false → has_one_shot (with_statuses f es) ≡ false
none_more f keeps [] none = refl
none_more f keeps (e ∷ es) none =
    let apart = first_is_none e es none in rw (keeps e.release.vsn e.status apart.0) (none_more f keeps es apart.1)

pub none-installed : (b : Bool) (s : Status) → is_one_shot (installed_status b s) ≡ false
none-installed true Unpacked = refl
none-installed true Current = refl
none-installed true Old = refl
none-installed true Permanent = refl
none-installed true OneShot = refl
none-installed false Unpacked = refl
none-installed false Current = refl
none-installed false Old = refl
none-installed false Permanent = refl
none-installed false OneShot = refl

pub none-permanent : (b : Bool) (s : Status) → is_one_shot s ≡ false → is_one_shot (permanent_status b s) ≡ false
none-permanent true s none = refl
none-permanent false Unpacked none = refl
none-permanent false Current none = refl
none-permanent false Old none = refl
none-permanent false Permanent none = refl
none-permanent false OneShot none = none

-- a further release that is none
pub none-push : (es : Releases) (n : Entry) → is_one_shot n.status ≡ false → has_one_shot es ≡ false → has_one_shot (es ++ n ∷ []) ≡ false
none-push [] n is none = rw is refl
none-push (e ∷ es) n is none = let apart = first_is_none e es none in rw apart.0 (none-push es n is apart.1)

none-without : (v : List ℕ) (es : Releases) → has_one_shot es ≡ false → has_one_shot (without v es) ≡ false
none-without v [] none = refl
none-without v (e ∷ es) none = let apart = first_is_none e es none in go (bytes_eq v e.release.vsn) apart.0 apart.1 (none-without v es apart.1)
  where
    go : (b : Bool) → is_one_shot e.status ≡ false → has_one_shot es ≡ false → has_one_shot (without v es) ≡ false → has_one_shot (if b then es else e ∷ without v es) ≡ false
    go true own rest behind = rest
    go false own rest behind = rw own behind

none-own : (e : Event) (es next : Releases) → makes_one_shot e ≡ false → waits_for_boot e es ≡ false → own_step e es ≡ Some next → has_one_shot next ≡ false
none-own (made p) [] next other free is = let one : entry p Permanent ∷ [] ≡ next = cc is in subst (λ l. has_one_shot l ≡ false) one refl
none-own (made p) (e ∷ es) next other free is = cc
none-own (unpacked p) es next other free is =
    subst (λ l. has_one_shot l ≡ false) (allowed_else (is_barred p es) (es ++ entry p Unpacked ∷ []) next is).1 (none-push es (entry p Unpacked) refl free)
none-own (installed v) es next other free is =
    subst (λ l. has_one_shot l ≡ false) (allowed (may_be_installed (has_current es) (status_of v es)) (list_installed v es) next is).1
    (none_is_one_shot (λ vsn s. installed_status (bytes_eq v vsn) s) (λ vsn s. none-installed (bytes_eq v vsn) s) es)
none-own (restart_installed v) es next other free is = absurd (true≢false other)
none-own (made_permanent v) es next other free is =
    subst (λ l. has_one_shot l ≡ false) (allowed (may_be_made_permanent (status_of v es)) (list_made_permanent v es) next is).1
    (none_more (λ vsn s. permanent_status (bytes_eq v vsn) s) (λ vsn s. none-permanent (bytes_eq v vsn) s) es free)
none-own (removed v) es next other free is =
    subst (λ l. has_one_shot l ≡ false) (allowed (may_be_removed (status_of v es)) (without v es) next is).1 (none-without v es free)
none-own (reboot_old v) es next other free is =
    subst (λ l. has_one_shot l ≡ false) (allowed (may_be_rebooted (status_of v es)) (list_made_permanent v es) next is).1
    (none_more (λ vsn s. permanent_status (bytes_eq v vsn) s) (λ vsn s. none-permanent (bytes_eq v vsn) s) es free)
none-own boot es next other free is = let same : booted es ≡ next = cc is in subst (λ l. has_one_shot l ≡ false) same (boot_leaves_no_one_shot es)

pub one_shots_come_from_restarts : OneShotsComeFromRestarts
one_shots_come_from_restarts e es next other is = let own = own_of_step e es next is in none-own e es next other own.0 own.1

-- After an installation with a restart no release is current, so records report the list as it is.
none-current : (b : Bool) (s : Status) → recorded_status (restarted_status b s) ≡ restarted_status b s
none-current true Unpacked = refl
none-current true Current = refl
none-current true Old = refl
none-current true Permanent = refl
none-current true OneShot = refl
none-current false Unpacked = refl
none-current false Current = refl
none-current false Old = refl
none-current false Permanent = refl
none-current false OneShot = refl

restarted_as_recorded : (v : List ℕ) (es : Releases) → recorded (list_restarted v es) ≡ list_restarted v es
restarted_as_recorded v [] = refl
restarted_as_recorded v (e ∷ es) =
    let own = none-current (bytes_eq v e.release.vsn) e.status in
    λ k. record e { status = own k } ∷ restarted_as_recorded v es k

pub restarts_are_recorded : RestartsAreRecorded
restarts_are_recorded v es next is =
    let own = own_of_step (restart_installed v) es next is in
    subst (λ l. recorded l ≡ l) (allowed (may_be_installed (has_current es) (status_of v es)) (list_restarted v es) next own.1).1 (restarted_as_recorded v es)

-- Where a list has none, a boot makes of it what records report of it.
pub boots_as_recorded : (es : Releases) → has_one_shot es ≡ false → booted es ≡ recorded es
boots_as_recorded [] none = refl
boots_as_recorded (e ∷ es) none = let apart = first_is_none e es none in λ k. record e { status = own e.status apart.0 k } ∷ boots_as_recorded es apart.1 k
  where
    own : (s : Status) → is_one_shot s ≡ false → booted_status s ≡ recorded_status s
    own Unpacked none = refl
    own Current none = refl
    own Old none = refl
    own Permanent none = refl
    own OneShot none = absurd (true≢false none)

-- records report as many one-shots as there are
pub one_shot-recorded : (s : Status) → is_one_shot (recorded_status s) ≡ is_one_shot s
one_shot-recorded Unpacked = refl
one_shot-recorded Current = refl
one_shot-recorded Old = refl
one_shot-recorded Permanent = refl
one_shot-recorded OneShot = refl

pub none_recorded : (es : Releases) → has_one_shot es ≡ false → has_one_shot (recorded es) ≡ false
none_recorded es none = none_more (λ vsn s. recorded_status s) (λ vsn s is. one_shot-recorded s ∙ is) es none
