-- What a boot changes, and what it doesn't.
use Rattle.std.proofs.Common.{◌≡◌, ◌≢◌, ◌↔◌, ℕ, ◌≤◌, Bool, true, false, cond, List, [], ◌∷◌, length, filter, map, Option, Some, None, is_some, refl, sym, ap, ◌∙◌, find, true≢false, arith, if◌then◌else◌}
use Rattle.std.proofs.lemmas.List.{nil_from_length}
use Rattle.std.specs.Option.{option_map, option_and_then, option_to_list}
use Rattle.std.specs.Str.{bytes_eq}
use Rattle.rel_list.specs.declared.status.Status.{Status}
use Rattle.rel_list.specs.declared.status.Status.TheVariants.{Unpacked, Current, Old, Permanent, OneShot}
use Rattle.rel_list.specs.Status.{is_one_shot, is_temporary}
use Rattle.rel_list.specs.Releases.{Releases, Entry, status_of, of_status, has_current, has_one_shot}
use Rattle.rel_list.specs.Event.{may_be_installed, installed_status, booted_status, with_statuses, list_installed, booted, boot_changes, list_from}
use Rattle.rel_list.specs.Event.Event.{installed, boot}

-- One-shots

-- Where no release becomes one, none is one.
pub none_is_one_shot : (f : List ℕ → Status → Status) → ((vsn : List ℕ) (s : Status) → is_one_shot (f vsn s) ≡ false) → (es : Releases)
    → has_one_shot (with_statuses f es) ≡ false
none_is_one_shot f never [] = refl
none_is_one_shot f never (e ∷ es) = rw (never e.release.vsn e.status) (none_is_one_shot f never es)

pub no_one_shot-booted : (s : Status) → is_one_shot (booted_status s) ≡ false
no_one_shot-booted Unpacked = refl
no_one_shot-booted Current = refl
no_one_shot-booted Old = refl
no_one_shot-booted Permanent = refl
no_one_shot-booted OneShot = refl

pub boot_leaves_no_one_shot : (es : Releases) → has_one_shot (booted es) ≡ false
boot_leaves_no_one_shot es = none_is_one_shot (λ vsn s. booted_status s) (λ vsn s. no_one_shot-booted s) es

-- A second boot

booted_status-twice : (s : Status) → is_one_shot s ≡ false → booted_status (booted_status s) ≡ booted_status s
booted_status-twice Unpacked none = refl
booted_status-twice Current none = refl
booted_status-twice Old none = refl
booted_status-twice Permanent none = refl
booted_status-twice OneShot none = absurd (true≢false none)

-- where a list has no one-shot, its first is none, and none after it is
pub first_is_none : (e : Entry) (es : Releases) → has_one_shot (e ∷ es) ≡ false → (is_one_shot e.status ≡ false) × (has_one_shot es ≡ false)
first_is_none e es none = go (is_one_shot e.status) none
  where
    go : (b : Bool) → is_some (option_map (λ (f : Entry). f.release) (cond b (Some e) (find (λ (f : Entry). is_one_shot f.status) es))) ≡ false
        → (b ≡ false) × (has_one_shot es ≡ false)
    go false none = (refl, none)
    go true none = absurd (true≢false none)

booted-twice : (es : Releases) → has_one_shot es ≡ false → booted (booted es) ≡ booted es
booted-twice [] none = refl
booted-twice (e ∷ es) none =
    let apart = first_is_none e es none in λ k. record e { status = booted_status-twice e.status apart.0 k } ∷ booted-twice es apart.1 k

pub second_boot : (es : Releases) → has_one_shot es ≡ false → list_from es (boot ∷ boot ∷ []) ≡ list_from es (boot ∷ [])
second_boot es none = ap (λ (l : Releases). Some l) (booted-twice es none)

-- What a boot changes

pub boot_changes_temporary_ones : (s : Status) → (booted_status s ≢ s) ↔ (is_temporary s ≡ true)
boot_changes_temporary_ones Unpacked = (λ n. absurd (n refl), λ e. absurd (true≢false (sym e)))
boot_changes_temporary_ones Current = (λ n. refl, λ e same. true≢false (sym (ap is_temporary same)))
boot_changes_temporary_ones Old = (λ n. absurd (n refl), λ e. absurd (true≢false (sym e)))
boot_changes_temporary_ones Permanent = (λ n. absurd (n refl), λ e. absurd (true≢false (sym e)))
boot_changes_temporary_ones OneShot = (λ n. refl, λ e same. true≢false (sym (ap is_one_shot same)))

-- of at most one that passes a test, the first is all of them
all_in_first : (test : Entry → Bool) (es : Releases) → length (filter test es) ≤ 1 → option_to_list (find test es) ≡ filter test es
all_in_first test [] few = refl
all_in_first test (e ∷ es) few = go (test e) few (all_in_first test es)
  where
    go : (b : Bool) → length (cond b (e ∷ filter test es) (filter test es)) ≤ 1
        → (length (filter test es) ≤ 1 → option_to_list (find test es) ≡ filter test es)
        → option_to_list (cond b (Some e) (find test es)) ≡ cond b (e ∷ filter test es) (filter test es)
    go true few rest = ap (λ l. e ∷ l) (sym (nil_from_length (filter test es) (omega (arith, few))))
    go false few rest = rest few

-- what is made of the one in an option
mapped_list : {A B : Type 0} (f : A → B) (o : Option A) → option_to_list (option_map f o) ≡ map f (option_to_list o)
mapped_list f None = refl
mapped_list f (Some x) = refl

-- the version of the release that is current or a one-shot is all that a boot changes
pub boot_changes-first : (es : Releases) → length (of_status is_temporary es) ≤ 1
    → option_to_list (option_map (λ (e : Entry). e.release.vsn) (find (λ (e : Entry). is_temporary e.status) es)) ≡ boot_changes es
boot_changes-first es few =
    mapped_list (λ (e : Entry). e.release.vsn) _ ∙ ap (map (λ (e : Entry). e.release.vsn)) (all_in_first (λ (e : Entry). is_temporary e.status) es few)

-- Installations before and after a boot

reinstalled_status : (b : Bool) (s : Status) → installed_status b (booted_status (installed_status b s)) ≡ installed_status b s
reinstalled_status true Unpacked = refl
reinstalled_status true Current = refl
reinstalled_status true Old = refl
reinstalled_status true Permanent = refl
reinstalled_status true OneShot = refl
reinstalled_status false Unpacked = refl
reinstalled_status false Current = refl
reinstalled_status false Old = refl
reinstalled_status false Permanent = refl
reinstalled_status false OneShot = refl

reinstalled : (v : List ℕ) (es : Releases) → list_installed v (booted (list_installed v es)) ≡ list_installed v es
reinstalled v [] = refl
reinstalled v (e ∷ es) = λ k. record e { status = reinstalled_status (bytes_eq v e.release.vsn) e.status k } ∷ reinstalled v es k

status-reinstalled : (v : List ℕ) (es : Releases)
    → status_of v (booted (list_installed v es)) ≡ option_map (λ s. booted_status (installed_status true s)) (status_of v es)
status-reinstalled v [] = refl
status-reinstalled v (e ∷ es) = go (bytes_eq v e.release.vsn) (status-reinstalled v es)
  where
    behind : Option Entry
    behind = find (λ (f : Entry). bytes_eq v f.release.vsn) (booted (list_installed v es))

    go : (b : Bool) → status_of v (booted (list_installed v es)) ≡ option_map (λ s. booted_status (installed_status true s)) (status_of v es)
        → option_map (λ (f : Entry). f.status) (cond b (Some (record e { status = booted_status (installed_status b e.status) })) behind)
        ≡ option_map (λ s. booted_status (installed_status true s)) (option_map (λ (f : Entry). f.status) (cond b (Some e) (find (λ (f : Entry). bytes_eq v f.release.vsn) es)))
    go true rest = refl
    go false rest = rest

-- a release that may be installed, and isn't permanent, may be so after a boot
may_again : (other later : Bool) (o : Option Status) → o ≢ Some Permanent → may_be_installed other o ≡ true
    → may_be_installed later (option_map (λ s. booted_status (installed_status true s)) o) ≡ true
may_again other later None apart may = may
may_again other later (Some Unpacked) apart may = refl
may_again other later (Some Current) apart may = refl
may_again other later (Some Old) apart may = refl
may_again other later (Some Permanent) apart may = absurd (apart refl)
may_again other later (Some OneShot) apart may = absurd (true≢false (sym may))

pub installs_alike : (v : List ℕ) (es : Releases) → status_of v es ≢ Some Permanent → list_from es (installed v ∷ boot ∷ installed v ∷ []) ≡ list_from es (installed v ∷ [])
installs_alike v es apart = whole (has_one_shot es)
  where
    once : Releases
    once = list_installed v es

    again : (b : Bool) → b ≡ true → option_and_then (λ (l : Releases). Some l) (if b then Some (list_installed v (booted once)) else None) ≡ Some once
    again true is = ap (λ (l : Releases). Some l) (reinstalled v es)
    again false is = absurd (true≢false (sym is))

    -- after a boot no release is a one-shot, so the list asks for none
    third : (b : Bool) → b ≡ true → may_be_installed (has_current (booted once)) (status_of v (booted once)) ≡ b
        → option_and_then (λ (l : Releases). Some l) (if has_one_shot (booted once) then None
        else (if may_be_installed (has_current (booted once)) (status_of v (booted once)) then Some (list_installed v (booted once)) else None)) ≡ Some once
    third b is may = rw (boot_leaves_no_one_shot once, may) (again b is)

    go : (b : Bool) → (b ≡ true → may_be_installed (has_current (booted once)) (option_map (λ s. booted_status (installed_status true s)) (status_of v es)) ≡ true)
        → option_and_then (λ next. list_from next (boot ∷ installed v ∷ [])) (if b then Some once else None)
        ≡ option_and_then (λ next. list_from next []) (if b then Some once else None)
    go false may = refl
    go true may = third true refl (ap (may_be_installed (has_current (booted once))) (status-reinstalled v es) ∙ may refl)

    whole : (b : Bool) → option_and_then (λ next. list_from next (boot ∷ installed v ∷ [])) (if b then None else (if may_be_installed (has_current es) (status_of v es) then Some once else None))
        ≡ option_and_then (λ next. list_from next []) (if b then None else (if may_be_installed (has_current es) (status_of v es) then Some once else None))
    whole true = refl
    whole false = go (may_be_installed (has_current es) (status_of v es)) (may_again (has_current es) (has_current (booted once)) (status_of v es) apart)
