-- Which events leave the permanent release what it is.
use Rattle.std.proofs.Common.{◌≡◌, ℕ, Bool, true, false, cond, List, [], ◌∷◌, ◌++◌, Option, Some, find, true≢false, refl, sym, ap, ◌∙◌}
use Rattle.std.specs.Option.{option_map}
use Rattle.std.specs.Str.{bytes_eq}
use Rattle.rel_files.specs.Release.{Release}
use Rattle.rel_list.specs.declared.status.Status.{Status}
use Rattle.rel_list.specs.declared.status.Status.TheVariants.{Unpacked}
use Rattle.rel_list.specs.Status.{is_permanent}
use Rattle.rel_list.specs.Releases.{Bundle, Releases, Entry, entry, status_of, has_current, permanent}
use Rattle.rel_list.specs.Event.{Event, may_be_installed, may_be_removed, installed_status, restarted_status, booted_status, recorded_status, with_statuses, list_installed, list_restarted, without, booted, recorded, own_step}
use Rattle.rel_list.specs.Event.Event.{made, unpacked, installed, restart_installed, made_permanent, removed, reboot_old, boot}
use Rattle.rel_list.specs.Laws.{leaves_permanent, PermanentStays}
use Rattle.rel_list.proofs.EventLaws.{permanent-installed, permanent-restarted, permanent-booted, permanent-recorded, kept_permanent, allowed, allowed_else}
use Rattle.rel_list.proofs.OwnRules.{own_of_step}

-- the first release, or one after it
abbrev release_or : Bool → Entry → Option Entry → Option Release
release_or b e behind = option_map (λ (f : Entry). f.release) (cond b (Some e) behind)

-- the first permanent entry
abbrev first_permanent : Releases → Option Entry
first_permanent es = find (λ (e : Entry). is_permanent e.status) es

-- statuses that stay permanent, or not, leave the permanent release
permanent-with_statuses : (f : List ℕ → Status → Status) → ((vsn : List ℕ) (s : Status) → is_permanent (f vsn s) ≡ is_permanent s) → (es : Releases) → permanent (with_statuses f es) ≡ permanent es
permanent-with_statuses f same [] = refl
permanent-with_statuses f same (e ∷ es) =
    ap (λ b. release_or b (record e { status = f e.release.vsn e.status }) (first_permanent (with_statuses f es))) (same e.release.vsn e.status)
    ∙ go (is_permanent e.status) (permanent-with_statuses f same es)
  where
    go : (b : Bool) → permanent (with_statuses f es) ≡ permanent es
        → release_or b (record e { status = f e.release.vsn e.status }) (first_permanent (with_statuses f es)) ≡ release_or b e (first_permanent es)
    go true rest = refl
    go false rest = rest

pub permanent-of_booted : (es : Releases) → permanent (booted es) ≡ permanent es
permanent-of_booted es = permanent-with_statuses (λ vsn s. booted_status s) (λ vsn s. permanent-booted s) es

pub permanent-of_recorded : (es : Releases) → permanent (recorded es) ≡ permanent es
permanent-of_recorded es = permanent-with_statuses (λ vsn s. recorded_status s) (λ vsn s. permanent-recorded s) es

permanent-push : (es : Releases) (p : Bundle) → permanent (es ++ entry p Unpacked ∷ []) ≡ permanent es
permanent-push [] p = refl
permanent-push (e ∷ es) p = go (is_permanent e.status) (permanent-push es p)
  where
    go : (b : Bool) → permanent (es ++ entry p Unpacked ∷ []) ≡ permanent es → release_or b e (first_permanent (es ++ entry p Unpacked ∷ [])) ≡ release_or b e (first_permanent es)
    go true rest = refl
    go false rest = rest

permanent-without : (v : List ℕ) (es : Releases) → may_be_removed (status_of v es) ≡ true → permanent (without v es) ≡ permanent es
permanent-without v [] may = refl
permanent-without v (e ∷ es) may = go (bytes_eq v e.release.vsn) (permanent-without v es) may
  where
    go : (b : Bool) → (may_be_removed (status_of v es) ≡ true → permanent (without v es) ≡ permanent es)
        → may_be_removed (option_map (λ (f : Entry). f.status) (cond b (Some e) (find (λ (f : Entry). bytes_eq v f.release.vsn) es))) ≡ true
        → permanent (cond b es (e ∷ without v es)) ≡ permanent (e ∷ es)
    go true rest may = ap (λ b. release_or b e (first_permanent es)) (sym (kept_permanent e.status may))
    go false rest may = ahead (is_permanent e.status) (rest may)
      where
        ahead : (b : Bool) → permanent (without v es) ≡ permanent es → release_or b e (first_permanent (without v es)) ≡ release_or b e (first_permanent es)
        ahead true rest = refl
        ahead false rest = rest

permanent-own : (e : Event) (es next : Releases) → leaves_permanent e ≡ true → own_step e es ≡ Some next → permanent next ≡ permanent es
permanent-own (made p) es next leaves is = absurd (true≢false (sym leaves))
permanent-own (unpacked p) es next leaves is =
    let a = allowed_else _ (es ++ entry p Unpacked ∷ []) next is in
    ap permanent (sym a.1) ∙ permanent-push es p
permanent-own (installed v) es next leaves is =
    let a = allowed (may_be_installed (has_current es) (status_of v es)) (list_installed v es) next is in
    ap permanent (sym a.1) ∙ permanent-with_statuses (λ vsn s. installed_status (bytes_eq v vsn) s) (λ vsn s. permanent-installed (bytes_eq v vsn) s) es
permanent-own (restart_installed v) es next leaves is =
    let a = allowed (may_be_installed (has_current es) (status_of v es)) (list_restarted v es) next is in
    ap permanent (sym a.1) ∙ permanent-with_statuses (λ vsn s. restarted_status (bytes_eq v vsn) s) (λ vsn s. permanent-restarted (bytes_eq v vsn) s) es
permanent-own (made_permanent v) es next leaves is = absurd (true≢false (sym leaves))
permanent-own (removed v) es next leaves is =
    let a = allowed (may_be_removed (status_of v es)) (without v es) next is in
    ap permanent (sym a.1) ∙ permanent-without v es a.0
permanent-own (reboot_old v) es next leaves is = absurd (true≢false (sym leaves))
permanent-own boot es next leaves is =
    let is_booted : booted es ≡ next = cc is in
    ap permanent (sym is_booted) ∙ permanent-of_booted es

pub permanent_stays : PermanentStays
permanent_stays e es next leaves is = permanent-own e es next leaves (own_of_step e es next is).1
