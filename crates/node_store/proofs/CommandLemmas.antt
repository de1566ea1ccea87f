-- Why a node refuses a command, and which release is the permanent one after it.
use Rattle.std.proofs.Common.{◌≡◌, inl, inr, ℕ, Bool, true, false, cond, find, List, [], ◌∷◌, Option, Some, None, Err, refl, sym, ap, ◌∙◌, subst}
use Rattle.std.specs.Prelude.{if◌then◌else◌}
use Rattle.std.specs.Option.{option_map}
use Rattle.std.specs.Str.{bytes_eq}
use Rattle.rel_files.specs.File.{HasVersions}
use Rattle.rel_files.specs.Release.{Release}
use Rattle.rel_list.specs.declared.fault.ListError.{ListError}
use Rattle.rel_list.specs.declared.fault.ListError.TheVariants as list
use Rattle.rel_list.specs.declared.status.Status.{Status}
use Rattle.rel_list.specs.declared.status.Status.TheVariants.{Unpacked, Current, Old, Permanent, OneShot}
use Rattle.rel_list.specs.Releases.{Releases, Entry, has_one_shot, status_of, release_at, permanent}
use Rattle.rel_list.specs.Event.{Event, may_be_made_permanent, may_be_rebooted, permanent_status, list_made_permanent, step}
use Rattle.rel_list.specs.Status.{is_permanent}
use Rattle.rel_list.specs.Event.Event.{made_permanent, reboot_old}
use Rattle.rel_list.specs.Refusal.{refusal, listed_refusal}
use Rattle.rel_records.specs.Lists.{HaveVersions}
use Rattle.rel_records.specs.Writing.{IsOfListed}
use Rattle.rel_list.proofs.OwnRules.{own_of_step}
use Rattle.node_store.specs.Commits.{MakesPermanent}
use Rattle.node_store.specs.Refusals.{CommandRefused}
use Rattle.node_store.specs.State.{list_in, is_dead, IsSame}
use Rattle.node_command.specs.Taking.{commanded}
use Rattle.node_command.specs.declared.error.HandlerError.{HandlerError}
use Rattle.node_command.specs.declared.error.HandlerError.TheVariants as reported
use Rattle.node_store.specs.declared.node_store.NodeStore.{NodeStore}
use Rattle.node_command.proofs.CommandLemmas.{IsListRefusal, IsListAnswer, list_refuses, of_command}
use Rattle.rel_files.proofs.Options.{passed}

-- An event is refused by the list or its limits, and nothing changed.
pub refused_by_list : {D : Type 0} (failures : D → ℕ) (h : NodeStore D) (e : Event) (size : ℕ) (why : HandlerError) → is_dead h ≡ false → commanded e (list_in h) ≡ Err why
    → CommandRefused failures e size h h why
refused_by_list failures h e size why alive barred = by_why why (subst IsListAnswer barred (of_command e (list_in h))) barred
  where
    same : IsSame h h
    same = record { disk = refl; list = refl; dead = refl; extent = refl }

    by_why : (why : HandlerError) → IsListRefusal why → commanded e (list_in h) ≡ Err why → CommandRefused failures e size h h why
    by_why reported.Dead of barred = absurd of
    by_why reported.Full of barred = absurd of
    by_why reported.Device of barred = absurd of
    by_why reported.Exists of barred = absurd of
    by_why reported.NoMatchingRelup of barred = absurd of
    by_why reported.NoMemory of barred = (alive, same)
    by_why reported.NoSuchRelease of barred = ((alive, barred), same)
    by_why reported.ExistingRelease of barred = ((alive, barred), same)
    by_why reported.AlreadyInstalled of barred = ((alive, barred), same)
    by_why (reported.BadStatus s) of barred = ((alive, barred), same)
    by_why reported.Permanent of barred = ((alive, barred), same)
    by_why reported.Running of barred = ((alive, barred), same)
    by_why reported.TooMany of barred = ((alive, barred), same)
    by_why (reported.LibDiffers app) of barred = absurd of
    by_why (reported.NoTable app) of barred = absurd of
    by_why (reported.BadFile path trouble) of barred = absurd of
    by_why (reported.MissingFile path) of barred = absurd of
    by_why (reported.VsnMismatch path) of barred = absurd of

-- A release that isn't listed isn't made permanent.
pub unlisted : (v : List ℕ) (e : Event) (es : Releases) → has_one_shot es ≡ false → MakesPermanent v e → release_at v es ≡ None → commanded e es ≡ Err reported.NoSuchRelease
unlisted v e es free moves none = go moves
  where
    no_status : (by_status : Status → Option ListError) (o : Option Entry) → option_map (λ (e : Entry). e.release) o ≡ None
        → listed_refusal by_status (option_map (λ (e : Entry). e.status) o) ≡ Some list.NoSuchRelease
    no_status by_status None none = refl
    no_status by_status (Some e) none = absurd cc

    refused : (e : Event) → IsOfListed e → refusal e es ≡ Some list.NoSuchRelease → commanded e es ≡ Err reported.NoSuchRelease
    refused e listed is = list_refuses e es list.NoSuchRelease listed is

    go : MakesPermanent v e → commanded e es ≡ Err reported.NoSuchRelease
    go (inl is) = subst (λ e. commanded e es ≡ Err reported.NoSuchRelease) (sym is) (refused (made_permanent v) tt (rw free (no_status _ (find (λ (e : Entry). bytes_eq v e.release.vsn) es) none)))
    go (inr is) = subst (λ e. commanded e es ≡ Err reported.NoSuchRelease) (sym is) (refused (reboot_old v) tt (rw free (no_status _ (find (λ (e : Entry). bytes_eq v e.release.vsn) es) none)))

-- The release that was made permanent is the permanent one.
permanent_now : (v : List ℕ) (es : Releases) → permanent (list_made_permanent v es) ≡ release_at v es
permanent_now v [] = refl
permanent_now v (e ∷ es) = go (bytes_eq v e.release.vsn) e.status (permanent_now v es)
  where
    first : Bool → Option Entry → Entry → Option Release
    first b rest x = option_map (λ (y : Entry). y.release) (cond b (Some x) rest)

    go : (b : Bool) (s : Status) → permanent (list_made_permanent v es) ≡ release_at v es
        → first (is_permanent (permanent_status b s)) (find (λ (y : Entry). is_permanent y.status) (list_made_permanent v es)) (record e { status = permanent_status b s })
        ≡ first b (find (λ (y : Entry). bytes_eq v y.release.vsn) es) e
    go true s rest = refl
    go false Unpacked rest = rest
    go false Current rest = rest
    go false Old rest = rest
    go false Permanent rest = rest
    go false OneShot rest = rest

moved : (v : List ℕ) (es next : Releases) (may : Bool) → (if may then Some (list_made_permanent v es) else None) ≡ Some next → permanent next ≡ release_at v es
moved v es next may is =
    let (can, made_so) = passed may (Some (list_made_permanent v es)) next is in
    let same : list_made_permanent v es ≡ next = cc in
    ap permanent (sym same) ∙ permanent_now v es

-- so it is after both events
pub permanent_behind : (v : List ℕ) (e : Event) (es next : Releases) → MakesPermanent v e → step e es ≡ Some next → permanent next ≡ release_at v es
permanent_behind v e es next (inl same) is = moved v es next (may_be_made_permanent (status_of v es)) (own_of_step (made_permanent v) es next (subst (λ e. step e es ≡ Some next) same is)).1
permanent_behind v e es next (inr same) is = moved v es next (may_be_rebooted (status_of v es)) (own_of_step (reboot_old v) es next (subst (λ e. step e es ≡ Some next) same is)).1

-- a listed release has the versions of the list
pub listed_versions : (v : List ℕ) (es : Releases) (r : Release) → HaveVersions es → release_at v es ≡ Some r → HasVersions r
listed_versions v [] r all is = absurd cc
listed_versions v (e ∷ es) r all is = go (bytes_eq v e.release.vsn) (listed_versions v es r all.1) is
  where
    go : (b : Bool) → (release_at v es ≡ Some r → HasVersions r) → option_map (λ (x : Entry). x.release) (cond b (Some e) (find (λ (x : Entry). bytes_eq v x.release.vsn) es)) ≡ Some r → HasVersions r
    go true rest is = let same : e.release ≡ r = cc is in subst HasVersions same all.0
    go false rest is = rest is
