-- Which records of events write a one-shot.
use Rattle.std.proofs.Common.{◌≡◌, Bool, true, false, ◌&&◌, ◌||◌, not, List, ◌∷◌, map, filter, refl, sym, ap, ◌∙◌}
use Rattle.std.specs.Prelude.{if◌then◌else◌}
use Rattle.std.specs.List.{list_any}
use Rattle.rel_list.specs.declared.status.Status.{Status}
use Rattle.rel_list.specs.declared.status.Status.TheVariants.{Unpacked, Current, Old, Permanent, OneShot}
use Rattle.rel_list.specs.Event.{Event, recorded_status, status_behind}
use Rattle.rel_list.specs.Event.Event.{made, unpacked, installed, restart_installed, made_permanent, removed, reboot_old, boot}
use Rattle.rel_list.specs.Laws.{makes_one_shot}
use Rattle.rel_list.specs.Releases.{Entry, Releases}
use Rattle.rel_list.specs.Status.{is_one_shot}
use Rattle.rel_records.specs.Format.{writes_one_shot}
use Rattle.rel_records.specs.Record.{Assignment}
use Rattle.rel_records.specs.Writing.{assignment_of, changes, is_changed, record_of}
use Rattle.rel_records.proofs.FormatLemmas.{only_restarts_write_them}
use Rattle.rel_records.specs.StatusChanges.{is_same}

-- one of these assignments is of a one-shot
abbrev pub any_one_shot : List Assignment → Bool
any_one_shot given = list_any (λ (a : Assignment). is_one_shot a.status) given

-- a release is a one-shot, and wasn't
abbrev pub becomes_one_shot : Status → Status → Bool
becomes_one_shot after before = is_one_shot after && not (is_one_shot before)

not_written : (b : Bool) → (if b then false else false) ≡ false
not_written true = refl
not_written false = refl

-- so it is written as one
written : (after before : Status) → (if not (is_same after before) then is_one_shot (recorded_status after) else false) ≡ becomes_one_shot after before
written Unpacked s = not_written (not (is_same Unpacked s))
written Current s = not_written (not (is_same Current s))
written Old s = not_written (not (is_same Old s))
written Permanent s = not_written (not (is_same Permanent s))
written OneShot Unpacked = refl
written OneShot Current = refl
written OneShot Old = refl
written OneShot Permanent = refl
written OneShot OneShot = refl

-- one of the releases is, if the first one is or one of the others
pub one_more : (e : Event) (x : Entry) (es : Releases)
    → any_one_shot (changes e (x ∷ es)) ≡ (becomes_one_shot (status_behind e x.release.vsn x.status) x.status || any_one_shot (changes e es))
one_more e x es = go (is_changed e x) ∙ ap (λ b. b || any_one_shot (changes e es)) (written (status_behind e x.release.vsn x.status) x.status)
  where
    go : (b : Bool) → any_one_shot (map (assignment_of e) (if b then x ∷ filter (is_changed e) es else filter (is_changed e) es))
        ≡ ((if b then is_one_shot (recorded_status (status_behind e x.release.vsn x.status)) else false) || any_one_shot (changes e es))
    go true = refl
    go false = refl

-- The record of an event writes one where it is a restart's and one of the releases becomes one.
pub written_by_restarts : (e : Event) (es : Releases) → (makes_one_shot e && any_one_shot (changes e es)) ≡ writes_one_shot (record_of e es)
written_by_restarts (made p) es = refl
written_by_restarts (unpacked p) es = refl
written_by_restarts (removed v) es = refl
written_by_restarts (restart_installed v) es = refl
written_by_restarts (installed v) es = sym (only_restarts_write_them (installed v) es refl)
written_by_restarts (made_permanent v) es = sym (only_restarts_write_them (made_permanent v) es refl)
written_by_restarts (reboot_old v) es = sym (only_restarts_write_them (reboot_old v) es refl)
written_by_restarts boot es = sym (only_restarts_write_them boot es refl)
