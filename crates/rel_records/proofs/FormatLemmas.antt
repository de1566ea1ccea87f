-- Which records a store of which format may have.
use Rattle.std.proofs.Common.{◌≡◌, ℕ, Bool, true, false, ◌||◌, not, List, [], ◌∷◌, map, filter, Some, None, refl, sym, ap, subst, true≢false}
use Rattle.std.specs.Str.{bytes_eq}
use Rattle.std.specs.List.{list_any}
use Rattle.std.specs.Prelude.{find, is_some, if◌then◌else◌}
use Rattle.std.specs.Option.{option_map}
use Rattle.rel_files.proofs.Options.{passed}
use Rattle.rel_list.proofs.BootLaws.{no_one_shot-booted}
use Rattle.rel_list.specs.declared.status.Status.{Status}
use Rattle.rel_list.specs.declared.status.Status.TheVariants.{Unpacked, Current, Old, Permanent, OneShot}
use Rattle.rel_list.specs.Event.{Event, recorded_status, status_behind}
use Rattle.rel_list.specs.Event.Event.{made, unpacked, installed, restart_installed, made_permanent, removed, reboot_old, boot}
use Rattle.rel_list.specs.Laws.{makes_one_shot}
use Rattle.rel_list.specs.Releases.{Entry, Releases, has_one_shot}
use Rattle.rel_list.specs.Status.{is_one_shot}
use Rattle.rel_list.proofs.OneShotLaws.{none-installed, none-permanent}
use Rattle.rel_records.specs.Format.{allows, may_write_it, writes_one_shot}
use Rattle.rel_records.specs.Image.{image_record}
use Rattle.rel_records.specs.Laws.{ImagesWriteTheirOneShots, MakeItInFormat2, OnlyRestartsWriteOneShots}
use Rattle.rel_records.specs.Lists.{assigned, assigned_in, MakesFrom}
use Rattle.rel_records.specs.Record.{Assignment, Record, makes, adds, assigns, removes, images}
use Rattle.rel_records.specs.StatusChanges.{is_same}
use Rattle.rel_records.specs.Writing.{assignment_of, changes, is_changed, record_of}

-- whether one of those has a property that are made of others
pub any-map : {A B : Type 0} (p : B → Bool) (f : A → B) (xs : List A) → list_any p (map f xs) ≡ list_any (λ (x : A). p (f x)) xs
any-map p f [] = refl
any-map p f (x ∷ xs) = ap (λ b. p (f x) || b) (any-map p f xs)

-- what may stand in a store of a format is allowed there, and may stand
pub allowed_so : (format : ℕ) (r : Record) (es next : Releases) → assigned_in format r es ≡ Some next → (allows format r ≡ true) × (assigned r es ≡ Some next)
allowed_so format r es next is = passed (allows format r) (assigned r es) next is

-- and the other way round
pub stands_so : (format : ℕ) (r : Record) (es next : Releases) → allows format r ≡ true → assigned r es ≡ Some next → assigned_in format r es ≡ Some next
stands_so format r es next may is = subst (λ b. (if b then assigned r es else None) ≡ Some next) (sym may) is

or_else : (b c : Bool) → c ≡ true → (b || c) ≡ true
or_else true c is = refl
or_else false c is = is

-- a record without that status is allowed in each
pub allows_without : (format : ℕ) (r : Record) → writes_one_shot r ≡ false → allows format r ≡ true
allows_without format r none = or_else (may_write_it format r) (not (writes_one_shot r)) (ap not none)

-- What a store of any format may have, one of format 2 may have.
allowed_in_2 : (format : ℕ) (r : Record) → allows format r ≡ true → allows 2 r ≡ true
allowed_in_2 format (makes r ls o) may = refl
allowed_in_2 format (adds r ls o) may = refl
allowed_in_2 format (assigns given) may = refl
allowed_in_2 format (removes v) may = refl
allowed_in_2 format (images xs ls) may = may

-- A store of format 2 may have the record of each event.
pub event_allowed_in_2 : (e : Event) (es : Releases) → allows 2 (record_of e es) ≡ true
event_allowed_in_2 (made p) es = refl
event_allowed_in_2 (unpacked p) es = refl
event_allowed_in_2 (installed v) es = refl
event_allowed_in_2 (restart_installed v) es = refl
event_allowed_in_2 (made_permanent v) es = refl
event_allowed_in_2 (removed v) es = refl
event_allowed_in_2 (reboot_old v) es = refl
event_allowed_in_2 boot es = refl

from_in_2 : (format : ℕ) (es : Releases) (bodies : List (List ℕ)) (end : Releases) → MakesFrom format es bodies end → MakesFrom 2 es bodies end
from_in_2 format es [] end is = is
from_in_2 format es (body ∷ bodies) end (r, next, spelled, taken, rest) =
    let (may, stands) = allowed_so format r es next taken in
    (r, next, spelled, stands_so 2 r es next (allowed_in_2 format r may) stands, from_in_2 format next bodies end rest)

pub made_in_2 : MakeItInFormat2
made_in_2 format bodies es makes_it = (from_in_2 format [] bodies es makes_it.0, makes_it.1)

none_behind : (e : Event) → makes_one_shot e ≡ false → (vsn : List ℕ) (s : Status) → is_one_shot s ≡ false → is_one_shot (status_behind e vsn s) ≡ false
none_behind (made p) other vsn s none = none
none_behind (unpacked p) other vsn s none = none
none_behind (installed v) other vsn s none = none-installed (bytes_eq v vsn) s
none_behind (restart_installed v) other vsn s none = absurd (true≢false other)
none_behind (made_permanent v) other vsn s none = none-permanent (bytes_eq v vsn) s none
none_behind (removed v) other vsn s none = none
none_behind (reboot_old v) other vsn s none = none-permanent (bytes_eq v vsn) s none
none_behind boot other vsn s none = no_one_shot-booted s

-- An event that makes no release a one-shot writes that status of none: it writes only the statuses that it changes.
none_written : (s t : Status) → (is_one_shot s ≡ false → is_one_shot t ≡ false) → not (is_same t s) ≡ true → is_one_shot (recorded_status t) ≡ false
none_written s Unpacked keeps differs = refl
none_written s Current keeps differs = refl
none_written s Old keeps differs = refl
none_written s Permanent keeps differs = refl
none_written OneShot OneShot keeps differs = absurd cc
none_written Unpacked OneShot keeps differs = absurd (true≢false (keeps refl))
none_written Current OneShot keeps differs = absurd (true≢false (keeps refl))
none_written Old OneShot keeps differs = absurd (true≢false (keeps refl))
none_written Permanent OneShot keeps differs = absurd (true≢false (keeps refl))

none_assigned : (e : Event) → makes_one_shot e ≡ false → (es : Releases) → list_any (λ (a : Assignment). is_one_shot a.status) (changes e es) ≡ false
none_assigned e other [] = refl
none_assigned e other (x ∷ es) = go (is_changed e x) refl (none_assigned e other es)
  where
    go : (b : Bool) → is_changed e x ≡ b → list_any (λ (a : Assignment). is_one_shot a.status) (changes e es) ≡ false
        → list_any (λ (a : Assignment). is_one_shot a.status) (map (assignment_of e) (if b then x ∷ filter (is_changed e) es else filter (is_changed e) es)) ≡ false
    go false is rest = rest
    go true is rest = rw (none_written x.status (status_behind e x.release.vsn x.status) (none_behind e other x.release.vsn x.status) is) rest

pub only_restarts_write_them : OnlyRestartsWriteOneShots
only_restarts_write_them (made p) es other = refl
only_restarts_write_them (unpacked p) es other = refl
only_restarts_write_them (removed v) es other = refl
only_restarts_write_them (installed v) es other = none_assigned (installed v) other es
only_restarts_write_them (restart_installed v) es other = absurd (true≢false other)
only_restarts_write_them (made_permanent v) es other = none_assigned (made_permanent v) other es
only_restarts_write_them (reboot_old v) es other = none_assigned (reboot_old v) other es
only_restarts_write_them boot es other = none_assigned boot other es

pub images_write_them : ImagesWriteTheirOneShots
images_write_them [] = refl
images_write_them (e ∷ es) = go (is_one_shot e.status) (images_write_them es)
  where
    go : (b : Bool) → writes_one_shot (image_record es) ≡ has_one_shot es
        → (b || writes_one_shot (image_record es)) ≡ is_some (option_map (λ (f : Entry). f.release) (if b then Some e else find (λ (f : Entry). is_one_shot f.status) es))
    go true rest = refl
    go false rest = rest
