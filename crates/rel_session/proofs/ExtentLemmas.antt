-- How far a store reaches after a commit, where memory is refused to no compaction.
use Rattle.std.proofs.Common.{◌≡◌, inl, inr, ℕ, Bool, true, false, List, [], ◌∷◌, ◌++◌, length, Option, None, Some, refl, sym, ap, ◌∙◌, subst}
use Rattle.std.specs.Option.{option_and_then}
use Rattle.std.specs.Prelude.{if◌then◌else◌, not, ◌&&◌}
use Rattle.rel_list.specs.Releases.{Releases, has_one_shot}
use Rattle.rel_list.specs.Event.{booted, list_after, recorded, step}
use Rattle.rel_list.specs.Event.Event.{boot as booting, reboot_old as rebooting}
use Rattle.rel_list.proofs.BootLaws.{boot_leaves_no_one_shot}
use Rattle.rel_list.proofs.OneShotLaws.{boots_as_recorded, one_shots_come_from_restarts}
use Rattle.rel_records.proofs.EventRecords.{recorded-twice}
use Rattle.rel_records.specs.Image.{image_of}
use Rattle.node_store.specs.Compaction.{compacted_extent, extent_with, fits_image, is_long, may_be_compacted, MayReach, with_image}
use Rattle.node_store.specs.Events.{Events, MayHoldEvents, at_rest_since}
use Rattle.node_store.specs.Image.{Extent, extent_after}
use Rattle.rel_session.specs.Node.{list_or_none, releases_after}
use Rattle.rel_session.proofs.ListLemmas.{list_after-more}

-- A store that may reach so far, and is as short as a compaction leaves it, reaches as far as after one.
pub one_reach : (x y : Extent) (es : Releases) → MayReach x es y → y ≡ compacted_extent y es → y ≡ compacted_extent x es
one_reach x y es (inl is) compact = is
one_reach x y es (inr (long, same)) compact = compact ∙ ap (λ z. compacted_extent z es) same

-- A list with a one-shot is not compacted.
beside_one_shot : (x : Extent) (es : Releases) → has_one_shot es ≡ true → compacted_extent x es ≡ x
beside_one_shot x es one = ap (λ b. if not b && is_long x then with_image x (image_of (recorded es)) else x) one

-- Where a list has a one-shot, a store may reach so far alone as a compaction leaves it.
pub reach_beside_one_shot : (x y : Extent) (es : Releases) → MayReach x es y → has_one_shot es ≡ true → y ≡ compacted_extent x es
reach_beside_one_shot x y es (inl is) one = is
reach_beside_one_shot x y es (inr (long, same)) one = same ∙ sym (beside_one_shot x es one)

-- how far a store may reach after a commit, said of the events
pub reach_at : (old extent new : Extent) (size : ℕ) (list after : Releases) → old ≡ extent → after ≡ list → MayReach (extent_after old size) list new → MayReach (extent_after extent size) after new
reach_at old extent new size list after stop same reach = subst (λ x. MayReach (extent_after x size) after new) stop (subst (λ l. MayReach (extent_after old size) l new) (sym same) reach)

-- A second compaction finds nothing to do.
pub compacted_twice : (x : Extent) (es : Releases) → compacted_extent x es ≡ compacted_extent (compacted_extent x es) es
compacted_twice x es = by_length (may_be_compacted x es) refl
  where
    and_false : (b : Bool) → (b && false) ≡ false
    and_false true = refl
    and_false false = refl

    -- what a compaction leaves as it is, or as short as this
    stays : compacted_extent x es ≡ x → compacted_extent x es ≡ compacted_extent (compacted_extent x es) es
    stays same = ap (λ y. compacted_extent y es) (sym same)

    shrinks : (n : ℕ) → compacted_extent x es ≡ extent_with x n → compacted_extent x es ≡ compacted_extent (compacted_extent x es) es
    shrinks n same =
        let short : may_be_compacted (extent_with x n) es ≡ false = and_false (not (has_one_shot es)) in
        subst (λ y. y ≡ compacted_extent y es) (sym same) (sym (ap (λ b. if b then with_image (extent_with x n) (image_of (recorded es)) else extent_with x n) short))

    by_fit : (body : List ℕ) → compacted_extent x es ≡ with_image x (Some body) → (b : Bool) → fits_image x (length body) ≡ b → compacted_extent x es ≡ compacted_extent (compacted_extent x es) es
    by_fit body is true fits = shrinks (length body) (is ∙ ap (λ b. if b then extent_with x (length body) else x) fits)
    by_fit body is false fits = stays (is ∙ ap (λ b. if b then extent_with x (length body) else x) fits)

    by_image : compacted_extent x es ≡ with_image x (image_of (recorded es)) → (o : Option (List ℕ)) → image_of (recorded es) ≡ o → compacted_extent x es ≡ compacted_extent (compacted_extent x es) es
    by_image is None none = stays (is ∙ ap (with_image x) none)
    by_image is (Some body) some = by_fit body (is ∙ ap (with_image x) some) (fits_image x (length body)) refl

    by_length : (b : Bool) → may_be_compacted x es ≡ b → compacted_extent x es ≡ compacted_extent (compacted_extent x es) es
    by_length true long = by_image (ap (λ b. if b then with_image x (image_of (recorded es)) else x) long) (image_of (recorded es)) refl
    by_length false short = stays (ap (λ b. if b then with_image x (image_of (recorded es)) else x) short)

-- The image of a list without a one-shot is that of the list after a boot.
compacted_extent-booted : (x : Extent) (es : Releases) → has_one_shot es ≡ false → compacted_extent x (booted es) ≡ compacted_extent x es
compacted_extent-booted x es none =
    let ones : has_one_shot (booted es) ≡ has_one_shot es = boot_leaves_no_one_shot es ∙ sym none in
    let same : recorded (booted es) ≡ recorded es = ap recorded (boots_as_recorded es none) ∙ recorded-twice es in
    (λ k. if not (ones k) && is_long x then with_image x (image_of (same k)) else x)

pub releases-booted : (events : Events) → releases_after (events ++ booting ∷ []) ≡ booted (releases_after events)
releases-booted events = ap list_or_none (list_after-more events booting) ∙ go (list_after events)
  where
    go : (o : Option Releases) → list_or_none (option_and_then (step booting) o) ≡ booted (list_or_none o)
    go None = refl
    go (Some l) = refl

pub booted_reach : (x : Extent) (events : Events) → has_one_shot (releases_after events) ≡ false → compacted_extent x (releases_after (events ++ booting ∷ [])) ≡ compacted_extent x (releases_after events)
booted_reach x events none = ap (compacted_extent x) (releases-booted events) ∙ compacted_extent-booted x (releases_after events) none

-- No release is a one-shot after a reboot to an old release.
pub none_rebooted : (events : Events) (vsn : List ℕ) → has_one_shot (releases_after (events ++ rebooting vsn ∷ [])) ≡ false
none_rebooted events vsn = ap (λ o. has_one_shot (list_or_none o)) (list_after-more events (rebooting vsn)) ∙ go (list_after events)
  where
    behind : (l : Releases) (o : Option Releases) → step (rebooting vsn) l ≡ o → has_one_shot (list_or_none o) ≡ false
    behind l None is = refl
    behind l (Some next) is = one_shots_come_from_restarts (rebooting vsn) l next refl is

    go : (o : Option Releases) → has_one_shot (list_or_none (option_and_then (step (rebooting vsn)) o)) ≡ false
    go None = refl
    go (Some l) = behind l (step (rebooting vsn) l) refl

-- a store without an event in doubt has its events, and reaches as far as it does
pub has_only : (ran events es : Events) (x y : Extent) → MayHoldEvents (at_rest_since ran events x) es y → (es ≡ events) × (y ≡ x)
has_only ran events es x y (since, inl has) = has
has_only ran events es x y (since, inr (same, inl reaches)) = (same, reaches)
has_only ran events es x y (since, inr (same, inr reaches)) = (same, reaches)
