-- What a boot finds where no node runs, and what is replied there.
use Rattle.std.proofs.Common.{◌≡◌, ◌≢◌, inl, inr, ℕ, Bool, true, false, List, [], ◌∷◌, ◌++◌, Option, None, Some, refl, sym, ap, ◌∙◌, subst}
use Rattle.std.specs.Option.{option_map}
use Rattle.rel_list.specs.Releases.{Bundle, Releases, running as running_release}
use Rattle.rel_list.specs.Event.{booted, list_after}
use Rattle.rel_list.specs.Event.Event.{boot as booting}
use Rattle.rel_handler.specs.Refusals.{IsBootRefusal}
use Rattle.rel_handler.specs.declared.error.BootError.{BootError}
use Rattle.rel_handler.specs.declared.error.BootError.TheVariants as boot_error
use Rattle.rel_unpack.specs.Refusal.{Refusal}
use Rattle.rel_unpack.specs.Unpacking.{Brought}
use Rattle.node_command.specs.Files.{bundle_brought}
use Rattle.node_command.specs.Place.{own_refusal}
use Rattle.node_answer.specs.Refusals.{refusal_line}
use Rattle.node_answer.specs.Refusals.NodeRefusal.{exists, dead as dead_node}
use Rattle.node_processes.specs.Processes.{Processes}
use Rattle.node_store.specs.Events.{Events, StoreState, MayHoldEvents, at_rest_since, booted_or_same}
use Rattle.node_store.specs.Image.{Extent, booted_extent, extent_of, holds_a_store, IsImageOf}
use Rattle.rel_session.specs.Booting.{Lack, IsUndone, boot_line, boot_undone}
use Rattle.rel_session.specs.Booting.Lack.{device_failed, memory_refused}
use Rattle.session_laws.specs.LawsBelow.{BootLaws}
use Rattle.rel_session.specs.Node.{DiskState, Reply, reply, refusal_reply, no_outcome, commit_outcome, just_booted, list_or_none}
use Rattle.rel_session.specs.Node.DiskState.{unknown_bytes, not_booted, running, dead}
use Rattle.rel_session.specs.Transition
use Rattle.rel_session.specs.Transition.Action.{answers, makes_node, changes_node, installs, reboots_node, boots_node, reports_start, calls}
use Rattle.session_laws.proofs.ActionLemmas.{kind_of, runs_node}
use Rattle.rel_session.proofs.ExtentLemmas.{has_only}
use Rattle.rel_session.proofs.ListLemmas.{list_after-push}

-- what a boot finds: a store, with the list that it leads to, if there is one, and how far the store reaches after it; or none
-- that it takes, with the line that says why, and whether the bytes begin as a store does
pub data Found : Type 0 where
  listed : Option Releases → Extent → Found
  unlisted : Bool → List ℕ → Found

-- A boot finds this in a store with nothing in doubt.
abbrev pub IsFoundIn : StoreState → Found → Type 0
IsFoundIn s (listed list x) =
    (s ≡ at_rest_since s.known.ran s.known.acknowledged s.extent)
    × (option_map booted (list_after s.known.acknowledged) ≡ list) × (booted_or_same s.extent (list_after s.known.acknowledged) ≡ x)
IsFoundIn s (unlisted begun line) = ⊥

-- No node runs there, and a boot finds that.
abbrev pub IsFound : DiskState → Found → Type 0
IsFound (running events extent ps) f = ⊥
IsFound (unknown_bytes bytes) (listed list x) = (es : Releases) × IsImageOf bytes es × (Some (booted es) ≡ list) × (booted_extent (extent_of bytes) es ≡ x)
IsFound (unknown_bytes bytes) (unlisted begun line) = (holds_a_store bytes ≡ begun) × ((why : BootError) × IsBootRefusal bytes why × (boot_line why ≡ line))
IsFound (not_booted s) f = IsFoundIn s f
IsFound (dead s) f = IsFoundIn s f

-- The device did not fail in this reply, and it isn't that memory was refused to a boot.
abbrev pub Works : Reply → Type 0
Works a = (a.outcome.failed ≡ false) × (a.answer ≢ boot_line boot_error.NoMemory)

-- A reply that works is none in which the device failed.
pub failure : {T : Type 0} (a x : Reply) → a ≡ x → x.outcome.failed ≡ true → Works a → T
failure a x is failed works = let lost : true ≡ false = sym failed ∙ ap (λ (r : Reply). r.outcome.failed) (sym is) ∙ works.0 in absurd cc

-- A reply that works doesn't say that memory was refused to a boot.
pub wanting : {T : Type 0} (a x : Reply) → a ≡ x → x.answer ≡ boot_line boot_error.NoMemory → Works a → T
wanting a x is lacks works = absurd (works.1 (ap (λ (r : Reply). r.answer) is ∙ lacks))

-- A reply that works is not that of a boot which was not done.
pub undone_boot : {T : Type 0} (a : Reply) (lack : Lack) (q : DiskState) → a ≡ boot_undone lack q → Works a → T
undone_boot a device_failed q is works = failure a _ is refl works
undone_boot a memory_refused q is works = wanting a _ is refl works

pub boot_failure : {T : Type 0} (a : Reply) (s : StoreState) (lack : Lack) → IsUndone s lack a → Works a → T
boot_failure a s lack (inl is) works = undone_boot a lack _ is works
boot_failure a s lack (inr (events, extent, has, is)) works = undone_boot a lack _ is works

-- A boot has led to this list, in a store that reaches so far.
abbrev pub IsBooted : Option Releases → Extent → Reply → Type 0
IsBooted list x a =
    (events : Events) × (list_after (events ++ booting ∷ []) ≡ list)
    × (a ≡ reply (Transition.ok_line (Transition.version_of (running_release (list_or_none list)))) (commit_outcome (booting ∷ [])) (just_booted (events ++ booting ∷ []) x))

answered : (events : Events) (extent : Extent) (a : Reply) → Transition.AnswersBoot events extent a → IsBooted (option_map booted (list_after events)) (booted_or_same extent (list_after events)) a
answered events extent a (list, after, is) =
    subst (λ o. IsBooted (option_map booted o) (booted_or_same extent o) a) (sym after) (events, list_after-push events booting list (booted list) after refl, is)

booted_as : (list then : Option Releases) (x y : Extent) (a : Reply) → list ≡ then → x ≡ y → IsBooted list x a → IsBooted then y a
booted_as list then x y a same near is = subst (λ o. IsBooted o y a) same (subst (λ z. IsBooted list z a) near is)

-- The boot of a store has led to the list that was found.
pub boots_store : (s : StoreState) (list : Option Releases) (x : Extent) (a : Reply) → Works a → IsFoundIn s (listed list x) → Transition.BootsStore s a → IsBooted list x a
boots_store s list x a works (still, leads, reaches) (inl (es, n, has, is)) =
    let (same, near) = has_only s.known.ran s.known.acknowledged es s.extent n (subst (λ (t : StoreState). MayHoldEvents t es n) still has) in
    let there : booted_or_same n (list_after es) ≡ booted_or_same s.extent (list_after s.known.acknowledged) = λ k. booted_or_same (near k) (list_after (same k)) in
    booted_as (option_map booted (list_after es)) list (booted_or_same n (list_after es)) x a (ap (λ (l : Events). option_map booted (list_after l)) same ∙ leads) (there ∙ reaches) (answered es n a is)
boots_store s list x a works found (inr (lack, undone)) = boot_failure a s lack undone works

-- The boot of bytes has led to the list that was found in them.
boots_listed : BootLaws → (bytes : List ℕ) (list : Option Releases) (x : Extent) (a : Reply) → Works a → IsFound (unknown_bytes bytes) (listed list x) → Transition.BootsBytes bytes a → IsBooted list x a
boots_listed laws bytes list x a works (es, image, leads, reaches) (inl (events, before, extent, after, at, is)) =
    let one = laws.one bytes before es at.image_of image in
    let lists : option_map booted (list_after events) ≡ list = ap (option_map booted) after ∙ (ap (λ l. Some l) one.booted ∙ leads) in
    let there : booted_or_same extent (list_after events) ≡ x = ap (booted_or_same extent) after ∙ (one.extents extent ∙ (ap (λ n. booted_extent n es) (sym at.reaches) ∙ reaches)) in
    booted_as (option_map booted (list_after events)) list (booted_or_same extent (list_after events)) x a lists there (answered events extent a is)
boots_listed laws bytes list x a works (es, image, leads, reaches) (inr (inl (why, reported, is))) = absurd (laws.never_both bytes es why image reported)
boots_listed laws bytes list x a works found (inr (inr (lack, torn, left, is))) = undone_boot a lack (unknown_bytes torn) is works

-- All reasons why a boot refuses the same bytes give one line.
refused_once : (x : List ℕ) (why other : BootError) → IsBootRefusal x why → IsBootRefusal x other → boot_line why ≡ boot_line other
refused_once x boot_error.NotAStore boot_error.NotAStore p q = refl
refused_once x boot_error.NotAStore (boot_error.Damaged at) p q = cc (p, q)
refused_once x boot_error.NotAStore (boot_error.BadRecord i) p (bodies, q, is_bad) = cc (p, q)
refused_once x (boot_error.Damaged at) boot_error.NotAStore p q = cc (p, q)
refused_once x (boot_error.Damaged at) (boot_error.Damaged place) p q = refl
refused_once x (boot_error.Damaged at) (boot_error.BadRecord i) p (bodies, q, is_bad) = cc (p, q)
refused_once x (boot_error.BadRecord i) boot_error.NotAStore (bodies, p, is_bad) q = cc (p, q)
refused_once x (boot_error.BadRecord i) (boot_error.Damaged at) (bodies, p, is_bad) q = cc (p, q)
refused_once x (boot_error.BadRecord i) (boot_error.BadRecord j) p q = refl
refused_once x boot_error.Device other p q = absurd p
refused_once x boot_error.NoMemory other p q = absurd p
refused_once x why boot_error.Device p q = absurd q
refused_once x why boot_error.NoMemory p q = absurd q

boots_unlisted : BootLaws → (bytes : List ℕ) (begun : Bool) (line : List ℕ) (a : Reply) → Works a → IsFound (unknown_bytes bytes) (unlisted begun line) → Transition.BootsBytes bytes a → a ≡ reply line no_outcome (unknown_bytes bytes)
boots_unlisted laws bytes begun line a works (held, (why, refuses, says)) (inl (events, list, extent, after, at, is)) = absurd (laws.never_both bytes list why at.image_of refuses)
boots_unlisted laws bytes begun line a works (held, (why, refuses, says)) (inr (inl (other, reported, is))) =
    is ∙ ap (λ l. reply l no_outcome (unknown_bytes bytes)) (refused_once bytes other why reported refuses ∙ says)
boots_unlisted laws bytes begun line a works found (inr (inr (lack, torn, left, is))) = undone_boot a lack (unknown_bytes torn) is works

-- a boot there has led to what is found
abbrev pub BootsAs : DiskState → Found → Reply → Type 0
BootsAs p (listed list x) a = IsBooted list x a
BootsAs p (unlisted begun line) a = a ≡ reply line no_outcome p

pub boots_as : BootLaws → (p : DiskState) (f : Found) (a : Reply) → Works a → IsFound p f → Transition.Boots p a → BootsAs p f a
boots_as laws (running events extent ps) f a works found is = absurd found
boots_as laws (unknown_bytes bytes) (listed list x) a works found is = boots_listed laws bytes list x a works found is
boots_as laws (unknown_bytes bytes) (unlisted begun line) a works found is = boots_unlisted laws bytes begun line a works found is
boots_as laws (not_booted s) (listed list x) a works found is = boots_store s list x a works found is
boots_as laws (not_booted s) (unlisted begun line) a works found is = absurd found
boots_as laws (dead s) (listed list x) a works found is = boots_store s list x a works found is
boots_as laws (dead s) (unlisted begun line) a works found is = absurd found

-- No node is made where there is a list, and on bytes without one it goes by how they begin.
abbrev pub MakesAs : DiskState → Found → Brought → Reply → Type 0
MakesAs p (listed list x) b a = a ≡ refusal_reply exists p
MakesAs p (unlisted begun line) b a = (bytes : List ℕ) × (p ≡ unknown_bytes bytes) × Transition.MakesOn bytes b begun a

makes_fails : {T : Type 0} (bytes : List ℕ) (p : Bundle) (why : Option Refusal) (a : Reply) → Transition.FailsToMake bytes p why a → Works a → T
makes_fails bytes p (Some why) a is works = failure a _ is refl works
makes_fails bytes p None a (torn, kept, is) works = failure a _ is refl works

pub makes_as : BootLaws → (p : DiskState) (f : Found) (b : Brought) (a : Reply) → Works a → IsFound p f → Transition.MakesNode p b a → MakesAs p f b a
makes_as laws (running events extent ps) f b a works found is = absurd found
makes_as laws (unknown_bytes bytes) (listed list x) b a works (es, image, leads, reaches) (inl is) = subst (λ m. Transition.MakesOn bytes b m a) (laws.stores bytes es image) is
makes_as laws (unknown_bytes bytes) (unlisted begun line) b a works (held, why) (inl is) = (bytes, refl, subst (λ m. Transition.MakesOn bytes b m a) held is)
makes_as laws (unknown_bytes bytes) (listed list x) b a works found (inr broke) = makes_fails bytes (bundle_brought b) (own_refusal b) a broke works
makes_as laws (unknown_bytes bytes) (unlisted begun line) b a works found (inr broke) = makes_fails bytes (bundle_brought b) (own_refusal b) a broke works
makes_as laws (not_booted s) (listed list x) b a works found (inl is) = is
makes_as laws (not_booted s) (listed list x) b a works found (inr is) = failure a _ is refl works
makes_as laws (not_booted s) (unlisted begun line) b a works found is = absurd found
makes_as laws (dead s) (listed list x) b a works found is = is
makes_as laws (dead s) (unlisted begun line) b a works found is = absurd found

-- a node that runs is asked to do this
abbrev pub IsOfNode : Transition.Action → Type 0
IsOfNode (answers text) = ⊥
IsOfNode (makes_node b) = ⊥
IsOfNode boots_node = ⊥
IsOfNode does = Unit {0}

-- There is none.
pub no_node : (p : DiskState) (f : Found) (does : Transition.Action) (a : Reply) → IsOfNode does → IsFound p f → Transition.NodeReplies p does a → a ≡ refusal_reply dead_node p
no_node (running events extent ps) f does a asks found is = absurd found
no_node p f (answers text) a asks found is = absurd asks
no_node p f (makes_node b) a asks found is = absurd asks
no_node p f boots_node a asks found is = absurd asks
no_node p f does a asks found is = is

pub none_reports : (says : Releases → Processes → List ℕ) (p : DiskState) (f : Found) → IsFound p f → Transition.answer_of_node says p ≡ refusal_line dead_node
none_reports says (running events extent ps) f found = absurd found
none_reports says p f found = refl

pub none_runs : (p : DiskState) (f : Found) → IsFound p f → runs_node (kind_of p) ≡ false
none_runs (running events extent ps) f found = absurd found
none_runs p f found = refl
