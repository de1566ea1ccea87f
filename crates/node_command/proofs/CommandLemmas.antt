-- What the list takes of a command, and why it refuses one.
use Rattle.std.proofs.Common.{◌≡◌, ◌<◌, ◌+◌, Bool, true, false, [], ◌∷◌, ◌++◌, length, length-append, Option, Some, None, Result, Ok, Err, is_some, refl, sym, ap, ◌∙◌, arith}
use Rattle.std.specs.Prelude.{◌||◌, if◌then◌else◌, nat_le}
use Rattle.std.proofs.lemmas.Bool.Decides.{nat_tests}
use Rattle.rel_list.specs.declared.fault.ListError.{ListError}
use Rattle.rel_list.specs.declared.fault.ListError.TheVariants as list
use Rattle.rel_list.specs.declared.status.Status.TheVariants.{OneShot, Unpacked}
use Rattle.rel_list.specs.Releases.{Bundle, Releases, entry, first_different, has_one_shot, status_of}
use Rattle.rel_list.specs.Event.{Event, is_barred, own_step, step}
use Rattle.rel_list.specs.Event.Event.{made, unpacked, installed, restart_installed, made_permanent, removed, reboot_old, boot}
use Rattle.rel_list.specs.Refusal.{own_refusal, refusal}
use Rattle.rel_list.proofs.RefusalLaws.{refused_where_not_allowed}
use Rattle.rel_list.proofs.OwnRules.{own_of_step}
use Rattle.rel_records.specs.Limits.{most_releases, is_small}
use Rattle.rel_records.specs.Writing.{IsOfListed}
use Rattle.node_command.specs.Taking.{list_refusal, refused_or, kept_short, commanded}
use Rattle.node_command.specs.declared.error.HandlerError.{HandlerError}
use Rattle.node_command.specs.declared.error.HandlerError.TheVariants.{ExistingRelease, TooMany}
use Rattle.node_command.specs.declared.error.HandlerError.TheVariants as reported

-- no refusal, and this list
abbrev IsTaken : Option ListError → Option Releases → Releases → Type 0
IsTaken o s next = (o ≡ None) × (s ≡ Some next)

taken_so : (o : Option ListError) (s : Option Releases) (next : Releases) → refused_or o s ≡ Ok next → IsTaken o s next
taken_so (Some why) s next e = absurd cc
taken_so None (Some es) next e = (refl, cc)
taken_so None None next e = absurd cc

small_so : (b : Bool) (x : Result Releases HandlerError) (next : Releases) → (if b then x else Err TooMany) ≡ Ok next → x ≡ Ok next
small_so true x next e = e
small_so false x next e = absurd cc

-- an answer that is this list
abbrev Gives : Result Releases HandlerError → Releases → Type 0
Gives x next = x ≡ Ok next

short_so : (x : Result Releases HandlerError) (next : Releases) → kept_short x ≡ Ok next → x ≡ Ok next
short_so (Err why) next e = absurd cc
short_so (Ok es) next e = go (nat_le (length es) most_releases) e
  where
    go : (b : Bool) → Gives (if b then Ok es else Err TooMany) next → Gives (Ok es) next
    go true e = e
    go false e = absurd cc

commanded_so : (e : Event) (es next : Releases) → commanded e es ≡ Ok next → IsTaken (refusal e es) (step e es) next
commanded_so (made p) es next e = taken_so (refusal (made p) es) (step (made p) es) next (small_so (is_small p.release) _ next e)
commanded_so (unpacked p) es next e = taken_so (refusal (unpacked p) es) (step (unpacked p) es) next (short_so _ next (small_so (is_small p.release) _ next e))
commanded_so (installed v) es next e = taken_so (refusal (installed v) es) (step (installed v) es) next e
commanded_so (restart_installed v) es next e = taken_so (refusal (restart_installed v) es) (step (restart_installed v) es) next e
commanded_so (made_permanent v) es next e = taken_so (refusal (made_permanent v) es) (step (made_permanent v) es) next e
commanded_so (removed v) es next e = taken_so (refusal (removed v) es) (step (removed v) es) next e
commanded_so (reboot_old v) es next e = taken_so (refusal (reboot_old v) es) (step (reboot_old v) es) next e
commanded_so boot es next e = taken_so (refusal boot es) (step boot es) next e

-- an event that a command may bring has no refusal by the list
pub not_refused : (e : Event) (es next : Releases) → commanded e es ≡ Ok next → refusal e es ≡ None
not_refused e es next is = (commanded_so e es next is).0

-- and is a step of it
pub commanded_step : (e : Event) (es next : Releases) → commanded e es ≡ Ok next → step e es ≡ Some next
commanded_step e es next is = (commanded_so e es next is).1

-- a release that may come in is small, and the list has room for it
pub small_and_few : (p : Bundle) (es next : Releases) → commanded (unpacked p) es ≡ Ok next → (is_small p.release ≡ true) × (length es < most_releases)
small_and_few p es next is = let (small, short) = by_size (is_small p.release) is in (small, few short)
  where
    taken : Result Releases HandlerError
    taken = refused_or (refusal (unpacked p) es) (step (unpacked p) es)

    by_size : (b : Bool) → Gives (if b then kept_short taken else Err TooMany) next → (b ≡ true) × Gives (kept_short taken) next
    by_size true e = (refl, e)
    by_size false e = absurd cc

    pushed : own_step (unpacked p) es ≡ Some next → length next ≡ length es + 1
    pushed e = go (is_barred p es) e
      where
        go : (b : Bool) → (if b then None else Some (es ++ entry p Unpacked ∷ [])) ≡ Some next → length next ≡ length es + 1
        go true e = absurd cc
        go false e = let same : es ++ entry p Unpacked ∷ [] ≡ next = cc e in sym (ap length same) ∙ length-append es (entry p Unpacked ∷ [])

    is_short : (l : Releases) (b : Bool) → nat_le (length l) most_releases ≡ b → Gives (if b then Ok l else Err TooMany) next → nat_le (length next) most_releases ≡ true
    is_short l true short e = let same : l ≡ next = cc e in ap (λ m. nat_le (length m) most_releases) (sym same) ∙ short
    is_short l false short e = absurd cc

    by_taken : (x : Result Releases HandlerError) → Gives (kept_short x) next → nat_le (length next) most_releases ≡ true
    by_taken (Err why) e = absurd cc
    by_taken (Ok l) e = is_short l (nat_le (length l) most_releases) refl e

    few : Gives (kept_short taken) next → length es < most_releases
    few short = let at_most = by_taken taken short in let more = pushed (own_of_step (unpacked p) es next (commanded_step (unpacked p) es next is)).1 in grind (arith, nat_tests)

-- so the list's own step gives what is commanded
pub commanded_then : (e : Event) (es next : Releases) → (taken : Releases) × (commanded e es ≡ Ok taken) → step e es ≡ Some next → commanded e es ≡ Ok next
commanded_then e es next (taken, is) stepped = let same : taken ≡ next = cc (stepped, commanded_step e es taken is) in is ∙ ap (λ l. Ok l) same

-- what comes of a list
abbrev Steps : Option Releases → Type 0
Steps o = (next : Releases) × (o ≡ Some next)

-- where the list doesn't refuse an event, it takes it
steps_so : (e : Event) (es : Releases) → refusal e es ≡ None → Steps (step e es)
steps_so e es none = go (step e es) ((refused_where_not_allowed e es).0 none)
  where
    go : (o : Option Releases) → (o ≡ None → ⊥) → Steps o
    go None never = absurd (never refl)
    go (Some next) never = (next, refl)

-- an event of listed releases is commanded by the list alone
by_the_list : (e : Event) (es : Releases) → IsOfListed e → commanded e es ≡ refused_or (refusal e es) (step e es)
by_the_list (made p) es listed = absurd listed
by_the_list (unpacked p) es listed = absurd listed
by_the_list (installed v) es listed = refl
by_the_list (restart_installed v) es listed = refl
by_the_list (made_permanent v) es listed = refl
by_the_list (removed v) es listed = refl
by_the_list (reboot_old v) es listed = refl
by_the_list boot es listed = refl

-- what the list refuses of such events, the node refuses
pub list_refuses : (e : Event) (es : Releases) (why : ListError) → IsOfListed e → refusal e es ≡ Some why → commanded e es ≡ Err (list_refusal why)
list_refuses e es why listed is = by_the_list e es listed ∙ ap (λ o. refused_or o (step e es)) is

-- and what it does not refuse is taken
pub list_allows : (e : Event) (es : Releases) → IsOfListed e → refusal e es ≡ None → (next : Releases) × (commanded e es ≡ Ok next)
list_allows e es listed none = let (next, is) = steps_so e es none in (next, by_the_list e es listed ∙ ap (λ o. refused_or o (step e es)) none ∙ ap (refused_or None) is)

module _ (p : Bundle) (es : Releases) (free : has_one_shot es ≡ false) where
  -- the list with the release last
  abbrev pub with_it : Releases
  with_it = es ++ entry p Unpacked ∷ []

  by_sizes : (small listed different : Bool) → is_small p.release ≡ small → is_some (status_of p.release.vsn es) ≡ listed → is_some (first_different es p.libraries) ≡ different
      → commanded (unpacked p) es
      ≡ (if small then kept_short (refused_or (if listed then Some list.ExistingRelease else if different then Some list.LibDiffers else None) (if listed || different then None else Some with_it)) else Err TooMany)
  by_sizes small listed different is there differ =
      ap (λ b. if b then kept_short (refused_or (refusal (unpacked p) es) (step (unpacked p) es)) else Err TooMany) is
      ∙ ap (λ b. if small then kept_short (refused_or (if b then Some (list.BadStatus OneShot) else own_refusal (unpacked p) es) (if b then None else own_step (unpacked p) es)) else Err TooMany) free
      ∙ ap (λ b. if small then kept_short (refused_or (if b then Some list.ExistingRelease else if is_some (first_different es p.libraries) then Some list.LibDiffers else None) (if b || is_some (first_different es p.libraries) then None else Some with_it)) else Err TooMany) there
      ∙ ap (λ b. if small then kept_short (refused_or (if listed then Some list.ExistingRelease else if b then Some list.LibDiffers else None) (if listed || b then None else Some with_it)) else Err TooMany) differ

  module _ (small : is_small p.release ≡ true) where
    -- one that is there
    pub there_already : is_some (status_of p.release.vsn es) ≡ true → commanded (unpacked p) es ≡ Err ExistingRelease
    there_already listed = by_sizes true true (is_some (first_different es p.libraries)) small listed refl

    module _ (fresh : is_some (status_of p.release.vsn es) ≡ false) (agree : is_some (first_different es p.libraries) ≡ false) where
      pushed : commanded (unpacked p) es ≡ kept_short (Ok with_it)
      pushed = by_sizes true false false small fresh agree

      -- one that comes in
      pub comes_in : length es < 32 → commanded (unpacked p) es ≡ Ok with_it
      comes_in few = pushed ∙ ap (λ b. if b then Ok with_it else Err TooMany) short
        where
          short : nat_le (length with_it) most_releases ≡ true
          short = grind (arith, nat_tests, length-append es (entry p Unpacked ∷ []))

-- a refusal by the list and its limits
abbrev pub IsListRefusal : HandlerError → Type 0
IsListRefusal reported.Dead = ⊥
IsListRefusal reported.Full = ⊥
IsListRefusal reported.Device = ⊥
IsListRefusal reported.Exists = ⊥
IsListRefusal reported.NoMatchingRelup = ⊥
IsListRefusal (reported.LibDiffers app) = ⊥
IsListRefusal (reported.NoTable app) = ⊥
IsListRefusal (reported.BadFile path trouble) = ⊥
IsListRefusal (reported.MissingFile path) = ⊥
IsListRefusal (reported.VsnMismatch path) = ⊥
IsListRefusal e = Unit {0}

of_list_error : (why : ListError) → IsListRefusal (list_refusal why)
of_list_error list.NoSuchRelease = tt
of_list_error list.ExistingRelease = tt
of_list_error list.LibDiffers = tt
of_list_error list.AlreadyInstalled = tt
of_list_error (list.BadStatus s) = tt
of_list_error list.Permanent = tt
of_list_error list.Running = tt
of_list_error list.NoMemory = tt

-- an answer that is a list, or a refusal of that kind
abbrev pub IsListAnswer : Result Releases HandlerError → Type 0
IsListAnswer (Ok es) = Unit {0}
IsListAnswer (Err why) = IsListRefusal why

of_refused_or : (o : Option ListError) (s : Option Releases) → IsListAnswer (refused_or o s)
of_refused_or (Some why) s = of_list_error why
of_refused_or None (Some es) = tt
of_refused_or None None = tt

of_short : (x : Result Releases HandlerError) → IsListAnswer x → IsListAnswer (kept_short x)
of_short (Err why) is = is
of_short (Ok es) is = go (nat_le (length es) most_releases)
  where
    go : (b : Bool) → IsListAnswer (if b then Ok es else Err TooMany)
    go true = tt
    go false = tt

of_small : (b : Bool) (x : Result Releases HandlerError) → IsListAnswer x → IsListAnswer (if b then x else Err TooMany)
of_small true x is = is
of_small false x is = tt

-- what a list answers to the event of a command is such an answer
pub of_command : (e : Event) (es : Releases) → IsListAnswer (commanded e es)
of_command (made p) es = of_small (is_small p.release) _ (of_refused_or (refusal (made p) es) (step (made p) es))
of_command (unpacked p) es = of_small (is_small p.release) _ (of_short _ (of_refused_or (refusal (unpacked p) es) (step (unpacked p) es)))
of_command (installed v) es = of_refused_or (refusal (installed v) es) (step (installed v) es)
of_command (restart_installed v) es = of_refused_or (refusal (restart_installed v) es) (step (restart_installed v) es)
of_command (made_permanent v) es = of_refused_or (refusal (made_permanent v) es) (step (made_permanent v) es)
of_command (removed v) es = of_refused_or (refusal (removed v) es) (step (removed v) es)
of_command (reboot_old v) es = of_refused_or (refusal (reboot_old v) es) (step (reboot_old v) es)
of_command boot es = of_refused_or (refusal boot es) (step boot es)
