-- The entries of a release are the handler's, and no calls.
use Rattle.std.proofs.Common.{◌≡◌, ℕ, true, IsSome, List, [], ◌∷◌, refl, subst, Option, Some, None}
use Rattle.erl_term.specs.Value as term
use Rattle.mod_table.specs.Table.{OldVersion}
use Rattle.proc_history.specs.declared.value.Standing.{Standing}
use Rattle.proc_history.specs.declared.value.Standing.TheVariants.{Up}
use Rattle.proc_history.specs.Events.Event.{changed}
use Rattle.proc_history.specs.Values.{up_if, up_at, changes, MayCome}
use Rattle.proc_history.specs.Changes.{finds_row, finds_row_at, finds_row_if}
use Rattle.proc_history.specs.declared.value.Value.{Value}
use Rattle.proc_history.specs.declared.value.Now.{Now}
use Rattle.proc_history.specs.declared.entry.Entry.{Entry}
use Rattle.proc_history.specs.declared.entry.Entry.TheVariants.{Begin, Loaded, Changed, Stopped, Started, GivenUp}
use Rattle.proc_history.specs.Events.{IsCall, ByHandler}
use Rattle.proc_history.specs.Releases.{begin_of, event_of, entries_of}

begin_is_no_call : (round : ℕ) (o : Option Now) → ¬ IsCall (begin_of round o)
begin_is_no_call round (Some n) e = e
begin_is_no_call round None e = e

is_no_call : (v : Value) (e : Entry) → ¬ IsCall (event_of v e)
is_no_call v Begin c = begin_is_no_call v.round v.now c
is_no_call v (Loaded t) c = c
is_no_call v (Changed old extra) c = c
is_no_call v Stopped c = c
is_no_call v Started c = c
is_no_call v GivenUp c = c

pub entries_by_handler : (v : Value) (es : List Entry) → ByHandler (entries_of v es)
entries_by_handler v [] = tt
entries_by_handler v (e ∷ es) = (refl, is_no_call v e, entries_by_handler v es)

finds_row_up : (old : OldVersion) (extra : term.Value) (n m : Now) (s : Standing) → finds_row_if old extra n s ≡ true → up_if n s ≡ Some m → IsSome (changes m old extra)
finds_row_up old extra n m Up f u =
    let same : n ≡ m = cc in
    subst (λ (k : Now). IsSome (changes k old extra)) same f
finds_row_up old extra n m s f u = absurd (cc)

-- a change of code that finds its row may come
pub row_may_come : (old : OldVersion) (extra : term.Value) (v : Value) → finds_row old extra v ≡ true → MayCome v (changed old extra)
row_may_come old extra v = go v.now
  where
    go : (o : Option Now) → finds_row_at old extra o ≡ true → (n : Now) → up_at o ≡ Some n → IsSome (changes n old extra)
    go None f n u = absurd (cc)
    go (Some m) f n u = finds_row_up old extra m n m.standing f u

up_finds_row : (old : OldVersion) (extra : term.Value) (n : Now) (s : Standing) → ((m : Now) → up_if n s ≡ Some m → IsSome (changes m old extra)) → finds_row_if old extra n s ≡ true
up_finds_row old extra n Up may = may n refl
up_finds_row old extra n s may = refl

pub may_come_row : (old : OldVersion) (extra : term.Value) (v : Value) → MayCome v (changed old extra) → finds_row old extra v ≡ true
may_come_row old extra v = go v.now
  where
    go : (o : Option Now) → ((n : Now) → up_at o ≡ Some n → IsSome (changes n old extra)) → finds_row_at old extra o ≡ true
    go None may = refl
    go (Some m) may = up_finds_row old extra m m.standing may
