-- What each event makes of what stands in a slot; docs/RULES.md has it in words.
use Rattle.std.specs.Prelude.{◌≡◌, ℕ, ◌+◌, ◌<◌, ◌==◌, Bool, true, false, Option, Some, None, IsSome, is_some, if◌then◌else◌}
use Rattle.std.specs.Option.{option_map}
use Rattle.erl_term.specs.Value as term
use Rattle.mod_table.specs.declared.child.Restart.{Restart}
use Rattle.mod_table.specs.declared.child.Restart.TheVariants.{Permanent, Transient, Temporary}
use Rattle.mod_table.specs.Step.{Step}
use Rattle.mod_table.specs.Step.TheVariants.{Next, Ends, Crashes}
use Rattle.mod_table.specs.Table.{OldVersion}
use Rattle.mod_table.specs.Decide.{step_of, change_of}
use Rattle.proc_history.specs.declared.value.Standing.{Standing}
use Rattle.proc_history.specs.declared.value.Standing.TheVariants.{Up, Down, Stopped}
use Rattle.proc_history.specs.declared.beginning.Beginning.{Beginning}
use Rattle.proc_history.specs.declared.value.Outcome.{Outcome}
use Rattle.proc_history.specs.declared.value.Outcome.TheVariants.{Done, Crashed, Ended}
use Rattle.proc_history.specs.declared.value.Now.{Now}
use Rattle.proc_history.specs.declared.value.Value.{Value}
use Rattle.proc_history.specs.Events.{Event}
use Rattle.proc_history.specs.Events.Event.{begin, call, loaded, changed, stopped, started, given_up}

-- no process ever began here
abbrev pub nothing : Value
nothing = record { round = 0; now = None }

-- the process, if it is up
abbrev pub up_if : Now → Standing → Option Now
up_if n Up = Some n
up_if n s = None

abbrev pub up_at : Option Now → Option Now
up_at None = None
up_at (Some n) = up_if n n.standing

-- the process that is up in this round
abbrev pub up_in : ℕ → Value → Option Now
up_in round v = if v.round == round then up_at v.now else None

-- whether a process that ended is started again: by its restart type, after an abnormal end or a normal one
abbrev pub starts_again : Restart → Bool → Bool
starts_again Permanent abnormal = true
starts_again Transient abnormal = abnormal
starts_again Temporary abnormal = false

-- a process that ended: it starts again with its table's first state, or is down
abbrev pub ended : Now → Bool → Now
ended n true = record n { state = n.table.first }
ended n false = record n { standing = Down }

-- the process after a call that its table answered so
abbrev pub called : Now → Step → Now
called n (Next s r) = record n { state = s }
called n (Ends r) = ended n (starts_again n.restart false)
called n Crashes = ended n (starts_again n.restart true)

abbrev pub outcome_of : Step → Outcome
outcome_of (Next s r) = Done r
outcome_of (Ends r) = Ended r
outcome_of Crashes = Crashed

-- what the table of the process answers in its state: by its first row that fits
abbrev pub answer : Now → ℕ → Step
answer n input = step_of n.table.rows n.state input

-- a change of a process that is up; any other stays
abbrev pub where_up : (Now → Now) → Now → Standing → Now
where_up f n Up = f n
where_up f n s = n

-- the process after a change of code that gave this state; with none it stays
abbrev pub moved_to : Now → Option ℕ → Now
moved_to n None = n
moved_to n (Some s) = record n { state = s }

-- a stopped process is up again, with its table's first state
abbrev pub restarted : Now → Standing → Now
restarted n Stopped = record n { state = n.table.first; standing = Up }
restarted n s = n

abbrev pub changes : Now → OldVersion → term.Value → Option ℕ
changes n old extra = change_of n.table.rows old extra n.state

abbrev pub begun : Beginning → Now
begun b = record { app = b.app; id = b.id; restart = b.restart; table = b.table; state = b.table.first; standing = Up }

abbrev pub with_now : Value → (Now → Now) → Value
with_now v f = record { round = v.round; now = option_map f v.now }

-- what an event leaves; where it has no effect, the value stays
abbrev pub after : Value → Event → Value
after v (begin round b) = record { round = round; now = Some (begun b) }
after v (call input o) = with_now v (λ n. where_up (λ m. called m (answer m input)) n n.standing)
after v (loaded t) = with_now v (λ n. record n { table = t })
after v (changed old extra) = with_now v (λ n. where_up (λ m. moved_to m (changes m old extra)) n n.standing)
after v stopped = with_now v (λ n. where_up (λ m. record m { standing = Stopped }) n n.standing)
after v started = with_now v (λ n. restarted n n.standing)
after v given_up = record { round = v.round; now = None }

-- The round of the process that begins next. None begins where one stands, or where the last round was used.
abbrev pub next_round : Value → Option ℕ
next_round v = if is_some v.now then None else if v.round == 4294967295 then None else Some (v.round + 1)

-- Whether the event may come next. A process begins where none stands, with a round above the last. A call has the outcome
-- of its process, which is up. A change of code of a process that is up finds its row.
abbrev pub MayCome : Value → Event → Type 0
MayCome v (begin round b) = (v.now ≡ None) × (v.round < round)
MayCome v (call input o) = (n : Now) × (up_at v.now ≡ Some n) × (o ≡ outcome_of (answer n input))
MayCome v (changed old extra) = (n : Now) → up_at v.now ≡ Some n → IsSome (changes n old extra)
MayCome v e = Unit {0}
