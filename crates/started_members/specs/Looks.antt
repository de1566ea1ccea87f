-- Whether what stands for a child stays as it is.
use Rattle.std.specs.Prelude.{◌≡◌, ◌==◌, Bool, true, false, ◌&&◌, [], is_some, Some}
use Rattle.std.specs.Option.{option_map_or}
use Rattle.mod_table.specs.declared.child.Restart.{Restart}
use Rattle.mod_table.specs.declared.child.Restart.TheVariants.{Temporary}
use Rattle.proc_table.specs.Now.{Now}
use Rattle.proc_table.specs.Value.{Value}
use Rattle.proc_table.specs.Values.{up_at}
use Rattle.proc_table.specs.declared.pid.Pid.{Pid}
use Rattle.proc_table.specs.declared.view.View.{View}
use Rattle.proc_table.specs.Holds.{Holding, Released}
use Rattle.proc_table.specs.Waits.{HeldAtLast}
use Rattle.started_members.specs.declared.looks.Kept.{Kept}
use Rattle.started_members.specs.declared.looks.Kept.TheVariants as variant
use Rattle.started_members.specs.declared.looks.Stay.{Stay}
use Rattle.started_members.specs.declared.looks.Stay.TheVariants.{Up, UpOrTemporary}
use Rattle.started_members.specs.declared.member.MemberState.{MemberState}
use Rattle.started_members.specs.declared.member.MemberState.TheVariants.{Ended, Process, Supervisor}

-- Which processes of a child of this restart type stay: those that are up, or also those of a temporary child that weren't given
-- up. The restart type is that of the child's specification.
abbrev pub kept_at : Stay → Restart → Kept
kept_at Up r = variant.Up
kept_at UpOrTemporary Temporary = variant.Standing
kept_at UpOrTemporary r = variant.Up

-- whether a process that stands stays
abbrev pub now_stays : Kept → Now → Bool
now_stays variant.Up n = is_some (up_at (Some n))
now_stays variant.Standing n = true

-- whether the process stays there, in its round
abbrev pub process_stays : Kept → Pid → Value → Bool
process_stays kept pid x = (x.round == pid.round) && option_map_or (now_stays kept) x.now false

-- The slot was held for a look at its process.
abbrev pub LookedAt : Kept → Pid → Bool → View → View → Type 0
LookedAt kept pid stays v w = (h : Holding) × (u : View) × HeldAtLast pid.slot v h u × (stays ≡ process_stays kept pid h.value) × Released pid.slot [] u w

-- What stands for a child stays, or it doesn't. A supervisor stays, and where nothing stands, nothing does.
abbrev pub StateLookedAt : Kept → MemberState → Bool → View → View → Type 0
StateLookedAt kept Ended stays v w = (stays ≡ false) × (w ≡ v)
StateLookedAt kept (Process p) stays v w = LookedAt kept p.pid stays v w
StateLookedAt kept (Supervisor m) stays v w = (stays ≡ true) × (w ≡ v)
