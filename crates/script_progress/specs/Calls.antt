-- What the calls of a script do to applications, and to children of supervisors (OTP: application(3), supervisor(3)).
use Rattle.std.specs.Prelude.{ℕ, Bool, List, codes, [], if◌then◌else◌}
use Rattle.std.specs.Str.{bytes_eq}
use Rattle.erl_term.specs.Value.{Values as Terms}
use Rattle.erl_term.specs.Value.Value.{atom}
use Rattle.erl_term.specs.Value.Values.{value}
use Rattle.relup_instruction.specs.Instruction.{CallForm}

-- What a call does to applications. Those that load and unload them, and all others, do nothing.
pub data AppCall : Type 0 where
  starts : List ℕ → AppCall
  stops : List ℕ → AppCall
  idle : AppCall

-- What a call does to the child of this id of the supervisor of this module: it is terminated, or deleted, or begins again. All
-- others do nothing.
pub data ChildCall : Type 0 where
  terminates : List ℕ → List ℕ → ChildCall
  deletes : List ℕ → List ℕ → ChildCall
  restarts : List ℕ → List ℕ → ChildCall
  nothing : ChildCall

abbrev pub first_atom : Terms → List ℕ
first_atom (value (atom a) vs) = a
first_atom vs = []

abbrev pub second_atom : Terms → List ℕ
second_atom (value x vs) = first_atom vs
second_atom vs = []

abbrev pub app_call : CallForm → AppCall
app_call c =
    if bytes_eq c.name (codes "application")
    then (if bytes_eq c.function (codes "start") then starts (first_atom c.args)
    else if bytes_eq c.function (codes "stop") then stops (first_atom c.args) else idle)
    else idle

-- whether a call is on a child of a supervisor
abbrev pub is_on_child : CallForm → Bool
is_on_child c = bytes_eq c.name (codes "supervisor")

abbrev pub child_call : CallForm → ChildCall
child_call c =
    if bytes_eq c.function (codes "terminate_child") then terminates (first_atom c.args) (second_atom c.args)
    else if bytes_eq c.function (codes "delete_child") then deletes (first_atom c.args) (second_atom c.args)
    else if bytes_eq c.function (codes "restart_child") then restarts (first_atom c.args) (second_atom c.args)
    else nothing
