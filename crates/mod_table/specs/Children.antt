-- The children of a supervisor, from its term (OTP: supervisor, child_spec() as a tuple).
use Rattle.std.specs.Prelude.{ℕ, pos, Bool, true, false, ◌&&◌, ◌||◌, List, [], ◌∷◌, Option, Some, None, codes, if◌then◌else◌}
use Rattle.std.specs.Option.{option_map, option_and_then}
use Rattle.std.specs.Str.{bytes_eq}
use Rattle.erl_term.specs.Value.{Value, Values}
use Rattle.erl_term.specs.Value.Value.{int, atom, list, tuple}
use Rattle.erl_term.specs.Value.Values.{no_values, value}
use Rattle.rel_files.specs.Parts.{triple_in, word_in}
use Rattle.rel_files.specs.Sketch.{name_in}
use Rattle.mod_table.specs.declared.child.Restart.{Restart}
use Rattle.mod_table.specs.declared.child.Restart.TheVariants.{Permanent, Transient, Temporary}
use Rattle.mod_table.specs.declared.child.ChildKind.{ChildKind}
use Rattle.mod_table.specs.declared.child.ChildKind.TheVariants.{Worker, Supervisor}
use Rattle.mod_table.specs.Table.{ChildSpec}

-- M of {M, F, A}
abbrev pub start_in : Value → Option (List ℕ)
start_in v = option_and_then (λ m. name_in m.0) (triple_in v)

abbrev pub restart_of : List ℕ → Option Restart
restart_of s =
    if bytes_eq s (codes "permanent") then Some Permanent
    else if bytes_eq s (codes "transient") then Some Transient
    else if bytes_eq s (codes "temporary") then Some Temporary
    else None

abbrev pub restart_in : Value → Option Restart
restart_in v = option_and_then restart_of (word_in v)

-- brutal_kill, infinity or a number from 0
abbrev pub is_shutdown : Value → Bool
is_shutdown (int (pos n)) = true
is_shutdown (atom s) = bytes_eq s (codes "brutal_kill") || bytes_eq s (codes "infinity")
is_shutdown v = false

abbrev pub kind_of : List ℕ → Option ChildKind
kind_of s =
    if bytes_eq s (codes "worker") then Some Worker
    else if bytes_eq s (codes "supervisor") then Some Supervisor
    else None

abbrev pub kind_in : Value → Option ChildKind
kind_in v = option_and_then kind_of (word_in v)

-- whether it is the list of this atom alone
abbrev pub is_only : List ℕ → Values → Bool
is_only name (value (atom s) no_values) = bytes_eq s name
is_only name vs = false

abbrev pub lists_only : List ℕ → Value → Bool
lists_only name (list vs) = is_only name vs
lists_only name v = false

-- {Id, {M, F, A}, Restart, Shutdown, Kind, [M]}
pub record ChildParts : Type 0 where
  pub id : Value
  pub start : Value
  pub restart : Value
  pub shutdown : Value
  pub kind : Value
  pub modules : Value

abbrev pub child_members : Values → Option ChildParts
child_members (value i (value s (value r (value d (value k (value m no_values)))))) = Some (record { id = i; start = s; restart = r; shutdown = d; kind = k; modules = m })
child_members vs = None

abbrev pub child_parts : Value → Option ChildParts
child_parts (tuple vs) = child_members vs
child_parts v = None

abbrev pub child_of_parts : ChildParts → Option ChildSpec
child_of_parts p =
    option_and_then (λ id. option_and_then (λ start. option_and_then (λ restart. option_and_then (λ kind.
    if is_shutdown p.shutdown && lists_only start p.modules then Some (record { id = id; start = start; restart = restart; kind = kind }) else None)
    (kind_in p.kind)) (restart_in p.restart)) (start_in p.start)) (word_in p.id)

abbrev pub child_in : Value → Option ChildSpec
child_in v = option_and_then child_of_parts (child_parts v)

-- those of all of them, where each is one
abbrev pub children_in : Values → Option (List ChildSpec)
children_in no_values = Some []
children_in (value v vs) = option_and_then (λ c. option_map (λ cs. c ∷ cs) (children_in vs)) (child_in v)
