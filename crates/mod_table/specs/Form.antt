-- The terms of modules' tables (OTP: supervisor, child_spec() as a tuple); docs/RULES.md gives the format.
use Rattle.std.specs.Prelude.{◌≡◌, ◌⊎◌, ℕ, pos, List, [], ◌∷◌, codes}
use Rattle.erl_term.specs.Value.{Value}
use Rattle.erl_term.specs.Value.Value.{int, atom}
use Rattle.rel_files.specs.Name.{IsName, IsVersion, AreDistinct}
use Rattle.rel_files.specs.Terms.{tuple_of, list_of, triple_term, text_term, atoms_term}
use Rattle.worker_table.specs.Form.{worker_term, IsWorker}
use Rattle.mod_table.specs.declared.child.Restart.{Restart}
use Rattle.mod_table.specs.declared.child.Restart.TheVariants.{Permanent, Transient, Temporary}
use Rattle.mod_table.specs.declared.child.ChildKind.{ChildKind}
use Rattle.mod_table.specs.declared.child.ChildKind.TheVariants as kind
use Rattle.mod_table.specs.declared.table.Table.{Table}
use Rattle.mod_table.specs.declared.table.Table.TheVariants.{Worker, Super}
use Rattle.mod_table.specs.Table.{ChildSpec, SuperTable}
use Rattle.mod_table.specs.Headed.{ids}

-- the atom for a restart type
abbrev pub restart_word : Restart → List ℕ
restart_word Permanent = codes "permanent"
restart_word Transient = codes "transient"
restart_word Temporary = codes "temporary"

-- the atom for what a child is
abbrev pub kind_word : ChildKind → List ℕ
kind_word kind.Worker = codes "worker"
kind_word kind.Supervisor = codes "supervisor"

-- brutal_kill, infinity or a number from 0
abbrev pub IsShutdown : Value → Type 0
IsShutdown v = (v ≡ atom (codes "brutal_kill")) ⊎ (v ≡ atom (codes "infinity")) ⊎ ((n : ℕ) × (v ≡ int (pos n)))

-- {Id, {M, F, A}, Restart, Shutdown, Kind, [M]}: F and A may be any terms, Id any atom
pub record IsChildTerm (v : Value) (c : ChildSpec) : Type 0 where
  pub function : Value
  pub args : Value
  pub shutdown : Value
  pub is : v ≡ tuple_of (atom c.id
      ∷ triple_term (atom c.start) function args
      ∷ atom (restart_word c.restart)
      ∷ shutdown
      ∷ atom (kind_word c.kind)
      ∷ atoms_term (c.start ∷ []) ∷ [])
  pub start : IsName c.start
  pub shuts_down : IsShutdown shutdown

-- the terms of these children, in their order
abbrev pub AreChildTerms : List Value → List ChildSpec → Type 0
AreChildTerms [] [] = Unit {0}
AreChildTerms (v ∷ vs) (c ∷ cs) = IsChildTerm v c × AreChildTerms vs cs
AreChildTerms vs cs = ⊥

-- {supervisor, Mod, Vsn, [ChildSpec]}, in which no id stands twice
pub record IsSuperTerm (v : Value) (s : SuperTable) : Type 0 where
  pub children : List Value
  pub is : v ≡ tuple_of (atom (codes "supervisor") ∷ atom s.name ∷ text_term s.vsn ∷ list_of children ∷ [])
  pub name : IsName s.name
  pub vsn : IsVersion s.vsn
  pub each : AreChildTerms children s.children
  pub distinct : AreDistinct (ids s)

-- The term has the form of this table.
abbrev pub IsTableForm : Value → Table → Type 0
IsTableForm v (Worker w) = (v ≡ worker_term w) × IsWorker w
IsTableForm v (Super s) = IsSuperTerm v s
