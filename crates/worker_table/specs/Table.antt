-- The table of a worker, without where it lies in memory.
use Rattle.std.specs.Prelude.{ℕ, List}
use Rattle.erl_term.specs.Value.{Value}

-- what a change of code goes from: the old version of an upgrade, or the version to which a downgrade goes
pub data OldVersion : Type 0 where
  up : List ℕ → OldVersion
  down : List ℕ → OldVersion

-- A row of a worker's table.
-- on: in this state, at this input, the next state and the reply. add: at this input, what is added to the state.
-- stop: in this state, at this input, the last reply. change: from this version with this extra term, the new states of old ones.
pub data Row : Type 0 where
  on : ℕ → ℕ → ℕ → ℕ → Row
  add : ℕ → ℕ → Row
  stop : ℕ → ℕ → ℕ → Row
  change : OldVersion → Value → List (ℕ × ℕ) → Row

-- the table of a worker
pub record WorkerTable : Type 0 where
  pub name : List ℕ
  pub vsn : List ℕ
  pub first : ℕ
  pub rows : List Row
