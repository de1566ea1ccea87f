-- Files that are to have one term of some kind: what such a file says, or which fault it has.
use Rattle.std.specs.Prelude.{◌≡◌, ℕ, Bool, true, false, List, Option, Some, None}
use Rattle.erl_term.specs.Value.{Value}
use Rattle.rel_files.specs.Fault.{Fault}
use Rattle.rel_files.specs.Fault.Fault.{bad_term, bad_shape, duplicate, bad_version, no_memory}
use Rattle.rel_files.specs.Name.{AreDistinct, IsFirstTwice}
use Rattle.rel_files.specs.OneTermFile.{TermOfFileSays, HasFileFault}

-- A kind of files: what a term of the shape says, the names in it that may not stand twice, and whether each version in it is one.
pub record Kind (X : Type 0) : Type 0 where
  pub read : Value → Option X
  pub names : X → List (List ℕ)
  pub has_versions : X → Bool

-- The term says this.
pub record TermSays {X : Type 0} (k : Kind X) (v : Value) (x : X) : Type 0 where
  pub shape : k.read v ≡ Some x
  pub distinct : AreDistinct (k.names x)
  pub versions : k.has_versions x ≡ true

-- The fault of a term that begins at this place. Of several the first in the order of their kinds is reported.
abbrev pub HasTermFault : {X : Type 0} → Kind X → Value → ℕ → Fault → Type 0
HasTermFault k v at (bad_term e) = ⊥
HasTermFault k v at (bad_shape place) = (k.read v ≡ None) × (place ≡ at)
HasTermFault {X} k v at (duplicate name) = (x : X) × (k.read v ≡ Some x) × IsFirstTwice (k.names x) name
HasTermFault {X} k v at bad_version = (x : X) × (k.read v ≡ Some x) × AreDistinct (k.names x) × (k.has_versions x ≡ false)
HasTermFault k v at no_memory = ⊥

-- The file says this.
abbrev pub Says : {X : Type 0} → Kind X → List ℕ → X → Type 0
Says k bytes x = TermOfFileSays (TermSays k) bytes x

-- The fault of a file: it hasn't one term, or this has the fault.
abbrev pub HasFault : {X : Type 0} → Kind X → List ℕ → Fault → Type 0
HasFault k bytes f = HasFileFault (HasTermFault k) bytes f
