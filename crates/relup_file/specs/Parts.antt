-- What is read of the terms of a relup.
use Rattle.std.specs.Prelude.{◌≡◌, ℕ, ◌+◌, List, [], ◌∷◌, Option, None, Some, Result, Ok, Err}
use Rattle.std.specs.Option.{option_map, option_and_then}
use Rattle.erl_term.specs.Value.{Value, Values}
use Rattle.erl_term.specs.Value.Values.{no_values, value}
use Rattle.rel_files.specs.Parts.{list_in, triple_in}
use Rattle.rel_files.specs.Sketch.{count, version_in}
use Rattle.relup_instruction.specs.Parts.{script_in}
use Rattle.relup_file.specs.declared.fault.RelupFault.{RelupFault}
use Rattle.relup_file.specs.declared.fault.RelupFault.TheVariants.{BadTerm, BadShape, NoMemory}
use Rattle.relup_file.specs.Relup.{EntryForm, RelupForm}

abbrev pub entry_in : Value → Option EntryForm
entry_in v = option_and_then (λ t. option_and_then (λ vsn. option_and_then (λ instrs. option_map (λ script. record { vsn = vsn; descr = t.1; script = script }) (script_in instrs)) (list_in t.2)) (version_in t.0)) (triple_in v)

-- one more in front, or the number of the first that is none
abbrev pub put_entry : ℕ → Option EntryForm → Result (List EntryForm) ℕ → Result (List EntryForm) ℕ
put_entry n None rest = Err n
put_entry n (Some e) (Ok es) = Ok (e ∷ es)
put_entry n (Some e) (Err k) = Err k

-- the entries, after so many others, or the number of the first that is none
abbrev pub entries_in : ℕ → Values → Result (List EntryForm) ℕ
entries_in n no_values = Ok []
entries_in n (value v vs) = put_entry (n + 1) (entry_in v) (entries_in (n + 1) vs)

-- a version and two lists
pub record Outer : Type 0 where
  pub vsn : List ℕ
  pub ups : Values
  pub downs : Values

abbrev pub outer_in : Value → Option Outer
outer_in v = option_and_then (λ t. option_and_then (λ vsn. option_and_then (λ ups. option_map (λ downs. record { vsn = vsn; ups = ups; downs = downs }) (list_in t.2)) (list_in t.1)) (version_in t.0)) (triple_in v)

abbrev pub join : List ℕ → Result (List EntryForm) ℕ → Result (List EntryForm) ℕ → Result RelupForm ℕ
join vsn (Ok ups) (Ok downs) = Ok (record { vsn = vsn; ups = ups; downs = downs })
join vsn (Ok ups) (Err n) = Err n
join vsn (Err n) downs = Err n

abbrev pub from_outer : Option Outer → Result RelupForm ℕ
from_outer None = Err 0
from_outer (Some o) = join o.vsn (entries_in 0 o.ups) (entries_in (count o.ups) o.downs)

-- the relup that a term says, or the number of what is none in it
abbrev pub relup_in : Value → Result RelupForm ℕ
relup_in v = from_outer (outer_in v)

-- reported of this number, or out of memory
abbrev pub ReportsBad : {A : Type 0} → Result A ℕ → RelupFault → Type 0
ReportsBad o (BadTerm e) = ⊥
ReportsBad (Ok r) (BadShape n) = ⊥
ReportsBad (Err k) (BadShape n) = n ≡ k
ReportsBad o NoMemory = Unit {0}
