-- The terms that say relups (OTP: relup(4)).
use Rattle.std.specs.Prelude.{◌≡◌, ℕ, List, [], ◌∷◌, map}
use Rattle.std.specs.List.{AllByRecursion}
use Rattle.erl_term.specs.Value.{Value}
use Rattle.rel_files.specs.Name.{IsVersion}
use Rattle.rel_files.specs.Terms.{list_of, triple_term, text_term}
use Rattle.relup_instruction.specs.Instruction.{Instruction}
use Rattle.relup_instruction.specs.Form.{instruction_term, IsInstruction, SpellsScript}
use Rattle.relup_file.specs.Relup.{EntryForm, RelupForm}

-- {Vsn, Descr, [Instr]}
pub record IsEntryTerm (v : Value) (e : EntryForm) : Type 0 where
  pub instrs : List Value
  pub is : v ≡ triple_term (text_term e.vsn) e.descr (list_of instrs)
  pub vsn : IsVersion e.vsn
  pub script : SpellsScript instrs e.script

abbrev pub AreEntryTerms : List Value → List EntryForm → Type 0
AreEntryTerms [] [] = Unit {0}
AreEntryTerms (v ∷ vs) (e ∷ es) = IsEntryTerm v e × AreEntryTerms vs es
AreEntryTerms vs es = ⊥

-- {Vsn, [Entry], [Entry]}, whatever the entries are
pub record IsOuter (v : Value) (vsn : List ℕ) (ups downs : List Value) : Type 0 where
  pub is : v ≡ triple_term (text_term vsn) (list_of ups) (list_of downs)
  pub version : IsVersion vsn

-- The term says this relup.
pub record IsRelupTerm (v : Value) (r : RelupForm) : Type 0 where
  pub ups : List Value
  pub downs : List Value
  pub outer : IsOuter v r.vsn ups downs
  pub each_up : AreEntryTerms ups r.ups
  pub each_down : AreEntryTerms downs r.downs

-- the term that a relup is printed as
abbrev pub entry_term : EntryForm → Value
entry_term e = triple_term (text_term e.vsn) e.descr (list_of (map instruction_term e.script))

abbrev pub relup_term : RelupForm → Value
relup_term r = triple_term (text_term r.vsn) (list_of (map entry_term r.ups)) (list_of (map entry_term r.downs))

-- what is so of a relup that a file says: its names are names, its versions are versions, and no script is empty
abbrev pub IsScript : List Instruction → Type 0
IsScript [] = ⊥
IsScript (i ∷ is) = AllByRecursion IsInstruction (i ∷ is)

abbrev pub IsEntry : EntryForm → Type 0
IsEntry e = IsVersion e.vsn × IsScript e.script

pub record IsRelup (r : RelupForm) : Type 0 where
  pub version : IsVersion r.vsn
  pub ups : AllByRecursion IsEntry r.ups
  pub downs : AllByRecursion IsEntry r.downs
