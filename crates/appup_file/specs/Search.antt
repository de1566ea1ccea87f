-- Which instructions of an appup lead from one version to another (OTP: appup(4); that a regular expression is refused is this
-- project's own).
use Rattle.std.specs.Prelude.{ℕ, Bool, true, List, Option, None, Some, Result, Ok, Err}
use Rattle.std.specs.List.{find}
use Rattle.std.specs.Str.{bytes_eq}
use Rattle.relup_instruction.specs.declared.instruction.Direction.{Direction}
use Rattle.relup_instruction.specs.declared.instruction.Direction.TheVariants.{Up, Down}
use Rattle.appup_file.specs.declared.search.EntryFault.{EntryFault}
use Rattle.appup_file.specs.declared.search.EntryFault.TheVariants.{NoEntry, RegexVersion}
use Rattle.appup_file.specs.Instruction.{AppupInstruction, VersionForm, AppupEntryForm, AppupForm}
use Rattle.appup_file.specs.Instruction.VersionForm.{text, pattern}

-- the entries of a direction
abbrev pub entries_of : Direction → AppupForm → List AppupEntryForm
entries_of Up a = a.ups
entries_of Down a = a.downs

-- whether a search for a version ends at this one: it is the same, or a regular expression
abbrev pub ends_at : List ℕ → VersionForm → Bool
ends_at vsn (text s) = bytes_eq s vsn
ends_at vsn (pattern bs) = true

-- what an entry at which a search ends answers
abbrev pub answer_of : VersionForm → List AppupInstruction → Result (List AppupInstruction) EntryFault
answer_of (text s) is' = Ok is'
answer_of (pattern bs) is' = Err RegexVersion

abbrev pub answer_at : Option AppupEntryForm → Result (List AppupInstruction) EntryFault
answer_at None = Err NoEntry
answer_at (Some e) = answer_of e.vsn e.instrs

-- the answer at the first entry that has this version or a regular expression
abbrev pub entry_for : List ℕ → List AppupEntryForm → Result (List AppupInstruction) EntryFault
entry_for vsn es = answer_at (find (λ (e : AppupEntryForm). ends_at vsn e.vsn) es)
