-- What a search finds in plain entries.
use Rattle.std.specs.Prelude.{◌≡◌, ℕ, List, Ok, Err}
use Rattle.appup_file.specs.Instruction.{AppupInstruction, AppupEntryForm}
use Rattle.appup_file.specs.Search.{entry_for}
use Rattle.appup_file.specs.declared.search.EntryFault.TheVariants.{NoEntry}
use Rattle.appup_match.specs.Match.{entry_matching}
use Rattle.appup_match.specs.Match.MatchFault.{no_entry}
use Rattle.appup_plain.specs.Plain.{IsPlain, IsAsked}

-- the instructions that the appup has for a version that is asked
abbrev pub FindsTheSame : Type 0
FindsTheSame = (es : List AppupEntryForm) (asked : List (List ℕ)) (plain : List AppupEntryForm) → IsPlain es asked plain
    → (v : List ℕ) (row : List AppupInstruction) → IsAsked v asked → entry_matching v es ≡ Ok row → entry_for v plain ≡ Ok row

-- no entry, where the appup has none
abbrev pub FindsNothingMore : Type 0
FindsNothingMore = (es : List AppupEntryForm) (asked : List (List ℕ)) (plain : List AppupEntryForm) → IsPlain es asked plain
    → (v : List ℕ) → entry_matching v es ≡ Err no_entry → entry_for v plain ≡ Err NoEntry
