-- What a search in plain entries finds.
use Rattle.std.proofs.Common.{◌≡◌, ℕ, true, false, List, [], ◌∷◌, ◌⊎◌, ⊎_elim, Result, Ok, Err, refl, sym, ap, ◌∙◌}
use Rattle.std.proofs.lemmas.Bool.{cases_Bool}
use Rattle.std.proofs.lemmas.Slice.Eq.{bytes_eq-Decides}
use Rattle.std.specs.Str.{bytes_eq}
use Rattle.appup_file.specs.Instruction.{AppupInstruction, AppupEntryForm}
use Rattle.appup_file.specs.Search.{entry_for}
use Rattle.appup_file.specs.declared.search.EntryFault.TheVariants as fault
use Rattle.appup_match.specs.Match.{MatchFault, entry_matching}
use Rattle.appup_match.specs.Match.MatchFault.{no_entry}
use Rattle.appup_plain.specs.Plain.{IsPlain, IsAsked}
use Rattle.appup_plain.specs.Plain.IsPlain.{nothing, entry, none}

abbrev Same : Result (List AppupInstruction) MatchFault → Result (List AppupInstruction) MatchFault → Type 0
Same r s = r ≡ s

-- the rows of one version are one row
one_row : (es : List AppupEntryForm) (u v : List ℕ) (a b : List AppupInstruction) → u ≡ v → entry_matching u es ≡ Ok a → entry_matching v es ≡ Ok b → a ≡ b
one_row es u v a b same at_u at_v = same_Ok a b (sym at_u ∙ ap (λ s. entry_matching s es) same ∙ at_v)
  where
    same_Ok : (a b : List AppupInstruction) → Same (Ok a) (Ok b) → a ≡ b
    same_Ok a b e = cc

-- A version that is asked, and that an entry is for, has that entry's row.
pub plain_finds : (es : List AppupEntryForm) (asked : List (List ℕ)) (plain : List AppupEntryForm) → IsPlain es asked plain →
    (v : List ℕ) (row : List AppupInstruction) → IsAsked v asked → entry_matching v es ≡ Ok row → entry_for v plain ≡ Ok row
plain_finds es [] plain p v row among found = absurd among
plain_finds es (u ∷ asked) plain (entry vsn a is_a p) v row among found =
    ⊎_elim
    (λ (same : bytes_eq u v ≡ true). rw same (ap Ok (one_row es u v a row ((bytes_eq-Decides u v).0 same) is_a found)))
    (λ (other : bytes_eq u v ≡ false). rw other
    (⊎_elim (λ is. absurd (differs u v is other)) (λ later. plain_finds es asked _ p v row later found) among))
    (cases_Bool (bytes_eq u v))
  where
    differs : (u v : List ℕ) → u ≡ v → bytes_eq u v ≡ false → ⊥
    differs u v is other = let same = (bytes_eq-Decides u v).1 is in cc
plain_finds es (u ∷ asked) plain (none vsn missing p) v row among found =
    ⊎_elim
    (λ is. let both : Same (Err no_entry) (Ok row) = sym missing ∙ ap (λ s. entry_matching s es) is ∙ found in absurd cc)
    (λ later. plain_finds es asked plain p v row later found)
    among

-- A version that no entry is for has none.
pub plain_misses : (es : List AppupEntryForm) (asked : List (List ℕ)) (plain : List AppupEntryForm) → IsPlain es asked plain →
    (v : List ℕ) → entry_matching v es ≡ Err no_entry → entry_for v plain ≡ Err fault.NoEntry
plain_misses es [] plain nothing v missing = refl
plain_misses es (u ∷ asked) plain (entry vsn a is_a p) v missing =
    ⊎_elim
    (λ (same : bytes_eq u v ≡ true).
    let both : Same (Ok a) (Err no_entry) = sym is_a ∙ ap (λ s. entry_matching s es) ((bytes_eq-Decides u v).0 same) ∙ missing in absurd cc)
    (λ (other : bytes_eq u v ≡ false). rw other (plain_misses es asked _ p v missing))
    (cases_Bool (bytes_eq u v))
plain_misses es (u ∷ asked) plain (none vsn gone p) v missing = plain_misses es asked plain p v missing
