-- The versions that are asked, as far as they have been gone through.
use Rattle.std.proofs.Common.{◌≡◌, ℕ, suc, ◌+◌, ◌<◌, ◌≤◌, List, [], ◌∷◌, ◌++◌, length, map, drop, get_or, drop-cons, string_bytes, String, Global, Ok, Err, inl, inr, sym, ap, ◌∙◌, subst, arith}
use Rattle.std.proofs.Math.ListN.{drop_of_length-le}
use Rattle.std.proofs.lemmas.List.{append_assoc, append-nil}
use Rattle.appup_file.specs.Instruction.{AppupInstruction, AppupEntryForm}
use Rattle.appup_match.specs.declared.fault.PatternFault.{PatternFault}
use Rattle.appup_match.specs.Match.{entry_matching, ComesToFault}
use Rattle.appup_match.specs.Match.MatchFault.{no_entry}
use Rattle.appup_plain.specs.Plain.{IsPlain, plain_entry, IsAnswer, AsksFault}
use Rattle.appup_plain.specs.Plain.IsPlain.{nothing, entry, none}

-- what holds where the walk goes on from this place, with these entries made
abbrev pub Kept : List AppupEntryForm → List (String Global) → ℕ → List AppupEntryForm → Type 0
Kept es asked i made =
    ((rest : List AppupEntryForm) → IsPlain es (map string_bytes (drop i asked)) rest → IsPlain es (map string_bytes asked) (made ++ rest))
    × ((f : PatternFault) (place : ℕ) → AsksFault f es (map string_bytes (drop i asked)) place → AsksFault f es (map string_bytes asked) place)

from_here : (asked : List (String Global)) (i : ℕ) (s : String Global) → i < length asked → s ≡ get_or asked i s →
    map string_bytes (drop i asked) ≡ string_bytes s ∷ map string_bytes (drop (i + 1) asked)
from_here asked i s within at =
    let next : suc i ≡ i + 1 = omega arith in
    ap (map string_bytes) (drop-cons asked i s within ∙ ap (λ x. x ∷ drop (suc i) asked) (sym at)) ∙ ap (λ k. string_bytes s ∷ map string_bytes (drop k asked)) next

-- past a version that has an answer
past : (es : List AppupEntryForm) (asked : List (String Global)) (i : ℕ) (s : String Global) (f : PatternFault) (place : ℕ) → i < length asked → s ≡ get_or asked i s
    → IsAnswer (entry_matching (string_bytes s) es) → (AsksFault f es (map string_bytes (drop i asked)) place → AsksFault f es (map string_bytes asked) place)
    → AsksFault f es (map string_bytes (drop (i + 1) asked)) place → AsksFault f es (map string_bytes asked) place
past es asked i s f place within at answered kept h =
    let P : List (List ℕ) → Type 0 = λ vs. AsksFault f es vs place in
    kept (subst P (sym (from_here asked i s within at)) (inr (answered, h)))

pub with_entry : (es : List AppupEntryForm) (asked : List (String Global)) (i : ℕ) (s : String Global) (row : List AppupInstruction) (made new : List AppupEntryForm) →
    i < length asked → s ≡ get_or asked i s → entry_matching (string_bytes s) es ≡ Ok row → new ≡ made ++ (plain_entry (string_bytes s) row ∷ []) →
    Kept es asked i made → Kept es asked (i + 1) new
with_entry es asked i s row made new within at found grown kept =
    let P : List AppupEntryForm → List (List ℕ) → Type 0 = λ rest vs. IsPlain es vs (plain_entry (string_bytes s) row ∷ rest) in
    let Q : List AppupEntryForm → Type 0 = IsPlain es (map string_bytes asked) in
    let joined : (rest : List AppupEntryForm) → new ++ rest ≡ made ++ (plain_entry (string_bytes s) row ∷ rest) =
    λ rest. ap (λ l. l ++ rest) grown ∙ append_assoc made (plain_entry (string_bytes s) row ∷ []) rest in (
      λ rest h. subst Q (sym (joined rest)) (kept.0 _ (subst (P rest) (sym (from_here asked i s within at)) (entry (string_bytes s) row found h))),
      λ f place. past es asked i s f place within at (subst IsAnswer (sym found) tt) (kept.1 f place),
    )

pub without_entry : (es : List AppupEntryForm) (asked : List (String Global)) (i : ℕ) (s : String Global) (made : List AppupEntryForm) →
    i < length asked → s ≡ get_or asked i s → entry_matching (string_bytes s) es ≡ Err no_entry → Kept es asked i made → Kept es asked (i + 1) made
without_entry es asked i s made within at missing kept =
    let P : List AppupEntryForm → List (List ℕ) → Type 0 = λ rest vs. IsPlain es vs rest in (
      λ rest h. kept.0 rest (subst (P rest) (sym (from_here asked i s within at)) (none (string_bytes s) missing h)),
      λ f place. past es asked i s f place within at (subst IsAnswer (sym missing) tt) (kept.1 f place),
    )

-- at a version that has none
pub at_fault : (es : List AppupEntryForm) (asked : List (String Global)) (i : ℕ) (s : String Global) (made : List AppupEntryForm) (f : PatternFault) (place : ℕ) →
    i < length asked → s ≡ get_or asked i s → ComesToFault f (string_bytes s) es place → Kept es asked i made → AsksFault f es (map string_bytes asked) place
at_fault es asked i s made f place within at comes kept =
    let P : List (List ℕ) → Type 0 = λ vs. AsksFault f es vs place in
    kept.1 f place (subst P (sym (from_here asked i s within at)) (inl comes))

pub at_end : (es : List AppupEntryForm) (asked : List (String Global)) (i : ℕ) (made : List AppupEntryForm) → length asked ≤ i → Kept es asked i made →
    IsPlain es (map string_bytes asked) made
at_end es asked i made past_all kept =
    let P : List AppupEntryForm → Type 0 = IsPlain es (map string_bytes asked) in
    let Q : List (String Global) → Type 0 = λ ss. IsPlain es (map string_bytes ss) [] in
    subst P (append-nil made) (kept.0 [] (subst Q (sym (drop_of_length-le asked past_all)) nothing))
