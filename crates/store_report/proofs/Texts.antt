-- Texts that grow.
use Rattle.std.proofs.Common.{◌≡◌, ℕ, Bool, true, false, List, ◌++◌, ap, ◌∙◌, sym, append_assoc, append-nil}
use Rattle.store_report.specs.Contents.{each_text}
use Rattle.store_report.specs.Lines.{records_text}

-- two texts put at the end
pub two : (old t1 t2 a b : List ℕ) → t1 ≡ old ++ a → t2 ≡ t1 ++ b → t2 ≡ old ++ (a ++ b)
two old t1 t2 a b p1 p2 = p2 ∙ ap (λ (t : List ℕ). t ++ b) p1 ∙ append_assoc old a b

-- three texts put at the end
pub three : (old t1 t2 t3 a b c : List ℕ) → t1 ≡ old ++ a → t2 ≡ t1 ++ b → t3 ≡ t2 ++ c → t3 ≡ old ++ (a ++ b ++ c)
three old t1 t2 t3 a b c p1 p2 p3 =
    let two : t2 ≡ old ++ (a ++ b) = p2 ∙ ap (λ (t : List ℕ). t ++ b) p1 ∙ append_assoc old a b in
    p3 ∙ ap (λ (t : List ℕ). t ++ c) two ∙ append_assoc old (a ++ b) c

-- no record is shown
pub none_shown : (each : Bool) (old new line : List ℕ) (base : ℕ) (bodies : List (List ℕ)) → each ≡ false → new ≡ old ++ line → new ≡ old ++ line ++ each_text each base bodies
none_shown true old new line base bodies e grown = absurd cc
none_shown false old new line base bodies e grown = grown ∙ sym (append-nil (old ++ line))

-- each record is shown
pub all_shown : (each : Bool) (old mid new line : List ℕ) (base : ℕ) (bodies : List (List ℕ)) → each ≡ true → mid ≡ old ++ line → new ≡ mid ++ records_text 1 base bodies → new ≡ old ++ line ++ each_text each base bodies
all_shown true old mid new line base bodies e grown more = more ∙ ap (λ (t : List ℕ). t ++ records_text 1 base bodies) grown
all_shown false old mid new line base bodies e grown more = absurd cc
