use Rattle.std.proofs.Common.{◌≡◌, List, ℕ, ◌++◌, ◌∙◌, ap, append_assoc}
use Rattle.rel_store.proofs.bytes.push_layout.Goals as goal

-- one append after another
chained : (v0 a b s z p q v1 v2 v3 v4 v5 v6 : List ℕ) → v1 ≡ v0 ++ a → v2 ≡ v1 ++ b → v3 ≡ v2 ++ s → v4 ≡ v3 ++ z → v5 ≡ v4 ++ p → v6 ≡ v5 ++ q
    → v6 ≡ v0 ++ (a ++ (b ++ (s ++ (z ++ (p ++ q)))))
chained v0 a b s z p q v1 v2 v3 v4 v5 v6 e1 e2 e3 e4 e5 e6 =
    let whole : v6 ≡ (((((v0 ++ a) ++ b) ++ s) ++ z) ++ p) ++ q = cc in
    whole ∙ simp append_assoc

pub returns : goal.returns
returns c =
    chained _ _ _ _ _ _ _ _ _ _ _ _ _ c.in_ok-extend_from_slice.ensures.items c.in_ok-extend_from_slice-2.ensures.items
    (c.in_ok-extend_from_slice-3.ensures.items ∙ ap (λ slot. c.extend_from_slice-2.new.self.items ++ slot) c.spell_slot.ensures) c.in_ok-extend_from_slice-4.ensures.items
    (c.in_ok-extend_from_slice-5.ensures.items ∙ ap (λ place. c.extend_from_slice-4.new.self.items ++ place) c.to_be_bytes.ensures)
    c.in_ok-extend_from_slice-6.ensures.items
