-- The damage of single calls, stated by places.
use Rattle.std.proofs.Common.{◌≡◌, ◌⊎◌, ⊎_elim, inl, inr, ℕ, ◌+◌, ◌-◌, ◌<◌, ◌≤◌, min, List, ◌++◌, length, take, drop, get_or, sym, ap, ◌∙◌, arith, take-append-drop, length-append, length-take, length-drop}
use Rattle.std.proofs.lemmas.List.{get_or_append_left, get_or-append_right, get_or-take, get_or-drop, drop-drop, ext_get_or}
use Rattle.rel_disk.specs.Damage.{Torn, Cut, Follows}
use Rattle.rel_disk.specs.Places.{KeepsOutside, KeepsFront}

pub torn_keeps : (at n : ℕ) (old new : List ℕ) → Torn at n old new → KeepsOutside at n old new
torn_keeps at n old new torn = record {
  long = omega (arith, lengths);
  kept = kept;
}
  where
    rest : List ℕ
    rest = drop (at + n) old ++ torn.tail

    lengths : length new ≡ min at (length old) + (min n (length old - at) + ((length old - (at + n)) + length torn.tail))
    lengths = omega (arith, ap length torn.is, length-append (take at old) (torn.middle ++ rest), length-append torn.middle rest, length-append (drop (at + n) old) torn.tail, length-take at old, length-drop (at + n) old, torn.long)

    kept : (i : ℕ) → i < length old → (i < at) ⊎ (at + n ≤ i) → get_or new i 0 ≡ get_or old i 0
    kept i within (inl before) =
        ap (λ (l : List ℕ). get_or l i 0) torn.is
        ∙ get_or_append_left (take at old) (torn.middle ++ rest) 0 i (omega (arith, length-take at old))
        ∙ get_or-take at old i 0 before
    kept i within (inr behind) =
        ap (λ (l : List ℕ). get_or l i 0) torn.is
        ∙ get_or-append_right (take at old) (torn.middle ++ rest) at i 0 (omega (arith, length-take at old)) (omega arith)
        ∙ get_or-append_right torn.middle rest n (i - at) 0 (omega (arith, torn.long)) (omega arith)
        ∙ get_or_append_left (drop (at + n) old) torn.tail 0 (i - at - n) (omega (arith, length-drop (at + n) old))
        ∙ get_or-drop (at + n) old (i - at - n) 0
        ∙ ap (λ (k : ℕ). get_or old k 0) (omega arith)

pub keeps_torn : (at n : ℕ) (old new : List ℕ) → KeepsOutside at n old new → Torn at n old new
keeps_torn at n old new keeps = record {
  middle = take inside behind;
  tail = drop (length old) new;
  long = length-take inside behind ∙ omega (arith, keeps.long, length-drop front new);
  is =
      sym (take-append-drop front new)
      ∙ ap (λ (l : List ℕ). l ++ behind) same_front
      ∙ ap (λ (l : List ℕ). take at old ++ l) (sym (take-append-drop inside behind) ∙ ap (λ (l : List ℕ). take inside behind ++ l) same_back);
}
  where
    front : ℕ
    front = min at (length old)

    inside : ℕ
    inside = min n (length old - at)

    back : ℕ
    back = length old - (at + n)

    behind : List ℕ
    behind = drop front new

    same_front : take front new ≡ take at old
    same_front =
        ext_get_or 0 _ _ (omega (arith, keeps.long, length-take front new, length-take at old))
        (λ i within.
        let below : i < front = omega (arith, length-take front new) in
        get_or-take front new i 0 below ∙ keeps.kept i (omega arith) (inl (omega arith)) ∙ sym (get_or-take at old i 0 (omega arith)))

    same_rest : take back (drop inside behind) ≡ drop (at + n) old
    same_rest =
        ext_get_or 0 _ _ (omega (arith, keeps.long, length-take back (drop inside behind), length-drop inside behind, length-drop front new, length-drop (at + n) old))
        (λ i within.
        let below : i < back = omega (arith, length-take back (drop inside behind)) in
        get_or-take back (drop inside behind) i 0 below
        ∙ get_or-drop inside behind i 0
        ∙ get_or-drop front new (inside + i) 0
        ∙ ap (λ (k : ℕ). get_or new k 0) (omega arith)
        ∙ keeps.kept (at + n + i) (omega arith) (inr (omega arith))
        ∙ sym (get_or-drop (at + n) old i 0))

    same_back : drop inside behind ≡ drop (at + n) old ++ drop (length old) new
    same_back =
        sym (take-append-drop back (drop inside behind))
        ∙ ap (λ (l : List ℕ). l ++ drop back (drop inside behind)) same_rest
        ∙ ap (λ (l : List ℕ). drop (at + n) old ++ l) (drop-drop back inside behind ∙ drop-drop (inside + back) front new ∙ ap (λ (k : ℕ). drop k new) (omega arith))

pub torn_wider : (at m n : ℕ) (old new : List ℕ) → m ≤ n → Torn at m old new → Torn at n old new
torn_wider at m n old new le torn =
    let keeps = torn_keeps at m old new torn in
    keeps_torn at n old new record { long = keeps.long; kept = λ i within outside. keeps.kept i within (⊎_elim (λ before. inl before) (λ behind. inr (omega (arith, behind))) outside) }

pub follows_wider : (at m n : ℕ) (old new : List ℕ → Type 0) → m ≤ n → Follows (Torn at m) old new → Follows (Torn at n) old new
follows_wider at m n old new le follows c image =
    let from = follows c image in
    (from.0, from.1, torn_wider at m n from.0 c le from.2)

pub cut_keeps : (n : ℕ) (old new : List ℕ) → Cut n old new → KeepsFront n old new
cut_keeps n old new cut = record {
  long = omega (arith, ap length cut.is, length-append (take n old) cut.tail, length-take n old);
  kept = λ i below within.
      ap (λ (l : List ℕ). get_or l i 0) cut.is
      ∙ get_or_append_left (take n old) cut.tail 0 i (omega (arith, length-take n old))
      ∙ get_or-take n old i 0 below;
}

pub keeps_cut : (n : ℕ) (old new : List ℕ) → KeepsFront n old new → Cut n old new
keeps_cut n old new keeps = record {
  tail = drop (min n (length old)) new;
  is = sym (take-append-drop (min n (length old)) new) ∙ ap (λ (l : List ℕ). l ++ drop (min n (length old)) new) front;
}
  where
    front : take (min n (length old)) new ≡ take n old
    front =
        ext_get_or 0 _ _ (omega (arith, keeps.long, length-take (min n (length old)) new, length-take n old))
        (λ i within.
        let below : i < min n (length old) = omega (arith, length-take (min n (length old)) new) in
        get_or-take _ new i 0 below ∙ keeps.kept i (omega arith) (omega arith) ∙ sym (get_or-take n old i 0 (omega arith)))
