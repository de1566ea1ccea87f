-- Where records stand.
use Rattle.std.proofs.Common.{◌≡◌, ℕ, ◌+◌, ◌<◌, ◌≤◌, List, [], ◌∷◌, ◌++◌, length, get_or, drop, map, Vec, Ok, refl, sym, ◌∙◌, ap, arith, append_assoc, append-nil}
use Rattle.std.proofs.lemmas.List.{drop_more, drop_all}
use Rattle.std.specs.declared.alloc.Global.{Global}
use Rattle.rel_store.specs.Layout.{base_of, text_of}
use Rattle.rel_store.specs.Records.{records_of, space}
use Rattle.rel_store.proofs.Append.{gate_within}
use Rattle.rel_store.proofs.Whole.{sound}
use Rattle.store_report.specs.Lines.{record_text, records_text}

-- the bodies that vectors hold
abbrev pub bodies_of : List (Vec ℕ Global) → List (List ℕ)
bodies_of records = map (λ v. v.items) records

-- The gate is that of the record of this index, or the closed one after all.
pub record IsAt (records : List (Vec ℕ Global)) (base i at : ℕ) : Type 0 where
  pub place : at + space (bodies_of (drop i records)) ≡ base + space (bodies_of records)

-- The records before this index are shown, and the others are still to come.
pub record IsShownTo (old text : List ℕ) (records : List (Vec ℕ Global)) (base i at : ℕ) : Type 0 where
  pub gate : IsAt records base i at
  pub rest : text ++ records_text (i + 1) at (bodies_of (drop i records)) ≡ old ++ records_text 1 base (bodies_of records)

-- the record of an index, and those after it
pub bodies_from : (records : List (Vec ℕ Global)) (i : ℕ) (v : Vec ℕ Global) (body : List ℕ) → i < length records → v ≡ get_or records i v → body ≡ v.items
    → bodies_of (drop i records) ≡ body ∷ bodies_of (drop (i + 1) records)
bodies_from records i v body within is items =
    ap bodies_of (drop_more records i v within ∙ ap (λ (w : Vec ℕ Global). w ∷ drop (i + 1) records) (sym is))
    ∙ ap (λ (b : List ℕ). b ∷ bodies_of (drop (i + 1) records)) (sym items)

module _ (records : List (Vec ℕ Global)) (base i at : ℕ) (v : Vec ℕ Global) (body : List ℕ) (within : i < length records) (is : v ≡ get_or records i v) (items : body ≡ v.items) where
  here : bodies_of (drop i records) ≡ body ∷ bodies_of (drop (i + 1) records)
  here = bodies_from records i v body within is items

  -- the gate after it
  pub next_gate : IsAt records base i at → IsAt records base (i + 1) (at + (5 + length body))
  next_gate so_far = record { place = omega (arith, so_far.place, ap space here) }

  pub gate_bound : IsAt records base i at → at + (5 + length body) ≤ base + space (bodies_of records)
  gate_bound so_far = omega (arith, so_far.place, ap space here)

  -- one record more
  pub one_more : (old text next : List ℕ) → IsShownTo old text records base i at → next ≡ text ++ record_text (i + 1) at body → IsShownTo old next records base (i + 1) (at + (5 + length body))
  one_more old text next so_far grown =
      let after = records_text (i + 1 + 1) (at + (5 + length body)) (bodies_of (drop (i + 1) records)) in
      record {
        gate = next_gate so_far.gate;
        rest = ap (λ (t : List ℕ). t ++ after) grown
            ∙ append_assoc text (record_text (i + 1) at body) after
            ∙ ap (λ l. text ++ records_text (i + 1) at l) (sym here)
            ∙ so_far.rest;
      }

drop-none : (records : List (Vec ℕ Global)) (i : ℕ) → length records ≤ i → bodies_of (drop i records) ≡ []
drop-none records i end = ap bodies_of (drop_all i records end)

-- no record is left
pub gate_after : (records : List (Vec ℕ Global)) (base i at : ℕ) → length records ≤ i → IsAt records base i at → at ≡ base + space (bodies_of records)
gate_after records base i at end so_far = omega (arith, so_far.place, ap space (drop-none records i end))

pub all_shown_to : (old text : List ℕ) (records : List (Vec ℕ Global)) (base i at : ℕ) → length records ≤ i → IsShownTo old text records base i at → text ≡ old ++ records_text 1 base (bodies_of records)
all_shown_to old text records base i at end so_far =
    sym (append-nil text) ∙ ap (λ l. text ++ records_text (i + 1) at l) (sym (drop-none records i end)) ∙ so_far.rest

-- the bytes of a store are no fewer than its layout, and reach past its last record
pub long_enough : (bytes : List ℕ) (bodies : List (List ℕ)) → records_of bytes ≡ Ok bodies → 289 ≤ length bytes
long_enough bytes bodies held = (sound bytes bodies held).long

pub ends_within : (bytes : List ℕ) (bodies : List (List ℕ)) → records_of bytes ≡ Ok bodies → base_of bytes + space bodies < length bytes
ends_within bytes bodies held = omega (arith, gate_within bodies (text_of bytes) bytes (base_of bytes + space bodies) (record { records = held; start = refl }) refl)
