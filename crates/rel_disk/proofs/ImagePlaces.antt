-- The images that single calls compose are those that the written places and the smallest length allow.
use Rattle.std.proofs.Common.{◌≡◌, ◌⊎◌, inl, inr, ⊎_elim, ℕ, zero, suc, ◌+◌, ◌-◌, ◌<◌, ◌≤◌, List, [], ◌∷◌, ◌++◌, length, take, drop, get_or, refl, sym, ap, ◌∙◌, arith, length-append, length-take, length-drop}
use Rattle.std.proofs.lemmas.Bool.{cases_lt}
use Rattle.std.proofs.lemmas.List.{get_or_append_left, get_or-append_right, get_or-take, get_or-drop}
use Rattle.rel_disk.specs.Calls.{Call, wrote, cut_to, synced, content}
use Rattle.rel_disk.specs.Damage.{overwritten, Torn, Cut}
use Rattle.rel_disk.specs.ImageLaws.{content_is_image}
use Rattle.rel_disk.specs.Images.{Image}
use Rattle.rel_disk.specs.Places.{synced_content, smallest_length, IsWritten, IsAtRest, Survives}
use Rattle.rel_disk.proofs.DamageLemmas.{cut_same}
use Rattle.rel_disk.proofs.PlaceLemmas.{torn_keeps, keeps_torn, cut_keeps, keeps_cut}

-- a place lies in a range or outside it
places : (at n i : ℕ) → ((at ≤ i) × (i < at + n)) ⊎ ((i < at) ⊎ (at + n ≤ i))
places at n i = ⊎_elim (λ before. inr (inl before)) (λ from. ⊎_elim (λ inside. inl (from, inside)) (λ behind. inr (inr behind)) (cases_lt i (at + n))) (cases_lt i at)

length-overwritten : (at : ℕ) (bytes old : List ℕ) → length old ≤ length (overwritten at bytes old)
length-overwritten at bytes old =
    omega (arith, length-append (take at old) (bytes ++ drop (at + length bytes) old), length-append bytes (drop (at + length bytes) old), length-take at old, length-drop (at + length bytes) old)

-- over the bytes that the disk began with
module _ (first : List ℕ) where
  smallest_within : (calls : List Call) → smallest_length first calls ≤ length (content first calls)
  smallest_within [] = omega arith
  smallest_within (wrote at bytes ∷ older) = omega arith
  smallest_within (cut_to len ∷ older) = omega arith
  smallest_within (synced ∷ older) = omega arith

  smallest_synced : (calls : List Call) → smallest_length first calls ≤ length (synced_content first calls)
  smallest_synced [] = omega arith
  smallest_synced (wrote at bytes ∷ older) = omega (arith, smallest_synced older)
  smallest_synced (cut_to len ∷ older) = omega (arith, smallest_synced older)
  smallest_synced (synced ∷ older) = omega arith

  rests : (calls : List Call) → IsAtRest calls ⊎ (IsAtRest calls → ⊥)
  rests [] = inl tt
  rests (wrote at bytes ∷ older) = inr (λ none. none)
  rests (cut_to len ∷ older) = inr (λ none. none)
  rests (synced ∷ older) = inl tt

  -- at rest
  rest_content : (calls : List Call) → IsAtRest calls → synced_content first calls ≡ content first calls
  rest_content [] rest = refl
  rest_content (wrote at bytes ∷ older) rest = absurd rest
  rest_content (cut_to len ∷ older) rest = absurd rest
  rest_content (synced ∷ older) rest = refl

  pub rest_length : (calls : List Call) → IsAtRest calls → smallest_length first calls ≡ length (content first calls)
  rest_length [] rest = refl
  rest_length (wrote at bytes ∷ older) rest = absurd rest
  rest_length (cut_to len ∷ older) rest = absurd rest
  rest_length (synced ∷ older) rest = refl

  pub rest_unwritten : (calls : List Call) (i : ℕ) → IsAtRest calls → IsWritten calls i → ⊥
  rest_unwritten [] i rest written = written
  rest_unwritten (wrote at bytes ∷ older) i rest written = rest
  rest_unwritten (cut_to len ∷ older) i rest written = rest
  rest_unwritten (synced ∷ older) i rest written = written

  pub image_survives : (calls : List Call) (c : List ℕ) → Image first calls c → Survives first calls c
  image_survives [] c is = record { long = omega (arith, ap length is); kept = λ i below unwritten. ap (λ (l : List ℕ). get_or l i 0) is; at_rest = λ rest. is }
  image_survives (wrote at bytes ∷ older) c image =
      let from = image_survives older image.0 image.1 in
      let keeps = torn_keeps at (length bytes) image.0 c image.2 in
      record {
        long = omega (arith, from.long, keeps.long);
        kept = λ i below unwritten.
            let outside : (i < at) ⊎ (at + length bytes ≤ i) = ⊎_elim (λ inside. absurd (unwritten (inl inside))) (λ outside. outside) (places at (length bytes) i) in
            keeps.kept i (omega (arith, from.long)) outside ∙ from.kept i (omega arith) (λ written. unwritten (inr written));
        at_rest = λ rest. absurd rest;
      }
  image_survives (cut_to len ∷ older) c image =
      let from = image_survives older image.0 image.1 in
      let keeps = cut_keeps len image.0 c image.2 in
      record {
        long = omega (arith, from.long, keeps.long, length-take len (content first older));
        kept = λ i below unwritten. keeps.kept i (omega (arith, length-take len (content first older))) (omega (arith, from.long)) ∙ from.kept i (omega arith) unwritten;
        at_rest = λ rest. absurd rest;
      }
  image_survives (synced ∷ older) c is = record {
    long = omega (arith, ap length is);
    kept = λ i below unwritten. ap (λ (l : List ℕ). get_or l i 0) is;
    at_rest = λ rest. is;
  }

  -- the values of f at the k places from this one on
  abbrev values : (ℕ → ℕ) → ℕ → ℕ → List ℕ
  values f from zero = []
  values f from (suc k) = f from ∷ values f (suc from) k

  length-values : (f : ℕ → ℕ) (from k : ℕ) → length (values f from k) ≡ k
  length-values f from zero = refl
  length-values f from (suc k) = ap suc (length-values f (suc from) k)

  get_or-values : (f : ℕ → ℕ) (from k i : ℕ) → i < k → get_or (values f from k) i 0 ≡ f (from + i)
  get_or-values f from zero i below = absurd (omega arith)
  get_or-values f from (suc k) zero below = ap f (omega arith)
  get_or-values f from (suc k) (suc i) below = get_or-values f (suc from) k i (omega arith) ∙ ap f (omega arith)

  -- Before a write, an image with the bytes of the last sync in its range, and elsewhere those of the image after it.
  module _ (at n : ℕ) (base c : List ℕ) where
    abbrev choice : (i : ℕ) → ((at ≤ i) × (i < at + n)) ⊎ ((i < at) ⊎ (at + n ≤ i)) → ℕ
    choice i (inl inside) = get_or base i 0
    choice i (inr outside) = get_or c i 0

    abbrev byte : ℕ → ℕ
    byte i = choice i (places at n i)

    abbrev before_write : List ℕ
    before_write = values byte 0 (length c)

    byte_at : (i : ℕ) → i < length c → get_or before_write i 0 ≡ byte i
    byte_at i within = get_or-values byte 0 (length c) i within ∙ ap byte (omega arith)

    choice_outside : (i : ℕ) (place : ((at ≤ i) × (i < at + n)) ⊎ ((i < at) ⊎ (at + n ≤ i))) → (i < at) ⊎ (at + n ≤ i) → choice i place ≡ get_or c i 0
    choice_outside i (inl inside) (inl before) = absurd (omega (arith, inside.0))
    choice_outside i (inl inside) (inr behind) = absurd (omega (arith, inside.1))
    choice_outside i (inr outside) given = refl

    choice_kept : (i : ℕ) (place : ((at ≤ i) × (i < at + n)) ⊎ ((i < at) ⊎ (at + n ≤ i))) → ((i < at) ⊎ (at + n ≤ i) → get_or c i 0 ≡ get_or base i 0) → choice i place ≡ get_or base i 0
    choice_kept i (inl inside) kept = refl
    choice_kept i (inr outside) kept = kept outside

    before_write_torn : Torn at n before_write c
    before_write_torn = keeps_torn at n before_write c record {
      long = omega (arith, length-values byte 0 (length c));
      kept = λ i within outside. sym (byte_at i (omega (arith, length-values byte 0 (length c))) ∙ choice_outside i (places at n i) outside);
    }

  not_inside : (at n i : ℕ) → (i < at) ⊎ (at + n ≤ i) → (at ≤ i) × (i < at + n) → ⊥
  not_inside at n i (inl before) inside = omega (arith, inside.0)
  not_inside at n i (inr behind) inside = omega (arith, inside.1)

  -- what is left after a write was left before it, but for the write's range
  before_write_survives : (at : ℕ) (bytes : List ℕ) (older : List Call) (c : List ℕ) → (IsAtRest older → ⊥) → Survives first (wrote at bytes ∷ older) c
      → Survives first older (before_write at (length bytes) (synced_content first older) c)
  before_write_survives at bytes older c moves s = record {
    long = omega (arith, s.long, smallest_within older, length-overwritten at bytes (content first older), length-values (byte at (length bytes) (synced_content first older) c) 0 (length c));
    kept = λ i below unwritten.
        let within : i < length c = omega (arith, s.long, smallest_within older, length-overwritten at bytes (content first older)) in
        byte_at at (length bytes) (synced_content first older) c i within
        ∙ choice_kept at (length bytes) (synced_content first older) c i (places at (length bytes) i)
        (λ outside. s.kept i (omega (arith, smallest_within older, length-overwritten at bytes (content first older))) (λ written. ⊎_elim (not_inside at (length bytes) i outside) unwritten written));
    at_rest = λ rest. absurd (moves rest);
  }

  -- what is left after a cut, with the bytes of the last sync after it, was left before it
  before_cut_survives : (len : ℕ) (older : List Call) (c : List ℕ) → (IsAtRest older → ⊥) → len ≤ length c → Survives first (cut_to len ∷ older) c
      → Survives first older (take len c ++ drop len (synced_content first older))
  before_cut_survives len older c moves enough s = record {
    long = omega (arith, smallest_synced older, length-append (take len c) (drop len (synced_content first older)), length-take len c, length-drop len (synced_content first older));
    kept = λ i below unwritten. kept i below unwritten (cases_lt i len);
    at_rest = λ rest. absurd (moves rest);
  }
    where
      kept : (i : ℕ) → i < smallest_length first older → (IsWritten older i → ⊥) → (i < len) ⊎ (len ≤ i) → get_or (take len c ++ drop len (synced_content first older)) i 0 ≡ get_or (synced_content first older) i 0
      kept i below unwritten (inl before) =
          get_or_append_left (take len c) (drop len (synced_content first older)) 0 i (omega (arith, length-take len c))
          ∙ get_or-take len c i 0 before
          ∙ s.kept i (omega (arith, length-take len (content first older), smallest_within older)) unwritten
      kept i below unwritten (inr behind) =
          get_or-append_right (take len c) (drop len (synced_content first older)) len i 0 (omega (arith, length-take len c)) behind
          ∙ get_or-drop len (synced_content first older) (i - len) 0
          ∙ ap (λ (k : ℕ). get_or (synced_content first older) k 0) (omega arith)

  before_cut_cut : (len : ℕ) (base c : List ℕ) → len ≤ length c → Cut len (take len c ++ drop len base) c
  before_cut_cut len base c enough = keeps_cut len (take len c ++ drop len base) c record {
    long = omega arith;
    kept = λ i below within. sym (get_or_append_left (take len c) (drop len base) 0 i (omega (arith, length-take len c)) ∙ get_or-take len c i 0 below);
  }

  -- what is left after a cut after its end was left before it
  short_survives : (len : ℕ) (older : List Call) (c : List ℕ) → (IsAtRest older → ⊥) → length c < len → Survives first (cut_to len ∷ older) c → Survives first older c
  short_survives len older c moves short s = record {
    long = omega (arith, s.long, smallest_within older, length-take len (content first older));
    kept = λ i below unwritten. s.kept i (omega (arith, s.long, smallest_within older, length-take len (content first older))) unwritten;
    at_rest = λ rest. absurd (moves rest);
  }

  -- after a sync, one write or one cut
  first_write : (at : ℕ) (bytes : List ℕ) (older : List Call) (c : List ℕ) → IsAtRest older → Survives first (wrote at bytes ∷ older) c → Torn at (length bytes) (content first older) c
  first_write at bytes older c rest s = keeps_torn at (length bytes) (content first older) c record {
    long = omega (arith, s.long, rest_length older rest, length-overwritten at bytes (content first older));
    kept = λ i within outside.
        s.kept i (omega (arith, rest_length older rest, length-overwritten at bytes (content first older))) (λ written. ⊎_elim (not_inside at (length bytes) i outside) (rest_unwritten older i rest) written)
        ∙ ap (λ (l : List ℕ). get_or l i 0) (rest_content older rest);
  }

  first_cut : (len : ℕ) (older : List Call) (c : List ℕ) → IsAtRest older → Survives first (cut_to len ∷ older) c → Cut len (content first older) c
  first_cut len older c rest s = keeps_cut len (content first older) c record {
    long = omega (arith, s.long, rest_length older rest, length-take len (content first older));
    kept = λ i below within.
        s.kept i (omega (arith, rest_length older rest, length-take len (content first older))) (rest_unwritten older i rest) ∙ ap (λ (l : List ℕ). get_or l i 0) (rest_content older rest);
  }

  pub survives_image : (calls : List Call) (c : List ℕ) → Survives first calls c → Image first calls c
  survives_image [] c s = s.at_rest tt
  survives_image (wrote at bytes ∷ older) c s = elim (rests older) [
    | inl rest ↦ (content first older, content_is_image first older, first_write at bytes older c rest s)
    | inr moves ↦ (before_write at (length bytes) (synced_content first older) c, survives_image older _ (before_write_survives at bytes older c moves s), before_write_torn at (length bytes) (synced_content first older) c)
  ]
  survives_image (cut_to len ∷ older) c s = elim (rests older) [
    | inl rest ↦ (content first older, content_is_image first older, first_cut len older c rest s)
    | inr moves ↦ elim (cases_lt (length c) len) [
      | inl short ↦ (c, survives_image older c (short_survives len older c moves short s), cut_same len c)
      | inr enough ↦ (take len c ++ drop len (synced_content first older), survives_image older _ (before_cut_survives len older c moves enough s), before_cut_cut len (synced_content first older) c enough)
    ]
  ]
  survives_image (synced ∷ older) c s = s.at_rest tt
