-- What holds of the images after any calls.
use Rattle.std.specs.Prelude.{◌≡◌, ◌⊎◌, ℕ, ◌+◌, ◌-◌, ◌<◌, ◌≤◌, min, List, [], ◌∷◌, ◌++◌, length, take, drop, refl}
use Rattle.std.proofs.Common.{inl, inr, arith, sym, ap, ◌∙◌, take-append-drop, length-take}
use Rattle.std.proofs.lemmas.List.{append-nil, take_all, drop_all}
use Rattle.std.proofs.lemmas.Bool.{cases_lt}
use Rattle.rel_disk.specs.Damage.{overwritten, Torn}
use Rattle.rel_disk.specs.Calls.{Call, wrote, cut_to, synced, content}
use Rattle.rel_disk.specs.Images.{Image, ImageSince}

-- a write that is done is one of the outcomes of a write
pub overwritten_is_torn : (at : ℕ) (bytes old : List ℕ) → Torn at (length bytes) old (overwritten at bytes old)
overwritten_is_torn at bytes old = record {
  middle = take inside bytes;
  tail = drop inside bytes;
  long = length-take inside bytes ∙ omega arith;
  is = ap (λ (l : List ℕ). take at old ++ l) (spread (cases_lt (length old) (at + length bytes)));
}
  where
    inside : ℕ
    inside = min (length bytes) (length old - at)

    behind : List ℕ
    behind = drop (at + length bytes) old

    spread : (length old < at + length bytes) ⊎ (at + length bytes ≤ length old) → bytes ++ behind ≡ take inside bytes ++ (behind ++ drop inside bytes)
    spread (inl past) =
        let none : behind ≡ [] = drop_all (at + length bytes) old (omega arith) in
        ap (λ (l : List ℕ). bytes ++ l) none ∙ append-nil bytes ∙ sym (take-append-drop inside bytes) ∙ ap (λ (l : List ℕ). take inside bytes ++ (l ++ drop inside bytes)) (sym none)
    spread (inr within) =
        let whole : take inside bytes ≡ bytes = take_all inside bytes (omega arith) in
        let none : drop inside bytes ≡ [] = drop_all inside bytes (omega arith) in
        sym (ap (λ (l : List ℕ). l ++ (behind ++ drop inside bytes)) whole ∙ ap (λ (l : List ℕ). bytes ++ (behind ++ l)) none ∙ ap (λ (l : List ℕ). bytes ++ l) (append-nil behind))

pub content_is_image : (first : List ℕ) (calls : List Call) → Image first calls (content first calls)
content_is_image first [] = refl
content_is_image first (wrote at bytes ∷ older) = (content first older, content_is_image first older, overwritten_is_torn at bytes (content first older))
content_is_image first (cut_to len ∷ older) = (content first older, content_is_image first older, record { tail = []; is = sym (append-nil (take len (content first older))) })
content_is_image first (synced ∷ older) = refl

pub counts_now : (first : List ℕ) (calls : List Call) (t : ℕ) (c : List ℕ) → t ≤ length calls → Image first calls c → ImageSince first calls t c
counts_now first [] t c le image = image
counts_now first (call ∷ older) t c le image = inl image

pub only_now : (first : List ℕ) (calls : List Call) (c : List ℕ) → ImageSince first calls (length calls) c → Image first calls c
only_now first [] c left = left
only_now first (call ∷ older) c (inl image) = image
only_now first (call ∷ older) c (inr earlier) = absurd (omega (arith, earlier.0))
