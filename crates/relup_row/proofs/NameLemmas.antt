-- The set by which a module is found, as it grows.
use Rattle.std.proofs.Common.{◌≡◌, refl, sym, ap, ◌∙◌, ℕ, ◌+◌, ◌<◌, Bool, true, false, ◌||◌, cond, List, [], ◌∷◌, ◌++◌, map, length, take, get_or, String, string_bytes}
use Rattle.std.specs.Str.{bytes_eq}
use Rattle.std.specs.BTreeSet.{BTreeSet, Updates, contains_text}
use Rattle.std.specs.String.{string_cmp}
use Rattle.std.proofs.lemmas.List.{map_push, take_more}
use Rattle.std.proofs.lemmas.List.Folds.{list_any-append}
use Rattle.std.proofs.lemmas.Map.Text.{btree_set_updates_text}
use Rattle.relup_block.specs.Order.{is_among}
use Rattle.relup_row.specs.Modules.{IsSetOf}

last_among : (a b : Bool) → cond b true a ≡ (a || (b || false))
last_among true true = refl
last_among true false = refl
last_among false true = refl
last_among false false = refl

-- one name more
pub one_more : {Y : Type 0} (names : List (String Y)) (i : ℕ) (name copy : String Y) (set more : BTreeSet (String Y)) → i < length names → get_or names i name ≡ name
    → string_bytes copy ≡ string_bytes name → Updates string_cmp set more copy true
    → IsSetOf set (map string_bytes (take i names)) → IsSetOf more (map string_bytes (take (i + 1) names))
one_more names i name copy set more within at same put is s =
    let before = map string_bytes (take i names) in
    btree_set_updates_text (string_bytes copy) set more true put s
    ∙ ap (λ bs. cond (bytes_eq bs s) true (contains_text set s)) same
    ∙ ap (cond (bytes_eq (string_bytes name) s) true) (is s)
    ∙ last_among (is_among s before) (bytes_eq (string_bytes name) s)
    ∙ sym (list_any-append (λ (n : List ℕ). bytes_eq n s) before (string_bytes name ∷ []))
    ∙ ap (is_among s) (sym (map_push string_bytes (take i names) name))
    ∙ ap (λ ns. is_among s (map string_bytes ns)) (sym (take_more names i name within ∙ ap (λ n. take i names ++ n ∷ []) at))
