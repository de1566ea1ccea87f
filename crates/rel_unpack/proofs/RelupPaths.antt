-- Where the relup of a release stands: after the last `/` of its path.
use Rattle.std.proofs.Common.{◌≡◌, ◌≢◌, ℕ, ◌+◌, ◌-◌, ◌<◌, ◌≤◌, true, false, not, List, [], ◌∷◌, ◌++◌, length, take, drop, get_or, codes, None, sym, ap, ◌∙◌, append_assoc, arith}
use Rattle.std.specs.Prelude.{◌==◌}
use Rattle.std.specs.List.{suffix_len}
use Rattle.std.specs.Str.{NoCharPasses}
use Rattle.std.specs.Str.Pattern.{RFindsChar, SplitsAroundMatch}
use Rattle.std.proofs.lemmas.Bool.Decides.{nat_tests}
use Rattle.std.proofs.lemmas.List.{get_or-drop, length-drop, take_more}
use Rattle.std.proofs.lemmas.List.Sums.{suffix_len_is}
use Rattle.std.proofs.lemmas.Str.Pattern.{NoCharPasses-char}
use Rattle.rel_unpack.specs.Relup.{folder_of, relup_path}

other_byte : (b : ℕ) → b ≢ 47 → not (b == 47) ≡ true
other_byte b other = grind (arith, nat_tests)

slash_byte : (b : ℕ) → b ≡ 47 → not (b == 47) ≡ false
slash_byte b is = ap (λ c. not (c == 47)) is

-- A path is cut after the place where its last `/` stands.
cut_behind : (path : List ℕ) (n : ℕ) → n ≤ length path → ((k : ℕ) → n ≤ k → k < length path → get_or path k 0 ≢ 47) → (0 < n → get_or path (n - 1) 0 ≡ 47) → folder_of path ≡ take n path
cut_behind path n fits others slash =
    let is : suffix_len (λ b. not (b == 47)) path ≡ length path - n =
    suffix_len_is (λ b. not (b == 47)) path n 0 fits (λ k from to. other_byte (get_or path k 0) (others k from to)) (λ some. slash_byte (get_or path (n - 1) 0) (slash some)) in
    let same : length path - (length path - n) ≡ n = omega arith in
    ap (λ m. take (length path - m) path) is ∙ ap (λ m. take m path) same

-- no byte from this place on is a `/`
none_from : (path : List ℕ) (n : ℕ) → n ≤ length path → NoCharPasses (λ d. d == 47) (drop n path) → (k : ℕ) → n ≤ k → k < length path → get_or path k 0 ≢ 47
none_from path n fits none k from to =
    let within : k - n < length (drop n path) = omega (arith, length-drop n path) in
    let other = NoCharPasses-char 47 (drop n path) (k - n) none (omega arith) within in
    let place : n + (k - n) ≡ k = omega arith in
    let same : get_or (drop n path) (k - n) 0 ≡ get_or path k 0 = get_or-drop n path (k - n) 0 ∙ ap (λ m. get_or path m 0) place in
    λ is. other (same ∙ is)

folder_split : (path folder name : List ℕ) → SplitsAroundMatch (RFindsChar 47) path folder name → folder_of path ≡ folder ++ 47 ∷ []
folder_split path folder name (i, j, (none, has), front, back, order, taken, left) =
    let next : j ≡ i + 1 = has.ends in
    let slash : get_or path i 0 ≡ 47 = has.byte (omega arith) in
    let before : get_or path (j - 1) 0 ≡ 47 = ap (λ m. get_or path m 0) (let is : j - 1 ≡ i = omega arith in is) ∙ slash in
    cut_behind path j (omega arith) (none_from path j (omega arith) none) (λ some. before)
    ∙ ap (λ m. take m path) next ∙ take_more path i 0 (omega arith) ∙ (λ k. sym front k ++ slash k ∷ [])

no_folder : (path : List ℕ) → RFindsChar 47 path None → folder_of path ≡ []
no_folder path none = cut_behind path 0 (omega arith) (none_from path 0 (omega arith) none) (λ some. absurd (omega arith))

-- The relup of a release stands in the folder of the release's path, or alone where there is no folder.
pub in_folder : (path folder name : List ℕ) → SplitsAroundMatch (RFindsChar 47) path folder name → folder ++ codes "/relup" ≡ relup_path path
in_folder path folder name split = sym (append_assoc folder (47 ∷ []) (codes "relup")) ∙ ap (λ f. f ++ codes "relup") (sym (folder_split path folder name split))

pub alone : (path : List ℕ) → RFindsChar 47 path None → codes "relup" ≡ relup_path path
alone path none = ap (λ f. f ++ codes "relup") (sym (no_folder path none))
