-- The lines of loaded modules, one after another.
use Rattle.std.proofs.Common.{◌≡◌, ℕ, ◌≤◌, List, ◌++◌, length, map, take, ap, sym, ◌∙◌}
use Rattle.std.specs.Borrow.{Bor}
use Rattle.std.specs.List.{flat_map}
use Rattle.std.specs.Map.Iter.{deref_pair}
use Rattle.std.proofs.lemmas.List.{take_all, length-map}
use Rattle.node_listing.specs.Listing.{module_line, module_listing, count_line}

abbrev pub line_of : List ℕ × List ℕ → List ℕ
line_of m = module_line m.0 m.1

abbrev pub Pairs : Type 0
Pairs = List (Bor (List ℕ) × Bor (List ℕ))

pub all_lines : (ms : Pairs) (i count : ℕ) (versions : List (List ℕ × List ℕ)) (lines text : List ℕ) → length ms ≤ i → map deref_pair ms ≡ versions
    → lines ≡ flat_map line_of (map deref_pair (take i ms)) → count ≡ length ms → text ≡ lines ++ count_line count → text ≡ module_listing versions
all_lines ms i count versions lines text end are so_far counted grown =
    let all : lines ≡ flat_map line_of versions = so_far ∙ ap (λ ns. flat_map line_of (map deref_pair ns)) (take_all i ms end) ∙ ap (flat_map line_of) are in
    let long : count ≡ length versions = counted ∙ (sym (length-map ms deref_pair) ∙ ap length are) in
    grown ∙ (λ j. all j ++ count_line (long j))
