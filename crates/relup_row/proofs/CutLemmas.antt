-- A row is cut into blocks, each as long as can be, and single instructions.
use Rattle.std.proofs.Common.{◌≡◌, refl, ap, List, [], ◌∷◌, ◌++◌}
use Rattle.appup_file.specs.Instruction.{AppupInstruction}
use Rattle.appup_file.specs.Instruction.AppupInstruction.{update, load_module, add_module, delete_module, add_application, remove_application, restart_application, low_level}
use Rattle.relup_block.specs.Order.{BlockItemForm}
use Rattle.relup_block.specs.Order.BlockItemForm.{updated, loaded}
use Rattle.relup_row.specs.Script.{block_item, PartForm, put_item, put, parts}
use Rattle.relup_row.specs.Script.PartForm.{a_block, a_single}
use Rattle.relup_row.specs.Laws.{of_item, IsPart, IsCut, CutsIntoLongestBlocks}

no_two : (front rest : List PartForm) (xs ys : List BlockItemForm) → [] ≡ front ++ (a_block xs ∷ a_block ys ∷ rest) → ⊥
no_two [] rest xs ys e = absurd cc
no_two (p ∷ front) rest xs ys e = absurd cc

-- One item more goes to the block that stands first, or is a block of its own.
with_item : (x : BlockItemForm) (row : List AppupInstruction) (ps : List PartForm) → IsCut row ps → IsCut (of_item x ∷ row) (put_item x ps)
with_item x row [] h = record { whole = ap (λ is. of_item x ∷ is) h.whole; each = (tt, tt); longest = longest }
  where
    longest : (front rest : List PartForm) (xs ys : List BlockItemForm) → a_block (x ∷ []) ∷ [] ≡ front ++ (a_block xs ∷ a_block ys ∷ rest) → ⊥
    longest [] rest xs ys e = absurd cc
    longest (p ∷ front) rest xs ys e = let tail : [] ≡ front ++ (a_block xs ∷ a_block ys ∷ rest) = cc in no_two front rest xs ys tail
with_item x row (a_block zs ∷ ps) h = record { whole = ap (λ is. of_item x ∷ is) h.whole; each = (tt, h.each.1); longest = longest }
  where
    longest : (front rest : List PartForm) (xs ys : List BlockItemForm) → a_block (x ∷ zs) ∷ ps ≡ front ++ (a_block xs ∷ a_block ys ∷ rest) → ⊥
    longest [] rest xs ys e = let tail : ps ≡ a_block ys ∷ rest = cc in h.longest [] rest zs ys (ap (λ qs. a_block zs ∷ qs) tail)
    longest (p ∷ front) rest xs ys e =
        let tail : ps ≡ front ++ (a_block xs ∷ a_block ys ∷ rest) = cc in
        h.longest (a_block zs ∷ front) rest xs ys (ap (λ qs. a_block zs ∷ qs) tail)
with_item x row (a_single i ∷ ps) h = record { whole = ap (λ is. of_item x ∷ is) h.whole; each = (tt, h.each); longest = longest }
  where
    longest : (front rest : List PartForm) (xs ys : List BlockItemForm) → a_block (x ∷ []) ∷ a_single i ∷ ps ≡ front ++ (a_block xs ∷ a_block ys ∷ rest) → ⊥
    longest [] rest xs ys e = absurd cc
    longest (p ∷ front) rest xs ys e =
        let tail : a_single i ∷ ps ≡ front ++ (a_block xs ∷ a_block ys ∷ rest) = cc in
        h.longest front rest xs ys tail

-- A single instruction stands by itself.
with_single : (i : AppupInstruction) (row : List AppupInstruction) (ps : List PartForm) → IsPart (a_single i) → IsCut row ps → IsCut (i ∷ row) (a_single i ∷ ps)
with_single i row ps single h = record { whole = ap (λ is. i ∷ is) h.whole; each = (single, h.each); longest = longest }
  where
    longest : (front rest : List PartForm) (xs ys : List BlockItemForm) → a_single i ∷ ps ≡ front ++ (a_block xs ∷ a_block ys ∷ rest) → ⊥
    longest [] rest xs ys e = absurd cc
    longest (p ∷ front) rest xs ys e =
        let tail : ps ≡ front ++ (a_block xs ∷ a_block ys ∷ rest) = cc in
        h.longest front rest xs ys tail

with_instruction : (i : AppupInstruction) (row : List AppupInstruction) (ps : List PartForm) → IsCut row ps → IsCut (i ∷ row) (put i (block_item i) ps)
with_instruction (update u) row ps h = with_item (updated u) row ps h
with_instruction (load_module l) row ps h = with_item (loaded l) row ps h
with_instruction (add_module d) row ps h = with_single (add_module d) row ps tt h
with_instruction (delete_module d) row ps h = with_single (delete_module d) row ps tt h
with_instruction (add_application a) row ps h = with_single (add_application a) row ps tt h
with_instruction (remove_application app) row ps h = with_single (remove_application app) row ps tt h
with_instruction (restart_application app) row ps h = with_single (restart_application app) row ps tt h
with_instruction (low_level i) row ps h = with_single (low_level i) row ps tt h

pub cuts_into_longest_blocks : CutsIntoLongestBlocks
cuts_into_longest_blocks [] = record { whole = refl; each = tt; longest = no_two }
cuts_into_longest_blocks (i ∷ row) = with_instruction i row (parts row) (cuts_into_longest_blocks row)
