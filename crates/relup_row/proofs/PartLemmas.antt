-- A row of instructions, cut into blocks and single instructions.
use Rattle.std.proofs.Common.{◌≡◌, refl, ap, sym, ◌∙◌, List, [], ◌∷◌, ◌++◌, None, Some}
use Rattle.std.proofs.lemmas.List.{append_assoc, append-nil}
use Rattle.std.specs.List.{flat_map}
use Rattle.relup_instruction.specs.declared.instruction.Direction.{Direction}
use Rattle.relup_instruction.specs.declared.instruction.Direction.TheVariants.{Up, Down}
use Rattle.relup_instruction.specs.Instruction.{Instruction}
use Rattle.appup_file.specs.Instruction.{AppupInstruction}
use Rattle.relup_row.specs.Release.{WayForm}
use Rattle.relup_block.specs.Order.{BlockItemForm}
use Rattle.relup_block.specs.Block.{block}
use Rattle.relup_row.specs.Script.{PartForm, block_item, put_item, put, parts, part_script, single}
use Rattle.relup_row.specs.Script.PartForm.{a_block, a_single}

-- parts that stand after the items of a block that may go on
abbrev pub unfinished : List BlockItemForm → List PartForm → List PartForm
unfinished [] ps = ps
unfinished (x ∷ xs) (a_block ys ∷ ps) = a_block (x ∷ (xs ++ ys)) ∷ ps
unfinished (x ∷ xs) ps = a_block (x ∷ xs) ∷ ps

one_more : (xs : List BlockItemForm) (x : BlockItemForm) (ps : List PartForm) → unfinished (xs ++ (x ∷ [])) ps ≡ unfinished xs (put_item x ps)
one_more [] x [] = refl
one_more [] x (a_block ys ∷ ps) = refl
one_more [] x (a_single i ∷ ps) = refl
one_more (y ∷ xs) x [] = refl
one_more (y ∷ xs) x (a_block ys ∷ ps) = ap (λ (zs : List BlockItemForm). a_block (y ∷ zs) ∷ ps) (append_assoc xs (x ∷ []) ys)
one_more (y ∷ xs) x (a_single i ∷ ps) = refl

pub empty_block : (d : Direction) → block d [] ≡ []
empty_block Up = refl
empty_block Down = refl

then_single : (w : WayForm) (xs : List BlockItemForm) (i : AppupInstruction) (ps : List PartForm)
    → flat_map (part_script w) (unfinished xs (a_single i ∷ ps)) ≡ block w.direction xs ++ (single w i ++ flat_map (part_script w) ps)
then_single w [] i ps = sym (ap (λ (is : List Instruction). is ++ (single w i ++ flat_map (part_script w) ps)) (empty_block w.direction))
then_single w (x ∷ xs) i ps = refl

at_end : (w : WayForm) (xs : List BlockItemForm) → flat_map (part_script w) (unfinished xs []) ≡ block w.direction xs
at_end w [] = sym (empty_block w.direction)
at_end w (x ∷ xs) = append-nil (block w.direction (x ∷ xs))

-- One instruction further, the block has one item more.
pub item_more : (w : WayForm) (xs now : List BlockItemForm) (x : BlockItemForm) (i : AppupInstruction) (rest : List AppupInstruction) (made all : List Instruction)
    → block_item i ≡ Some x → now ≡ xs ++ (x ∷ []) → made ++ flat_map (part_script w) (unfinished xs (parts (i ∷ rest))) ≡ all
    → made ++ flat_map (part_script w) (unfinished now (parts rest)) ≡ all
item_more w xs now x i rest made all is grown so_far =
    ap (λ ys. made ++ flat_map (part_script w) (unfinished ys (parts rest))) grown
    ∙ (ap (λ ps. made ++ flat_map (part_script w) ps) (one_more xs x (parts rest))
    ∙ (ap (λ o. made ++ flat_map (part_script w) (unfinished xs (put i o (parts rest)))) (sym is) ∙ so_far))

-- One instruction further, the block has ended, before an instruction outside a block.
pub single_more : (w : WayForm) (xs now : List BlockItemForm) (i : AppupInstruction) (rest : List AppupInstruction) (made mid new all : List Instruction)
    → block_item i ≡ None → now ≡ [] → mid ≡ made ++ block w.direction xs → new ≡ mid ++ single w i
    → made ++ flat_map (part_script w) (unfinished xs (parts (i ∷ rest))) ≡ all → new ++ flat_map (part_script w) (unfinished now (parts rest)) ≡ all
single_more w xs now i rest made mid new all is none first second so_far =
    let later = flat_map (part_script w) (parts rest) in
    ap (λ ys. new ++ flat_map (part_script w) (unfinished ys (parts rest))) none
    ∙ (ap (λ is'. is' ++ later) (second ∙ ap (λ is'. is' ++ single w i) first)
    ∙ (append_assoc (made ++ block w.direction xs) (single w i) later
    ∙ (append_assoc made (block w.direction xs) (single w i ++ later)
    ∙ (ap (λ is'. made ++ is') (sym (then_single w xs i (parts rest)))
    ∙ (ap (λ o. made ++ flat_map (part_script w) (unfinished xs (put i o (parts rest)))) (sym is) ∙ so_far)))))

-- At the end of the row the block has ended.
pub none_more : (w : WayForm) (xs : List BlockItemForm) (left : List AppupInstruction) (made all : List Instruction)
    → left ≡ [] → made ++ flat_map (part_script w) (unfinished xs (parts left)) ≡ all → made ++ block w.direction xs ≡ all
none_more w xs left made all none so_far =
    ap (λ is. made ++ is) (sym (at_end w xs))
    ∙ (ap (λ is. made ++ flat_map (part_script w) (unfinished xs (parts is))) (sym none) ∙ so_far)
