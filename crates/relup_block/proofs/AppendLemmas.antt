-- Instructions written one after another.
use Rattle.std.proofs.Common.{◌≡◌, ◌<◌, sym, ap, subst, ◌∙◌, List, [], ◌∷◌, ◌++◌, length, map, Result, OnOk, arith}
use Rattle.std.proofs.lemmas.List.{append-nil, map-append}
use Rattle.relup_instruction.specs.declared.instruction.Instr.{Instr}
use Rattle.relup_instruction.specs.Instruction.{Instruction, instruction_of, script_of}
use Rattle.relup_block.specs.Block.{over}
use Rattle.relup_block.specs.Memory.{Appends}

pub none_appended : (old : List Instr) → Appends old old []
none_appended old = sym (append-nil (script_of old))

pub one_appended : (old new : List Instr) (i : Instr) (form : Instruction) → new ≡ old ++ (i ∷ []) → instruction_of i ≡ form → Appends old new (form ∷ [])
one_appended old new i form pushed is =
    ap script_of pushed ∙ (map-append instruction_of old (i ∷ []) ∙ ap (λ (f : Instruction). script_of old ++ (f ∷ [])) is)

-- An instruction over a list is written where there is something in it.
pub none_over : {A B : Type 0} (view : A → B) (f : List B → Instruction) (items : List A) (bs : List B) (old : List Instr) → map view items ≡ bs → length items ≡ 0 → Appends old old (over f bs)
none_over view f [] bs old is none = subst (λ l. Appends old old (over f l)) is (none_appended old)
none_over view f (x ∷ xs) bs old is none = absurd (omega (arith, none))

pub one_over : {A B T E : Type 0} (view : A → B) (f : List B → Instruction) (items : List A) (bs : List B) (old new : List Instr) (r : Result T E) → map view items ≡ bs → 0 < length items
    → OnOk r (Appends old new (f (map view items) ∷ [])) → OnOk r (Appends old new (over f bs))
one_over view f [] bs old new r is some written = absurd (omega (arith, some))
one_over view f (x ∷ xs) bs old new r is some written = subst (λ l. OnOk r (Appends old new (over f l))) is written
