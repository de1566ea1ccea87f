-- What stands in front of the point of no return.
use Rattle.std.proofs.Common.{◌≡◌, ◌+◌, ◌∙◌, ◌∷◌, ◌++◌, [], ℕ, List, take, length-append, append_assoc, sym, ap}
use Rattle.std.proofs.lemmas.List.{take_at, take-map}
use Rattle.relup_instruction.specs.declared.instruction.Instr.{Instr}
use Rattle.relup_instruction.specs.Instruction.{instruction_of, script_of}
use Rattle.relup_instruction.specs.Instruction.Instruction.{point_of_no_return}
use Rattle.relup_exec.specs.Outcome.{IsPointAt}

pub front_is : (script : List Instr) (place : ℕ) (point : IsPointAt (script_of script) place) → script_of (take place script) ≡ point.front
front_is script place point =
    sym (take-map instruction_of place script) ∙ (ap (take place) point.is ∙ take_at point.front (point_of_no_return ∷ point.rest) place (sym point.place_is))

-- what stands in front of the point of no return, with the point itself
pub point_is : (script : List Instr) (place : ℕ) (point : IsPointAt (script_of script) place) → script_of (take (place + 1) script) ≡ point.front ++ point_of_no_return ∷ []
point_is script place point =
    let front = point.front ++ point_of_no_return ∷ [] in
    sym (take-map instruction_of (place + 1) script)
    ∙ (ap (take (place + 1)) (point.is ∙ sym (append_assoc point.front (point_of_no_return ∷ []) point.rest))
    ∙ take_at front point.rest (place + 1) (length-append point.front (point_of_no_return ∷ []) ∙ ap (λ n. n + 1) (sym point.place_is)))
