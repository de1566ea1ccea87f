use Rattle.std.proofs.Common.{map, subst, Option}
use Rattle.relup_instruction.specs.declared.instruction.Direction.TheVariants.{Up, Down}
use Rattle.relup_row.specs.Release.{relup_release_of}
use Rattle.release_relup.specs.declared.judgement.FoundInstr.{FoundInstr}
use Rattle.release_relup.specs.Scripts.{script_between}
use Rattle.release_relup.specs.Found.{JudgesAll}
use Rattle.release_relup.proofs.FoundLemmas.{found_in_front, found_after, if_ok_weaker}
use Rattle.release_relup.proofs.judgement.first_found.Goals as goal

pub returns-in-Some : goal.returns-in-Some
returns-in-Some c =
    let ups = map (script_between Up (relup_release_of c.args.new.now)) (map relup_release_of c.args.ups.now) in
    let downs = map (script_between Down (relup_release_of c.args.new.now)) (map relup_release_of c.args.downs.now) in
    found_in_front ups downs c.in-Some.found (subst (λ (o : Option FoundInstr). JudgesAll ups o) c.in-Some.is c.in_ok-found.ensures)

pub returns-in-None : goal.returns-in-None
returns-in-None c =
    let ups = map (script_between Up (relup_release_of c.args.new.now)) (map relup_release_of c.args.ups.now) in
    let downs = map (script_between Down (relup_release_of c.args.new.now)) (map relup_release_of c.args.downs.now) in
    if_ok_weaker _ _ c.found_in-in-None.result (λ o h. found_after ups downs o (subst (λ (p : Option FoundInstr). JudgesAll ups p) c.in-None.is c.in_ok-found.ensures) h) c.found_in-in-None.ensures
