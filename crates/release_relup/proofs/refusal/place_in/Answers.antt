use Rattle.release_relup.proofs.FoundLemmas.{if_ok_weaker}
use Rattle.release_relup.proofs.PlaceLemmas.{place_of_term, place_of_none}
use Rattle.release_relup.proofs.refusal.place_in.Goals as goal

pub returns-in-Ok : goal.returns-in-Ok
returns-in-Ok c = if_ok_weaker _ _ c.shape_fault.result (λ o is. place_of_term c.args.bytes.now _ _ o c.in-Ok.ensures.says is) c.shape_fault.ensures

pub returns-in_ok-unless_memory-in-Err : goal.returns-in_ok-unless_memory-in-Err
returns-in_ok-unless_memory-in-Err c = place_of_none c.args.bytes.now (λ v has. c.in_ok-unless_memory-in-Err.ensures (c.in-Err.ensures.only has.0 has.1))
