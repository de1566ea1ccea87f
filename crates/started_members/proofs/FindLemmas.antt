-- What is noted of slots.
use Rattle.std.proofs.Common.{◌≡◌, ◌≢◌, ◌==◌, ℕ, ◌+◌, ◌<◌, Bool, true, false, if◌then◌else◌, List, ◌∷◌, length, drop, Some, slice_index_or, slice_set, ap, sym, subst, ◌∙◌, arith, get_or-set_same, get_or-set_other}
use Rattle.std.specs.List.{find}
use Rattle.std.specs.Option.{option_map, option_map_or}
use Rattle.std.specs.Str.{bytes_eq}
use Rattle.std.proofs.lemmas.Bool.Decides.{nat_tests}
use Rattle.std.proofs.lemmas.List.{drop_more}
use native.Mathlib.Decide.{ℕ_discrete}
use mathlib.Core.Logic.{dite}
use Rattle.started_members.specs.declared.member.Member.{Member}
use Rattle.started_members.specs.declared.member.StartedProcess.{StartedProcess}
use Rattle.started_members.specs.Members.{Notes, process_and, process_in, processes_among}

same_slot : (p q : ℕ) → q ≡ p → (p == q) ≡ true
same_slot p q e = grind (arith, nat_tests)

other_slot : (p q : ℕ) → q ≢ p → (p == q) ≡ false
other_slot p q ne = grind (arith, nat_tests)

-- one process more, in front of those that are noted
one_more : (name : List ℕ) (p : StartedProcess) (ps : List StartedProcess) (before used : List Bool) (b : Bool) → p.pid.slot < length used → b ≡ bytes_eq name p.module
    → Notes name ps before used → Notes name (p ∷ ps) before (slice_set used p.pid.slot b)
one_more name p ps before used b inside is so_far q =
    let chosen = λ (t : Bool). option_map_or (bytes_eq name) (option_map (λ (x : StartedProcess). x.module) (if t then Some p else find (λ (x : StartedProcess). x.pid.slot == q) ps)) (slice_index_or before q false) in
    dite (ℕ_discrete q p.pid.slot)
    (λ e. ap (λ n. slice_index_or (slice_set used p.pid.slot b) n false) e ∙ (get_or-set_same used p.pid.slot b false inside ∙ (is ∙ sym (ap chosen (same_slot p.pid.slot q e)))))
    (λ ne. get_or-set_other used p.pid.slot q b false ne ∙ (so_far q ∙ sym (ap chosen (other_slot p.pid.slot q ne))))

-- so it is where a member has that process
pub member_noted : (name : List ℕ) (members : List Member) (place : ℕ) (m : Member) (p : StartedProcess) (before used : List Bool) (b : Bool)
    → place < length members → m ≡ slice_index_or members place m → process_in m ≡ Some p → p.pid.slot < length used → b ≡ bytes_eq name p.module
    → Notes name (processes_among (drop (place + 1) members)) before used → Notes name (processes_among (drop place members)) before (slice_set used p.pid.slot b)
member_noted name members place m p before used b inside at is within same so_far =
    let later = drop (place + 1) members in
    let split : drop place members ≡ m ∷ later = drop_more members place m inside ∙ ap (λ x. x ∷ later) (sym at) in
    let whole : processes_among (drop place members) ≡ p ∷ processes_among later = ap processes_among split ∙ ap (λ o. process_and o (processes_among later)) is in
    subst (λ ps. Notes name ps before (slice_set used p.pid.slot b)) (sym whole) (one_more name p (processes_among later) before used b within same so_far)
