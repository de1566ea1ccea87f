-- Members that end, the last first.
use Rattle.std.proofs.Common.{◌≡◌, List, [], ◌∷◌, ◌++◌, reverse, Option, Some, None, refl, ap, sym, subst, ◌∙◌, append-nil}
use Rattle.std.proofs.lemmas.List.{map_push, reverse-append}
use Rattle.proc_table.specs.declared.pid.Pid.{Pid}
use Rattle.proc_table.specs.declared.view.View.{View}
use Rattle.started_members.specs.declared.member.Member.{Member}
use Rattle.started_members.specs.declared.member.StartedProcess.{StartedProcess}
use Rattle.started_members.specs.Ends.{EndedInOrder, MemberEnded}
use Rattle.started_members.specs.Members.{pids_of, process_and, process_in, processes_among}

pub processes_of_both : (o : Option StartedProcess) (ps qs : List StartedProcess) → process_and o (ps ++ qs) ≡ process_and o ps ++ qs
processes_of_both None ps qs = refl
processes_of_both (Some p) ps qs = refl

pub processes-append : (ms ns : List Member) → processes_among (ms ++ ns) ≡ processes_among ms ++ processes_among ns
processes-append [] ns = refl
processes-append (m ∷ ms) ns = ap (process_and (process_in m)) (processes-append ms ns) ∙ processes_of_both (process_in m) (processes_among ms) (processes_among ns)

last_ended : (o : Option StartedProcess) (ps : List StartedProcess) (v u w : View) → MemberEnded o v u → EndedInOrder (reverse (pids_of ps)) u w
    → EndedInOrder (reverse (pids_of (ps ++ process_and o []))) v w
last_ended None ps v u w same ended =
    subst (λ qs. EndedInOrder (reverse (pids_of qs)) v w) (sym (append-nil ps)) (subst (λ z. EndedInOrder (reverse (pids_of ps)) z w) same ended)
last_ended (Some p) ps v u w here ended =
    let pids : reverse (pids_of (ps ++ p ∷ [])) ≡ p.pid ∷ reverse (pids_of ps) =
    ap reverse (map_push (λ (q : StartedProcess). q.pid) ps p) ∙ reverse-append (pids_of ps) (p.pid ∷ []) in
    subst (λ (qs : List Pid). EndedInOrder qs v w) (sym pids) (u, here, ended)

-- the last of all members ended, and then those before it
pub one_ended : (all ms : List Member) (m : Member) (v u w : View) → all ≡ ms ++ m ∷ [] → MemberEnded (process_in m) v u
    → EndedInOrder (reverse (pids_of (processes_among ms))) u w → EndedInOrder (reverse (pids_of (processes_among all))) v w
one_ended all ms m v u w split here ended =
    subst (λ ps. EndedInOrder (reverse (pids_of ps)) v w) (sym (ap processes_among split ∙ processes-append ms (m ∷ []))) (last_ended (process_in m) (processes_among ms) v u w here ended)
