-- A change of children keeps the processes: each stands once before and once after.
use Rattle.std.proofs.Common.{◌≡◌, ℕ, Bool, true, false, nat_lt, List, [], ◌∷◌, ◌++◌, Option, None, Some, if◌then◌else◌, IsPermutation}
use Rattle.std.proofs.Common.{refl, ap, sym, subst, subst₂, ◌∙◌}
use Rattle.std.specs.List.{find, flat_map}
use Rattle.std.proofs.lemmas.List.{append_assoc}
use Rattle.std.proofs.lemmas.List.Concat.{flat_map-append}
use Rattle.std.proofs.lemmas.List.Sorted.{IsPermutation-refl, IsPermutation-trans, IsPermutation-cons}
use Rattle.std.proofs.lemmas.List.Sorted.{IsPermutation-append_left, IsPermutation-append_right, IsPermutation-append_comm}
use Rattle.mod_table.specs.Table.{ChildSpec}
use Rattle.started_members.specs.declared.member.Member.{Member}
use Rattle.started_members.specs.declared.member.StartedProcess.{StartedProcess}
use Rattle.started_members.specs.Changes.{Branch, branch_members, branches, members_in, with_member, children_of, new_children, one_deeper}
use Rattle.started_members.specs.Changes.{behind_deeper, child_for, deeper, has_id, without_id}
use Rattle.started_members.specs.Laws.{KeepsProcesses}
use Rattle.started_members.specs.Members.{is_supervisor, process_and, process_in, processes_among}
use Rattle.started_members.proofs.EndLemmas.{processes-append, processes_of_both}

-- the processes of a branch, and those of branches
abbrev processes_of : Branch → List StartedProcess
processes_of b = processes_among (branch_members b)

abbrev processes_in : List Branch → List StartedProcess
processes_in bs = flat_map processes_of bs

-- The members in branches have the processes of these.
processes_of_members_in : (bs : List Branch) → processes_among (members_in bs) ≡ processes_in bs
processes_of_members_in [] = refl
processes_of_members_in (b ∷ bs) = processes-append (branch_members b) (members_in bs) ∙ ap (λ ps. processes_of b ++ ps) (processes_of_members_in bs)

-- The branches that stand deeper, and those after them, are all of them.
deeper_and_behind : (depth : ℕ) (bs : List Branch) → deeper depth bs ++ behind_deeper depth bs ≡ bs
deeper_and_behind depth [] = refl
deeper_and_behind depth (b ∷ bs) = go (nat_lt depth b.member.depth) (deeper_and_behind depth bs)
  where
    go : (t : Bool) → deeper depth bs ++ behind_deeper depth bs ≡ bs
        → (if t then b ∷ deeper depth bs else []) ++ (if t then behind_deeper depth bs else b ∷ bs) ≡ b ∷ bs
    go true more = ap (λ (cs : List Branch). b ∷ cs) more
    go false more = refl

-- The first two of three lists change places.
exchanged : (us vs ws : List StartedProcess) → IsPermutation (us ++ (vs ++ ws)) (vs ++ (us ++ ws))
exchanged us vs ws = subst₂ IsPermutation (append_assoc us vs ws) (append_assoc vs us ws) (IsPermutation-append_left ws _ _ (IsPermutation-append_comm us vs))

-- A child of the table has the processes of the branch with its id, if there is one, and the others have the rest.
child_and_others : (depth : ℕ) (c : ChildSpec) (bs : List Branch)
    → IsPermutation (processes_in bs) (processes_in (child_for depth c (find (has_id c.id) bs) ∷ without_id c.id bs))
child_and_others depth c [] = IsPermutation-refl []
child_and_others depth c (b ∷ bs) = go (has_id c.id b) (child_and_others depth c bs)
  where
    go : (t : Bool) → IsPermutation (processes_in bs) (processes_in (child_for depth c (find (has_id c.id) bs) ∷ without_id c.id bs))
        → IsPermutation (processes_in (b ∷ bs))
        (processes_in (child_for depth c (if t then Some b else find (has_id c.id) bs) ∷ (if t then bs else b ∷ without_id c.id bs)))
    go true more = IsPermutation-refl _
    go false more = IsPermutation-trans _ _ _ (IsPermutation-append_right (processes_of b) _ _ more) (exchanged (processes_of b) _ _)

-- The new children of a supervisor have the processes of the earlier ones.
new_children_keep : (depth : ℕ) (cs : List ChildSpec) (bs : List Branch) → IsPermutation (processes_in bs) (processes_in (new_children depth cs bs))
new_children_keep depth [] bs = IsPermutation-refl _
new_children_keep depth (c ∷ cs) bs =
    IsPermutation-trans _ _ _ (child_and_others depth c bs) (IsPermutation-append_right _ _ _ (new_children_keep depth cs (without_id c.id bs)))

children_keep : (name : List ℕ) (cs : List ChildSpec) (m : Member) (bs : List Branch) → IsPermutation (processes_in bs) (processes_in (children_of name cs m bs))
children_keep name cs m bs = go (is_supervisor name m.state)
  where
    go : (t : Bool) → IsPermutation (processes_in bs) (processes_in (if t then new_children (one_deeper m.depth) cs bs else bs))
    go true = new_children_keep (one_deeper m.depth) cs bs
    go false = IsPermutation-refl _

-- Two lists of the same processes stay so with one process more, or none.
process_in_front : (o : Option StartedProcess) (ps qs : List StartedProcess) → IsPermutation ps qs → IsPermutation (process_and o ps) (process_and o qs)
process_in_front None ps qs h = h
process_in_front (Some p) ps qs h = IsPermutation-cons p ps qs h

-- A member in front of branches keeps its process and theirs, and so all members keep theirs.
member_keeps : (name : List ℕ) (cs : List ChildSpec) (m : Member) (bs : List Branch)
    → IsPermutation (process_and (process_in m) (processes_in bs)) (processes_in (with_member name cs m bs))
member_keeps name cs m bs =
    let below = deeper m.depth bs in
    let behind = behind_deeper m.depth bs in
    let children = children_of name cs m below in
    let all : processes_in below ++ processes_in behind ≡ processes_in bs =
    sym (flat_map-append processes_of below behind) ∙ ap processes_in (deeper_and_behind m.depth bs) in
    let same : processes_in children ++ processes_in behind ≡ processes_among (members_in children) ++ processes_in behind =
    ap (λ ps. ps ++ processes_in behind) (sym (processes_of_members_in children)) in
    subst (IsPermutation (process_and (process_in m) (processes_in bs))) (processes_of_both (process_in m) (processes_among (members_in children)) (processes_in behind))
    (process_in_front (process_in m) _ _
    (subst₂ IsPermutation all same (IsPermutation-append_left (processes_in behind) _ _ (children_keep name cs m below))))

branches_keep : (name : List ℕ) (cs : List ChildSpec) (ms : List Member) → IsPermutation (processes_among ms) (processes_in (branches name cs ms))
branches_keep name cs [] = IsPermutation-refl []
branches_keep name cs (m ∷ ms) =
    IsPermutation-trans _ _ _ (process_in_front (process_in m) _ _ (branches_keep name cs ms)) (member_keeps name cs m (branches name cs ms))

pub keeps_processes : KeepsProcesses
keeps_processes name cs ms = subst (IsPermutation (processes_among ms)) (sym (processes_of_members_in (branches name cs ms))) (branches_keep name cs ms)
