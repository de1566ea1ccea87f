-- What a record of statuses says of a list, and what it makes of it.
use Rattle.std.proofs.Common.{◌≡◌, ℕ, Bool, true, false, cond, List, [], ◌∷◌, filter, map, string_bytes, Option, Some, None, refl, sym, ap, ◌∙◌, true≢false, if◌then◌else◌}
use Rattle.std.specs.Prelude.{◌&&◌, not}
use Rattle.std.specs.Option.{option_or, unwrap_or}
use Rattle.std.specs.Str.{bytes_eq}
use Rattle.rel_files.proofs.Options.{both, passed}
use Rattle.rel_list.specs.declared.status.Status.{Status}
use Rattle.rel_list.specs.Event.{assigned_status, list_assigned, with_statuses}
use Rattle.rel_list.specs.Laws.{bundles_of}
use Rattle.rel_list.specs.Releases.{Bundle, Releases, bundle_in, status_of}
use Rattle.rel_list.proofs.Orderly.{differs_back, first_differs, none_behind, same_version}
use Rattle.rel_records.specs.StatusLaws.{IsSilent}
use Rattle.rel_records.specs.StatusChanges.{are_of_one_event, said_by, statuses_of, with_said}
use Rattle.rel_records.specs.Given.{are_in_order, leads, others, said, status_given}
use Rattle.rel_records.specs.declared.assignment.Assignment.{Assignment as AssignmentInMemory}
use Rattle.rel_records.specs.Lists.{assign_all, may_be_assigned, set_by}
use Rattle.rel_records.specs.Parts.{assignment_read}
use Rattle.rel_records.specs.Record.{Assignment}

-- what a record of statuses makes of a list, its assignments make; what it says follows, in the order of the list
pub set_so : (given : List Assignment) (es next : Releases) → set_by given es ≡ Some next → (assign_all given es ≡ Some next) × (are_of_one_event (statuses_of es) (said given es) ≡ true) × (are_in_order es given ≡ true)
set_so given es next is =
    let (may, assigned) = passed (are_in_order es given && are_of_one_event (statuses_of es) (said given es)) (assign_all given es) next is in
    let (order, does) = both (are_in_order es given) (are_of_one_event (statuses_of es) (said given es)) may in
    (assigned, does, order)

-- and the other way round
pub set_where : (given : List Assignment) (es next : Releases) → assign_all given es ≡ Some next → are_of_one_event (statuses_of es) (said given es) ≡ true → are_in_order es given ≡ true → set_by given es ≡ Some next
set_where given es next assigned does order =
    ap (λ b. if b && are_of_one_event (statuses_of es) (said given es) then assign_all given es else None) order
    ∙ ap (λ b. if b then assign_all given es else None) does
    ∙ assigned

-- Assignments keep the releases.
bundles-assigned : (v : List ℕ) (t : Status) (es : Releases) → bundles_of (list_assigned v t es) ≡ bundles_of es
bundles-assigned v t [] = refl
bundles-assigned v t (e ∷ es) = ap (λ (l : List Bundle). bundle_in e ∷ l) (bundles-assigned v t es)

pub bundles-assign_all : (given : List Assignment) (es next : Releases) → assign_all given es ≡ Some next → bundles_of next ≡ bundles_of es
bundles-assign_all [] es next is = let same : es ≡ next = cc is in ap bundles_of (sym same)
bundles-assign_all (a ∷ given) es next is =
    let (may, rest) = passed (may_be_assigned a es) (assign_all given (list_assigned a.vsn a.status es)) next is in
    bundles-assign_all given (list_assigned a.vsn a.status es) next rest ∙ bundles-assigned a.vsn a.status es

-- Of two statuses, the first that is there
pub or_none : {A : Type 0} (o : Option A) → option_or o None ≡ o
or_none None = refl
or_none (Some t) = refl

pub or_later : {A : Type 0} (o : Option A) (t : A) (p : Option A) → option_or (option_or o (Some t)) p ≡ option_or o (Some t)
or_later None t p = refl
or_later (Some u) t p = refl

never_none : {A : Type 0} (o : Option A) (t : A) → option_or o (Some t) ≡ None → ⊥
never_none None t is = absurd cc
never_none (Some u) t is = absurd cc

both_none : {A : Type 0} (o p : Option A) → option_or o p ≡ None → (o ≡ None) × (p ≡ None)
both_none None p is = (refl, is)
both_none (Some u) p is = absurd cc

no_status : (b : Bool) (t : Status) → (if b then Some t else None) ≡ None → b ≡ false
no_status true t is = absurd cc
no_status false t is = refl

-- After the assignments each release has the status that they give.
unsaid_same : (es : Releases) → with_said (λ v. None) es ≡ es
unsaid_same [] = refl
unsaid_same (x ∷ es) = ap (λ l. x ∷ l) (unsaid_same es)

said_last : (o : Option Status) (b : Bool) (t s : Status) → unwrap_or (option_or o (if b then Some t else None)) s ≡ unwrap_or o (assigned_status t b s)
said_last (Some u) b t s = refl
said_last None true t s = refl
said_last None false t s = refl

said_first : (a : Assignment) (given : List Assignment) (es : Releases)
    → with_said (λ v. status_given v (a ∷ given)) es ≡ with_said (λ v. status_given v given) (list_assigned a.vsn a.status es)
said_first a given [] = refl
said_first a given (x ∷ es) =
    λ k. record x { status = said_last (status_given x.release.vsn given) (bytes_eq a.vsn x.release.vsn) a.status x.status k } ∷ said_first a given es k

pub assigned_as_said : (given : List Assignment) (es next : Releases) → assign_all given es ≡ Some next → with_said (λ v. status_given v given) es ≡ next
assigned_as_said [] es next is = let same : es ≡ next = cc is in unsaid_same es ∙ same
assigned_as_said (a ∷ given) es next is =
    let (may, rest) = passed (may_be_assigned a es) (assign_all given (list_assigned a.vsn a.status es)) next is in
    said_first a given es ∙ assigned_as_said given (list_assigned a.vsn a.status es) next rest

-- The order is that of the versions alone.
in_order-with_statuses : (f : List ℕ → Status → Status) (es : Releases) (given : List Assignment) → are_in_order (with_statuses f es) given ≡ are_in_order es given
in_order-with_statuses f [] given = refl
in_order-with_statuses f (x ∷ es) given = in_order-with_statuses f es (if leads x.release.vsn given then others x.release.vsn given else given)

pub in_order_behind : (given : List Assignment) (es next : Releases) → assign_all given es ≡ Some next → are_in_order next given ≡ are_in_order es given
in_order_behind given es next is =
    ap (λ l. are_in_order l given) (sym (assigned_as_said given es next is)) ∙ in_order-with_statuses (λ v s. unwrap_or (status_given v given) s) es given

-- a first assignment says nothing of releases of other versions
pub other_said : (a : Assignment) (given : List Assignment) (es : Releases) → status_of a.vsn es ≡ None
    → said_by (λ v. status_given v (a ∷ given)) es ≡ said_by (λ v. status_given v given) es
other_said a given [] none = refl
other_said a given (y ∷ es) none = λ k. own k ∷ other_said a given es (none_behind a.vsn y es none) k
  where
    own : status_given y.release.vsn (a ∷ given) ≡ status_given y.release.vsn given
    own =
        ap (λ b. option_or (status_given y.release.vsn given) (if b then Some a.status else None)) (first_differs a.vsn y es none)
        ∙ or_none (status_given y.release.vsn given)

-- A record that says nothing of the releases of a list, and names no other, is empty.
pub silent_empty : (es : Releases) (given : List Assignment) → are_in_order es given ≡ true → IsSilent (λ v. status_given v given) es → given ≡ []
silent_empty [] [] order silent = refl
silent_empty [] (a ∷ given) order silent = absurd (true≢false (sym order))
silent_empty (x ∷ es) [] order silent = refl
silent_empty (x ∷ es) (a ∷ given) order silent = go (bytes_eq a.vsn x.release.vsn) silent.0 order (λ there. silent_empty es (a ∷ given) there silent.1)
  where
    go : (b : Bool) → option_or (status_given x.release.vsn given) (if b then Some a.status else None) ≡ None
        → are_in_order es (if b then others x.release.vsn (a ∷ given) else a ∷ given) ≡ true → (are_in_order es (a ∷ given) ≡ true → (a ∷ given) ≡ []) → (a ∷ given) ≡ []
    go true none order rest = absurd (never_none (status_given x.release.vsn given) a.status none)
    go false none order rest = rest order

-- the assignments to other releases give a release what all give
given_others : (v w : List ℕ) (given : List Assignment) → bytes_eq w v ≡ false → status_given v (others w given) ≡ status_given v given
given_others v w [] differ = refl
given_others v w (a ∷ given) differ = go (bytes_eq a.vsn w) refl (given_others v w given differ)
  where
    go : (b : Bool) → bytes_eq a.vsn w ≡ b → status_given v (others w given) ≡ status_given v given
        → status_given v (cond (not b) (a ∷ others w given) (others w given)) ≡ status_given v (a ∷ given)
    go true is rest =
        rest ∙ sym (ap (λ b. option_or (status_given v given) (if b then Some a.status else None)) (ap (λ u. bytes_eq u v) (same_version a.vsn w is) ∙ differ) ∙ or_none (status_given v given))
    go false is rest = ap (λ o. option_or o (if bytes_eq a.vsn v then Some a.status else None)) rest

-- a record in the order of a list gives nothing to a version that the list doesn't have
pub unmentioned : (v : List ℕ) (es : Releases) (given : List Assignment) → status_of v es ≡ None → are_in_order es given ≡ true → status_given v given ≡ None
unmentioned v [] [] none order = refl
unmentioned v [] (a ∷ given) none order = absurd (true≢false (sym order))
unmentioned v (x ∷ es) given none order = go (leads x.release.vsn given) order (λ left there. unmentioned v es left (none_behind v x es none) there)
  where
    go : (b : Bool) → are_in_order es (if b then others x.release.vsn given else given) ≡ true
        → ((left : List Assignment) → are_in_order es left ≡ true → status_given v left ≡ None) → status_given v given ≡ None
    go true order rest = sym (given_others v x.release.vsn given (differs_back v x.release.vsn (first_differs v x es none))) ∙ rest (others x.release.vsn given) order
    go false order rest = rest given order

-- where a record gives nothing to a release, its assignments are to others
pub others_none : (v : List ℕ) (given : List Assignment) → status_given v given ≡ None → others v given ≡ given
others_none v [] none = refl
others_none v (a ∷ given) none =
    let (rest, own) = both_none (status_given v given) (if bytes_eq a.vsn v then Some a.status else None) none in
    ap (λ b. cond (not b) (a ∷ others v given) (others v given)) (no_status (bytes_eq a.vsn v) a.status own) ∙ ap (λ l. a ∷ l) (others_none v given rest)

-- What a record of statuses makes of a list, by its parts. The order may be that of the list after its assignments.
pub set_taken : (given : List Assignment) (es next : Releases) → are_of_one_event (statuses_of es) (said given es) ≡ true → assign_all given es ≡ Some next → are_in_order next given ≡ true → set_by given es ≡ Some next
set_taken given es next does assigned order = set_where given es next assigned does (sym (in_order_behind given es next assigned) ∙ order)

and_false : (b : Bool) → (b && false) ≡ false
and_false true = refl
and_false false = refl

pub never_follows : (given : List Assignment) (es : Releases) → are_of_one_event (statuses_of es) (said given es) ≡ false → set_by given es ≡ None
never_follows given es not_so =
    ap (λ b. if are_in_order es given && b then assign_all given es else None) not_so
    ∙ ap (λ b. if b then assign_all given es else None) (and_false (are_in_order es given))

pub never_assigned : (given : List Assignment) (es : Releases) → assign_all given es ≡ None → set_by given es ≡ None
never_assigned given es none = go (are_in_order es given && are_of_one_event (statuses_of es) (said given es))
  where
    go : (b : Bool) → (if b then assign_all given es else None) ≡ None
    go true = none
    go false = refl

pub out_of_order : (given : List Assignment) (es next : Releases) → assign_all given es ≡ Some next → are_in_order next given ≡ false → set_by given es ≡ None
out_of_order given es next assigned not_so =
    ap (λ b. if b && are_of_one_event (statuses_of es) (said given es) then assign_all given es else None) (sym (in_order_behind given es next assigned) ∙ not_so)

-- the assignments to others, as they lie in memory
pub map-others : (v : List ℕ) (given : List AssignmentInMemory) → map assignment_read (filter (λ (a : AssignmentInMemory). not (bytes_eq (string_bytes a.vsn) v)) given) ≡ others v (map assignment_read given)
map-others v [] = refl
map-others v (a ∷ given) = go (bytes_eq (string_bytes a.vsn) v) (map-others v given)
  where
    go : (b : Bool) → map assignment_read (filter (λ (a : AssignmentInMemory). not (bytes_eq (string_bytes a.vsn) v)) given) ≡ others v (map assignment_read given)
        → map assignment_read (cond (not b) (a ∷ filter (λ (a : AssignmentInMemory). not (bytes_eq (string_bytes a.vsn) v)) given) (filter (λ (a : AssignmentInMemory). not (bytes_eq (string_bytes a.vsn) v)) given))
        ≡ cond (not b) (assignment_read a ∷ others v (map assignment_read given)) (others v (map assignment_read given))
    go true rest = rest
    go false rest = ap (λ l. assignment_read a ∷ l) rest
