-- The children of supervisors among members, by the module of the supervisor and the id of the child. One that has ended is kept
-- with its specification, unless it is temporary.
use Rattle.std.specs.Prelude.{◌≡◌, ℕ, zero, suc, ◌+◌, ◌==◌, Bool, ◌&&◌, true, false, List, [], ◌∷◌, ◌++◌, length, nat_lt, Option, Some, None, if◌then◌else◌}
use Rattle.std.specs.Option.{option_and_then, option_map, option_map_or}
use Rattle.std.specs.Str.{bytes_eq}
use Rattle.mod_table.specs.declared.child.Restart.{Restart}
use Rattle.mod_table.specs.declared.child.Restart.TheVariants.{Temporary}
use Rattle.proc_table.specs.declared.view.View.{View}
use Rattle.started_members.specs.declared.member.Member.{Member}
use Rattle.started_members.specs.declared.looks.Stay.{Stay}
use Rattle.started_members.specs.declared.member.MemberState.TheVariants.{Ended}
use Rattle.started_members.specs.Changes.{one_deeper}
use Rattle.started_members.specs.Looks.{StateLookedAt, kept_at}
use Rattle.started_members.specs.Ends.{MemberEnded}
use Rattle.started_members.specs.Members.{is_supervisor, process_in}

-- a child among members: those in front of it, those below it, and those after these
pub record Place : Type 0 where
  pub before : List Member
  pub child : Member
  pub below : List Member
  pub behind : List Member

-- those in front that stand deeper than this, and the others
abbrev pub deeper_members : ℕ → List Member → List Member
deeper_members depth [] = []
deeper_members depth (m ∷ ms) = if nat_lt depth m.depth then m ∷ deeper_members depth ms else []

abbrev pub behind_members : ℕ → List Member → List Member
behind_members depth [] = []
behind_members depth (m ∷ ms) = if nat_lt depth m.depth then behind_members depth ms else m ∷ ms

-- the first member, with those below it
abbrev pub first_place : Member → List Member → Place
first_place m ms = record { before = []; child = m; below = deeper_members m.depth ms; behind = behind_members m.depth ms }

-- the same place, where one more member stands in front
abbrev pub one_further : Member → Option Place → Option Place
one_further m = option_map (λ (p : Place). record p { before = m ∷ p.before })

-- the first of these members with this id and this depth, before any that stands less deep
abbrev pub child_at : ℕ → List ℕ → List Member → Option Place
child_at depth id [] = None
child_at depth id (m ∷ ms) =
    if nat_lt m.depth depth then None
    else if (m.depth == depth) && bytes_eq m.id id then Some (first_place m ms) else one_further m (child_at depth id ms)

-- the child of this id of the first supervisor of this module
abbrev pub child_in : List ℕ → List ℕ → List Member → Option Place
child_in name id [] = None
child_in name id (m ∷ ms) = one_further m (if is_supervisor name m.state then child_at (one_deeper m.depth) id ms else child_in name id ms)

-- a child and those below it
abbrev pub with_below : Place → List Member
with_below p = p.child ∷ p.below

abbrev pub unless_temporary : Restart → Member → List Member
unless_temporary Temporary m = []
unless_temporary r m = m ∷ []

-- what is kept of a child that has ended: of a temporary one nothing
abbrev pub ended_child : Member → List Member
ended_child m = unless_temporary m.restart (record m { state = Ended })

-- what stands in place of a child and of those below it
abbrev pub Change : Type 0
Change = Place → List Member

abbrev pub replaced : Change → Place → List Member
replaced f p = p.before ++ (f p ++ p.behind)

-- the members where this stands in place of the child of this id of the supervisor of this module, if it has such a child
abbrev pub members_with : Change → List ℕ → List ℕ → List Member → List Member
members_with f name id ms = option_map_or (replaced f) (child_in name id ms) ms

abbrev pub specification_kept : Change
specification_kept p = ended_child p.child

abbrev pub nothing_kept : Change
nothing_kept p = []

-- Whether the child stays, by a look at what stands for it. Where there is none, nothing is to be done either.
abbrev pub ChildLookedAt : Stay → Option Place → Bool → View → View → Type 0
ChildLookedAt stay None stays v w = (stays ≡ true) × (w ≡ v)
ChildLookedAt stay (Some p) stays v w = StateLookedAt (kept_at stay p.child.restart) p.child.state stays v w

-- The process of the child was given up, unless it stays.
abbrev pub ChildEndedUnless : Bool → Option Place → View → View → Type 0
ChildEndedUnless true o v w = w ≡ v
ChildEndedUnless false o v w = MemberEnded (option_and_then (λ (p : Place). process_in p.child) o) v w

-- the member after so many others, with those below it
abbrev pub place_at : ℕ → List Member → Option Place
place_at n [] = None
place_at zero (m ∷ ms) = Some (first_place m ms)
place_at (suc n) (m ∷ ms) = one_further m (place_at n ms)

-- The child at this place and the members below it stand from `start` on, up to `end`.
pub record IsRange (ms : List Member) (p : Place) (start end : ℕ) : Type 0 where
  pub is : ms ≡ p.before ++ (with_below p ++ p.behind)
  pub start_is : start ≡ length p.before
  pub end_is : end ≡ start + length (with_below p)

-- where a child stands with those below it
abbrev pub AreAt : Option Place → List Member → Option (ℕ × ℕ) → Type 0
AreAt None ms None = Unit {0}
AreAt (Some p) ms (Some range) = IsRange ms p range.0 range.1
AreAt o ms r = ⊥

-- these in place of a child and of those below it
abbrev pub in_place : List Member → Change
in_place ms p = ms
