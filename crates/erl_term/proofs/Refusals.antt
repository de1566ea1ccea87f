-- What each state of the machine lets come, and so what its refusal reports.
use Rattle.std.proofs.Common.{◌≡◌, ℕ, pos, ◌⊎◌, inl, inr, Bool, true, false, ◌||◌, eqb, List, [], ◌∷◌, ◌++◌, Option, Some, None, Ok, if◌then◌else◌, refl, sym, ◌∙◌, ap, subst, arith, append_assoc}
use Rattle.std.proofs.lemmas.List.{map-append}
use Rattle.std.proofs.lemmas.Bool.Decides.{nat_tests}
use Rattle.std.specs.Option.{option_map}
use Rattle.erl_number.specs.declared.fault.TermFault.{TermFault}
use Rattle.erl_number.specs.declared.fault.TermFault.TheVariants.{Unsupported}
use Rattle.erl_token.specs.declared.token.Bracket.{Bracket}
use Rattle.erl_token.specs.declared.token.Bracket.TheVariants.{Tuple, List as Square, Binary}
use Rattle.erl_term.specs.declared.parser.Slot.{Slot}
use Rattle.erl_term.specs.declared.parser.Slot.TheVariants.{First, Next, Later}
use Rattle.erl_term.specs.Value.{Value}
use Rattle.erl_term.specs.Value.Value.{int, atom}
use Rattle.erl_token.specs.Lexing.{Token, Item, some_name, some_number}
use Rattle.erl_token.specs.Lexing.Token.{dot, stray}
use Rattle.erl_term.specs.Grammar.{tokens, Reading}
use Rattle.erl_term.specs.Faults.{Viable, MayCome, IsInside, IsLeftOut, ReportsPlace, for_a_term, for_a_segment}
use Rattle.erl_term.specs.Machine.{Level, State, Progress, kind_of, bracket_of, with_member, is_same, is_binary, added, open_levels, put, at_kind, next, is_left_out, misplaced, misplaced_inside, run, nothing_read}
use Rattle.erl_term.specs.Machine.State.{begun, whole, inside}
use Rattle.erl_term.specs.Machine.Kind.{leaf}
use Rattle.erl_term.proofs.Passes.{progress, reading, closes, kind_of-closes, next_leaf, next_closing, bracket_of-with_member}
use Rattle.erl_term.proofs.StateLemmas.{same_bracket, some_same}
use Rattle.erl_term.proofs.Viability.{plain, zero_adds, runs_on, viable_prefix, may_come, may_not_come}

-- Members and ends of brackets

-- the innermost bracket is such a one
abbrev pub is_inside : State → Bracket → Bool
is_inside (inside slot l ls) b = is_same (bracket_of l.members) b
is_inside s b = false

close_refused : (limit : ℕ) (done : List Reading) (s : State) (b : Bracket) → is_inside s b ≡ false → next limit (progress done s) (plain (closes b)) ≡ None
close_refused limit done begun b h = rw (kind_of-closes b) refl
close_refused limit done (whole r) b h = rw (kind_of-closes b) refl
close_refused limit done (inside First l ls) b h = rw (kind_of-closes b, h) refl
close_refused limit done (inside Next l ls) b h = rw (kind_of-closes b) refl
close_refused limit done (inside Later l ls) b h = rw (kind_of-closes b, h) refl

put_keeps : (done : List Reading) (l : Level) (ls : List Level) (q : Progress) (b : Bracket) (v : Value) → is_same (bracket_of l.members) b ≡ false → (o : Option (List ℕ))
    → option_map (λ bs. progress done (put (reading v 0 0) bs (l ∷ ls))) o ≡ Some q → is_inside q.state b ≡ false
put_keeps done l ls q b v h (Some bs) n =
    subst (λ q. is_inside q.state b ≡ false) (some_same (progress done (put (reading v 0 0) bs (l ∷ ls))) q n)
    (ap (λ a. is_same a b) (bracket_of-with_member v bs l.members) ∙ h)
put_keeps done l ls q b v h None n = absurd (cc)

-- a member doesn't change which bracket is the innermost
member_keeps : (limit : ℕ) (done : List Reading) (s : State) (q : Progress) (b : Bracket) (t : Token) (v : Value) (bytes : Option (List ℕ)) → kind_of t ≡ leaf v bytes
    → next limit (progress done s) (plain t) ≡ Some q → is_inside s b ≡ false → is_inside q.state b ≡ false
member_keeps limit done begun q b t v bytes k n h =
    let is : next limit (progress done begun) (plain t) ≡ Some (progress done (whole (reading v 0 0))) = rw k refl in
    subst (λ q. is_inside q.state b ≡ false) (some_same (progress done (whole (reading v 0 0))) q (sym is ∙ n)) refl
member_keeps limit done (whole r) q b t v bytes k n h = absurd (let none : next limit (progress done (whole r)) (plain t) ≡ None = rw k refl in let never : None ≡ Some q = sym none ∙ n in cc)
member_keeps limit done (inside Later l ls) q b t v bytes k n h =
    absurd (let none : next limit (progress done (inside Later l ls)) (plain t) ≡ None = rw k refl in let never : None ≡ Some q = sym none ∙ n in cc)
member_keeps limit done (inside First l ls) q b t v bytes k n h = put_keeps done l ls q b v h (added bytes (l ∷ ls)) (sym (ap (λ k. at_kind limit done (inside First l ls) k 0 0) k) ∙ n)
member_keeps limit done (inside Next l ls) q b t v bytes k n h = put_keeps done l ls q b v h (added bytes (l ∷ ls)) (sym (ap (λ k. at_kind limit done (inside Next l ls) k 0 0) k) ∙ n)

never_inside : (limit : ℕ) (is : List Item) (p : Progress) (b : Bracket) (t : Token) (v : Value) (bytes : Option (List ℕ)) → run limit nothing_read is ≡ Ok p
    → kind_of t ≡ leaf v bytes → is_inside p.state b ≡ false → IsInside limit (tokens is) t (closes b) → ⊥
never_inside limit is p b t v bytes e k h (inl may) = may_not_come limit is p (plain (closes b)) e (close_refused limit p.done p.state b h) may
never_inside limit is p b t v bytes e k h (inr viable) = go (next limit p (plain t)) refl
  where
    go : (o : Option Progress) → next limit p (plain t) ≡ o → ⊥
    go (Some q) n =
        let both : tokens is ++ (t ∷ closes b ∷ []) ≡ tokens (is ++ plain t ∷ []) ++ closes b ∷ [] =
        sym (append_assoc (tokens is) (t ∷ []) (closes b ∷ [])) ∙ (λ j. sym (map-append (λ i. i.token) is (plain t ∷ [])) j ++ closes b ∷ []) in
        may_not_come limit (is ++ plain t ∷ []) q (plain (closes b)) (runs_on limit is p q (plain t) e n)
        (close_refused limit q.done q.state b (member_keeps limit p.done p.state q b t v bytes k n h)) (subst (λ ts. Viable limit ts) both viable)
    go None n =
        may_not_come limit is p (plain t) e n
        (viable_prefix limit (tokens is ++ t ∷ []) (closes b ∷ []) (subst (λ ts. Viable limit ts) (sym (append_assoc (tokens is) (t ∷ []) (closes b ∷ []))) viable))

-- the innermost bracket may be closed, at once or after a member
comes_inside : (limit : ℕ) (is : List Item) (done : List Reading) (slot : Slot) (l : Level) (ls : List Level) (t : Token) (v : Value) (bytes : Option (List ℕ)) (bs : List ℕ)
    → run limit nothing_read is ≡ Ok (progress done (inside slot l ls)) → kind_of t ≡ leaf v bytes → added bytes (l ∷ ls) ≡ Some bs
    → IsInside limit (tokens is) t (closes (bracket_of l.members))
comes_inside limit is done First l ls t v bytes bs e k adds =
    inl (may_come limit is (progress done (inside First l ls)) _ (plain (closes (bracket_of l.members))) e
    (next_closing limit done (inside First l ls) l ls (plain (closes (bracket_of l.members))) (λ b to. refl) refl))
comes_inside limit is done Later l ls t v bytes bs e k adds =
    inl (may_come limit is (progress done (inside Later l ls)) _ (plain (closes (bracket_of l.members))) e
    (next_closing limit done (inside Later l ls) l ls (plain (closes (bracket_of l.members))) (λ b to. refl) refl))
comes_inside limit is done Next l ls t v bytes bs e k adds =
    let c : Token = closes (bracket_of l.members) in
    let m : Level = record l { members = with_member v bs l.members } in
    let one = runs_on limit is (progress done (inside Next l ls)) _ (plain t) e (next_leaf limit done (inside Next l ls) (l ∷ ls) (plain t) v bytes bs refl k adds) in
    let closed = next_closing limit done (inside Later m ls) m ls (plain c) (λ b to. refl) (ap closes (sym (bracket_of-with_member v bs l.members))) in
    let both : tokens (is ++ plain t ∷ []) ++ c ∷ [] ≡ tokens is ++ (t ∷ c ∷ []) =
    (λ j. map-append (λ i. i.token) is (plain t ∷ []) j ++ c ∷ []) ∙ append_assoc (tokens is) (t ∷ []) (c ∷ []) in
    inr (subst (λ ts. Viable limit ts) both (may_come limit (is ++ plain t ∷ []) (progress done (inside Later m ls)) _ (plain c) one closed))

-- Bytes of forms that aren't read

abbrev pub left_out_at : State → Token → Bool
left_out_at (inside slot l ls) t = is_left_out (bracket_of l.members) t
left_out_at s t = false

left_out_by : (s : State) (b : Bracket) (t : Token) → is_inside s b ≡ true → left_out_at s t ≡ is_left_out b t
left_out_by (inside slot l ls) b t h = ap (λ a. is_left_out a t) (same_bracket (bracket_of l.members) b h)
left_out_by begun b t h = absurd (cc)
left_out_by (whole r) b t h = absurd (cc)

pub not_left_out : (limit : ℕ) (is : List Item) (p : Progress) (t : Token) → run limit nothing_read is ≡ Ok p → left_out_at p.state t ≡ false → IsLeftOut limit (tokens is) t → ⊥
not_left_out limit is p (stray x) e h (inl (bar, within)) = go (is_inside p.state Square) refl
  where
    go : (b : Bool) → is_inside p.state Square ≡ b → ⊥
    go true square = let never : is_left_out Square (stray x) ≡ false = sym (left_out_by p.state Square (stray x) square) ∙ h in let there : eqb 124 124 ≡ false = ap (λ y. eqb y 124) (sym bar) ∙ never in cc
    go false square = never_inside limit is p Square some_name (atom []) None e refl square within
not_left_out limit is p (stray x) e h (inr (mark, within)) = go (is_inside p.state Binary) refl mark
  where
    go : (b : Bool) → is_inside p.state Binary ≡ b → (x ≡ 47) ⊎ (x ≡ 58) → ⊥
    go true binary (inl slash) =
        let never : is_left_out Binary (stray x) ≡ false = sym (left_out_by p.state Binary (stray x) binary) ∙ h in let there : (eqb 47 47 || eqb 47 58) ≡ false = ap (λ y. eqb y 47 || eqb y 58) (sym slash) ∙ never in cc
    go true binary (inr colon) =
        let never : is_left_out Binary (stray x) ≡ false = sym (left_out_by p.state Binary (stray x) binary) ∙ h in let there : (eqb 58 47 || eqb 58 58) ≡ false = ap (λ y. eqb y 47 || eqb y 58) (sym colon) ∙ never in cc
    go false binary m = never_inside limit is p Binary some_number (int (pos 0)) (Some (0 ∷ [])) e refl binary within
not_left_out limit is p t e h left = absurd left

pub left_out : (limit : ℕ) (is : List Item) (done : List Reading) (slot : Slot) (l : Level) (ls : List Level) (t : Token) → run limit nothing_read is ≡ Ok (progress done (inside slot l ls))
    → is_left_out (bracket_of l.members) t ≡ true → IsLeftOut limit (tokens is) t
left_out limit is done slot l ls t e h = go (bracket_of l.members) refl t h
  where
    mark : (x : ℕ) → (eqb x 47 || eqb x 58) ≡ true → (x ≡ 47) ⊎ (x ≡ 58)
    mark x h = by (eqb x 47) refl h
      where
        by : (b : Bool) → eqb x 47 ≡ b → (b || eqb x 58) ≡ true → (x ≡ 47) ⊎ (x ≡ 58)
        by true m h = inl (grind (arith, nat_tests))
        by false m h = inr (grind (arith, nat_tests))

    go : (b : Bracket) → bracket_of l.members ≡ b → (t : Token) → is_left_out b t ≡ true → IsLeftOut limit (tokens is) t
    go Square s (stray x) h =
        let adds : added None (l ∷ ls) ≡ Some [] = rw s refl in
        let bar : x ≡ 124 = grind (arith, nat_tests) in
        inl (bar, subst (λ b. IsInside limit (tokens is) some_name (closes b)) s (comes_inside limit is done slot l ls some_name (atom []) None [] e refl adds))
    go Binary s (stray x) h =
        inr (
          mark x h,
          subst (λ b. IsInside limit (tokens is) some_number (closes b)) s
              (comes_inside limit is done slot l ls some_number (int (pos 0)) (Some (0 ∷ [])) _ e refl (zero_adds (l ∷ ls))),
        )
    go b s t h = absurd (cc)

-- What may come

dot_comes : (limit : ℕ) (is : List Item) (done : List Reading) (r : Reading) → run limit nothing_read is ≡ Ok (progress done (whole r)) → MayCome limit (tokens is) dot
dot_comes limit is done r e = may_come limit is (progress done (whole r)) _ (plain dot) e refl

name_comes : (limit : ℕ) (is : List Item) (done : List Reading) (s : State) (ls : List Level) → run limit nothing_read is ≡ Ok (progress done s)
    → open_levels s ≡ Some ls → is_binary ls ≡ false → MayCome limit (tokens is) some_name
name_comes limit is done s ls e free outside =
    let adds : added None ls ≡ Some [] = rw outside refl in
    may_come limit is (progress done s) _ (plain some_name) e (next_leaf limit done s ls (plain some_name) (atom []) None [] free refl adds)

number_comes : (limit : ℕ) (is : List Item) (done : List Reading) (s : State) (ls : List Level) → run limit nothing_read is ≡ Ok (progress done s)
    → open_levels s ≡ Some ls → MayCome limit (tokens is) some_number
number_comes limit is done s ls e free =
    may_come limit is (progress done s) _ (plain some_number) e (next_leaf limit done s ls (plain some_number) (int (pos 0)) (Some (0 ∷ [])) _ free refl (zero_adds ls))

no_name : (limit : ℕ) (is : List Item) (done : List Reading) (s : State) (ls : List Level) → run limit nothing_read is ≡ Ok (progress done s)
    → open_levels s ≡ Some ls → is_binary ls ≡ true → MayCome limit (tokens is) some_name → ⊥
no_name limit is done s ls e free within may = may_not_come limit is (progress done s) (plain some_name) e (rw (free, within) refl) may

-- The place of a refused token

-- what may come where a member may begin, and what is reported there
pub record AtMember (limit : ℕ) (is : List Item) (s : State) (b : Bracket) : Type 0 where
  pub number : MayCome limit (tokens is) some_number
  pub name : is_same b Binary ≡ false → MayCome limit (tokens is) some_name
  pub no_name : is_same b Binary ≡ true → MayCome limit (tokens is) some_name → ⊥
  pub no_dot : MayCome limit (tokens is) dot → ⊥

at_member : (limit : ℕ) (is : List Item) (done : List Reading) (s : State) (l : Level) (ls : List Level) → run limit nothing_read is ≡ Ok (progress done s)
    → open_levels s ≡ Some (l ∷ ls) → next limit (progress done s) (plain dot) ≡ None → AtMember limit is s (bracket_of l.members)
at_member limit is done s l ls e free ends = record {
  number = number_comes limit is done s (l ∷ ls) e free;
  name = λ h. name_comes limit is done s (l ∷ ls) e free h;
  no_name = λ h. no_name limit is done s (l ∷ ls) e free h;
  no_dot = may_not_come limit is (progress done s) (plain dot) e ends;
}

-- the fault that a place for a member reports
abbrev pub for_a_member : Bracket → Token → ℕ → TermFault
for_a_member Binary t at = for_a_segment t at
for_a_member b t at = for_a_term t at

member_reports : (limit : ℕ) (is : List Item) (s : State) (i : Item) (b : Bracket) → AtMember limit is s b → (IsLeftOut limit (tokens is) i.token → ⊥)
    → ReportsPlace limit (tokens is) i (for_a_member b i.token i.from)
member_reports limit is s i Tuple a read = inr (inr (inl (read, a.name refl, refl)))
member_reports limit is s i Square a read = inr (inr (inl (read, a.name refl, refl)))
member_reports limit is s i Binary a read = inr (inr (inr (inl (read, a.no_name refl, a.number, refl))))

term_reported : (limit : ℕ) (is : List Item) (i : Item) (f : TermFault) → MayCome limit (tokens is) some_name → MayCome limit (tokens is) some_number
    → (MayCome limit (tokens is) dot → ⊥) → (IsLeftOut limit (tokens is) i.token → ⊥) → ReportsPlace limit (tokens is) i f → f ≡ for_a_term i.token i.from
term_reported limit is i f name number no_dot read (inl (may, d)) = absurd (no_dot may)
term_reported limit is i f name number no_dot read (inr (inl (left, d))) = absurd (read left)
term_reported limit is i f name number no_dot read (inr (inr (inl (n, may, d)))) = d
term_reported limit is i f name number no_dot read (inr (inr (inr (inl (n, never, may, d))))) = absurd (never name)
term_reported limit is i f name number no_dot read (inr (inr (inr (inr (n, never, neither, d))))) = absurd (neither number)

segment_reported : (limit : ℕ) (is : List Item) (i : Item) (f : TermFault) → (MayCome limit (tokens is) some_name → ⊥) → MayCome limit (tokens is) some_number
    → (MayCome limit (tokens is) dot → ⊥) → (IsLeftOut limit (tokens is) i.token → ⊥) → ReportsPlace limit (tokens is) i f → f ≡ for_a_segment i.token i.from
segment_reported limit is i f no_name number no_dot read (inl (may, d)) = absurd (no_dot may)
segment_reported limit is i f no_name number no_dot read (inr (inl (left, d))) = absurd (read left)
segment_reported limit is i f no_name number no_dot read (inr (inr (inl (n, may, d)))) = absurd (no_name may)
segment_reported limit is i f no_name number no_dot read (inr (inr (inr (inl (n, never, may, d))))) = d
segment_reported limit is i f no_name number no_dot read (inr (inr (inr (inr (n, never, neither, d))))) = absurd (neither number)

member_reported : (limit : ℕ) (is : List Item) (s : State) (i : Item) (b : Bracket) (f : TermFault) → AtMember limit is s b → (IsLeftOut limit (tokens is) i.token → ⊥)
    → ReportsPlace limit (tokens is) i f → f ≡ for_a_member b i.token i.from
member_reported limit is s i Tuple f a read reports = term_reported limit is i f (a.name refl) a.number a.no_dot read reports
member_reported limit is s i Square f a read reports = term_reported limit is i f (a.name refl) a.number a.no_dot read reports
member_reported limit is s i Binary f a read reports = segment_reported limit is i f (a.no_name refl) a.number a.no_dot read reports

first_inside : (b : Bracket) (t : Token) (at : ℕ) → for_a_member b t at ≡ misplaced_inside First b t at
first_inside Tuple t at = refl
first_inside Square t at = refl
first_inside Binary t at = refl

next_inside : (b : Bracket) (t : Token) (at : ℕ) → for_a_member b t at ≡ misplaced_inside Next b t at
next_inside Tuple t at = refl
next_inside Square t at = refl
next_inside Binary t at = refl

-- the place of a token that may not come reports the machine's fault
pub place_reports : (limit : ℕ) (is : List Item) (p : Progress) (i : Item) → run limit nothing_read is ≡ Ok p
    → ReportsPlace limit (tokens is) i (misplaced p.state i.token i.from)
place_reports limit is p i e = go p.state e
  where
    in_bracket : (slot : Slot) (l : Level) (ls : List Level) → run limit nothing_read is ≡ Ok (progress p.done (inside slot l ls)) → (IsLeftOut limit (tokens is) i.token → ⊥)
        → ReportsPlace limit (tokens is) i (misplaced_inside slot (bracket_of l.members) i.token i.from)
    in_bracket First l ls e read =
        subst (ReportsPlace limit (tokens is) i) (first_inside (bracket_of l.members) i.token i.from)
        (member_reports limit is (inside First l ls) i (bracket_of l.members) (at_member limit is p.done (inside First l ls) l ls e refl refl) read)
    in_bracket Next l ls e read =
        subst (ReportsPlace limit (tokens is) i) (next_inside (bracket_of l.members) i.token i.from)
        (member_reports limit is (inside Next l ls) i (bracket_of l.members) (at_member limit is p.done (inside Next l ls) l ls e refl refl) read)
    in_bracket Later l ls e read = inr (inr (inr (inr (
      read,
      may_not_come limit is (progress p.done (inside Later l ls)) (plain dot) e refl,
      may_not_come limit is (progress p.done (inside Later l ls)) (plain some_number) e refl,
      refl,
    ))))

    by_left_out : (slot : Slot) (l : Level) (ls : List Level) → run limit nothing_read is ≡ Ok (progress p.done (inside slot l ls)) → (b : Bool) → is_left_out (bracket_of l.members) i.token ≡ b
        → ReportsPlace limit (tokens is) i (if b then Unsupported i.from else misplaced_inside slot (bracket_of l.members) i.token i.from)
    by_left_out slot l ls e true h = inr (inl (left_out limit is p.done slot l ls i.token e h, refl))
    by_left_out slot l ls e false h = in_bracket slot l ls e (not_left_out limit is (progress p.done (inside slot l ls)) i.token e h)

    go : (s : State) → run limit nothing_read is ≡ Ok (progress p.done s) → ReportsPlace limit (tokens is) i (misplaced s i.token i.from)
    go (whole r) e = inl (dot_comes limit is p.done r e, refl)
    go begun e = inr (inr (inl (not_left_out limit is (progress p.done begun) i.token e refl, name_comes limit is p.done begun [] e refl refl, refl)))
    go (inside slot l ls) e = by_left_out slot l ls e (is_left_out (bracket_of l.members) i.token) refl

-- and no other
pub place_reported : (limit : ℕ) (is : List Item) (p : Progress) (i : Item) (f : TermFault) → run limit nothing_read is ≡ Ok p
    → ReportsPlace limit (tokens is) i f → f ≡ misplaced p.state i.token i.from
place_reported limit is p i f e = go p.state e
  where
    behind_whole : (r : Reading) → run limit nothing_read is ≡ Ok (progress p.done (whole r)) → ReportsPlace limit (tokens is) i f → f ≡ misplaced (whole r) i.token i.from
    behind_whole r e (inl (may, d)) = d
    behind_whole r e (inr (inl (left, d))) = absurd (not_left_out limit is (progress p.done (whole r)) i.token e refl left)
    behind_whole r e (inr (inr (inl (n, may, d)))) = absurd (may_not_come limit is (progress p.done (whole r)) (plain some_name) e refl may)
    behind_whole r e (inr (inr (inr (inl (n, never, may, d))))) = absurd (may_not_come limit is (progress p.done (whole r)) (plain some_number) e refl may)
    behind_whole r e (inr (inr (inr (inr (n, never, neither, d))))) = absurd (never (dot_comes limit is p.done r e))

    behind_member : (l : Level) (ls : List Level) → run limit nothing_read is ≡ Ok (progress p.done (inside Later l ls)) → (IsLeftOut limit (tokens is) i.token → ⊥)
        → ReportsPlace limit (tokens is) i f → f ≡ misplaced_inside Later (bracket_of l.members) i.token i.from
    behind_member l ls e read (inl (may, d)) = absurd (may_not_come limit is (progress p.done (inside Later l ls)) (plain dot) e refl may)
    behind_member l ls e read (inr (inl (left, d))) = absurd (read left)
    behind_member l ls e read (inr (inr (inl (n, may, d)))) = absurd (may_not_come limit is (progress p.done (inside Later l ls)) (plain some_name) e refl may)
    behind_member l ls e read (inr (inr (inr (inl (n, never, may, d))))) = absurd (may_not_come limit is (progress p.done (inside Later l ls)) (plain some_number) e refl may)
    behind_member l ls e read (inr (inr (inr (inr (n, never, neither, d))))) = d

    in_bracket : (slot : Slot) (l : Level) (ls : List Level) → run limit nothing_read is ≡ Ok (progress p.done (inside slot l ls)) → (IsLeftOut limit (tokens is) i.token → ⊥)
        → ReportsPlace limit (tokens is) i f → f ≡ misplaced_inside slot (bracket_of l.members) i.token i.from
    in_bracket First l ls e read reports =
        member_reported limit is (inside First l ls) i (bracket_of l.members) f (at_member limit is p.done (inside First l ls) l ls e refl refl) read reports
        ∙ first_inside (bracket_of l.members) i.token i.from
    in_bracket Next l ls e read reports =
        member_reported limit is (inside Next l ls) i (bracket_of l.members) f (at_member limit is p.done (inside Next l ls) l ls e refl refl) read reports
        ∙ next_inside (bracket_of l.members) i.token i.from
    in_bracket Later l ls e read reports = behind_member l ls e read reports

    unread : (slot : Slot) (l : Level) (ls : List Level) → run limit nothing_read is ≡ Ok (progress p.done (inside slot l ls)) → IsLeftOut limit (tokens is) i.token
        → ReportsPlace limit (tokens is) i f → f ≡ Unsupported i.from
    unread slot l ls e left (inl (may, d)) = absurd (may_not_come limit is (progress p.done (inside slot l ls)) (plain dot) e refl may)
    unread slot l ls e left (inr (inl (left_too, d))) = d
    unread slot l ls e left (inr (inr (inl (n, may, d)))) = absurd (n left)
    unread slot l ls e left (inr (inr (inr (inl (n, never, may, d))))) = absurd (n left)
    unread slot l ls e left (inr (inr (inr (inr (n, never, neither, d))))) = absurd (n left)

    by_left_out : (slot : Slot) (l : Level) (ls : List Level) → run limit nothing_read is ≡ Ok (progress p.done (inside slot l ls)) → (b : Bool) → is_left_out (bracket_of l.members) i.token ≡ b
        → ReportsPlace limit (tokens is) i f → f ≡ (if b then Unsupported i.from else misplaced_inside slot (bracket_of l.members) i.token i.from)
    by_left_out slot l ls e true h reports = unread slot l ls e (left_out limit is p.done slot l ls i.token e h) reports
    by_left_out slot l ls e false h reports = in_bracket slot l ls e (not_left_out limit is (progress p.done (inside slot l ls)) i.token e h) reports

    go : (s : State) → run limit nothing_read is ≡ Ok (progress p.done s) → ReportsPlace limit (tokens is) i f → f ≡ misplaced s i.token i.from
    go (whole r) e reports = behind_whole r e reports
    go begun e reports =
        term_reported limit is i f (name_comes limit is p.done begun [] e refl refl) (number_comes limit is p.done begun [] e refl)
        (may_not_come limit is (progress p.done begun) (plain dot) e refl) (not_left_out limit is (progress p.done begun) i.token e refl) reports
    go (inside slot l ls) e reports = by_left_out slot l ls e (is_left_out (bracket_of l.members) i.token) refl reports
