-- A text has one fault.
use Rattle.std.proofs.Common.{◌≡◌, ℕ, ◌⊎◌, inl, inr, List, [], ◌∷◌, ◌++◌, length, Ok, refl, sym, ◌∙◌, ap, subst, append_assoc}
use Rattle.std.proofs.lemmas.List.{map-append}
use Rattle.erl_number.specs.declared.fault.TermFault.{TermFault}
use Rattle.erl_number.specs.declared.fault.TermFault.TheVariants.{Unclosed}
use Rattle.erl_token.specs.Lexing.{Token, Item, items_of}
use Rattle.erl_token.specs.Lexing.Token.{dot, broken, cut}
use Rattle.erl_term.specs.Grammar.{tokens, Reading}
use Rattle.erl_term.specs.Faults.{Viable, MayCome, Reports, ReportsOwn, ReportsCut, ReportsPlace, IsMisplaced, ReportsEnd, IsInnermost, IsFault}
use Rattle.erl_term.specs.Machine.{State, run, nothing_read}
use Rattle.erl_term.specs.Machine.State.{whole}
use Rattle.erl_term.proofs.Passes.{progress}
use Rattle.erl_term.proofs.Viability.{plain, viable_prefix, viable_runs, may_not_come}
use Rattle.erl_term.proofs.Innermost.{whole_has_none, one_innermost}
use Rattle.erl_term.proofs.Refusals.{place_reported}
use Rattle.erl_term.proofs.Places.{AreSame, IsBefore, places}

came : (limit : ℕ) (is before after : List Item) (i : Item) → is ≡ before ++ (i ∷ after) → Viable limit (tokens is) → MayCome limit (tokens before) i.token
came limit is before after i split viable =
    viable_prefix limit (tokens before ++ i.token ∷ []) (tokens after)
    (subst (λ ts. Viable limit ts) (ap tokens split ∙ (map-append (λ i. i.token) before (i ∷ after) ∙ sym (append_assoc (tokens before) (i.token ∷ []) (tokens after)))) viable)

-- a dot may come after a whole term alone
whole_at_dot : (limit : ℕ) (is : List Item) → MayCome limit (tokens is) dot → (done : List Reading) × (r : Reading) × (run limit nothing_read is ≡ Ok (progress done (whole r)))
whole_at_dot limit is may =
    let (p, runs) = viable_runs limit is (viable_prefix limit (tokens is) (dot ∷ []) may) in
    go p.done p.state runs
  where
    go : (done : List Reading) (s : State) → run limit nothing_read is ≡ Ok (progress done s) → (done : List Reading) × (r : Reading) × (run limit nothing_read is ≡ Ok (progress done (whole r)))
    go done (whole r) runs = (done, r, runs)
    go done s runs = absurd (may_not_come limit is (progress done s) (plain dot) runs refl may)

-- the place of a token reports one fault
one_place : (limit : ℕ) (is : List Item) (i : Item) (f g : TermFault) → Viable limit (tokens is) → ReportsPlace limit (tokens is) i f → ReportsPlace limit (tokens is) i g → f ≡ g
one_place limit is i f g viable p q =
    let (read, runs) = viable_runs limit is viable in
    place_reported limit is read i f runs p ∙ sym (place_reported limit is read i g runs q)

-- the end within what begins there reports one fault
one_cut : (is : List Item) (at : ℕ) (f g : TermFault) → ReportsCut is at f → ReportsCut is at g → f ≡ g
one_cut is at f g (inl (i, innermost, d)) (inl (j, innermost_too, e)) = d ∙ ((λ k. Unclosed (one_innermost is i j innermost innermost_too k).from) ∙ sym e)
one_cut is at f g (inl (i, innermost, d)) (inr (none, e)) = absurd (none i innermost)
one_cut is at f g (inr (none, d)) (inl (i, innermost, e)) = absurd (none i innermost)
one_cut is at f g (inr (none, d)) (inr (none_too, e)) = d ∙ sym e

-- A token that can't follow these reports one fault: its own, or that of its place.
one_of_both : (P : Type 0) (Own Q : TermFault → Type 0) (f g : TermFault) → ((f g : TermFault) → Own f → Own g → f ≡ g) → ((f g : TermFault) → Q f → Q g → f ≡ g)
    → (P × Own f) ⊎ ((P → ⊥) × Q f) → (P × Own g) ⊎ ((P → ⊥) × Q g) → f ≡ g
one_of_both P Own Q f g one_own one (inl (may, d)) (inl (may_too, e)) = one_own f g d e
one_of_both P Own Q f g one_own one (inl (may, d)) (inr (never, q)) = absurd (never may)
one_of_both P Own Q f g one_own one (inr (never, p)) (inl (may, e)) = absurd (never may)
one_of_both P Own Q f g one_own one (inr (never, p)) (inr (never_too, q)) = one f g p q

one_of_place : (f g : TermFault) (Q : TermFault → Type 0) → ((f g : TermFault) → Q f → Q g → f ≡ g) → ⊥ ⊎ (Unit {0} × Q f) → ⊥ ⊎ (Unit {0} × Q g) → f ≡ g
one_of_place f g Q one (inl never) q = absurd never
one_of_place f g Q one (inr p) (inl never) = absurd never
one_of_place f g Q one (inr (u, p)) (inr (v, q)) = one f g p q

one_reported : (limit : ℕ) (is : List Item) (i : Item) (t : Token) (f g : TermFault) → Viable limit (tokens is)
    → ReportsOwn limit is i.from t f ⊎ (IsMisplaced limit (tokens is) t × ReportsPlace limit (tokens is) i f)
    → ReportsOwn limit is i.from t g ⊎ (IsMisplaced limit (tokens is) t × ReportsPlace limit (tokens is) i g) → f ≡ g
one_reported limit is i (broken like own) f g viable p q =
    one_of_both (MayCome limit (tokens is) like) (λ f. f ≡ own) (ReportsPlace limit (tokens is) i) f g (λ f g d e. d ∙ sym e) (λ f g. one_place limit is i f g viable) p q
one_reported limit is i (cut like) f g viable p q =
    one_of_both (MayCome limit (tokens is) like) (ReportsCut is i.from) (ReportsPlace limit (tokens is) i) f g (one_cut is i.from) (λ f g. one_place limit is i f g viable) p q
one_reported limit is i t f g viable p q = one_of_place f g (ReportsPlace limit (tokens is) i) (λ f g. one_place limit is i f g viable) p q

-- where a dot may come no bracket is open
none_open : (limit : ℕ) (is : List Item) (i : Item) → MayCome limit (tokens is) dot → IsInnermost is i → ⊥
none_open limit is i may innermost = let (done, r, runs) = whole_at_dot limit is may in whole_has_none limit is done r runs i innermost

-- the end reports one fault
one_end : (limit size : ℕ) (is : List Item) (f g : TermFault) → ReportsEnd limit size is f → ReportsEnd limit size is g → f ≡ g
one_end limit size is f g (inl (may, d)) (inl (may_too, e)) = d ∙ sym e
one_end limit size is f g (inl (may, d)) (inr (i, innermost, e)) = absurd (none_open limit is i may innermost)
one_end limit size is f g (inr (i, innermost, d)) (inl (may, e)) = absurd (none_open limit is i may innermost)
one_end limit size is f g (inr (i, innermost, d)) (inr (j, innermost_too, e)) = d ∙ ((λ k. Unclosed (one_innermost is i j innermost innermost_too k).from) ∙ sym e)

-- No text has two faults.
pub one_fault : (limit : ℕ) (bytes : List ℕ) (f g : TermFault) → IsFault limit bytes f → IsFault limit bytes g → f ≡ g
one_fault limit bytes f g (inr (viable, unfinished, p)) (inr (viable_too, unfinished_too, q)) = one_end limit (length bytes) (items_of bytes) f g p q
one_fault limit bytes f g (inl (before, after, i, split, front, may_not, p)) (inr (viable, unfinished, q)) = absurd (may_not (came limit (items_of bytes) before after i split viable))
one_fault limit bytes f g (inr (viable, unfinished, p)) (inl (before, after, i, split, front, may_not, q)) = absurd (may_not (came limit (items_of bytes) before after i split viable))
one_fault limit bytes f g (inl (before, after, i, split, front, may_not, p)) (inl (x, y, j, parts, front_too, may_not_too, q)) = go (places before after x y i j (sym split ∙ parts))
  where
    go : AreSame before after x y i j ⊎ (IsBefore before after x y i j ⊎ IsBefore x y before after j i) → f ≡ g
    go (inl s) =
        let moved : Reports limit before i g = subst (λ b. Reports limit b i g) (sym s.before) (subst (λ k. Reports limit x k g) (sym s.here) q) in
        one_reported limit before i i.token f g front p moved
    go (inr (inl s)) = absurd (may_not (came limit x before s.between i s.further front_too))
    go (inr (inr s)) = absurd (may_not_too (came limit before x s.between j s.further front))
