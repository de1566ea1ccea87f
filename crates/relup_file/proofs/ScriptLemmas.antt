-- Scripts and their faults: what is found in a script is its fault.
use Rattle.std.proofs.Common.{◌≡◌, ℕ, ◌+◌, ◌<◌, suc, Bool, true, false, ◌&&◌, ◌||◌, not, List, [], ◌∷◌, ◌++◌, length, Option, Some, None, if◌then◌else◌, ◌⊎◌, inl, inr, refl, sym, ap, subst, ◌∙◌, arith}
use Rattle.std.specs.Prelude.{is_some, IsTrue, ◌==◌}
use Rattle.std.proofs.lemmas.Bool.Decides.{nat_tests}
use Rattle.std.specs.List.{AllByRecursion}
use Rattle.std.specs.Option.{option_map, option_or}
use Rattle.rel_files.proofs.Options.{mapped, both, both_true}
use Rattle.relup_file.specs.declared.script_fault.ScriptFault.{ScriptFault}
use Rattle.relup_file.specs.declared.script_fault.ScriptFault.TheVariants.{NoPoint, TwoPoints, Misplaced, Unsupported}
use Rattle.relup_file.specs.declared.script.Side.{Side}
use Rattle.relup_file.specs.declared.script.Side.TheVariants.{Early, Late}
use Rattle.relup_instruction.specs.Instruction.{Instruction}
use Rattle.relup_instruction.specs.Instruction.Instruction.{point_of_no_return}
use Rattle.relup_file.specs.Script.{is_point, is_supported, may_precede, may_follow, is_restart, may_stand, IsRight, AreRight, is_end, points, IsRunnable, number_at, fault_at, IsFirstFault, HasWrong, IsScriptFault, split_point, part_fault, split_fault, script_fault}

-- The faults of one side.
right_none : (side : Side) (is_last : Bool) (n : ℕ) (i : Instruction) → IsRight side is_last i → fault_at side is_last n i ≡ None
right_none side is_last n i h =
    let parts = both (is_supported i) (may_stand side is_last i) h in
    ap (λ (b : Bool). if b then (if may_stand side is_last i then None else Some (Misplaced (number_at n))) else Some (Unsupported (number_at n))) parts.0
    ∙ ap (λ (b : Bool). if b then None else Some (Misplaced (number_at n))) parts.1

none_right : (side : Side) (is_last : Bool) (n : ℕ) (i : Instruction) → fault_at side is_last n i ≡ None → IsRight side is_last i
none_right side is_last n i e = go (is_supported i) (may_stand side is_last i) refl refl e
  where
    go : (a b : Bool) → is_supported i ≡ a → may_stand side is_last i ≡ b → (if a then (if b then None else Some (Misplaced (number_at n))) else Some (Unsupported (number_at n))) ≡ None → IsRight side is_last i
    go true true p q f = both_true (is_supported i) (may_stand side is_last i) p q
    go true false p q f = absurd cc
    go false b p q f = absurd cc

all_right : (side : Side) (n : ℕ) (is : List Instruction) → part_fault side n is ≡ None → AreRight side is
all_right side n [] e = tt
all_right side n (i ∷ is) e = go (all_right side (n + 1) is) (fault_at side (is_end is) (n + 1) i) refl e
  where
    go : (part_fault side (n + 1) is ≡ None → AreRight side is) → (o : Option ScriptFault) → fault_at side (is_end is) (n + 1) i ≡ o
        → option_or o (part_fault side (n + 1) is) ≡ None → AreRight side (i ∷ is)
    go more None p q = (none_right side (is_end is) (n + 1) i p, more q)
    go more (Some f) p q = absurd cc

right_all : (side : Side) (n : ℕ) (is : List Instruction) → AreRight side is → part_fault side n is ≡ None
right_all side n [] h = refl
right_all side n (i ∷ is) h =
    ap (λ (o : Option ScriptFault). option_or o (part_fault side (n + 1) is)) (right_none side (is_end is) (n + 1) i h.0) ∙ right_all side (n + 1) is h.1

not_nothing : (n : ℕ) → (suc n == 0) ≡ false
not_nothing n = grind (arith, nat_tests)

-- the end isn't in front of a further instruction
no_end : (front : List Instruction) (wrong : Instruction) (rest : List Instruction) → is_end (front ++ (wrong ∷ rest)) ≡ false
no_end [] wrong rest = not_nothing (length rest)
no_end (i ∷ front) wrong rest = not_nothing (length (front ++ (wrong ∷ rest)))

from_part : (side : Side) (n : ℕ) (is : List Instruction) (f : ScriptFault) → part_fault side n is ≡ Some f → IsFirstFault side n is f
from_part side n [] f e = absurd cc
from_part side n (i ∷ is) f e = go (from_part side (n + 1) is f) (fault_at side (is_end is) (n + 1) i) refl e
  where
    go : (part_fault side (n + 1) is ≡ Some f → IsFirstFault side (n + 1) is f) → (o : Option ScriptFault) → fault_at side (is_end is) (n + 1) i ≡ o
        → option_or o (part_fault side (n + 1) is) ≡ Some f → IsFirstFault side n (i ∷ is) f
    go more (Some g) p q = record { front = []; wrong = i; rest = is; is = refl; right = tt; fault = p ∙ q }
    go more None p q =
        let there = more q in
        let number : n + (suc (length there.front) + 1) ≡ n + 1 + (length there.front + 1) = omega arith in
        let inner : is_end is ≡ false = ap is_end there.is ∙ no_end there.front there.wrong there.rest in
        record {
          front = i ∷ there.front;
          wrong = there.wrong;
          rest = there.rest;
          is = ap (λ (js : List Instruction). i ∷ js) there.is;
          right = (subst (λ b. IsRight side b i) inner (none_right side (is_end is) (n + 1) i p), there.right);
          fault = ap (λ (m : ℕ). fault_at side (is_end there.rest) m there.wrong) number ∙ there.fault;
        }

part_first : (side : Side) (n : ℕ) (front : List Instruction) (wrong : Instruction) (rest : List Instruction) (f : ScriptFault) → AllByRecursion (IsRight side false) front
    → fault_at side (is_end rest) (n + (length front + 1)) wrong ≡ Some f → part_fault side n (front ++ (wrong ∷ rest)) ≡ Some f
part_first side n [] wrong rest f h e = ap (λ (o : Option ScriptFault). option_or o (part_fault side (n + 1) rest)) e
part_first side n (i ∷ front) wrong rest f h e =
    let number : n + 1 + (length front + 1) ≡ n + (suc (length front) + 1) = omega arith in
    let inner : is_end (front ++ (wrong ∷ rest)) ≡ false = no_end front wrong rest in
    ap (λ (o : Option ScriptFault). option_or o (part_fault side (n + 1) (front ++ (wrong ∷ rest)))) (ap (λ (b : Bool). fault_at side b (n + 1) i) inner ∙ right_none side false (n + 1) i h.0)
    ∙ part_first side (n + 1) front wrong rest f h.1 (ap (λ (m : ℕ). fault_at side (is_end rest) m wrong) number ∙ e)

first_part : (side : Side) (n : ℕ) (part : List Instruction) (f : ScriptFault) → IsFirstFault side n part f → part_fault side n part ≡ Some f
first_part side n part f h = ap (part_fault side n) h.is ∙ part_first side n h.front h.wrong h.rest f h.right h.fault

-- What is run on a side may stand there, whether it is the last or not.
pub are_early : (is : List Instruction) → AreRight Early is → AllByRecursion (λ i. IsTrue (is_supported i && may_precede i)) is
are_early [] h = tt
are_early (i ∷ is) h = (h.0, are_early is h.1)

follows_so : (is_last : Bool) (i : Instruction) → IsRight Late is_last i → IsTrue (is_supported i && may_follow i)
follows_so is_last i h =
    let parts = both (is_supported i) (may_stand Late is_last i) h in
    both_true (is_supported i) (may_follow i) parts.0 (both (may_follow i) (is_last || not (is_restart i)) parts.1).0

pub are_late : (is : List Instruction) → AreRight Late is → AllByRecursion (λ i. IsTrue (is_supported i && may_follow i)) is
are_late [] h = tt
are_late (i ∷ is) h = (follows_so (is_end is) i h.0, are_late is h.1)

-- Points of no return.
pub the_point : (i : Instruction) → is_point i ≡ true → i ≡ point_of_no_return
the_point point_of_no_return e = refl
the_point i e = absurd cc

no_point : (side : Side) (is_last : Bool) (i : Instruction) → IsRight side is_last i → is_point i ≡ false
no_point Early is_last point_of_no_return h = absurd cc
no_point Late is_last point_of_no_return h = absurd cc
no_point side is_last i h = refl

pointless : (side : Side) (is : List Instruction) → AreRight side is → points is ≡ 0
pointless side [] h = refl
pointless side (i ∷ is) h = (λ j. (if no_point side (is_end is) i h.0 j then 1 else 0) + pointless side is h.1 j)

points-append : (is js : List Instruction) → points (is ++ js) ≡ points is + points js
points-append [] js = let same : points js ≡ 0 + points js = omega arith in same
points-append (i ∷ is) js =
    let more : points (is ++ js) ≡ points is + points js = points-append is js in
    let own : ℕ = (if is_point i then 1 else 0) in
    let same : own + (points is + points js) ≡ own + points is + points js = omega arith in
    ap (λ (n : ℕ). own + n) more ∙ same

abbrev Halves : Type 0
Halves = List Instruction × List Instruction

abbrev all_behind : List Instruction → Halves
all_behind is = ([], is)

abbrev ahead : Instruction → Halves → Halves
ahead i q = (i ∷ q.0, q.1)

from_split : (is : List Instruction) (p : Halves) → split_point is ≡ Some p → (is ≡ p.0 ++ (point_of_no_return ∷ p.1)) × (points p.0 ≡ 0)
from_split [] p e = absurd cc
from_split (i ∷ is) p e = go (from_split is) (is_point i) refl e
  where
    go : ((q : Halves) → split_point is ≡ Some q → (is ≡ q.0 ++ (point_of_no_return ∷ q.1)) × (points q.0 ≡ 0)) → (b : Bool) → is_point i ≡ b
        → (if b then Some (all_behind is) else option_map (ahead i) (split_point is)) ≡ Some p
        → (i ∷ is ≡ p.0 ++ (point_of_no_return ∷ p.1)) × (points p.0 ≡ 0)
    go more true is_one f =
        let here : Halves = ([], is) in
        let same : here ≡ p = cc in
        let Q : Halves → Type 0 = λ q. (i ∷ is ≡ q.0 ++ (point_of_no_return ∷ q.1)) × (points q.0 ≡ 0) in
        subst Q same (ap (λ (k : Instruction). k ∷ is) (the_point i is_one), refl)
    go more false none f =
        let q = mapped (ahead i) (split_point is) p f in
        let there = more q.0 q.1 in
        let Q : Halves → Type 0 = λ r. (i ∷ is ≡ r.0 ++ (point_of_no_return ∷ r.1)) × (points r.0 ≡ 0) in
        subst Q q.2 (ap (λ (js : List Instruction). i ∷ js) there.0, (λ j. (if none j then 1 else 0) + there.1 j))

split_of : (before after : List Instruction) → points before ≡ 0 → split_point (before ++ (point_of_no_return ∷ after)) ≡ Some (before, after)
split_of [] after h = refl
split_of (i ∷ before) after h = go (split_of before after) (is_point i) refl h
  where
    go : (points before ≡ 0 → split_point (before ++ (point_of_no_return ∷ after)) ≡ Some (before, after)) → (b : Bool) → is_point i ≡ b
        → (if b then 1 else 0) + points before ≡ 0 → split_point (i ∷ (before ++ (point_of_no_return ∷ after))) ≡ Some (i ∷ before, after)
    go more true is_one f = absurd (omega arith)
    go more false none f =
        let less : points before ≡ 0 = omega arith in
        ap (λ (b : Bool). if b then Some (all_behind (before ++ (point_of_no_return ∷ after))) else option_map (ahead i) (split_point (before ++ (point_of_no_return ∷ after)))) none
        ∙ ap (option_map (ahead i)) (more less)

no_split : (is : List Instruction) → split_point is ≡ None → points is ≡ 0
no_split [] e = refl
no_split (i ∷ is) e = go (no_split is) (is_point i) refl e
  where
    unmapped : (o : Option Halves) → option_map (ahead i) o ≡ None → o ≡ None
    unmapped None f = refl
    unmapped (Some q) f = absurd cc

    go : (split_point is ≡ None → points is ≡ 0) → (b : Bool) → is_point i ≡ b
        → (if b then Some (all_behind is) else option_map (ahead i) (split_point is)) ≡ None → points (i ∷ is) ≡ 0
    go more true is_one f = absurd cc
    go more false none f = let there = more (unmapped (split_point is) f) in (λ j. (if none j then 1 else 0) + there j)

-- how many points a script has that is split so
points_split : (is : List Instruction) (p : Halves) → split_point is ≡ Some p → points is ≡ 1 + points p.1
points_split is p e =
    let there = from_split is p e in
    let count : points is ≡ points p.0 + (1 + points p.1) = ap points there.0 ∙ points-append p.0 (point_of_no_return ∷ p.1) in
    let none : points p.0 ≡ 0 = there.1 in
    omega (arith, count, none)

some_split : (is : List Instruction) → 0 < points is → is_some (split_point is) ≡ true
some_split is h = go (split_point is) refl
  where
    go : (o : Option Halves) → split_point is ≡ o → is_some (split_point is) ≡ true
    go None e = let none : points is ≡ 0 = no_split is e in absurd (omega (arith, none))
    go (Some p) e = ap is_some e

none_split : (is : List Instruction) → points is ≡ 0 → split_point is ≡ None
none_split is h = go (split_point is) refl
  where
    go : (o : Option Halves) → split_point is ≡ o → split_point is ≡ None
    go None e = e
    go (Some p) e = let more : points is ≡ 1 + points p.1 = points_split is p e in absurd (omega (arith, more))

-- a split script without a further point
abbrev sides : Halves → Option ScriptFault
sides p = option_or (part_fault Early 0 p.0) (part_fault Late (length p.0 + 1) p.1)

alone : (script before after : List Instruction) → script ≡ before ++ (point_of_no_return ∷ after) → points before ≡ 0 → points after ≡ 0 → script_fault script ≡ sides (before, after)
alone script before after is early late =
    ap script_fault is
    ∙ (ap split_fault (split_of before after early)
    ∙ ap (λ (o : Option Halves). if is_some o then Some TwoPoints else sides (before, after)) (none_split after late))

pub is_runnable : (script : List Instruction) → IsRunnable script → script_fault script ≡ None
is_runnable script h =
    alone script h.before h.after h.is (pointless Early h.before h.early) (pointless Late h.after h.late)
    ∙ (λ j. option_or (right_all Early 0 h.before h.early j) (right_all Late (length h.before + 1) h.after h.late j))

neither : (a b : Option ScriptFault) → option_or a b ≡ None → (a ≡ None) × (b ≡ None)
neither None b e = (refl, e)
neither (Some f) b e = absurd cc

pub runnable : (script : List Instruction) → script_fault script ≡ None → IsRunnable script
runnable script e = go (split_point script) refl e
  where
    split : (p : Halves) → split_point script ≡ Some p → (b : Bool) → (if b then Some TwoPoints else sides p) ≡ None → IsRunnable script
    split p is true f = absurd cc
    split p is false f =
        let there = neither (part_fault Early 0 p.0) (part_fault Late (length p.0 + 1) p.1) f in
        record { before = p.0; after = p.1; is = (from_split script p is).0; early = all_right Early 0 p.0 there.0; late = all_right Late (length p.0 + 1) p.1 there.1 }

    go : (o : Option Halves) → split_point script ≡ o → split_fault o ≡ None → IsRunnable script
    go None is f = absurd cc
    go (Some p) is f = split p is (is_some (split_point p.1)) f

-- the fault of an instruction is one of two
at_instruction : (side : Side) (is_last : Bool) (n : ℕ) (i : Instruction) (f : ScriptFault) → fault_at side is_last n i ≡ Some f → (f ≡ Misplaced (number_at n)) ⊎ (f ≡ Unsupported (number_at n))
at_instruction side is_last n i f e = go (is_supported i) (may_stand side is_last i) e
  where
    go : (a b : Bool) → (if a then (if b then None else Some (Misplaced (number_at n))) else Some (Unsupported (number_at n))) ≡ Some f → (f ≡ Misplaced (number_at n)) ⊎ (f ≡ Unsupported (number_at n))
    go true true q = absurd cc
    go true false q = let same : Misplaced (number_at n) ≡ f = cc in inl (sym same)
    go false b q = let same : Unsupported (number_at n) ≡ f = cc in inr (sym same)

reports_wrong : (script : List Instruction) (f : ScriptFault) (n : ℕ) → HasWrong script f → (f ≡ Misplaced n) ⊎ (f ≡ Unsupported n) → IsScriptFault script f
reports_wrong script f n h (inl same) = subst (IsScriptFault script) (sym same) (subst (HasWrong script) same h)
reports_wrong script f n h (inr same) = subst (IsScriptFault script) (sym same) (subst (HasWrong script) same h)

pub fault_is : (script : List Instruction) (f : ScriptFault) → script_fault script ≡ Some f → IsScriptFault script f
fault_is script f e = go (split_point script) refl e
  where
    on_sides : (p : Halves) → split_point script ≡ Some p → points script ≡ 1 → (o : Option ScriptFault) → part_fault Early 0 p.0 ≡ o
        → option_or o (part_fault Late (length p.0 + 1) p.1) ≡ Some f → IsScriptFault script f
    on_sides p is one (Some g) early q =
        let first = from_part Early 0 p.0 f (early ∙ q) in
        reports_wrong script f (number_at (0 + (length first.front + 1))) (record { before = p.0; after = p.1; is = (from_split script p is).0; one = one; first = inl first })
        (at_instruction Early (is_end first.rest) (0 + (length first.front + 1)) first.wrong f first.fault)
    on_sides p is one None early q =
        let first = from_part Late (length p.0 + 1) p.1 f q in
        reports_wrong script f (number_at (length p.0 + 1 + (length first.front + 1)))
        (record { before = p.0; after = p.1; is = (from_split script p is).0; one = one; first = inr (all_right Early 0 p.0 early, first) })
        (at_instruction Late (is_end first.rest) (length p.0 + 1 + (length first.front + 1)) first.wrong f first.fault)

    behind : (p : Halves) → split_point script ≡ Some p → (o : Option Halves) → split_point p.1 ≡ o → (if is_some o then Some TwoPoints else sides p) ≡ Some f → IsScriptFault script f
    behind p is (Some q) more g =
        let same : TwoPoints ≡ f = cc in
        let first : points script ≡ 1 + points p.1 = points_split script p is in
        let second : points p.1 ≡ 1 + points q.1 = points_split p.1 q more in
        let two : 1 < points script = omega (arith, first, second) in
        subst (IsScriptFault script) same two
    behind p is None more g =
        let first : points script ≡ 1 + points p.1 = points_split script p is in
        let none : points p.1 ≡ 0 = no_split p.1 more in
        let one : points script ≡ 1 = omega (arith, first, none) in
        on_sides p is one (part_fault Early 0 p.0) refl g

    go : (o : Option Halves) → split_point script ≡ o → split_fault o ≡ Some f → IsScriptFault script f
    go None is g = let same : NoPoint ≡ f = cc in subst (IsScriptFault script) same (no_split script is)
    go (Some p) is g = behind p is (split_point p.1) refl g

wrong : (script : List Instruction) (f : ScriptFault) → HasWrong script f → script_fault script ≡ Some f
wrong script f h =
    alone script h.before h.after h.is early late ∙ go h.first
  where
    count : 1 ≡ points h.before + (1 + points h.after)
    count = sym h.one ∙ (ap points h.is ∙ points-append h.before (point_of_no_return ∷ h.after))

    early : points h.before ≡ 0
    early = omega (arith, count)

    late : points h.after ≡ 0
    late = omega (arith, count)

    go : IsFirstFault Early 0 h.before f ⊎ (AreRight Early h.before × IsFirstFault Late (length h.before + 1) h.after f) → sides (h.before, h.after) ≡ Some f
    go (inl first) = ap (λ (o : Option ScriptFault). option_or o (part_fault Late (length h.before + 1) h.after)) (first_part Early 0 h.before f first)
    go (inr (right, first)) = (λ j. option_or (right_all Early 0 h.before right j) (first_part Late (length h.before + 1) h.after f first j))

pub is_fault : (script : List Instruction) (f : ScriptFault) → IsScriptFault script f → script_fault script ≡ Some f
is_fault script NoPoint h = ap split_fault (none_split script h)
is_fault script TwoPoints h = go (split_point script) refl
  where
    go : (o : Option Halves) → split_point script ≡ o → script_fault script ≡ Some TwoPoints
    go None e = let none : points script ≡ 0 = no_split script e in absurd (omega (arith, none))
    go (Some p) e =
        let first : points script ≡ 1 + points p.1 = points_split script p e in
        let more : 0 < points p.1 = omega (arith, first) in
        ap split_fault e ∙ ap (λ (b : Bool). if b then Some TwoPoints else sides p) (some_split p.1 more)
is_fault script (Misplaced n) h = wrong script (Misplaced n) h
is_fault script (Unsupported n) h = wrong script (Unsupported n) h

-- The clauses of a function that reports the fault.
pub not_runnable : (script : List Instruction) (f : ScriptFault) → Some f ≡ script_fault script → IsRunnable script → ⊥
not_runnable script f is h = let none = is_runnable script h in absurd cc

pub reports_one : (script : List Instruction) (f : ScriptFault) → Some f ≡ script_fault script → (g : ScriptFault) → (f ≡ g → IsScriptFault script g) × (IsScriptFault script g → f ≡ g)
reports_one script f is g = (λ same. fault_is script g (sym is ∙ ap Some same), λ h. let other = is_fault script g h in cc)

pub reports_none : (script : List Instruction) → None ≡ script_fault script → (g : ScriptFault) → IsScriptFault script g → ⊥
reports_none script is g h = let other = is_fault script g h in absurd cc

-- Each of these may stand after the point, whether it is run or not.
abbrev pub MayFollow : List Instruction → Type 0
MayFollow [] = Unit {0}
MayFollow (i ∷ is) = (may_stand Late (is_end is) i ≡ true) × MayFollow is

-- A script with one point, after which each stands where it may, has no fault but instructions that can't be run.
all_early : (is : List Instruction) → AllByRecursion (λ i. (is_supported i && may_precede i) ≡ true) is → AreRight Early is
all_early [] h = tt
all_early (i ∷ is) h = (h.0, all_early is h.1)

follows : (is_last : Bool) (i : Instruction) → may_stand Late is_last i ≡ true → is_point i ≡ false
follows is_last point_of_no_return e = absurd cc
follows is_last i e = refl

no_points_behind : (is : List Instruction) → MayFollow is → points is ≡ 0
no_points_behind [] h = refl
no_points_behind (i ∷ is) h = (λ j. (if follows (is_end is) i h.0 j then 1 else 0) + no_points_behind is h.1 j)

late_unsupported : (n : ℕ) (is : List Instruction) (f : ScriptFault) → MayFollow is → part_fault Late n is ≡ Some f → (m : ℕ) × (f ≡ Unsupported m)
late_unsupported n [] f h e = absurd cc
late_unsupported n (i ∷ is) f h e = go (late_unsupported (n + 1) is f h.1) (is_supported i) (may_stand Late (is_end is) i) h.0 e
  where
    go : (part_fault Late (n + 1) is ≡ Some f → (m : ℕ) × (f ≡ Unsupported m)) → (a b : Bool) → b ≡ true
        → option_or (if a then (if b then None else Some (Misplaced (number_at (n + 1)))) else Some (Unsupported (number_at (n + 1)))) (part_fault Late (n + 1) is) ≡ Some f
        → (m : ℕ) × (f ≡ Unsupported m)
    go more true true p q = more q
    go more true false p q = absurd cc
    go more false b p q = (number_at (n + 1), cc)

pub only_unsupported : (script before after : List Instruction) → script ≡ before ++ (point_of_no_return ∷ after)
    → AllByRecursion (λ i. (is_supported i && may_precede i) ≡ true) before → MayFollow after
    → (f : ScriptFault) → IsScriptFault script f → (n : ℕ) × (f ≡ Unsupported n)
only_unsupported script before after is early late f h =
    let right = all_early before early in
    late_unsupported (length before + 1) after f late
    (sym (ap (λ (o : Option ScriptFault). option_or o (part_fault Late (length before + 1) after)) (right_all Early 0 before right))
    ∙ (sym (alone script before after is (pointless Early before right) (no_points_behind after late)) ∙ is_fault script f h))
