-- The first finding of the earliest check, as findings come one by one.
use Rattle.std.proofs.Common.{◌≡◌, ◌<◌, ◌≤◌, ◌+◌, ℕ, Bool, true, false, cond, nat_lt, List, [], ◌∷◌, ◌++◌, Option, Some, None, refl, sym, ap, ◌∙◌, append_assoc, arith, length, take, get_or, subst}
use Rattle.std.specs.List.{AllByRecursion}
use Rattle.std.specs.Option.{option_map}
use Rattle.std.proofs.lemmas.List.{map_push, take_more}
use Rattle.relup_lint.specs.declared.refusal.Finding.{Finding}
use Rattle.relup_lint.specs.Memory.{all_findings, finding_of}
use Rattle.std.proofs.lemmas.Bool.Decides.{nat_tests}
use Rattle.relup_lint.specs.Findings.{FindingForm, checks_of, IsReported, is_earlier}

-- a property of the one list and of the other
both : (P : FindingForm → Type 0) (fs gs : List FindingForm) → AllByRecursion P fs → AllByRecursion P gs → AllByRecursion P (fs ++ gs)
both P [] gs a b = b
both P (f ∷ fs) gs a b = (a.0, both P fs gs a.1 b)

weaker : (P Q : FindingForm → Type 0) → ((f : FindingForm) → P f → Q f) → (fs : List FindingForm) → AllByRecursion P fs → AllByRecursion Q fs
weaker P Q w [] a = tt
weaker P Q w (f ∷ fs) a = (w f a.0, weaker P Q w fs a.1)

through : (a b c : ℕ) → a < b → b ≤ c → a < c
through a b c p q = omega arith

through_both : (a b c : ℕ) → a < b → b < c → a < c
through_both a b c p q = omega arith

below : (a b : ℕ) → nat_lt a b ≡ true → a < b
below a b is = grind (arith, nat_tests)

not_below : (a b : ℕ) → nat_lt a b ≡ false → b ≤ a
not_below a b is = grind (arith, nat_tests)

-- one finding more
pub reported_more : (fs : List FindingForm) (o : Option FindingForm) (f : FindingForm) (b : Bool) → is_earlier f o ≡ b → IsReported fs o → IsReported (fs ++ (f ∷ [])) (cond b (Some f) o)
reported_more fs None f true is r = record { before = []; after = []; are = ap (λ gs. gs ++ (f ∷ [])) r; later = tt; no_earlier = tt }
reported_more fs None f false is r = absurd cc
reported_more fs (Some e) f true is r =
    let less = below (checks_of f) (checks_of e) is in
    record {
      before = fs;
      after = [];
      are = refl;
      later = subst_all fs (r.before ++ (e ∷ r.after)) (sym r.are)
          (both _ r.before (e ∷ r.after)
          (weaker _ _ (λ g k. through_both (checks_of f) (checks_of e) (checks_of g) less k) r.before r.later)
          (less, weaker _ _ (λ g k. through (checks_of f) (checks_of e) (checks_of g) less k) r.after r.no_earlier));
      no_earlier = tt;
    }
  where
    subst_all : (gs hs : List FindingForm) → hs ≡ gs → AllByRecursion (λ (g : FindingForm). checks_of f < checks_of g) hs → AllByRecursion (λ (g : FindingForm). checks_of f < checks_of g) gs
    subst_all gs hs same a = rw (← same) a
reported_more fs (Some e) f false is r = record {
  before = r.before;
  after = r.after ++ (f ∷ []);
  are = ap (λ gs. gs ++ (f ∷ [])) r.are ∙ append_assoc r.before (e ∷ r.after) (f ∷ []);
  later = r.later;
  no_earlier = both _ r.after (f ∷ []) r.no_earlier (not_below (checks_of f) (checks_of e) is, tt);
}

picked : (b : Bool) (f : Finding) (o : Option Finding) → cond b (Some (finding_of f)) (option_map finding_of o) ≡ option_map finding_of (cond b (Some f) o)
picked true f o = refl
picked false f o = refl

-- one finding more, as they lie in memory
pub next_reported : (found : List Finding) (i : ℕ) (d : Finding) (o picks : Option Finding) (b : Bool) → i < length found
    → b ≡ is_earlier (finding_of (get_or found i d)) (option_map finding_of o) → picks ≡ cond b (Some (get_or found i d)) o
    → IsReported (all_findings (take i found)) (option_map finding_of o) → IsReported (all_findings (take (i + 1) found)) (option_map finding_of picks)
next_reported found i d o picks b within is same so_far =
    let f = get_or found i d in
    let more : all_findings (take (i + 1) found) ≡ all_findings (take i found) ++ (finding_of f ∷ []) =
    ap all_findings (take_more found i d within) ∙ map_push finding_of (take i found) f in
    subst (λ (fs : List FindingForm). IsReported fs (option_map finding_of picks)) (sym more)
    (subst (λ (p : Option FindingForm). IsReported (all_findings (take i found) ++ (finding_of f ∷ [])) p) (picked b f o ∙ ap (option_map finding_of) (sym same))
    (reported_more (all_findings (take i found)) (option_map finding_of o) (finding_of f) b (sym is) so_far))
