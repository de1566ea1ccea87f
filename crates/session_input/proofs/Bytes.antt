-- The bytes of an input, one by one.
use Rattle.std.proofs.Common.{◌≡◌, ℕ, suc, ◌+◌, ◌-◌, ◌≤◌, Bool, true, false, List, [], ◌∷◌, ◌++◌, length, Option, None, Some, refl, sym, ap, subst, ◌∙◌, arith}
use Rattle.std.specs.Prelude.{if◌then◌else◌, IsTrue, ◌↔◌, MatchOption, Ok}
use Rattle.std.specs.Option.{option_map}
use Rattle.std.specs.Io.KnownBytes.{prepend_known, Consumes, IsAtEnd, Keeps}
use Rattle.std.proofs.lemmas.Bool.Decides.{nat_tests}
use Rattle.session_input.specs.declared.input.Input.{Input}
use Rattle.session_input.specs.Ahead.{Pending}
use Rattle.session_input.specs.Feed.{bytes_within, Gives, Stays, EndsAs, IsNext}
use Rattle.session_input.specs.Feed.Feed.{over, cut, next}
use Rattle.session_input.specs.Input.{KnowsEnd, bytes_left, left_in, reached, taken}
use Rattle.session_input.proofs.Causes.{before_end}
use Rattle.session_input.proofs.FeedLemmas.{ends_before, gives_before}

-- how far an input was read
after_end : {R : Type 0} (k j : Input R) → k.ahead.is_over ≡ true → j.ahead.is_over ≡ k.ahead.is_over → taken j ≡ taken k → (most : ℕ) → reached j ≤ most → taken k + 1 ≤ most
after_end k j ended too same most le =
    let at : reached j ≡ taken j + 1 = rw (too ∙ ended) refl in
    omega (arith, at, same, le)

within_reach : {R : Type 0} (k j : Input R) → taken j ≡ taken k → (most : ℕ) → reached j ≤ most → taken k ≤ most
within_reach k j same most le = by_end j.ahead.is_over le
  where
    by_end : (b : Bool) → (if b then taken j + 1 else taken j) ≤ most → taken k ≤ most
    by_end true le = omega (arith, same, le)
    by_end false le = omega (arith, same, le)

none_within : (xs : List ℕ) → bytes_within 0 xs ≡ cut
none_within [] = refl
none_within (x ∷ xs) = refl

none_read : (bytes bytes' : List ℕ) (known known' : Option (List ℕ)) → Keeps known known'
    → EndsAs cut (option_map (bytes_within 0) (prepend_known bytes known)) (option_map (bytes_within 0) (prepend_known bytes' known'))
none_read bytes bytes' None known' none = tt
none_read bytes bytes' (Some xs) None none = absurd none
none_read bytes bytes' (Some xs) (Some ys) none = (none_within (bytes ++ xs), none_within (bytes' ++ ys))

-- no byte is read past the bound
pub cut_at_bound : (n n' : ℕ) (bytes bytes' : List ℕ) (known known' : Option (List ℕ)) → n ≡ 0 → n' ≡ 0 → Keeps known known'
    → EndsAs cut (option_map (bytes_within n) (prepend_known bytes known)) (option_map (bytes_within n') (prepend_known bytes' known'))
cut_at_bound n n' bytes bytes' known known' e e' none = rw (e, e') (none_read bytes bytes' known known' none)

pub keeps_itself : (known : Option (List ℕ)) → Keeps known known
keeps_itself None = tt
keeps_itself (Some xs) = refl

-- the first byte comes first, wherever the reading stops after it
within_first : (n b : ℕ) (xs : List ℕ) → bytes_within (suc n) (b ∷ xs) ≡ next b (bytes_within n xs)
within_first n b xs = grind (arith, nat_tests)

pub first_comes : (n m b : ℕ) (bytes : List ℕ) (known : Option (List ℕ)) → n ≡ suc m
    → Gives (option_map (bytes_within n) (prepend_known (b ∷ bytes) known)) (option_map (bytes_within m) (prepend_known bytes known)) (λ x. b ≡ x)
first_comes n m b bytes None e = tt
first_comes n m b bytes (Some xs) e = (b, ap (λ k. bytes_within k (b ∷ (bytes ++ xs))) e ∙ within_first m b (bytes ++ xs), refl)

-- what a read gives comes as it would have come
pub still_comes : (n m : ℕ) (bytes : List ℕ) (known known' : Option (List ℕ)) → n ≡ m → Consumes known known' bytes
    → Stays (option_map (bytes_within n) (prepend_known [] known)) (option_map (bytes_within m) (prepend_known bytes known'))
still_comes n m bytes None known' e c = tt
still_comes n m bytes (Some xs) None e c = absurd c
still_comes n m bytes (Some xs) (Some ys) e c = ap (λ k. bytes_within k (bytes ++ ys)) (sym e) ∙ ap (bytes_within n) (sym c)

none_left : (n : ℕ) → bytes_within (suc n) [] ≡ over
none_left n = grind (arith, nat_tests)

-- at the end nothing comes
pub nothing_comes : (n m k : ℕ) (bytes bytes' : List ℕ) (known : Option (List ℕ)) → n ≡ suc k → m ≡ suc k → bytes ≡ [] → bytes' ≡ [] → IsAtEnd known
    → EndsAs over (option_map (bytes_within n) (prepend_known bytes known)) (option_map (bytes_within m) (prepend_known bytes' known))
nothing_comes n m k bytes bytes' None e e' none none' end = tt
nothing_comes n m k bytes bytes' (Some xs) e e' none none' end = (ends n bytes e none, ends m bytes' e' none')
  where
    ends : (j : ℕ) (bs : List ℕ) → j ≡ suc k → bs ≡ [] → bytes_within j (bs ++ xs) ≡ over
    ends j bs is empty = ap (λ h. bytes_within h (bs ++ xs)) is ∙ ap (λ (l : List ℕ). bytes_within (suc k) (l ++ xs)) empty ∙ ap (bytes_within (suc k)) end ∙ none_left k

-- of an input
module _ {R : Type 0} (remaining : R → Option (List ℕ)) where
  -- where all bytes were used, and none was taken
  pub cut_here : (i j : Input R) → i.ahead.bytes ≡ [] → j.ahead.bytes ≡ [] → taken j ≡ taken i → j.ahead.is_over ≡ false → Keeps (left_in remaining i) (left_in remaining j)
      → EndsAs cut (bytes_left remaining i (reached j)) (bytes_left remaining j (reached j))
  cut_here i j none none' same goes_on keeps =
      let here : reached j ≡ taken j = before_end j goes_on in
      let empty : length i.ahead.bytes ≡ 0 = ap length none in
      let empty' : length j.ahead.bytes ≡ 0 = ap length none' in
      cut_at_bound _ _ _ _ _ _ (omega (arith, here, empty, same)) (omega (arith, here, empty')) keeps

  -- a byte that was there is the next one
  pub takes_first : (k j : Input R) (b most : ℕ) → k.ahead.bytes ≡ b ∷ j.ahead.bytes → taken j ≡ taken k → left_in remaining k ≡ left_in remaining j
      → Gives (bytes_left remaining k most) (bytes_left remaining j most) (λ x. b ≡ x)
  takes_first k j b most first same there =
      let longer : length k.ahead.bytes ≡ suc (length j.ahead.bytes) = ap length first in
      subst (λ (bs : List ℕ). Gives (option_map (bytes_within (length k.ahead.bytes + (most - taken k))) (prepend_known bs (left_in remaining k))) (bytes_left remaining j most) (λ x. b ≡ x)) (sym first)
      (subst (λ (known : Option (List ℕ)). Gives (option_map (bytes_within (length k.ahead.bytes + (most - taken k))) (prepend_known (b ∷ j.ahead.bytes) known)) (bytes_left remaining j most) (λ x. b ≡ x)) (sym there)
      (first_comes _ _ b j.ahead.bytes (left_in remaining j) (omega (arith, longer, same))))

  -- at the end there is none
  pub finds_none : (k j : Input R) (most : ℕ) → k.ahead.bytes ≡ [] → j.ahead.bytes ≡ [] → taken j ≡ taken k → left_in remaining k ≡ left_in remaining j → IsAtEnd (left_in remaining k) → taken k + 1 ≤ most
      → EndsAs over (bytes_left remaining k most) (bytes_left remaining j most)
  finds_none k j most none none' same there end room =
      let empty : length k.ahead.bytes ≡ 0 = ap length none in
      let empty' : length j.ahead.bytes ≡ 0 = ap length none' in
      subst (λ (known : Option (List ℕ)). EndsAs over (bytes_left remaining k most) (option_map (bytes_within (length j.ahead.bytes + (most - taken j))) (prepend_known j.ahead.bytes known))) there
      (nothing_comes _ _ (most - taken k - 1) _ _ _ (omega (arith, empty, room)) (omega (arith, empty', same, room)) none none' end)

  -- What a read gave, the next byte or that there is none, is the next of all.
  pub next_after_read : (i k j : Input R) (o : Option ℕ) → ((most : ℕ) → taken k ≤ most → Stays (bytes_left remaining i most) (bytes_left remaining k most))
      → MatchOption o ((k.ahead.bytes ≡ []) × (j.ahead ≡ k.ahead)) (λ b. k.ahead.bytes ≡ b ∷ j.ahead.bytes) → taken j ≡ taken k → j.ahead.is_over ≡ k.ahead.is_over
      → IsTrue k.ahead.is_over ↔ (k.ahead.bytes ≡ []) → KnowsEnd remaining k → left_in remaining k ≡ left_in remaining j
      → IsNext (λ b x. b ≡ x) (Ok o) (reached j) (bytes_left remaining i) (bytes_left remaining j)
  next_after_read i k j None stays (none, unchanged) same over_too over_is knows there = λ most le.
      let ended : k.ahead.is_over ≡ true = over_is.1 none in
      let room : taken k + 1 ≤ most = after_end k j ended over_too same most le in
      ends_before over _ _ _ (stays most (omega (arith, room))) (finds_none k j most none (ap (λ (a : Pending). a.bytes) unchanged ∙ none) same there (knows ended).1 room)
  next_after_read i k j (Some b) stays first same over_too over_is knows there = λ most le.
      let taken_by : taken k ≤ most = within_reach k j same most le in
      gives_before (λ x. b ≡ x) _ _ _ (stays most taken_by) (takes_first k j b most first same there)
