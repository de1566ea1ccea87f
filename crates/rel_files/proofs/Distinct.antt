-- Names that stand twice, and names that don't.
use Rattle.std.proofs.Common.{◌≡◌, append-nil, append_assoc, Ordering, Less, Equal, Greater, ℕ, suc, ◌+◌, ◌<◌, ◌⊎◌, inl, inr, Bool, true, false, ◌||◌, List, [], ◌∷◌, ◌++◌, map, length, take, drop, get_or, string_bytes, Contains, Bor, add-one, refl, sym, ap, subst, ◌∙◌, true≢false, arith}
use Rattle.std.specs.List.{list_any}
use Rattle.std.specs.Str.{bytes_eq}
use Rattle.std.specs.Ordering.{is_eq, match_ordering, nat_cmp}
use Rattle.std.specs.Cmp.Lexicographic.{slice_cmp}
use Rattle.std.specs.BTreeMap.{is_at}
use Rattle.std.specs.BTreeSet.{insert_key}
use Rattle.std.proofs.lemmas.Cmp.{nat_list_eq_equiv}
use Rattle.std.proofs.lemmas.List.{map_push, map-append, take_more, take-append-drop}
use Rattle.std.proofs.lemmas.List.Elements.{Contains-get_or, Contains-append_left, Contains-append_right, Contains-append_cases, Contains-push, Contains-push_cases}
use Rattle.std.proofs.lemmas.List.Folds.{list_any-append}
use Rattle.std.proofs.lemmas.Map.Text.{is_eq-slice_cmp}
use Rattle.std.proofs.lemmas.Map.Views.{Contains-from_any, list_any-from_Contains}
use Rattle.std.proofs.lemmas.Slice.Eq.{bytes_eq-Decides}
use Rattle.std.proofs.Math.Seq.{drop-cons}
use Rattle.erl_term.proofs.Places.{AreSame, IsBefore, places}
use Rattle.rel_files.specs.declared.draft.AppDraft.{AppDraft}
use Rattle.rel_files.specs.Name.{AreDistinct, IsFirstTwice}

-- the names of applications
abbrev pub names : List AppDraft → List (List ℕ)
names as' = map (λ (a : AppDraft). string_bytes a.name) as'

-- the texts that references are to
abbrev pub texts : List (Bor (List ℕ)) → List (List ℕ)
texts ks = map (λ (k : Bor (List ℕ)). k.now) ks

-- whether a name is among these
abbrev pub is_listed : List ℕ → List (List ℕ) → Bool
is_listed n ns = list_any (bytes_eq n) ns

-- whether a set of references has a name, as the set tests it
abbrev pub is_seen : List ℕ → List (Bor (List ℕ)) → Bool
is_seen n ks = list_any (is_at (λ (k : Bor (List ℕ)). slice_cmp nat_cmp n k.now)) ks

found : (n : List ℕ) (ns : List (List ℕ)) → is_listed n ns ≡ true → Contains ns n
found n ns is = Contains-from_any (λ x y e. (bytes_eq-Decides x y).0 e) n ns is

not_found : (n : List ℕ) (ns : List (List ℕ)) → is_listed n ns ≡ false → Contains ns n → ⊥
not_found n ns is c = true≢false (sym (list_any-from_Contains nat_list_eq_equiv n ns c) ∙ is)

or_same : (a b x : Bool) → a ≡ b → (b || x) ≡ (a || (b || x))
or_same true b x is = ap (λ c. c || x) (sym is)
or_same false b x is = refl

or_swap : (a b x : Bool) → (a || (b || x)) ≡ (b || (a || x))
or_swap true true x = refl
or_swap true false x = refl
or_swap false b x = refl

or_last : (a x : Bool) → (x || (a || false)) ≡ (a || x)
or_last true true = refl
or_last true false = refl
or_last false true = refl
or_last false false = refl

-- a set of references has a further name, once it is inserted, and those that it had
is_seen-insert : (q : List ℕ) (ks : List (Bor (List ℕ))) (n : Bor (List ℕ))
    → is_seen q (insert_key (λ (x y : Bor (List ℕ)). slice_cmp nat_cmp x.now y.now) ks n) ≡ (bytes_eq q n.now || is_seen q ks)
is_seen-insert q [] n = ap (λ b. b || false) (is_eq-slice_cmp q n.now)
is_seen-insert q (k ∷ ks) n = go (slice_cmp nat_cmp n.now k.now) refl (is_seen-insert q ks n)
  where
    put : List (Bor (List ℕ))
    put = insert_key (λ (x y : Bor (List ℕ)). slice_cmp nat_cmp x.now y.now) ks n

    go : (o : Ordering) → slice_cmp nat_cmp n.now k.now ≡ o → is_seen q put ≡ (bytes_eq q n.now || is_seen q ks)
        → is_seen q (match_ordering o (n ∷ k ∷ ks) (k ∷ ks) (k ∷ put)) ≡ (bytes_eq q n.now || is_seen q (k ∷ ks))
    go Less is rest = ap (λ b. b || is_seen q (k ∷ ks)) (is_eq-slice_cmp q n.now)
    go Equal is rest =
        let same : n.now ≡ k.now = (bytes_eq-Decides n.now k.now).0 (sym (is_eq-slice_cmp n.now k.now) ∙ ap is_eq is) in
        or_same (bytes_eq q n.now) _ (is_seen q ks) (ap (bytes_eq q) same ∙ sym (is_eq-slice_cmp q k.now))
    go Greater is rest =
        ap (λ b. is_eq (slice_cmp nat_cmp q k.now) || b) rest ∙ or_swap (is_eq (slice_cmp nat_cmp q k.now)) (bytes_eq q n.now) (is_seen q ks)

-- names, with one more
is_listed-push : (q : List ℕ) (ns : List (List ℕ)) (n : List ℕ) → is_listed q (ns ++ n ∷ []) ≡ (bytes_eq q n || is_listed q ns)
is_listed-push q ns n = list_any-append (bytes_eq q) ns (n ∷ []) ∙ or_last (bytes_eq q n) (is_listed q ns)

-- a further name, that isn't there yet
AreDistinct-push : (ns : List (List ℕ)) (n : List ℕ) → AreDistinct ns → (Contains ns n → ⊥) → AreDistinct (ns ++ n ∷ [])
AreDistinct-push [] n distinct new = (new, tt)
AreDistinct-push (m ∷ ms) n distinct new =
    (λ c. apart (Contains-push_cases ms n m c), AreDistinct-push ms n distinct.1 (λ c. new (Contains-append_right (m ∷ []) ms n c)))
  where
    apart : Contains ms m ⊎ (n ≡ m) → ⊥
    apart (inl later) = distinct.0 later
    apart (inr same) = new (subst (Contains (m ∷ ms)) (sym same) (Contains-get_or (m ∷ ms) 0 m (omega arith)))

-- the first so many names, and one more
texts-more : (as' : List (Bor (List ℕ))) (i : ℕ) (a : Bor (List ℕ)) → i < length as' → get_or as' i a ≡ a
    → texts (take (i + 1) as') ≡ texts (take i as') ++ a.now ∷ []
texts-more as' i a within is =
    ap texts (take_more as' i a within ∙ ap (λ b. take i as' ++ b ∷ []) is)
    ∙ map_push (λ (b : Bor (List ℕ)). b.now) (take i as') a

-- the names are those up to the place of one, that one, and those after it
texts-split : (as' : List (Bor (List ℕ))) (i : ℕ) (a : Bor (List ℕ)) → i < length as' → get_or as' i a ≡ a
    → texts as' ≡ texts (take i as') ++ (a.now ∷ texts (drop (i + 1) as'))
texts-split as' i a within is =
    ap texts (sym (take-append-drop i as') ∙ ap (λ l. take i as' ++ l) (drop-cons as' i a within ∙ ap (λ b. b ∷ drop (suc i) as') is))
    ∙ map-append (λ (b : Bor (List ℕ)). b.now) (take i as') (a ∷ drop (suc i) as')
    ∙ ap (λ j. texts (take i as') ++ (a.now ∷ texts (drop j as'))) (sym (add-one i))

-- the first name twice, from what stands before it
pub twice_at : (as' : List (Bor (List ℕ))) (i : ℕ) (a : Bor (List ℕ)) (n : List ℕ) → i < length as' → get_or as' i a ≡ a → n ≡ a.now
    → AreDistinct (texts (take i as')) → is_listed n (texts (take i as')) ≡ true → IsFirstTwice (texts as') n
twice_at as' i a n within is named distinct listed = record {
  before = texts (take i as');
  after = texts (drop (i + 1) as');
  is = texts-split as' i a within is ∙ ap (λ m. texts (take i as') ++ (m ∷ texts (drop (i + 1) as'))) (sym named);
  distinct = distinct;
  twice = found n (texts (take i as')) listed;
}

-- one name more is seen
pub seen-more : (as' : List (Bor (List ℕ))) (i : ℕ) (a : Bor (List ℕ)) (n : Bor (List ℕ)) (ks ks' : List (Bor (List ℕ))) → i < length as' → get_or as' i a ≡ a → n.now ≡ a.now
    → ((q : List ℕ) → is_seen q ks ≡ is_listed q (texts (take i as')))
    → ks' ≡ insert_key (λ (x y : Bor (List ℕ)). slice_cmp nat_cmp x.now y.now) ks n
    → (q : List ℕ) → is_seen q ks' ≡ is_listed q (texts (take (i + 1) as'))
seen-more as' i a n ks ks' within is named seen put q =
    ap (is_seen q) put
    ∙ is_seen-insert q ks n
    ∙ ap (λ b. bytes_eq q n.now || b) (seen q)
    ∙ sym (is_listed-push q (texts (take i as')) n.now)
    ∙ ap (λ m. is_listed q (texts (take i as') ++ m ∷ [])) named
    ∙ ap (is_listed q) (sym (texts-more as' i a within is))

-- and they are distinct, if the one more is new
pub distinct-more : (as' : List (Bor (List ℕ))) (i : ℕ) (a : Bor (List ℕ)) (n : List ℕ) → i < length as' → get_or as' i a ≡ a → n ≡ a.now
    → AreDistinct (texts (take i as')) → is_listed n (texts (take i as')) ≡ false → AreDistinct (texts (take (i + 1) as'))
distinct-more as' i a n within is named distinct new =
    subst AreDistinct (ap (λ m. texts (take i as') ++ m ∷ []) named ∙ sym (texts-more as' i a within is))
    (AreDistinct-push (texts (take i as')) n distinct (not_found n (texts (take i as')) new))

-- names after distinct ones
distinct_or_twice_behind : (before after : List (List ℕ)) → AreDistinct before → AreDistinct (before ++ after) ⊎ ((n : List ℕ) × IsFirstTwice (before ++ after) n)
distinct_or_twice_behind before [] distinct = inl (subst AreDistinct (sym (append-nil before)) distinct)
distinct_or_twice_behind before (n ∷ after) distinct = go (is_listed n before) refl (λ new. distinct_or_twice_behind (before ++ n ∷ []) after new)
  where
    Cases : List (List ℕ) → Type 0
    Cases ns = AreDistinct ns ⊎ ((m : List ℕ) × IsFirstTwice ns m)

    go : (b : Bool) → is_listed n before ≡ b → (AreDistinct (before ++ n ∷ []) → Cases ((before ++ n ∷ []) ++ after)) → Cases (before ++ (n ∷ after))
    go true is later = inr (n, record { before = before; after = after; is = refl; distinct = distinct; twice = found n before is })
    go false is later = subst Cases (append_assoc before (n ∷ []) after) (later (AreDistinct-push before n distinct (not_found n before is)))

-- names are distinct, or there is a first that stands a second time
pub distinct_or_twice : (ns : List (List ℕ)) → AreDistinct ns ⊎ ((n : List ℕ) × IsFirstTwice ns n)
distinct_or_twice ns = distinct_or_twice_behind [] ns tt

-- a name that stands after itself isn't distinct
pub clash : (before after : List (List ℕ)) (n : List ℕ) → AreDistinct (before ++ (n ∷ after)) → Contains before n → ⊥
clash [] after n distinct there = absurd (omega (arith, there.1))
clash (m ∷ before) after n distinct there = go (Contains-append_cases (m ∷ []) before n there) (clash before after n distinct.1)
  where
    go : Contains (m ∷ []) n ⊎ Contains before n → (Contains before n → ⊥) → ⊥
    go (inr later) rest = rest later
    go (inl here) rest = first (Contains-push_cases [] m n here)
      where
        first : Contains [] n ⊎ (m ≡ n) → ⊥
        first (inl nothing) = absurd (omega (arith, nothing.1))
        first (inr same) =
            distinct.0 (Contains-append_right before (n ∷ after) m
            (subst (λ (x : List ℕ). Contains (x ∷ after) m) same (Contains-append_left (m ∷ []) after m (Contains-push [] m))))

-- names are distinct, or one stands twice, and not both
pub never_both : (ns : List (List ℕ)) (n : List ℕ) → AreDistinct ns → IsFirstTwice ns n → ⊥
never_both ns n distinct twice = clash twice.before twice.after n (subst AreDistinct twice.is distinct) twice.twice

-- the first name that stands a second time is one
pub one_twice : (ns : List (List ℕ)) (m n : List ℕ) → IsFirstTwice ns m → IsFirstTwice ns n → m ≡ n
one_twice ns m n p q = go (places p.before p.after q.before q.after m n (sym p.is ∙ q.is))
  where
    go : AreSame p.before p.after q.before q.after m n ⊎ (IsBefore p.before p.after q.before q.after m n ⊎ IsBefore q.before q.after p.before p.after n m) → m ≡ n
    go (inl s) = s.here
    go (inr (inl s)) = absurd (clash p.before s.between m (subst AreDistinct s.further q.distinct) p.twice)
    go (inr (inr s)) = absurd (clash q.before s.between n (subst AreDistinct s.further p.distinct) q.twice)
