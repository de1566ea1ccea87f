-- The first mentions of modules and of applications, found by a set of what was seen.
use Rattle.std.proofs.Common.{◌≡◌, refl, sym, ap, ap₂, ◌∙◌, ℕ, ◌+◌, ◌<◌, Bool, true, false, not, ◌&&◌, cond, List, [], ◌∷◌, ◌++◌, map, length, drop, get_or, Bor, add-one, append_assoc}
use Rattle.std.specs.List.{filter, list_any}
use Rattle.std.specs.Str.{bytes_eq}
use Rattle.std.specs.Ordering.{nat_cmp}
use Rattle.std.specs.Cmp.Lexicographic.{slice_cmp}
use Rattle.std.specs.BTreeMap.{is_at}
use Rattle.std.specs.BTreeSet.{BTreeSet, contains, contains_by, Updates}
use Rattle.std.proofs.lemmas.List.{map-append}
use Rattle.std.proofs.lemmas.List.Elements.{filter_agree}
use Rattle.std.proofs.lemmas.Map.Text.{is_eq-slice_cmp}
use Rattle.std.proofs.Math.Seq.{drop-cons}
use Rattle.relup_row.specs.declared.fetches.Mention.{Mention}
use Rattle.relup_row.specs.Fetches.{MentionForm, mention_of, differs, firsts}

-- names that were seen
abbrev pub Seen : Type 0
Seen = BTreeSet (Bor (List ℕ))

-- whether what is mentioned wasn't seen yet
abbrev pub is_new : (MentionForm → List ℕ) → Seen → MentionForm → Bool
is_new key seen m = not (contains_by (λ (k : Bor (List ℕ)). slice_cmp nat_cmp (key m) k.now) seen)

-- the first mentions of what wasn't seen yet
abbrev pub new_firsts : (MentionForm → List ℕ) → Seen → List MentionForm → List MentionForm
new_firsts key seen ms = filter (is_new key seen) (firsts key ms)

filter_all : (p : MentionForm → Bool) → ((m : MentionForm) → p m ≡ true) → (ms : List MentionForm) → filter p ms ≡ ms
filter_all p all [] = refl
filter_all p all (m ∷ ms) = rw (all m, filter_all p all ms) refl

pub filter_both : (p q : MentionForm → Bool) (ms : List MentionForm) → filter q (filter p ms) ≡ filter (λ m. p m && q m) ms
filter_both p q [] = refl
filter_both p q (m ∷ ms) =
    elim (p m) as (λ b. filter q (cond b (m ∷ filter p ms) (filter p ms)) ≡ cond (b && q m) (m ∷ filter (λ n. p n && q n) ms) (filter (λ n. p n && q n) ms))
    [ true ↦ rw (filter_both p q ms) | false ↦ filter_both p q ms ]

-- before anything was seen
none_seen : (key : MentionForm → List ℕ) (seen : Seen) (ms : List MentionForm) → seen.keys ≡ [] → new_firsts key seen ms ≡ firsts key ms
none_seen key seen ms none =
    filter_all (is_new key seen) (λ m. ap (λ ks. not (list_any (is_at (λ (k : Bor (List ℕ)). slice_cmp nat_cmp (key m) k.now)) ks)) none) (firsts key ms)

one_more : (a b : Bool) → not (cond a true b) ≡ (not a && not b)
one_more true b = refl
one_more false b = refl

-- what was seen, with one more
more_seen : (key : MentionForm → List ℕ) (seen more : Seen) (k : Bor (List ℕ)) (m : MentionForm) (ms : List MentionForm) → k.now ≡ key m
    → Updates (λ (x y : Bor (List ℕ)). slice_cmp nat_cmp x.now y.now) seen more k true
    → filter (is_new key seen) (filter (differs key m) ms) ≡ filter (is_new key more) ms
more_seen key seen more k m ms is put =
    filter_both (differs key m) (is_new key seen) ms ∙ filter_agree _ (is_new key more) (λ n. sym (at n)) ms
  where
    at : (n : MentionForm) → is_new key more n ≡ (differs key m n && is_new key seen n)
    at n =
        ap not (put.0 (record { ref_ptr = (0, 0); now = key n }))
        ∙ one_more _ _
        ∙ ap (λ b. not b && is_new key seen n) (is_eq-slice_cmp k.now (key n) ∙ ap (λ s. bytes_eq s (key n)) is)

-- A mention of something new is the first one of it.
pub new_first : (key : MentionForm → List ℕ) (seen more : Seen) (k : Bor (List ℕ)) (m : MentionForm) (ms : List MentionForm) → k.now ≡ key m
    → is_new key seen m ≡ true
    → Updates (λ (x y : Bor (List ℕ)). slice_cmp nat_cmp x.now y.now) seen more k true
    → new_firsts key seen (m ∷ ms) ≡ m ∷ new_firsts key more ms
new_first key seen more k m ms is new put = rw (new) (ap (λ ns. m ∷ ns) (more_seen key seen more k m (firsts key ms) is put))

-- A mention of something that was seen is not the first one of it.
pub no_first : (key : MentionForm → List ℕ) (seen more : Seen) (k : Bor (List ℕ)) (m : MentionForm) (ms : List MentionForm) → k.now ≡ key m
    → is_new key seen m ≡ false
    → Updates (λ (x y : Bor (List ℕ)). slice_cmp nat_cmp x.now y.now) seen more k true
    → new_firsts key seen (m ∷ ms) ≡ new_firsts key more ms
no_first key seen more k m ms is old put = rw (old) (more_seen key seen more k m (firsts key ms) is put)

-- What is kept of the mentions before a place, with the first mentions of what comes after them, are the first mentions of all.
abbrev pub KeepsFirsts : (MentionForm → List ℕ) → List Mention → ℕ → Seen → List Mention → Type 0
KeepsFirsts key ms i seen kept = map mention_of kept ++ new_firsts key seen (map mention_of (drop i ms)) ≡ firsts key (map mention_of ms)

-- before the first
pub none_kept : (key : MentionForm → List ℕ) (ms : List Mention) (seen : Seen) (kept : List Mention) → seen.keys ≡ [] → kept ≡ [] → KeepsFirsts key ms 0 seen kept
none_kept key ms seen kept none empty =
    ap (λ ns. map mention_of ns ++ new_firsts key seen (map mention_of ms)) empty ∙ none_seen key seen (map mention_of ms) none

-- those from a place on
from_place : (ms : List Mention) (i : ℕ) (m : Mention) → i < length ms → get_or ms i m ≡ m → map mention_of (drop i ms) ≡ mention_of m ∷ map mention_of (drop (i + 1) ms)
from_place ms i m within is =
    ap (map mention_of) (drop-cons ms i m within)
    ∙ ap₂ (λ n j. mention_of n ∷ map mention_of (drop j ms)) is (sym (add-one i))

-- a name that stands for what is mentioned
of_name : (key : MentionForm → List ℕ) (m : MentionForm) (seen : Seen) (k : Bor (List ℕ)) (b : Bool) → k.now ≡ key m
    → not (contains (λ (x y : Bor (List ℕ)). slice_cmp nat_cmp x.now y.now) seen k) ≡ b → is_new key seen m ≡ b
of_name key m seen k b is new = ap (λ s. not (contains_by (λ (x : Bor (List ℕ)). slice_cmp nat_cmp s x.now) seen)) (sym is) ∙ new

-- one that is kept
pub kept_more : (key : MentionForm → List ℕ) (ms : List Mention) (i : ℕ) (m : Mention) (seen more : Seen) (k : Bor (List ℕ)) (added : Bool) (kept pushed now_kept : List Mention) → i < length ms → get_or ms i m ≡ m
    → k.now ≡ key (mention_of m) → Updates (λ (x y : Bor (List ℕ)). slice_cmp nat_cmp x.now y.now) seen more k true
    → added ≡ not (contains (λ (x y : Bor (List ℕ)). slice_cmp nat_cmp x.now y.now) seen k) → added ≡ true → now_kept ≡ pushed → pushed ≡ kept ++ (m ∷ []) → KeepsFirsts key ms i seen kept → KeepsFirsts key ms (i + 1) more now_kept
kept_more key ms i m seen more k added kept pushed now_kept within at is put reports new same grown keeps =
    let rest = map mention_of (drop (i + 1) ms) in
    ap (λ ns. map mention_of ns ++ new_firsts key more rest) (same ∙ grown)
    ∙ ap (λ ns. ns ++ new_firsts key more rest) (map-append mention_of kept (m ∷ []))
    ∙ append_assoc (map mention_of kept) (mention_of m ∷ []) (new_firsts key more rest)
    ∙ ap (λ ns. map mention_of kept ++ ns) (sym (new_first key seen more k (mention_of m) rest is (of_name key (mention_of m) seen k true is (sym reports ∙ new)) put))
    ∙ ap (λ ns. map mention_of kept ++ new_firsts key seen ns) (sym (from_place ms i m within at))
    ∙ keeps

-- one that is passed over
pub kept_same : (key : MentionForm → List ℕ) (ms : List Mention) (i : ℕ) (m : Mention) (seen more : Seen) (k : Bor (List ℕ)) (added : Bool) (kept now_kept : List Mention) → i < length ms → get_or ms i m ≡ m
    → k.now ≡ key (mention_of m) → Updates (λ (x y : Bor (List ℕ)). slice_cmp nat_cmp x.now y.now) seen more k true
    → added ≡ not (contains (λ (x y : Bor (List ℕ)). slice_cmp nat_cmp x.now y.now) seen k) → added ≡ false → now_kept ≡ kept → KeepsFirsts key ms i seen kept → KeepsFirsts key ms (i + 1) more now_kept
kept_same key ms i m seen more k added kept now_kept within at is put reports old same keeps =
    ap₂ (λ ns os. map mention_of ns ++ os) same (sym (no_first key seen more k (mention_of m) (map mention_of (drop (i + 1) ms)) is (of_name key (mention_of m) seen k false is (sym reports ∙ old)) put))
    ∙ ap (λ ns. map mention_of kept ++ new_firsts key seen ns) (sym (from_place ms i m within at))
    ∙ keeps
