-- A start slot spells one start at most, and which one its text says.
use Rattle.std.proofs.Common.{◌≡◌, ◌≢◌, ℕ, ◌<◌, ◌≤◌, Bool, true, List, [], ◌∷◌, ◌++◌, length, take, drop, get_or, Option, None, Some, Result, Ok, Err, IfSome, IsNone, Bor, refl, sym, ◌∙◌, ap, subst, arith}
use Rattle.std.specs.Prelude.{All, MatchOption, MatchResult, slice_range}
use Rattle.std.specs.List.{list_all, AllPass}
use Rattle.std.specs.Result.{result_ok}
use Rattle.std.specs.Str.{IsUtf8}
use Rattle.std.proofs.lemmas.Grind.{common_steps}
use Rattle.std.proofs.lemmas.Bool.{and_parts}
use Rattle.std.proofs.lemmas.Bool.Decides.{nat_tests}
use Rattle.std.proofs.lemmas.List.{append_cancel_right, take_at, take_all, length-take-le, take-append-drop}
use Rattle.std.proofs.lemmas.List.Elements.{All-weaker}
use Rattle.std.proofs.lemmas.List.Sums.{AllPass-from_list_all}
use Rattle.std.proofs.lemmas.Option.{MatchOption-at_none, MatchOption-at_some}
use Rattle.std.proofs.lemmas.Str.Pattern.{IsSplitOnceResult, split_after}
use Rattle.std.proofs.lemmas.Str.{IsUtf8-from_ascii, IsAscii-append}
use Rattle.std.proofs.lemmas.Str.Ascii.{IsAscii-from_all, IsAscii-cons, IsAscii-nil}
use Rattle.erl_term.specs.Lexing.{is_in}
use Rattle.rel_files.specs.Name.{IsVersion}
use Rattle.start_record.specs.Text.{Versions, AreVersions, start_text, SpellsStart}

-- the bytes of a version
abbrev is_visible : ℕ → Bool
is_visible = is_in 0x21 0x7E

are_visible : (s : List ℕ) → IsVersion s → list_all is_visible s ≡ true
are_visible s is = (and_parts _ _ is).1

pub has_no_space : (s : List ℕ) → IsVersion s → (i : ℕ) → i < length s → get_or s i 0 ≢ 32
has_no_space s is i lt space =
    let all : AllPass is_visible s = AllPass-from_list_all is_visible s (are_visible s is) in
    let at : is_visible 32 ≡ true = subst (λ b. is_visible b ≡ true) space (all i 0 lt) in cc

is_ascii : (s : List ℕ) → IsVersion s → All (λ b. b < 128) s
is_ascii s is = All-weaker (λ b. is_visible b ≡ true) (λ b. b < 128) (λ b visible. grind (arith, nat_tests)) s (AllPass-from_list_all is_visible s (are_visible s is))

-- a start's text is UTF-8
pub is_utf8 : (v : Versions) → AreVersions v → IsUtf8 (start_text v)
is_utf8 v are =
    IsUtf8-from_ascii (start_text v)
    (IsAscii-append v.erts (32 ∷ (v.vsn ++ 10 ∷ [])) (IsAscii-from_all v.erts (is_ascii v.erts are.0))
    (IsAscii-cons 32 (v.vsn ++ 10 ∷ []) (omega arith) (IsAscii-append v.vsn (10 ∷ []) (IsAscii-from_all v.vsn (is_ascii v.vsn are.1)) (IsAscii-cons 10 [] (omega arith) IsAscii-nil))))

-- what stands before the first space, and after it
parted : (a b c d : List ℕ) → list_all is_visible a ≡ true → list_all is_visible c ≡ true → a ++ 32 ∷ b ≡ c ++ 32 ∷ d → (a ≡ c) × (b ≡ d)
parted [] b [] d h k e = (refl, cc)
parted [] b (y ∷ c) d h k e =
    let first : y ≡ 32 = cc in
    let at : is_visible 32 ≡ true = subst (λ b. is_visible b ≡ true) first (and_parts (is_visible y) _ k).0 in cc
parted (x ∷ a) b [] d h k e =
    let first : x ≡ 32 = cc in
    let at : is_visible 32 ≡ true = subst (λ b. is_visible b ≡ true) first (and_parts (is_visible x) _ h).0 in cc
parted (x ∷ a) b (y ∷ c) d h k e =
    let first : x ≡ y = cc in
    let behind : a ++ 32 ∷ b ≡ c ++ 32 ∷ d = cc in
    let rest = parted a b c d (and_parts _ _ h).1 (and_parts _ _ k).1 behind in
    ((λ i. first i ∷ rest.0 i), rest.1)

-- a text of a start says its versions
same_start : (v w : Versions) → AreVersions v → AreVersions w → start_text v ≡ start_text w → v ≡ w
same_start v w of_v of_w same =
    let parts = parted v.erts (v.vsn ++ 10 ∷ []) w.erts (w.vsn ++ 10 ∷ []) (are_visible v.erts of_v.0) (are_visible w.erts of_w.0) same in
    let vsn = append_cancel_right v.vsn w.vsn (10 ∷ []) parts.1 in
    λ i. record { erts = parts.0 i; vsn = vsn i }

-- a slot has one text
pub same_text : (slot a x b y : List ℕ) → slot ≡ length a ∷ (a ++ x) → slot ≡ length b ∷ (b ++ y) → a ≡ b
same_text slot a x b y of_a of_b =
    let both : length a ∷ (a ++ x) ≡ length b ∷ (b ++ y) = sym of_a ∙ of_b in
    let long : length a ≡ length b = cc in
    let texts : a ++ x ≡ b ++ y = cc in
    sym (take_at a x (length a) refl) ∙ (λ i. take (long i) (texts i)) ∙ take_at b y (length b) refl

pub spells_one : (slot : List ℕ) (v w : Versions) → SpellsStart slot v → SpellsStart slot w → v ≡ w
spells_one slot v w of_v of_w = same_start v w of_v.versions of_w.versions (same_text slot (start_text v) of_v.rest (start_text w) of_w.rest of_v.is of_w.is)

-- the text that is read is the one that is spelled
pub text_of : (slot text rest : List ℕ) (v : Versions) → slot ≡ length text ∷ (text ++ rest) → SpellsStart slot v → text ≡ v.erts ++ 32 ∷ (v.vsn ++ 10 ∷ [])
text_of slot text rest v read spelled = same_text slot text rest (start_text v) spelled.rest read spelled.is

-- the bytes that a slot's length counts stand after it
pub behind_length : (slot bytes : List ℕ) (n : ℕ) → length slot ≡ 128 → n ≡ get_or slot 0 0 → n ≤ 127 → bytes ≡ slice_range (take 127 (drop 1 slot)) 0 n → slot ≡ length bytes ∷ (bytes ++ drop n (drop 1 slot))
behind_length [] bytes n long at few is = absurd (omega (arith, long))
behind_length (b ∷ bs) bytes n long at few is =
    let size : length bs ≡ 127 = omega (arith, long) in
    let all : take 127 bs ≡ bs = take_all 127 bs (omega (arith, size)) in
    let same : bytes ≡ take n bs = grind (arith, common_steps, is, all) in
    let counted : length bytes ≡ n = ap length same ∙ length-take-le n bs (omega (arith, size)) in
    let parts : bs ≡ bytes ++ drop n bs = sym (take-append-drop n bs) ∙ ap (λ l. l ++ drop n bs) (sym same) in
    (λ i. sym (counted ∙ at) i ∷ parts i)

-- what an `ok()` gives, by what its `Result` is
pub ok_some : {A E : Type 0} (r : Result A E) (P Q : A → Type 0) (N : E → Type 0) → MatchResult r P N → ((x : A) → P x → Q x) → IfSome (result_ok r) Q
ok_some (Ok x) P Q N is gives = gives x is
ok_some (Err e) P Q N is gives = tt

pub ok_none : {A E : Type 0} (r : Result A E) (P : A → Type 0) (N : E → Type 0) → MatchResult r P N → IsNone (result_ok r) → (e : E) × N e
ok_none (Ok x) P N is none = absurd (cc)
ok_none (Err e) P N is none = (e, is)

-- a text that was read, of a slot that spells a start
module _ (slot text rest : List ℕ) (read : slot ≡ length text ∷ (text ++ rest)) (v : Versions) (spelled : SpellsStart slot v) where
  -- it has a space, with its versions on both sides
  parts : (r : Option (Bor (List ℕ) × Bor (List ℕ))) → IsSplitOnceResult 32 text r → MatchOption r ⊥ (λ x. (x.0.now ≡ v.erts) × (x.1.now ≡ v.vsn ++ 10 ∷ []))
  parts r cases = split_after 32 text v.erts (v.vsn ++ 10 ∷ []) r cases (omega arith) (text_of slot text rest v read spelled) (has_no_space v.erts spelled.versions.0)

  pub has_space : (r : Option (Bor (List ℕ) × Bor (List ℕ))) → IsSplitOnceResult 32 text r → r ≡ None → ⊥
  has_space r cases none = MatchOption-at_none {o = r} _ _ none (parts r cases)

  pub cut_so : (r : Option (Bor (List ℕ) × Bor (List ℕ))) → IsSplitOnceResult 32 text r → (erts behind : Bor (List ℕ)) → r ≡ Some (erts, behind) → (erts.now ≡ v.erts) × (behind.now ≡ v.vsn ++ 10 ∷ [])
  cut_so r cases erts behind some = MatchOption-at_some {o = r} _ _ (erts, behind) some (parts r cases)
