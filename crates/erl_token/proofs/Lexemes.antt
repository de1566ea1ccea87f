-- The tokens of a text one after another, with what stands between them.
use Rattle.std.proofs.Common.{◌≡◌, ◌≢◌, ℕ, zero, suc, ◌+◌, ◌-◌, ◌<◌, Bool, true, false, ◌||◌, not, if◌then◌else◌, nat_lt, nat_le, eqb, List, [], ◌∷◌, length, drop, slice_get, Some, None, refl, sym, ◌∙◌, ap, arith}
use Rattle.std.proofs.lemmas.List.{drop-drop}
use Rattle.erl_token.specs.declared.class.Class.{Class}
use Rattle.erl_token.specs.declared.class.Class.TheVariants.{Blank, Percent}
use Rattle.erl_token.specs.declared.token.Item.{Item as CodeItem}
use Rattle.erl_number.specs.declared.run.Run.TheVariants.{InComment}
use Rattle.erl_token.specs.Lexing.{class_of, spelling, comment_size, lex, start_of, goes_on, Spelling, ends_a_term}
use Rattle.erl_token.specs.Lexing.Start.{token_of}
use Rattle.erl_number.specs.Escapes.{leading}
use Rattle.erl_token.specs.Views.{item_value, lexed}
use Rattle.erl_number.specs.Scanned.{goes_on_with}
use Rattle.erl_token.specs.Scanned.{IsSpelled}
use Rattle.erl_number.proofs.Runs.{drop_some, drop_none}

-- the token's own words for its run
pub comment_size-leading : (xs : List ℕ) → comment_size xs ≡ length (leading (goes_on_with InComment) xs)
comment_size-leading [] = refl
comment_size-leading (x ∷ xs) = go (eqb x 10 || nat_lt 255 x) (comment_size-leading xs)
  where
    go : (b : Bool) → comment_size xs ≡ length (leading (goes_on_with InComment) xs)
        → (if b then 0 else comment_size xs + 1) ≡ length (if not b then x ∷ leading (goes_on_with InComment) xs else [])
    go true e = refl
    go false e = rw e (omega arith)

-- bytes that belong to what began before them
pub lex-past : (at n : ℕ) (xs : List ℕ) → lex at n xs ≡ lex (at + n) 0 (drop n xs)
lex-past at zero [] = refl
lex-past at zero (x ∷ xs) = let same : at ≡ at + 0 = omega arith in ap (λ a. lex a 0 (x ∷ xs)) same
lex-past at (suc n) [] = refl
lex-past at (suc n) (x ∷ xs) = let same : (at + 1) + n ≡ at + suc n = omega arith in lex-past (at + 1) n xs ∙ ap (λ a. lex a 0 (drop n xs)) same

-- what the byte at a place begins
begins_at : (bytes : List ℕ) (at b : ℕ) → slice_get bytes at ≡ Some b
    → lex at 0 (drop at bytes) ≡ goes_on at (start_of at (class_of b) b (drop (at + 1) bytes)) (λ n. lex (at + 1) n (drop (at + 1) bytes))
begins_at bytes at b e = ap (lex at 0) (drop_some bytes at b e)

pub skips_blank : (bytes : List ℕ) (at b : ℕ) → slice_get bytes at ≡ Some b → class_of b ≡ Blank → lex at 0 (drop at bytes) ≡ lex (at + 1) 0 (drop (at + 1) bytes)
skips_blank bytes at b e k =
    begins_at bytes at b e ∙ ap (λ c. goes_on at (start_of at c b (drop (at + 1) bytes)) (λ n. lex (at + 1) n (drop (at + 1) bytes))) k

pub skips_comment : (bytes : List ℕ) (at b end : ℕ) → slice_get bytes at ≡ Some b → class_of b ≡ Percent
    → end ≡ (at + 1) + length (leading (goes_on_with InComment) (drop (at + 1) bytes)) → lex at 0 (drop at bytes) ≡ lex end 0 (drop end bytes)
skips_comment bytes at b end e k is =
    let size = comment_size-leading (drop (at + 1) bytes) in
    let place : (at + 1) + comment_size (drop (at + 1) bytes) ≡ end = omega arith in
    begins_at bytes at b e
    ∙ (ap (λ c. goes_on at (start_of at c b (drop (at + 1) bytes)) (λ n. lex (at + 1) n (drop (at + 1) bytes))) k
    ∙ (lex-past (at + 1) (comment_size (drop (at + 1) bytes)) (drop (at + 1) bytes)
    ∙ (ap (lex ((at + 1) + comment_size (drop (at + 1) bytes)) 0) (drop-drop (comment_size (drop (at + 1) bytes)) (at + 1) bytes)
    ∙ ap (λ p. lex p 0 (drop p bytes)) place)))

starts_token : (k : Class) (at x : ℕ) (xs : List ℕ) → k ≢ Blank → k ≢ Percent → start_of at k x xs ≡ token_of (spelling at k x xs)
starts_token Blank at x xs b p = absurd (b refl)
starts_token Percent at x xs b p = absurd (p refl)
starts_token k at x xs b p = refl

-- what a byte that begins a token begins
pub begins_token : (bytes : List ℕ) (at b : ℕ) → slice_get bytes at ≡ Some b → class_of b ≢ Blank → class_of b ≢ Percent
    → lexed bytes at ≡ goes_on at (token_of (spelling at (class_of b) b (drop (at + 1) bytes))) (λ n. lex (at + 1) n (drop (at + 1) bytes))
begins_token bytes at b e not_blank not_percent =
    begins_at bytes at b e
    ∙ ap (λ t. goes_on at t (λ n. lex (at + 1) n (drop (at + 1) bytes))) (starts_token (class_of b) at b (drop (at + 1) bytes) not_blank not_percent)

-- the token that this byte begins, and those after it
pub takes_spelling : (bytes : List ℕ) (at b : ℕ) (k : Class) → slice_get bytes at ≡ Some b → k ≡ class_of b → k ≢ Blank → k ≢ Percent
    → 0 < (spelling at k b (drop (at + 1) bytes)).size
    → lexed bytes at ≡ (let s = spelling at k b (drop (at + 1) bytes) in record { token = s.token; from = at; to = at + s.size } ∷ lexed bytes (at + s.size))
takes_spelling bytes at b k e is not_blank not_percent some =
    let xs = drop (at + 1) bytes in
    let s : Spelling = spelling at k b (drop (at + 1) bytes) in
    let place : (at + 1) + (s.size - 1) ≡ at + s.size = omega arith in
    begins_at bytes at b e
    ∙ (ap (λ c. goes_on at (start_of at c b xs) (λ n. lex (at + 1) n xs)) (sym is)
    ∙ (ap (λ t. goes_on at t (λ n. lex (at + 1) n xs)) (starts_token k at b xs not_blank not_percent)
    ∙ ap (λ l. record { token = s.token; from = at; to = at + s.size } ∷ l) (lex-past (at + 1) (s.size - 1) xs
    ∙ (ap (lex ((at + 1) + (s.size - 1)) 0) (drop-drop (s.size - 1) (at + 1) bytes) ∙ ap (λ p. lex p 0 (drop p bytes)) place))))

pub takes_item : (bytes : List ℕ) (at b : ℕ) (k : Class) (i : CodeItem) → slice_get bytes at ≡ Some b → k ≡ class_of b → k ≢ Blank → k ≢ Percent
    → IsSpelled (spelling at k b (drop (at + 1) bytes)) at i → lexed bytes at ≡ item_value i ∷ lexed bytes i.to
takes_item bytes at b k i e is not_blank not_percent (spelled, some) =
    let to : i.to ≡ at + (spelling at k b (drop (at + 1) bytes)).size = ap (λ j. j.to) spelled in
    takes_spelling bytes at b k e is not_blank not_percent (omega arith)
    ∙ (λ j. sym spelled j ∷ lexed bytes (sym to j))

pub no_item : (bytes : List ℕ) (at : ℕ) → slice_get bytes at ≡ None → lex at 0 (drop at bytes) ≡ []
no_item bytes at e = ap (lex at 0) (drop_none bytes at e)

-- the byte in front of which a term may end
pub ends_some : (xs : List ℕ) (i b : ℕ) → slice_get xs i ≡ Some b → ends_a_term (drop i xs) ≡ (nat_le b 32 || eqb b 37)
ends_some xs i b e = rw (drop_some xs i b e) refl

pub ends_none : (xs : List ℕ) (i : ℕ) → slice_get xs i ≡ None → ends_a_term (drop i xs) ≡ true
ends_none xs i e = rw (drop_none xs i e) refl
