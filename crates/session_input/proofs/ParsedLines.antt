-- What a line says, case by case.
use Rattle.std.proofs.Common.{◌≡◌, ℕ, ◌<◌, ◌≤◌, Bool, true, false, Bor, List, [], ◌∷◌, ◌++◌, ◌+◌, length, map, take, get_or, refl, sym, subst, ap, ◌∙◌, arith}
use Rattle.std.specs.Prelude.{nat_lt, Result, Ok, Err, String, string_bytes}
use Rattle.std.specs.declared.alloc.Global.{Global}
use Rattle.std.proofs.lemmas.List.{map-append, take_more}
use Rattle.std.specs.Result.{IfOk}
use Rattle.std.specs.Str.{IsUtf8, is_utf8}
use Rattle.std.proofs.lemmas.Bool.Decides.{nat_tests}
use Rattle.std.proofs.lemmas.Str.{is_utf8-from_IsUtf8, IsUtf8-from_is_utf8}
use Rattle.std.specs.declared.alloc.AllocError.{AllocError}
use Rattle.session_input.specs.declared.line.Line.{Line}
use Rattle.session_input.specs.declared.parsed_line.ParsedLine.{ParsedLine as ParsedLineInMemory}
use Rattle.session_input.specs.Lines.{IsKept}
use Rattle.session_input.specs.ParsedLine.{parsed_line_of}
use Rattle.session_input.specs.Commands.{Command, ParsedLine, parse_line, parse_words, parse_relup, relup_of, path_of, paths_of, words_of, is_blank, most_line}
use Rattle.session_input.specs.Commands.ParsedLine.{blank, whole_command}
use Rattle.session_input.specs.Commands.Command.{bad}

is_short : (n : ℕ) → n ≤ 4096 → nat_lt 4096 n ≡ false
is_short n h = grind (arith, nat_tests)

not_utf8 : (l : List ℕ) → (IsUtf8 l → ⊥) → is_utf8 l ≡ false
not_utf8 l no_text = go (is_utf8 l) refl
  where
    go : (b : Bool) → is_utf8 l ≡ b → is_utf8 l ≡ false
    go true e = absurd (no_text (IsUtf8-from_is_utf8 l e))
    go false e = e

-- these are the line, and it isn't too long
abbrev pub IsLine : List ℕ → List ℕ → Type 0
IsLine xs l = (xs ≡ l) × (length l ≤ most_line)

along : (P : List ℕ → Type 0) (xs l : List ℕ) → IsLine xs l → (length xs ≤ most_line → P xs) → P l
along P xs l kept p = subst P kept.0 (p (subst (λ ys. length ys ≤ most_line) (sym kept.0) kept.1))

pub parsed_blank : (xs l : List ℕ) → IsLine xs l → is_blank xs ≡ true → blank ≡ parse_line l
parsed_blank xs l kept is_empty = along (λ ys. blank ≡ parse_line ys) xs l kept (λ short. sym (rw (is_short (length xs) short, is_empty) refl))

says_text : (xs l : List ℕ) (said : ParsedLine) → IsLine xs l → is_blank xs ≡ false → IsUtf8 xs → said ≡ parse_words (words_of xs) → said ≡ parse_line l
says_text xs l said kept is_empty text says =
    along (λ ys. said ≡ parse_line ys) xs l kept (λ short. says ∙ sym (rw (is_short (length xs) short, is_empty, is_utf8-from_IsUtf8 xs text) refl))

pub parsed_text : (r : Result ParsedLineInMemory AllocError) (line : Line) (xs text : List ℕ) → ((l : List ℕ) → IsKept most_line line l → IsLine xs l)
    → is_blank xs ≡ false → IsUtf8 xs → text ≡ xs → IfOk r (λ said. parsed_line_of said ≡ parse_words (words_of text))
    → IfOk r (λ said. (l : List ℕ) → IsKept most_line line l → parsed_line_of said ≡ parse_line l)
parsed_text (Err e) line xs text kept is_empty utf8 same says = tt
parsed_text (Ok said) line xs text kept is_empty utf8 same says = λ l k. says_text xs l (parsed_line_of said) (kept l k) is_empty utf8 (says ∙ ap (λ ys. parse_words (words_of ys)) same)

pub parsed_no_text : (xs l : List ℕ) → IsLine xs l → is_blank xs ≡ false → (IsUtf8 xs → ⊥) → whole_command bad ≡ parse_line l
parsed_no_text xs l kept is_empty no_text =
    along (λ ys. whole_command bad ≡ parse_line ys) xs l kept (λ short. sym (rw (is_short (length xs) short, is_empty, not_utf8 xs no_text) refl))

-- one more text is copied, of those in their places
pub one_more_copy : (texts : List (Bor (List ℕ))) (i : ℕ) (other : Bor (List ℕ)) (old new : List (String Global)) (copy : String Global) → i < length texts → string_bytes copy ≡ (get_or texts i other).now → new ≡ old ++ copy ∷ []
    → map string_bytes old ≡ map (λ text. text.now) (take i texts) → map string_bytes new ≡ map (λ text. text.now) (take (i + 1) texts)
one_more_copy texts i other old new copy within copied grown so_far =
    let spelled : map (λ (text : Bor (List ℕ)). text.now) (take (i + 1) texts) ≡ map (λ text. text.now) (take i texts) ++ (get_or texts i other).now ∷ [] =
    ap (map (λ (text : Bor (List ℕ)). text.now)) (take_more texts i other within) ∙ map-append (λ (text : Bor (List ℕ)). text.now) (take i texts) (get_or texts i other ∷ []) in
    (ap (map string_bytes) grown ∙ map-append string_bytes old (copy ∷ [])) ∙ ((λ j. so_far j ++ copied j ∷ []) ∙ sym spelled)

-- three words ask for a relup
pub three_words : (words : List (Bor (List ℕ))) (a b d : Bor (List ℕ)) (said : Command) → 3 ≤ length words → length words < 4
    → said ≡ relup_of (path_of (get_or words 0 a).now) (paths_of (get_or words 1 b).now) (paths_of (get_or words 2 d).now)
    → whole_command said ≡ parse_relup (map (λ word. word.now) words)
three_words [] a b d said most least is = absurd (omega arith)
three_words (new ∷ []) a b d said most least is = absurd (omega arith)
three_words (new ∷ ups ∷ []) a b d said most least is = absurd (omega arith)
three_words (new ∷ ups ∷ downs ∷ []) a b d said most least is = ap whole_command is
three_words (new ∷ ups ∷ downs ∷ more ∷ words) a b d said most least is = absurd (omega arith)

-- fewer words than three ask for no relup, and neither do more
pub few_words : (words : List (Bor (List ℕ))) → length words < 3 → whole_command bad ≡ parse_relup (map (λ word. word.now) words)
few_words [] few = refl
few_words (new ∷ []) few = refl
few_words (new ∷ ups ∷ []) few = refl
few_words (new ∷ ups ∷ downs ∷ words) few = absurd (omega arith)

pub many_words : (words : List (Bor (List ℕ))) → 4 ≤ length words → whole_command bad ≡ parse_relup (map (λ word. word.now) words)
many_words [] many = absurd (omega arith)
many_words (new ∷ []) many = absurd (omega arith)
many_words (new ∷ ups ∷ []) many = absurd (omega arith)
many_words (new ∷ ups ∷ downs ∷ []) many = absurd (omega arith)
many_words (new ∷ ups ∷ downs ∷ more ∷ words) many = refl
