-- What stands between quotes (Erlang Reference Manual, Data Types, Atom and String).
use Rattle.std.specs.Prelude.{ℕ, zero, suc, ◌+◌, List, [], ◌∷◌, ◌++◌, nat_lt, ◌==◌, if◌then◌else◌, encode_utf8}
use Rattle.erl_number.specs.declared.fault.TermFault.{TermFault}
use Rattle.erl_number.specs.declared.fault.TermFault.TheVariants.{BadToken, Unclosed}
use Rattle.erl_number.specs.Escapes.{Character, escape}
use Rattle.erl_number.specs.Escapes.Character.{means, senseless, unfinished}

-- The text up to the next quote, and how many bytes it takes with that quote, or a fault.
pub data Quoted : Type 0 where
  closed : List ℕ → ℕ → Quoted
  faulty : TermFault → Quoted

-- what stands between quotes, with these bytes in front that so many bytes spell
abbrev pub behind : List ℕ → ℕ → Quoted → Quoted
behind text size (closed rest n) = closed (text ++ rest) (size + n)
behind text size q = q

-- why a quote isn't closed where the bytes end: `at` is the place of the end, and `from` that of the quote that is open
abbrev pub unclosed : ℕ → ℕ → List ℕ → TermFault
unclosed from at [] = Unclosed from
unclosed from at (x ∷ xs) = if nat_lt 255 x then BadToken at else unclosed from (at + 1) xs

-- what stands between quotes from the backslash at this place on: an escape, and what follows it by its length
abbrev pub escaped : ℕ → ℕ → List ℕ → (ℕ → Quoted) → Character → Quoted
escaped from at xs rest (means c size) = behind (encode_utf8 c) 1 (rest size)
escaped from at xs rest senseless = faulty (BadToken at)
escaped from at xs rest unfinished = faulty (unclosed from (at + 1) xs)

-- What stands from this place on, up to the next such quote, after so many bytes of an escape that began before them:
-- from is the place of the quote that opens it.
abbrev pub quoted : ℕ → ℕ → ℕ → ℕ → List ℕ → Quoted
quoted quote from at n [] = faulty (Unclosed from)
quoted quote from at (suc n) (x ∷ xs) = behind [] 1 (quoted quote from (at + 1) n xs)
quoted quote from at zero (x ∷ xs) =
    if x == quote then closed [] 1
    else if nat_lt 255 x then faulty (BadToken at)
    else if x == 92 then escaped from at xs (λ n. quoted quote from (at + 1) n xs) (escape xs)
    else behind (x ∷ []) 1 (quoted quote from (at + 1) 0 xs)
