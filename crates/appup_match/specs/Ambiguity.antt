-- Patterns with a form that OTP's `re` (PCRE 8.44) and the crate `regex` both take and read in different ways, as far as such forms
-- are known: to one of them a quantifier is possessive, signs of a class are an operation on classes, `\<`, `\>` and `\b{start}` are
-- bounds of words, `(?R)` is a flag, or blanks are passed over.
use Rattle.std.specs.Prelude.{ℕ, Bool, true, false, not, ◌&&◌, ◌||◌, ◌==◌, nat_le, List, [], ◌∷◌, Option, None, Some, if◌then◌else◌}
use Rattle.std.specs.Char.{is_ascii_alphabetic}
use Rattle.appup_match.specs.declared.ambiguity.Place.{Place}
use Rattle.appup_match.specs.declared.ambiguity.Place.TheVariants.{Open, Repeated, Escaped, Boundary, Group, GroupKind, ClassStart, ClassNegated, Class, ClassEscaped}

-- after `\`, `[`, `(`, one of `*`, `+`, `?` and `}`, or any other byte
abbrev pub begun : ℕ → Place
begun x =
    if x == 92 then Escaped else if x == 91 then ClassStart else if x == 40 then Group
    else if x == 42 || x == 43 || x == 63 || x == 125 then Repeated else Open

abbrev pub begun_unless : Bool → ℕ → Option Place
begun_unless other x = if other then None else Some (begun x)

-- `\<` and `\>` are bounds of words to one of them.
abbrev pub escaped : ℕ → Option Place
escaped x = if x == 60 || x == 62 then None else if x == 98 then Some Boundary else Some Open

-- after `(`
abbrev pub in_group : ℕ → Place
in_group x = if x == 63 then GroupKind else begun x

-- a letter other than the P of a name
abbrev pub is_flag : ℕ → Bool
is_flag x = is_ascii_alphabetic x && not (x == 80)

-- `&&`, `--` and `~~` are operations on classes to one of them.
abbrev pub is_operation : ℕ → Bool
is_operation x = x == 38 || x == 45 || x == 126

-- in a class, after this byte: `]` ends it, and `[` begins a class in it to one of them
abbrev pub member : ℕ → ℕ → Option Place
member last x =
    if x == 93 then Some Open else if x == 92 then Some ClassEscaped else if x == 91 then None
    else if x == last && is_operation x then None else Some (Class x)

-- A `]` stands for itself where it is the first in its class.
abbrev pub first_member : ℕ → Option Place
first_member x = if x == 93 then Some (Class x) else member 91 x

abbrev pub class_start : ℕ → Option Place
class_start x = if x == 94 then Some ClassNegated else first_member x

-- where the byte after this one stands: a `+` after a quantifier, a `{` after `\b`, and flags have two readings
abbrev pub after : Place → ℕ → Option Place
after Open x = Some (begun x)
after Repeated x = begun_unless (x == 43) x
after Escaped x = escaped x
after Boundary x = begun_unless (x == 123) x
after Group x = Some (in_group x)
after GroupKind x = begun_unless (is_flag x) x
after ClassStart x = class_start x
after ClassNegated x = first_member x
after (Class last) x = member last x
after ClassEscaped x = Some (Class 92)

-- Bytes that no version has have two readings too.
abbrev pub next : Place → ℕ → Option Place
next place x = if nat_le 33 x && nat_le x 126 then after place x else None

abbrev pub or_later : Option Place → (Place → Bool) → Bool
or_later None later = true
or_later (Some place) later = later place

-- whether a form with two readings ends among these bytes, of which the first stands at this place
abbrev pub differs_from : Place → List ℕ → Bool
differs_from place [] = false
differs_from place (x ∷ xs) = or_later (next place x) (λ later. differs_from later xs)

abbrev pub is_ambiguous : List ℕ → Bool
is_ambiguous = differs_from Open
