-- Which fault of a text is reported: that of the first token, or of the end, that can't follow what stands before it.
use Rattle.std.specs.Prelude.{◌≡◌, ◌≢◌, ℕ, ◌⊎◌, List, [], ◌∷◌, ◌++◌, length, ◌==◌, if◌then◌else◌}
use Rattle.std.specs.List.{AllByRecursion}
use Rattle.erl_number.specs.declared.fault.TermFault.{TermFault}
use Rattle.erl_number.specs.declared.fault.TermFault.TheVariants.{BadToken, BadNumber, Unclosed, MissingDot, Unsupported, Deep}
use Rattle.erl_token.specs.Lexing.{Token, Item, items_of, some_name, some_number}
use Rattle.erl_token.specs.Lexing.Token.{open_tuple, open_list, open_binary, close_list, close_binary, comma, dot, number, text, stray, broken, cut}
use Rattle.erl_term.specs.Grammar.{Phrase, Phrases, tokens_of, members_tokens, Fits, tokens}

-- whole terms, each with its dot
abbrev pub rows : List Phrase → List Token
rows [] = []
rows (p ∷ ps) = tokens_of p ++ (dot ∷ rows ps)

abbrev pub Fit : ℕ → List Phrase → Type 0
Fit limit ps = AllByRecursion (Fits limit) ps

-- some tokens after these make them whole terms
abbrev pub Viable : ℕ → List Token → Type 0
Viable limit ts = (more : List Token) × (ps : List Phrase) × Fit limit ps × (ts ++ more ≡ rows ps)

-- the token may stand after these
abbrev pub MayCome : ℕ → List Token → Token → Type 0
MayCome limit ts t = Viable limit (ts ++ t ∷ [])

-- the innermost open bracket may be closed so, at once or after such a member
abbrev pub IsInside : ℕ → List Token → Token → Token → Type 0
IsInside limit ts member close = MayCome limit ts close ⊎ Viable limit (ts ++ member ∷ close ∷ [])

-- a byte of a form of Erlang that isn't read: `|` in a list, `/` and `:` in a binary
abbrev pub IsLeftOut : ℕ → List Token → Token → Type 0
IsLeftOut limit ts (stray x) =
    ((x ≡ 124) × IsInside limit ts some_name close_list) ⊎ (((x ≡ 47) ⊎ (x ≡ 58)) × IsInside limit ts some_number close_binary)
IsLeftOut limit ts t = ⊥

-- reported where a dot may come: the dot is missing, unless what stands there begins no token
abbrev pub for_a_dot : Token → ℕ → TermFault
for_a_dot (stray x) at = BadToken at
for_a_dot t at = MissingDot at

-- reported where a term may begin: a bracket is one too many, `#` begins what isn't read, and all else begins no term
abbrev pub for_a_term : Token → ℕ → TermFault
for_a_term open_tuple at = Deep at
for_a_term open_list at = Deep at
for_a_term open_binary at = Deep at
for_a_term (stray x) at = if x == 35 then Unsupported at else BadToken at
for_a_term t at = BadToken at

-- reported where a segment of a binary may begin: a number or a text is out of range, and all else begins no segment
abbrev pub for_a_segment : Token → ℕ → TermFault
for_a_segment (number n) at = BadNumber at
for_a_segment (text s) at = BadNumber at
for_a_segment t at = BadToken at

-- the fault of a token that can't stand there, whatever follows its first byte
abbrev pub ReportsPlace : ℕ → List Token → Item → TermFault → Type 0
ReportsPlace limit ts i f =
    (MayCome limit ts dot × (f ≡ for_a_dot i.token i.from))
    ⊎ (IsLeftOut limit ts i.token × (f ≡ Unsupported i.from))
    ⊎ ((IsLeftOut limit ts i.token → ⊥) × MayCome limit ts some_name × (f ≡ for_a_term i.token i.from))
    ⊎ ((IsLeftOut limit ts i.token → ⊥) × (MayCome limit ts some_name → ⊥) × MayCome limit ts some_number × (f ≡ for_a_segment i.token i.from))
    ⊎ ((IsLeftOut limit ts i.token → ⊥) × (MayCome limit ts dot → ⊥) × (MayCome limit ts some_number → ⊥) × (f ≡ BadToken i.from))

abbrev pub IsOpening : Token → Type 0
IsOpening open_tuple = Unit {0}
IsOpening open_list = Unit {0}
IsOpening open_binary = Unit {0}
IsOpening t = ⊥

-- whole members of a bracket, or those and a comma
abbrev pub AreMembers : List Token → Type 0
AreMembers ts = (ps : Phrases) × ((ts ≡ members_tokens ps) ⊎ (ts ≡ members_tokens ps ++ comma ∷ []))

-- the innermost bracket that is open after these
abbrev pub IsInnermost : List Item → Item → Type 0
IsInnermost all i = (before after : List Item) × (all ≡ before ++ (i ∷ after)) × IsOpening i.token × AreMembers (tokens after)

-- the fault of the end within what begins at this place: the innermost bracket is open, or there is none
abbrev pub ReportsCut : List Item → ℕ → TermFault → Type 0
ReportsCut before at f =
    ((i : Item) × IsInnermost before i × (f ≡ Unclosed i.from)) ⊎ (((i : Item) → IsInnermost before i → ⊥) × (f ≡ BadToken at))

-- the fault of its own of a token that begins as one that may come does
abbrev pub ReportsOwn : ℕ → List Item → ℕ → Token → TermFault → Type 0
ReportsOwn limit before at (broken like own) f = MayCome limit (tokens before) like × (f ≡ own)
ReportsOwn limit before at (cut like) f = MayCome limit (tokens before) like × ReportsCut before at f
ReportsOwn limit before at t f = ⊥

-- no token that begins so may come
abbrev pub IsMisplaced : ℕ → List Token → Token → Type 0
IsMisplaced limit ts (broken like own) = MayCome limit ts like → ⊥
IsMisplaced limit ts (cut like) = MayCome limit ts like → ⊥
IsMisplaced limit ts t = Unit {0}

-- the fault of a token that can't follow these
abbrev pub Reports : ℕ → List Item → Item → TermFault → Type 0
Reports limit before i f =
    ReportsOwn limit before i.from i.token f ⊎ (IsMisplaced limit (tokens before) i.token × ReportsPlace limit (tokens before) i f)

-- the fault of the end, in a text of so many bytes: a dot is missing, or the innermost bracket is open
abbrev pub ReportsEnd : ℕ → ℕ → List Item → TermFault → Type 0
ReportsEnd limit size all f =
    (MayCome limit (tokens all) dot × (f ≡ MissingDot size)) ⊎ ((i : Item) × IsInnermost all i × (f ≡ Unclosed i.from))

-- The first fault of a text.
abbrev pub IsFault : ℕ → List ℕ → TermFault → Type 0
IsFault limit bytes f =
    ((before after : List Item) × (i : Item) × (items_of bytes ≡ before ++ (i ∷ after)) × Viable limit (tokens before)
    × (MayCome limit (tokens before) i.token → ⊥) × Reports limit before i f)
    ⊎ (Viable limit (tokens (items_of bytes)) × ((ps : List Phrase) → Fit limit ps → tokens (items_of bytes) ≢ rows ps)
    × ReportsEnd limit (length bytes) (items_of bytes) f)
