-- The parser's values as the machine's.
use Rattle.std.proofs.Common.{◌≡◌, ℕ, pos, Bool, true, false, ◌&&◌, nat_lt, if◌then◌else◌, List, [], ◌∷◌, ◌++◌, length, map, reverse, Option, Some, None, Ok, is_some, not, refl, ap, sym, ◌∙◌}
use Rattle.std.specs.Option.{option_map}
use Rattle.std.proofs.lemmas.Bool.{not-true}
use Rattle.std.proofs.lemmas.List.{map-append, reverse-append}
use Rattle.std.proofs.lemmas.Str.{chars-IsAscii}
use Rattle.std.proofs.lemmas.Str.Ascii.{IsAscii-nil}
use Rattle.std.specs.Str.{chars}
use Rattle.erl_term.specs.declared.parser.Slot.TheVariants.{First, Next, Later}
use Rattle.erl_token.specs.declared.token.Bracket.{Bracket}
use Rattle.erl_token.specs.declared.token.Bracket.TheVariants.{Tuple, List as Square, Binary}
use Rattle.erl_token.specs.declared.token.Token.{Token as CodeToken}
use Rattle.erl_token.specs.declared.token.Token.TheVariants.{Open}
use Rattle.erl_term.specs.declared.parser.Level.{Level as CodeLevel}
use Rattle.erl_term.specs.Value.{Value, values_of}
use Rattle.erl_term.specs.Value.Value.{int, list}
use Rattle.erl_term.specs.Value.Values.{no_values, value}
use Rattle.erl_term.specs.Grammar.{Reading, numbers}
use Rattle.erl_token.specs.Lexing.{Item, some_name, some_number, some_text}
use Rattle.erl_token.specs.Lexing.Token.{open_binary, close_binary}
use Rattle.erl_token.specs.Bytes.{bytes_of}
use Rattle.erl_term.specs.Machine.{State, Progress, kind_of, is_binary, begins_term, open_levels, empty, close, comes, step, at_kind}
use Rattle.erl_term.specs.Machine.State.{begun, whole, inside}
use Rattle.erl_term.specs.Machine.Kind.{leaf, opening}
use Rattle.erl_term.specs.Views.{all_levels, level_of}
use Rattle.erl_token.specs.Views.{token_value}

-- numbers one after another, as terms
pub values_of-numbers : (ns : List ℕ) → values_of (map (λ n. int (pos n)) ns) ≡ numbers ns
values_of-numbers [] = refl
values_of-numbers (n ∷ ns) = ap (λ vs. value (int (pos n)) vs) (values_of-numbers ns)

is_some-map : {A B : Type 0} (f : A → B) (o : Option A) → is_some (option_map f o) ≡ is_some o
is_some-map f (Some x) = refl
is_some-map f None = refl

-- a member that is no segment, and one that is
no_segment_adds : {B : Type 0} (f : List ℕ → B) (b : Bool) → is_some (option_map f (if b then None else Some [])) ≡ not b
no_segment_adds f true = refl
no_segment_adds f false = refl

segment_adds : {B : Type 0} (f : List ℕ → B) (bs : List ℕ) (b : Bool) → is_some (option_map f (if b then Some bs else Some [])) ≡ true
segment_adds f bs true = refl
segment_adds f bs false = refl

enters : {B : Type 0} (f : State → B) (t : State) (b r : Bool) → is_some (option_map f (if b then None else if r then Some t else None)) ≡ (not b && r)
enters f t true r = refl
enters f t false true = refl
enters f t false false = refl

-- What may come, by the token that it begins as.
name_comes : (limit : ℕ) (done : List Reading) (s : State) → is_some (at_kind limit done s (kind_of some_name) 0 0) ≡ begins_term s
name_comes limit done begun = refl
name_comes limit done (whole r) = refl
name_comes limit done (inside First l ls) = no_segment_adds _ (is_binary (l ∷ ls))
name_comes limit done (inside Next l ls) = no_segment_adds _ (is_binary (l ∷ ls))
name_comes limit done (inside Later l ls) = refl

pub comes_name : (limit : ℕ) (p : Progress) → comes limit p some_name ≡ begins_term p.state
comes_name limit p = name_comes limit p.done p.state

segment_comes : (limit : ℕ) (done : List Reading) (s : State) (v : Value) (bs : List ℕ) → is_some (at_kind limit done s (leaf v (Some bs)) 0 0) ≡ is_some (open_levels s)
segment_comes limit done begun v bs = refl
segment_comes limit done (whole r) v bs = refl
segment_comes limit done (inside First l ls) v bs = segment_adds _ bs (is_binary (l ∷ ls))
segment_comes limit done (inside Next l ls) v bs = segment_adds _ bs (is_binary (l ∷ ls))
segment_comes limit done (inside Later l ls) v bs = refl

pub comes_number : (limit : ℕ) (p : Progress) → comes limit p some_number ≡ is_some (open_levels p.state)
comes_number limit p = segment_comes limit p.done p.state (int (pos 0)) (0 ∷ [])

pub comes_text : (limit : ℕ) (p : Progress) → comes limit p some_text ≡ is_some (open_levels p.state)
comes_text limit p =
    let none : chars [] ≡ [] = chars-IsAscii [] IsAscii-nil in
    (λ j. is_some (at_kind limit p.done p.state (leaf (list (numbers (none j))) (bytes_of (none j))) 0 0)) ∙ segment_comes limit p.done p.state (list no_values) []

binary_comes : (limit : ℕ) (done : List Reading) (s : State) → is_some (at_kind limit done s (opening Binary) 0 0) ≡ (begins_term s && nat_lt (length (all_levels s)) limit)
binary_comes limit done begun = enters _ _ false (nat_lt 0 limit)
binary_comes limit done (whole r) = refl
binary_comes limit done (inside First l ls) = enters _ _ (is_binary (l ∷ ls)) (nat_lt (length (l ∷ ls)) limit)
binary_comes limit done (inside Next l ls) = enters _ _ (is_binary (l ∷ ls)) (nat_lt (length (l ∷ ls)) limit)
binary_comes limit done (inside Later l ls) = refl

pub comes_open_binary : (limit : ℕ) (p : Progress) → comes limit p open_binary ≡ (begins_term p.state && nat_lt (length (all_levels p.state)) limit)
comes_open_binary limit p = binary_comes limit p.done p.state

pub comes_close_binary : (limit : ℕ) (p : Progress) → comes limit p close_binary ≡ is_some (close p.state Binary 0)
comes_close_binary limit p = is_some-map (λ t. record { done = p.done; state = t }) (close p.state Binary 0)

-- A term that may begin, as a member.
begins_free : (s : State) → begins_term s ≡ true → (open_levels s ≡ Some (all_levels s)) × (is_binary (all_levels s) ≡ false)
begins_free begun h = (refl, refl)
begins_free (whole r) h = absurd (cc)
begins_free (inside First l ls) h = (refl, not-true (is_binary (l ∷ ls)) h)
begins_free (inside Next l ls) h = (refl, not-true (is_binary (l ∷ ls)) h)
begins_free (inside Later l ls) h = absurd (cc)

-- a bracket, where a term may begin
pub opening_steps : (limit : ℕ) (p : Progress) (i : Item) (b : Bracket) → begins_term p.state ≡ true → kind_of i.token ≡ opening b → nat_lt (length (all_levels p.state)) limit ≡ true
    → step limit p i ≡ Ok (record p { state = inside First (record { from = i.from; members = empty b }) (all_levels p.state) })
opening_steps limit p i b h k room = let (free, square) = begins_free p.state h in rw (k, free, square, room) refl

-- an opening bracket, as the parser has it
pub opening_is_read : (t : CodeToken) (b : Bracket) → t ≡ Open b → kind_of (token_value t) ≡ opening b
opening_is_read (Open Tuple) Tuple e = refl
opening_is_read (Open Square) Square e = refl
opening_is_read (Open Binary) Binary e = refl
opening_is_read t b e = absurd (cc)

-- the bracket that another is opened in stands last
pub levels_more : (around : CodeLevel) (outer : List CodeLevel) → level_of around ∷ reverse (map level_of outer) ≡ reverse (map level_of (outer ++ around ∷ []))
levels_more around outer = sym (ap reverse (map-append level_of outer (around ∷ [])) ∙ reverse-append (map level_of outer) (level_of around ∷ []))
