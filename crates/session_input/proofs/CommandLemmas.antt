-- A command, line by line.
use Rattle.std.proofs.Common.{◌≡◌, ℕ, ◌≤◌, ◌<◌, Bool, true, false, List, [], ◌∷◌, ◌++◌, length, refl, ap, sym, subst, ◌∙◌, arith}
use Rattle.std.specs.Prelude.{nat_lt, Option, None, Some, Result, Ok, Err}
use Rattle.std.specs.Result.{IsErrAnd}
use Rattle.std.specs.Option.{option_map}
use Rattle.std.proofs.lemmas.Bool.Decides.{nat_tests}
use Rattle.session_input.specs.declared.error.SessionError.{SessionError}
use Rattle.session_input.specs.declared.error.SessionError.TheVariants.{Read, Write, Limit, NoMemory}
use Rattle.session_input.specs.declared.given.GivenFile.{GivenFile}
use Rattle.session_input.specs.declared.given.GivenFile.TheVariants as kept
use Rattle.session_input.specs.declared.command.Command.{Command as CommandInMemory}
use Rattle.session_input.specs.declared.line.Line.{Line}
use Rattle.session_input.specs.Feed.{Feed, Gives, Stays, EndsAs, IsNext}
use Rattle.session_input.specs.Feed.Feed.{over, cut, next}
use Rattle.session_input.specs.Lines.{IsKept}
use Rattle.session_input.specs.Commands.{Command, ParsedLine, File, file_of, parse_line, is_end, put_parsed, commands_of, commands_behind, given_of, command_of, IsGiven, most_line, most_file}
use Rattle.session_input.specs.Commands.ParsedLine.{blank, file_begins, whole_command}
use Rattle.session_input.specs.Commands.Command.{file, bad}

-- what a line of a command is
abbrev pub Says : ParsedLine → Line → Type 0
Says said line = (l : List ℕ) → IsKept most_line line l → said ≡ parse_line l

-- a blank line is passed over
pub passes_blank : (line : Line) (said : ParsedLine) (old : Option (Feed Command)) (now new : Option (Feed (List ℕ)))
    → Stays old (option_map commands_of now) → Gives now new (IsKept most_line line) → Says said line → said ≡ blank
    → Stays old (option_map commands_of new)
passes_blank line said None now new s g says is = tt
passes_blank line said (Some old) None new s g says is = absurd s
passes_blank line said (Some old) (Some now) None s g says is = absurd g
passes_blank line said (Some old) (Some now) (Some new) s (l, was, k) says is =
    sym (sym s ∙ ap commands_of was ∙ ap (λ x. put_parsed x (commands_of new) (λ path. commands_behind path [] new)) (sym (says l k) ∙ is))

-- a line says a command
pub says_command : (line : Line) (said : ParsedLine) (c : CommandInMemory) (old : Option (Feed Command)) (now new : Option (Feed (List ℕ)))
    → Stays old (option_map commands_of now) → Gives now new (IsKept most_line line) → Says said line → said ≡ whole_command (command_of c)
    → Gives old (option_map commands_of new) (λ d. command_of c ≡ d)
says_command line said c None now new s g says is = tt
says_command line said c (Some old) None new s g says is = absurd s
says_command line said c (Some old) (Some now) None s g says is = absurd g
says_command line said c (Some old) (Some now) (Some new) s (l, was, k) says is = (
  command_of c,
  sym s ∙ ap commands_of was ∙ ap (λ x. put_parsed x (commands_of new) (λ path. commands_behind path [] new)) (sym (says l k) ∙ is),
  refl,
)

-- a line file_begins a file
opened : (line : Line) (said : ParsedLine) (path : List ℕ) (old : Feed Command) (now new : Feed (List ℕ))
    → commands_of now ≡ old → (l : List ℕ) → now ≡ next l new → IsKept most_line line l → Says said line → said ≡ file_begins path
    → commands_behind path [] new ≡ old
opened line said path old now new s l was k says is =
    sym (sym s ∙ ap commands_of was ∙ ap (λ x. put_parsed x (commands_of new) (λ p. commands_behind p [] new)) (sym (says l k) ∙ is))

pub opens_file : (line : Line) (said : ParsedLine) (path : List ℕ) (old : Option (Feed Command)) (now mid : Option (Feed (List ℕ)))
    → Stays old (option_map commands_of now) → Gives now mid (IsKept most_line line) → Says said line → said ≡ file_begins path
    → Stays old (option_map (commands_behind path []) mid)
opens_file line said path None now mid s g says is = tt
opens_file line said path (Some old) None mid s g says is = absurd s
opens_file line said path (Some old) (Some now) None s g says is = absurd g
opens_file line said path (Some old) (Some now) (Some mid) s (l, was, k) says is = opened line said path old now mid s l was k says is

-- there is no further command
pub no_command : (old : Option (Feed Command)) (now new : Option (Feed (List ℕ)))
    → Stays old (option_map commands_of now) → EndsAs over now new → EndsAs over old (option_map commands_of new)
no_command None now new s e = tt
no_command (Some old) None new s e = absurd s
no_command (Some old) (Some now) None s e = absurd e
no_command (Some old) (Some now) (Some new) s (was, is) = (sym s ∙ ap commands_of was, ap commands_of is)

-- it is cut off
cut_before : (old : Option (Feed Command)) (now new : Option (Feed (List ℕ)))
    → Stays old (option_map commands_of now) → EndsAs cut now new → EndsAs cut old (option_map commands_of new)
cut_before None now new s e = tt
cut_before (Some old) None new s e = absurd s
cut_before (Some old) (Some now) None s e = absurd e
cut_before (Some old) (Some now) (Some new) s (was, is) = (sym s ∙ ap commands_of was, ap commands_of is)

-- an error stays what it is
pub error_before : {V : Type 0} (Shows : V → Command → Type 0) (r : Result (Option V) SessionError) (most : ℕ) (e : SessionError) (n : ℕ)
    (old : ℕ → Option (Feed Command)) (now new : ℕ → Option (Feed (List ℕ)))
    → IsErrAnd r (λ f. f ≡ e) → Stays (old n) (option_map commands_of (now n)) → IsNext {V = Line} (IsKept most) (Err e) n now new
    → IsNext Shows r n old (λ m. option_map commands_of (new m))
error_before Shows (Ok v) most e n old now new p s g = absurd p
error_before Shows (Err f) most Limit n old now new p s g = subst (λ x. IsNext Shows (Err x) n old (λ m. option_map commands_of (new m))) (sym p) (cut_before (old n) (now n) (new n) s g)
error_before Shows (Err f) most Read n old now new p s g = subst (λ x. IsNext Shows (Err x) n old (λ m. option_map commands_of (new m))) (sym p) (cut_before (old n) (now n) (new n) s g)
error_before Shows (Err f) most Write n old now new p s g = subst (λ x. IsNext Shows (Err x) n old (λ m. option_map commands_of (new m))) (sym p) tt
error_before Shows (Err f) most NoMemory n old now new p s g = subst (λ x. IsNext Shows (Err x) n old (λ m. option_map commands_of (new m))) (sym p) tt

-- A file so far: the bytes of its lines, and what is kept of them.
pub record Within (path : List ℕ) (given : GivenFile) (old : Feed Command) (now : Feed (List ℕ)) : Type 0 where
  pub bytes : List ℕ
  pub is : old ≡ commands_behind path bytes now
  pub kept : IsGiven given bytes

abbrev pub IsWithin : List ℕ → GivenFile → Option (Feed Command) → Option (Feed (List ℕ)) → Type 0
IsWithin path given None now = Unit {0}
IsWithin path given (Some old) None = ⊥
IsWithin path given (Some old) (Some now) = Within path given old now

pub no_lines : (path : List ℕ) (given : GivenFile) (now : Option (Feed (List ℕ))) → IsGiven given [] → IsWithin path given (option_map (commands_behind path []) now) now
no_lines path given None k = tt
no_lines path given (Some now) k = record { bytes = []; is = refl; kept = k }

behind-line : (path bs l : List ℕ) (ls : Feed (List ℕ)) → is_end l ≡ false → commands_behind path bs (next l ls) ≡ commands_behind path (bs ++ (l ++ 10 ∷ [])) ls
behind-line path bs l ls e = rw e refl

behind-end : (path bs l : List ℕ) (ls : Feed (List ℕ)) → is_end l ≡ true → commands_behind path bs (next l ls) ≡ next (file path (file_of bs)) (commands_of ls)
behind-end path bs l ls e = rw e refl

-- one more line
pub one_more_line : (path : List ℕ) (given given' : GivenFile) (line : Line) (b : Bool) (old : Option (Feed Command)) (now new : Option (Feed (List ℕ)))
    → IsWithin path given old now → Gives now new (IsKept most_file line)
    → ((most : ℕ) (l : List ℕ) → 4 ≤ most → IsKept most line l → b ≡ is_end l) → b ≡ false
    → ((bs l : List ℕ) → IsGiven given bs → IsKept most_file line l → IsGiven given' (bs ++ (l ++ 10 ∷ [])))
    → IsWithin path given' old new
one_more_line path given given' line b None now new w g ends e push = tt
one_more_line path given given' line b (Some old) None new w g ends e push = absurd w
one_more_line path given given' line b (Some old) (Some now) None w g ends e push = absurd g
one_more_line path given given' line b (Some old) (Some now) (Some new) w (l, was, k) ends e push = record {
  bytes = w.bytes ++ (l ++ 10 ∷ []);
  is = w.is ∙ ap (commands_behind path w.bytes) was ∙ behind-line path w.bytes l new (sym (ends most_file l (omega arith) k) ∙ e);
  kept = push w.bytes l w.kept k;
}

fits : (n : ℕ) → n ≤ 1048576 → nat_lt 1048576 n ≡ false
fits n h = grind (arith, nat_tests)

passes : (n : ℕ) → 1048576 < n → nat_lt 1048576 n ≡ true
passes n h = grind (arith, nat_tests)

given_of-file_of : (g : GivenFile) (bs : List ℕ) → IsGiven g bs → given_of g ≡ file_of bs
given_of-file_of (kept.Bytes v) bs k = ap File.bytes k.0 ∙ sym (rw (fits (length bs) k.1) refl)
given_of-file_of kept.TooLarge bs k = sym (rw (passes (length bs) k) refl)

-- its end
pub ends_file : (path : List ℕ) (given : GivenFile) (line : Line) (b : Bool) (old : Option (Feed Command)) (now new : Option (Feed (List ℕ)))
    → IsWithin path given old now → Gives now new (IsKept most_file line)
    → ((most : ℕ) (l : List ℕ) → 4 ≤ most → IsKept most line l → b ≡ is_end l) → b ≡ true
    → Gives old (option_map commands_of new) (λ d. file path (given_of given) ≡ d)
ends_file path given line b None now new w g ends e = tt
ends_file path given line b (Some old) None new w g ends e = absurd w
ends_file path given line b (Some old) (Some now) None w g ends e = absurd g
ends_file path given line b (Some old) (Some now) (Some new) w (l, was, k) ends e = (
  file path (file_of w.bytes),
  w.is ∙ ap (commands_behind path w.bytes) was ∙ behind-end path w.bytes l new (sym (ends most_file l (omega arith) k) ∙ e),
  ap (file path) (given_of-file_of given w.bytes w.kept),
)

-- the input ends before it
pub ends_within : (path : List ℕ) (given : GivenFile) (old : Option (Feed Command)) (now new : Option (Feed (List ℕ)))
    → IsWithin path given old now → EndsAs over now new → Gives old (option_map commands_of new) (λ d. bad ≡ d)
ends_within path given None now new w e = tt
ends_within path given (Some old) None new w e = absurd w
ends_within path given (Some old) (Some now) None w e = absurd e
ends_within path given (Some old) (Some now) (Some new) w (was, is) =
    (bad, w.is ∙ ap (commands_behind path w.bytes) was ∙ ap (λ f. next bad (commands_of f)) (sym is), refl)

cut_inside : (path : List ℕ) (given : GivenFile) (old : Option (Feed Command)) (now new : Option (Feed (List ℕ)))
    → IsWithin path given old now → EndsAs cut now new → EndsAs cut old (option_map commands_of new)
cut_inside path given None now new w e = tt
cut_inside path given (Some old) None new w e = absurd w
cut_inside path given (Some old) (Some now) None w e = absurd e
cut_inside path given (Some old) (Some now) (Some new) w (was, is) = (w.is ∙ ap (commands_behind path w.bytes) was, ap commands_of is)

pub error_inside : {V : Type 0} (Shows : V → Command → Type 0) (r : Result (Option V) SessionError) (most : ℕ) (e : SessionError)
    (path : List ℕ) (given : GivenFile) (n : ℕ) (old : ℕ → Option (Feed Command)) (now new : ℕ → Option (Feed (List ℕ)))
    → IsErrAnd r (λ f. f ≡ e) → IsWithin path given (old n) (now n) → IsNext {V = Line} (IsKept most) (Err e) n now new
    → IsNext Shows r n old (λ m. option_map commands_of (new m))
error_inside Shows (Ok v) most e path given n old now new p w g = absurd p
error_inside Shows (Err f) most Limit path given n old now new p w g = subst (λ x. IsNext Shows (Err x) n old (λ m. option_map commands_of (new m))) (sym p) (cut_inside path given (old n) (now n) (new n) w g)
error_inside Shows (Err f) most Read path given n old now new p w g = subst (λ x. IsNext Shows (Err x) n old (λ m. option_map commands_of (new m))) (sym p) (cut_inside path given (old n) (now n) (new n) w g)
error_inside Shows (Err f) most Write path given n old now new p w g = subst (λ x. IsNext Shows (Err x) n old (λ m. option_map commands_of (new m))) (sym p) tt
error_inside Shows (Err f) most NoMemory path given n old now new p w g = subst (λ x. IsNext Shows (Err x) n old (λ m. option_map commands_of (new m))) (sym p) tt
