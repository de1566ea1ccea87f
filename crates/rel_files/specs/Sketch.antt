-- What is made of a term before it is known whether a name stands twice and each version is one.
use Rattle.std.specs.Prelude.{ℕ, suc, pos, Bool, true, false, ◌&&◌, List, [], ◌∷◌, Option, None, Some, unwrap_or, if◌then◌else◌}
use Rattle.std.specs.Option.{option_map, option_and_then}
use Rattle.std.specs.Str.{bytes_eq}
use Rattle.erl_term.specs.Lexing.{is_in}
use Rattle.erl_term.specs.Value.{Value, Values}
use Rattle.erl_term.specs.Value.Value.{int, atom, list}
use Rattle.erl_term.specs.Value.Values.{no_values, value}
use Rattle.rel_files.specs.declared.release.StartType.{StartType}
use Rattle.rel_files.specs.declared.release.StartType.TheVariants.{Permanent, Transient, Temporary, Load, Unloaded}
use Rattle.rel_files.specs.Name.{is_name}
use Rattle.rel_files.specs.Form.{start_word}
use Rattle.rel_files.specs.Release.{Release, Application}
use Rattle.rel_files.specs.Parts.{list_in, AppParts, app_parts, RelParts, rel_parts}

-- how many there are
abbrev pub count : Values → ℕ
count no_values = 0
count (value v vs) = suc (count vs)

abbrev pub is_number : Value → Bool
is_number (int n) = true
is_number v = false

-- whether all of them are numbers
abbrev pub are_numbers : Values → Bool
are_numbers no_values = true
are_numbers (value v vs) = is_number v && are_numbers vs

-- the character of a number, which is none below the lowest and none above ~
abbrev pub character_in : ℕ → Value → Option ℕ
character_in lowest (int (pos n)) = if is_in lowest 0x7E n then Some n else None
character_in lowest v = None

-- those of all of them, where each is one
abbrev pub characters_in : ℕ → Values → Option (List ℕ)
characters_in lowest no_values = Some []
characters_in lowest (value v vs) = option_and_then (λ c. option_map (λ cs. c ∷ cs) (characters_in lowest vs)) (character_in lowest v)

-- the text of 1 to 62 such characters
abbrev pub text_in : ℕ → Values → Option (List ℕ)
text_in lowest vs = if is_in 1 62 (count vs) then characters_in lowest vs else None

-- the text of a version
abbrev pub version_in : Value → Option (List ℕ)
version_in v = option_and_then (text_in 0x21) (list_in v)

-- the text of a version, or the empty text, which is none, of numbers that are no version
abbrev pub version_or_empty : Value → Option (List ℕ)
version_or_empty v = option_and_then (λ vs. if are_numbers vs then Some (unwrap_or (text_in 0x21 vs) []) else None) (list_in v)

-- the name that an atom is
abbrev pub name_in : Value → Option (List ℕ)
name_in (atom s) = if is_name s then Some s else None
name_in v = None

-- the names, where each is one
abbrev pub names_of : Values → Option (List (List ℕ))
names_of no_values = Some []
names_of (value v vs) = option_and_then (λ n. option_map (λ ns. n ∷ ns) (names_of vs)) (name_in v)

-- the names that a list has
abbrev pub names_in : Value → Option (List (List ℕ))
names_in v = option_and_then names_of (list_in v)

-- the start type of a word
abbrev pub start_of : List ℕ → Option StartType
start_of s =
    if bytes_eq s (start_word Permanent) then Some Permanent
    else if bytes_eq s (start_word Transient) then Some Transient
    else if bytes_eq s (start_word Temporary) then Some Temporary
    else if bytes_eq s (start_word Load) then Some Load
    else if bytes_eq s (start_word Unloaded) then Some Unloaded
    else None

-- what follows an application's version
pub record End : Type 0 where
  pub start : StartType
  pub included : Option (List (List ℕ))

-- the included applications, if a list of them is all that is there
abbrev pub included_in : StartType → Values → Option End
included_in start no_values = Some (record { start = start; included = None })
included_in start (value (list vs) no_values) = option_map (λ ns. record { start = start; included = Some ns }) (names_of vs)
included_in start vs = None

abbrev pub end_in : Values → Option End
end_in (value (atom s) vs) = option_and_then (λ start. included_in start vs) (start_of s)
end_in vs = included_in Permanent vs

-- an application with its version, if what stands there is one
pub record AppSketch : Type 0 where
  pub name : List ℕ
  pub vsn : Option (List ℕ)
  pub start : StartType
  pub included : Option (List (List ℕ))

abbrev pub app_sketch : AppParts → Option AppSketch
app_sketch p =
    if is_name p.name && are_numbers p.vsn
    then option_map (λ (e : End). record { name = p.name; vsn = text_in 0x21 p.vsn; start = e.start; included = e.included }) (end_in p.ending)
    else None

abbrev pub app_sketch_in : Value → Option AppSketch
app_sketch_in v = option_and_then app_sketch (app_parts v)

-- those of all applications, where each is one
abbrev pub app_sketches_in : Values → Option (List AppSketch)
app_sketches_in no_values = Some []
app_sketches_in (value v vs) = option_and_then (λ a. option_map (λ as'. a ∷ as') (app_sketches_in vs)) (app_sketch_in v)

-- a release with its versions, as far as what stands there are some
pub record Sketch : Type 0 where
  pub name : List ℕ
  pub vsn : Option (List ℕ)
  pub erts : Option (List ℕ)
  pub apps : List AppSketch

abbrev pub sketch : RelParts → Option Sketch
sketch p =
    if are_numbers p.title.vsn && are_numbers p.erts
    then option_and_then (λ name. option_map (λ apps. record { name = name; vsn = text_in 0x21 p.title.vsn; erts = text_in 0x21 p.erts; apps = apps }) (app_sketches_in p.apps)) (text_in 0x20 p.title.name)
    else None

abbrev pub sketch_in : Value → Option Sketch
sketch_in v = option_and_then sketch (rel_parts v)

-- an application, if its version is one
abbrev pub app_in : AppSketch → Option Application
app_in a = option_map (λ vsn. record { name = a.name; vsn = vsn; start = a.start; included = a.included }) a.vsn

-- all of them, if each version is one
abbrev pub apps_in : List AppSketch → Option (List Application)
apps_in [] = Some []
apps_in (a ∷ as') = option_and_then (λ app. option_map (λ apps. app ∷ apps) (apps_in as')) (app_in a)

-- the release, if each version is one
abbrev pub release_in : Sketch → Option Release
release_in s =
    option_and_then (λ vsn. option_and_then (λ erts. option_map (λ apps. record { name = s.name; vsn = vsn; erts = erts; apps = apps }) (apps_in s.apps)) s.erts) s.vsn
