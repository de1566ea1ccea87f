-- The commands of an input.
use Rattle.std.specs.Prelude.{◌≡◌, ℕ, ◌<◌, ◌≤◌, ◌^◌, Bool, ◌&&◌, List, [], ◌∷◌, ◌++◌, Option, None, Some, length, map, chars, nat_lt, nat_le, ◌==◌, if◌then◌else◌, codes, string_bytes}
use Rattle.std.specs.Char.{is_ascii_digit}
use Rattle.std.specs.Int.{is_in_range}
use Rattle.std.specs.List.{list_all, slice_split}
use Rattle.std.specs.Str.{bytes_eq, is_utf8}
use Rattle.std.specs.Str.Parse.{digits_value}
use Rattle.rel_files.specs.Name.{is_text, is_name}
use Rattle.session_input.specs.declared.given.GivenFile.{GivenFile}
use Rattle.session_input.specs.declared.given.GivenFile.TheVariants as kept
use Rattle.session_input.specs.declared.command.Command.{Command as CommandInMemory}
use Rattle.session_input.specs.declared.command.Command.TheVariants as memory
use Rattle.session_input.specs.Feed.{Feed}
use Rattle.session_input.specs.Feed.Feed.{over, cut, next}

-- how long a line of a command and a file are at most
abbrev pub most_line : ℕ
most_line = 4096

abbrev pub most_file : ℕ
most_file = 1048576

-- a given file: its bytes, or that there are too many
pub data File : Type 0 where
  bytes : List ℕ → File
  too_large : File

abbrev pub file_of : List ℕ → File
file_of bs = if nat_lt most_file (length bs) then too_large else bytes bs

-- A command. Paths, versions, names of applications and ids are texts.
pub data Command : Type 0 where
  file : List ℕ → File → Command
  create : List ℕ → Command
  set_unpacked : List ℕ → Command
  install : List ℕ → Command
  check : List ℕ → Command
  permanent : List ℕ → Command
  remove : List ℕ → Command
  reboot_old : List ℕ → Command
  boot : Command
  start : Command
  releases : Command
  procs : Command
  modules : Command
  peek : List ℕ → List ℕ → Command
  call : List ℕ → List ℕ → ℕ → Command
  flood : List ℕ → List ℕ → ℕ → ℕ → Command
  relup : List ℕ → List (List ℕ) → List (List ℕ) → Command
  quit : Command
  bad : Command

-- what a line says where a command may stand: blank, that a file begins, or a whole command
pub data ParsedLine : Type 0 where
  blank : ParsedLine
  file_begins : List ℕ → ParsedLine
  whole_command : Command → ParsedLine

-- The words after a command's own, by their kind: none, one path, or one version. A path is not empty.
abbrev pub without_words : List (List ℕ) → ParsedLine → ParsedLine
without_words [] parsed = parsed
without_words words parsed = whole_command bad

abbrev pub path_of : List ℕ → Option (List ℕ)
path_of [] = None
path_of (b ∷ path) = Some (b ∷ path)

abbrev pub path_in : List (List ℕ) → Option (List ℕ)
path_in (word ∷ []) = path_of word
path_in words = None

abbrev pub version_in : List (List ℕ) → Option (List ℕ)
version_in (vsn ∷ []) = if is_text 0x21 vsn then Some vsn else None
version_in words = None

-- a line with a word of some kind, where there is one
abbrev pub with_word : Option (List ℕ) → (List ℕ → ParsedLine) → ParsedLine
with_word None parsed = whole_command bad
with_word (Some word) parsed = parsed word

-- the command on the release of a version that a word names
abbrev pub change_named : List ℕ → List ℕ → Command
change_named word vsn =
    if bytes_eq word (codes "install") then install vsn
    else if bytes_eq word (codes "check") then check vsn
    else if bytes_eq word (codes "permanent") then permanent vsn
    else if bytes_eq word (codes "remove") then remove vsn
    else if bytes_eq word (codes "reboot_old") then reboot_old vsn
    else bad

-- what such a word says with the words after it
abbrev pub parse_change : List ℕ → List (List ℕ) → ParsedLine
parse_change word words = with_word (version_in words) (λ vsn. whole_command (change_named word vsn))

-- what stands between single separators
abbrev pub split_at : ℕ → List ℕ → List (List ℕ)
split_at separator text = slice_split (λ b. b == separator) text

-- a path is not empty
abbrev pub is_path : List ℕ → Bool
is_path word = nat_lt 0 (length word)

-- the paths that a word has between its commas, none of them empty; a hyphen alone stands for none
abbrev pub paths_of : List ℕ → Option (List (List ℕ))
paths_of word =
    if bytes_eq word (codes "-") then Some []
    else if list_all is_path (split_at 44 word) then Some (split_at 44 word)
    else None

-- a relup's request, where each of its words was of its kind
abbrev pub relup_of : Option (List ℕ) → Option (List (List ℕ)) → Option (List (List ℕ)) → Command
relup_of (Some new) (Some ups) (Some downs) = relup new ups downs
relup_of new ups downs = bad

-- what the word of such a request says with the words after it
abbrev pub parse_relup : List (List ℕ) → ParsedLine
parse_relup (new ∷ ups ∷ downs ∷ []) = whole_command (relup_of (path_of new) (paths_of ups) (paths_of downs))
parse_relup words = whole_command bad

-- a word that can be the id of a process: 1 to 255 characters, and no byte up to 0x20
abbrev pub is_id : List ℕ → Bool
is_id word = is_in_range 1 255 (length (chars word)) && list_all (nat_lt 32) word

-- two words that can name a process: its application, and its id there
abbrev pub names_process : List ℕ → List ℕ → Bool
names_process app id = is_name app && is_id id

-- a word of decimal digits alone, at least one, that spell a number below 2 ^ 32
abbrev pub is_input : List ℕ → Bool
is_input word = list_all is_ascii_digit word && (nat_lt 0 (length word) && nat_lt (digits_value 10 word) (2 ^ 32))

-- the input that a word is: the number that it spells
abbrev pub input_of : List ℕ → Option ℕ
input_of word = if is_input word then Some (digits_value 10 word) else None

-- how often a process is called at once: from 1 to 1,000 times
abbrev pub times_in : Option ℕ → Option ℕ
times_in None = None
times_in (Some n) = if is_in_range 1 1000 n then Some n else None

abbrev pub times_of : List ℕ → Option ℕ
times_of word = times_in (input_of word)

-- a command on a process, where each of its words is of its kind
abbrev pub peek_of : List ℕ → List ℕ → Command
peek_of app id = if names_process app id then peek app id else bad

abbrev pub call_of : List ℕ → List ℕ → Option ℕ → Command
call_of app id None = bad
call_of app id (Some input) = if names_process app id then call app id input else bad

abbrev pub flood_of : List ℕ → List ℕ → Option ℕ → Option ℕ → Command
flood_of app id (Some input) (Some times) = if names_process app id then flood app id input times else bad
flood_of app id input times = bad

-- what the word of such a command says with the words after it
abbrev pub parse_peek : List (List ℕ) → ParsedLine
parse_peek (app ∷ id ∷ []) = whole_command (peek_of app id)
parse_peek words = whole_command bad

abbrev pub parse_call : List (List ℕ) → ParsedLine
parse_call (app ∷ id ∷ input ∷ []) = whole_command (call_of app id (input_of input))
parse_call words = whole_command bad

abbrev pub parse_flood : List (List ℕ) → ParsedLine
parse_flood (app ∷ id ∷ input ∷ times ∷ []) = whole_command (flood_of app id (input_of input) (times_of times))
parse_flood words = whole_command bad

-- what the word of a command on a file says with the words after it
abbrev pub parse_path_command : List ℕ → List (List ℕ) → ParsedLine
parse_path_command word words =
    if bytes_eq word (codes "file") then with_word (path_in words) file_begins
    else if bytes_eq word (codes "create") then with_word (path_in words) (λ path. whole_command (create path))
    else if bytes_eq word (codes "set_unpacked") then with_word (path_in words) (λ path. whole_command (set_unpacked path))
    else if bytes_eq word (codes "relup") then parse_relup words
    else parse_change word words

-- what the word of a command on a process says with the words after it
abbrev pub parse_process_command : List ℕ → List (List ℕ) → ParsedLine
parse_process_command word words =
    if bytes_eq word (codes "peek") then parse_peek words
    else if bytes_eq word (codes "call") then parse_call words
    else if bytes_eq word (codes "flood") then parse_flood words
    else parse_path_command word words

-- what a command's word says with the words after it
abbrev pub parse_command : List ℕ → List (List ℕ) → ParsedLine
parse_command word words =
    if bytes_eq word (codes "boot") then without_words words (whole_command boot)
    else if bytes_eq word (codes "start") then without_words words (whole_command start)
    else if bytes_eq word (codes "releases") then without_words words (whole_command releases)
    else if bytes_eq word (codes "procs") then without_words words (whole_command procs)
    else if bytes_eq word (codes "modules") then without_words words (whole_command modules)
    else if bytes_eq word (codes "quit") then without_words words (whole_command quit)
    else parse_process_command word words

-- what words say
abbrev pub parse_words : List (List ℕ) → ParsedLine
parse_words [] = whole_command bad
parse_words (word ∷ words) = parse_command word words

-- what stands between single spaces
abbrev pub words_of : List ℕ → List (List ℕ)
words_of line = split_at 32 line

abbrev pub is_blank : List ℕ → Bool
is_blank line = list_all (λ b. nat_le b 32) line

-- what a line says
abbrev pub parse_line : List ℕ → ParsedLine
parse_line line =
    if nat_lt most_line (length line) then whole_command bad
    else if is_blank line then blank
    else if is_utf8 line then parse_words (words_of line)
    else whole_command bad

-- the line after the last line of a file
abbrev pub is_end : List ℕ → Bool
is_end line = bytes_eq line (codes ".end")

-- what a line that says this makes of the commands after it, or of the file that begins after it
abbrev pub put_parsed : ParsedLine → Feed Command → (List ℕ → Feed Command) → Feed Command
put_parsed blank rest file_at = rest
put_parsed (file_begins path) rest file_at = file_at path
put_parsed (whole_command c) rest file_at = next c rest

abbrev mutual
  -- The commands that lines say. A file that has no end is a bad command.
  pub commands_of : Feed (List ℕ) → Feed Command
  commands_of over = over
  commands_of cut = cut
  commands_of (next l ls) = put_parsed (parse_line l) (commands_of ls) (λ path. commands_behind path [] ls)

  -- those after a file of which these bytes are there already
  pub commands_behind : List ℕ → List ℕ → Feed (List ℕ) → Feed Command
  commands_behind path bs over = next bad over
  commands_behind path bs cut = cut
  commands_behind path bs (next l ls) =
      if is_end l then next (file path (file_of bs)) (commands_of ls) else commands_behind path (bs ++ (l ++ 10 ∷ [])) ls

-- a file and a command without where they lie in memory
abbrev pub given_of : GivenFile → File
given_of (kept.Bytes v) = bytes v.items
given_of kept.TooLarge = too_large

abbrev pub command_of : CommandInMemory → Command
command_of (memory.File p g) = file (string_bytes p) (given_of g)
command_of (memory.Create p) = create (string_bytes p)
command_of (memory.SetUnpacked p) = set_unpacked (string_bytes p)
command_of (memory.Install v) = install (string_bytes v)
command_of (memory.Check v) = check (string_bytes v)
command_of (memory.Permanent v) = permanent (string_bytes v)
command_of (memory.Remove v) = remove (string_bytes v)
command_of (memory.RebootOld v) = reboot_old (string_bytes v)
command_of memory.Boot = boot
command_of memory.Start = start
command_of memory.Releases = releases
command_of memory.Procs = procs
command_of memory.Modules = modules
command_of (memory.Peek a i) = peek (string_bytes a) (string_bytes i)
command_of (memory.Call a i n) = call (string_bytes a) (string_bytes i) n
command_of (memory.Flood a i n t) = flood (string_bytes a) (string_bytes i) n t
command_of (memory.Relup n u d) = relup (string_bytes n) (map string_bytes u.items) (map string_bytes d.items)
command_of memory.Quit = quit
command_of memory.Bad = bad

-- a file as it is kept while its lines come
abbrev pub IsGiven : GivenFile → List ℕ → Type 0
IsGiven (kept.Bytes v) bs = (v.items ≡ bs) × (length bs ≤ most_file)
IsGiven kept.TooLarge bs = most_file < length bs
