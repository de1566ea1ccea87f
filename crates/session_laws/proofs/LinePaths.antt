-- The paths of an input's commands lie within its lines, and the versions of a store are those of its records.
use Rattle.std.proofs.Common.{◌≡◌, ℕ, Bool, true, false, not, List, [], ◌∷◌, ◌++◌, length, codes, Option, Some, None, inl, inr, refl, sym, ap, ◌∙◌, subst}
use Rattle.std.specs.Prelude.{if◌then◌else◌, ◌==◌, nat_lt}
use Rattle.std.specs.List.{list_all, onto_first}
use Rattle.std.specs.Str.{bytes_eq, is_utf8}
use Rattle.std.proofs.lemmas.Bool.{and_parts, and_from}
use Rattle.erl_term.proofs.Lines.{AreLines}
use Rattle.erl_term.specs.Lines.{is_one_line}
use Rattle.rel_files.specs.Name.{is_text}
use Rattle.rel_list.specs.Releases.{Releases}
use Rattle.rel_list.specs.Event.{list_after}
use Rattle.node_store.specs.Image.{Extent, extent_of}
use Rattle.node_store.specs.Events.{StoreState, Events, MayHoldEvents, IsCrashImageOf, at_rest_since}
use Rattle.session_input.specs.Commands.{Command, ParsedLine, parse_line, parse_words, parse_command, parse_process_command, parse_path_command, parse_peek, parse_call, parse_flood, call_of, flood_of, names_process, input_of, times_of, parse_change, change_named, with_word, without_words, path_of, path_in, paths_of, is_path, relup_of, parse_relup, split_at, version_in, is_blank, words_of, is_end, file_of, most_line, put_parsed, commands_of, commands_behind}
use Rattle.session_input.specs.Commands.Command.{file, create, set_unpacked, check, install, permanent, remove, reboot_old, boot, start, releases, procs, modules, peek, call, flood, quit, bad}
use Rattle.session_input.specs.Commands.ParsedLine.{blank, file_begins, whole_command}
use Rattle.relup_command.specs.Answer.{AreLinePaths}
use Rattle.rel_session.specs.Device.{Device}
use Rattle.session_input.specs.Feed.{Feed, bytes_within}
use Rattle.session_input.specs.Feed.Feed.{over, cut, next}
use Rattle.session_input.specs.Input.{most_bytes}
use Rattle.session_input.specs.Lines.{onto, lines_of}
use Rattle.rel_session.specs.Node.DiskState.{unknown_bytes, not_booted, running, dead}
use Rattle.session_laws.specs.AnswerLaws.{HasNoDoubt, HasLinePath, HaveLinePaths, ReadsLinePaths, AreFromFiles, HasVersionsAt, HasModuleVersionsAt, KeepsVersions, RepliesKeepVersions}
use Rattle.session_laws.specs.RunLaws.{MayBeEventsOf}
use Rattle.rel_session.specs.Node.{DiskState}
use Rattle.rel_session.specs.Run.{Starts}
use Rattle.rel_unpack.specs.Source.{Source}
use Rattle.rel_session.proofs.DeviceLemmas.{IsDevice}
use Rattle.session_laws.proofs.ProcessVersions.{keeps_versions_of_modules}
use Rattle.session_laws.proofs.Versions.{each_good, of_image}

abbrev AreFeedLines : Feed (List ℕ) → Type 0
AreFeedLines (next l ls) = (is_one_line l ≡ true) × AreFeedLines ls
AreFeedLines ls = Unit {0}

onto_plain : (x : ℕ) (ls : Feed (List ℕ)) → not (x == 10) ≡ true → AreFeedLines ls → AreFeedLines (onto x ls)
onto_plain x over plain lines = (and_from (not (x == 10)) true plain refl, tt)
onto_plain x cut plain lines = tt
onto_plain x (next l ls) plain (line, lines) = (and_from (not (x == 10)) (is_one_line l) plain line, lines)

lines_plain : (bs : Feed ℕ) → AreFeedLines (lines_of bs)
lines_plain over = tt
lines_plain cut = tt
lines_plain (next x xs) = go (x == 10) refl (lines_plain xs)
  where
    go : (b : Bool) → (x == 10) ≡ b → AreFeedLines (lines_of xs) → AreFeedLines (if b then next [] (lines_of xs) else onto x (lines_of xs))
    go true is lines = (refl, lines)
    go false is lines = onto_plain x (lines_of xs) (ap not is) lines

-- the parts of a line
split_plain : (separator : ℕ) (l : List ℕ) → is_one_line l ≡ true → AreLines (split_at separator l)
split_plain separator [] line = (refl, tt)
split_plain separator (x ∷ l) line =
    let (first, more) = and_parts (not (x == 10)) (is_one_line l) line in
    go (x == separator) (split_at separator l) first (split_plain separator l more)
  where
    front : (ws : List (List ℕ)) → not (x == 10) ≡ true → AreLines ws → AreLines (onto_first x ws)
    front [] plain words = (and_from (not (x == 10)) true plain refl, tt)
    front (w ∷ ws) plain words = (and_from (not (x == 10)) (is_one_line w) plain words.0, words.1)

    go : (b : Bool) (ws : List (List ℕ)) → not (x == 10) ≡ true → AreLines ws → AreLines (if b then [] ∷ ws else onto_first x ws)
    go true ws plain words = (refl, words)
    go false ws plain words = front ws plain words

-- what a line says has such a path
abbrev IsPlainLine : ParsedLine → Type 0
IsPlainLine (whole_command c) = HasLinePath c
IsPlainLine said = Unit {0}

either : (b : Bool) (x y : ParsedLine) → IsPlainLine x → IsPlainLine y → IsPlainLine (if b then x else y)
either true x y p q = p
either false x y p q = q

alone_plain : (words : List (List ℕ)) (c : Command) → HasLinePath c → IsPlainLine (without_words words (whole_command c))
alone_plain [] c line = line
alone_plain (word ∷ words) c line = tt

path_plain : (words : List (List ℕ)) (said : List ℕ → ParsedLine) → AreLines words → ((path : List ℕ) → is_one_line path ≡ true → IsPlainLine (said path)) → IsPlainLine (with_word (path_in words) said)
path_plain [] said plain each = tt
path_plain ([] ∷ []) said plain each = tt
path_plain ((b ∷ path) ∷ []) said plain each = each (b ∷ path) plain.0
path_plain (word ∷ other ∷ words) said plain each = tt

version_plain : (words : List (List ℕ)) (said : List ℕ → ParsedLine) → ((vsn : List ℕ) → IsPlainLine (said vsn)) → IsPlainLine (with_word (version_in words) said)
version_plain [] said each = tt
version_plain (vsn ∷ []) said each = go (is_text 0x21 vsn)
  where
    go : (b : Bool) → IsPlainLine (with_word (if b then Some vsn else None) said)
    go true = each vsn
    go false = tt
version_plain (vsn ∷ word ∷ words) said each = tt

either_plain : (b : Bool) (x y : Command) → HasLinePath x → HasLinePath y → HasLinePath (if b then x else y)
either_plain true x y p q = p
either_plain false x y p q = q

named_plain : (word vsn : List ℕ) → HasLinePath (change_named word vsn)
named_plain word vsn =
    either_plain (bytes_eq word (codes "install")) (install vsn) _ tt
    (either_plain (bytes_eq word (codes "check")) (check vsn) _ tt
    (either_plain (bytes_eq word (codes "permanent")) (permanent vsn) _ tt
    (either_plain (bytes_eq word (codes "remove")) (remove vsn) _ tt
    (either_plain (bytes_eq word (codes "reboot_old")) (reboot_old vsn) bad tt tt))))

change_plain : (word : List ℕ) (words : List (List ℕ)) → IsPlainLine (parse_change word words)
change_plain word words = version_plain words (λ vsn. whole_command (change_named word vsn)) (named_plain word)

-- the paths of a relup's request
split_paths : (ws : List (List ℕ)) → AreLines ws → AreLinePaths ws
split_paths [] lines = tt
split_paths (w ∷ ws) lines = (lines.0, split_paths ws lines.1)

abbrev ArePlainPaths : Option (List (List ℕ)) → Type 0
ArePlainPaths None = Unit {0}
ArePlainPaths (Some paths) = AreLinePaths paths

paths_plain : (word : List ℕ) → is_one_line word ≡ true → ArePlainPaths (paths_of word)
paths_plain word line = go (bytes_eq word (codes "-")) (list_all is_path (split_at 44 word))
  where
    go : (a b : Bool) → ArePlainPaths (if a then Some [] else if b then Some (split_at 44 word) else None)
    go true b = tt
    go false true = split_paths (split_at 44 word) (split_plain 44 word line)
    go false false = tt

abbrev IsPlainPath : Option (List ℕ) → Type 0
IsPlainPath None = Unit {0}
IsPlainPath (Some path) = is_one_line path ≡ true

one_path_plain : (word : List ℕ) → is_one_line word ≡ true → IsPlainPath (path_of word)
one_path_plain [] line = tt
one_path_plain (b ∷ path) line = line

between_plain : (new : Option (List ℕ)) (ups downs : Option (List (List ℕ))) → IsPlainPath new → ArePlainPaths ups → ArePlainPaths downs → HasLinePath (relup_of new ups downs)
between_plain (Some new) (Some ups) (Some downs) p q r = (p, q, r)
between_plain None ups downs p q r = tt
between_plain (Some new) None downs p q r = tt
between_plain (Some new) (Some ups) None p q r = tt

relup_plain : (words : List (List ℕ)) → AreLines words → IsPlainLine (parse_relup words)
relup_plain [] plain = tt
relup_plain (new ∷ []) plain = tt
relup_plain (new ∷ ups ∷ []) plain = tt
relup_plain (new ∷ ups ∷ downs ∷ []) plain =
    between_plain (path_of new) (paths_of ups) (paths_of downs) (one_path_plain new plain.0) (paths_plain ups plain.1.0) (paths_plain downs plain.1.1.0)
relup_plain (new ∷ ups ∷ downs ∷ more ∷ words) plain = tt

-- a command on a process names no path
no_path : (b : Bool) (c : Command) → HasLinePath c → HasLinePath (if b then c else bad)
no_path true c line = line
no_path false c line = tt

peek_plain : (words : List (List ℕ)) → IsPlainLine (parse_peek words)
peek_plain [] = tt
peek_plain (app ∷ []) = tt
peek_plain (app ∷ id ∷ []) = no_path (names_process app id) (peek app id) tt
peek_plain (app ∷ id ∷ more ∷ words) = tt

input_plain : (app id : List ℕ) (o : Option ℕ) → HasLinePath (call_of app id o)
input_plain app id None = tt
input_plain app id (Some input) = no_path (names_process app id) (call app id input) tt

call_plain : (words : List (List ℕ)) → IsPlainLine (parse_call words)
call_plain [] = tt
call_plain (app ∷ []) = tt
call_plain (app ∷ id ∷ []) = tt
call_plain (app ∷ id ∷ input ∷ []) = input_plain app id (input_of input)
call_plain (app ∷ id ∷ input ∷ more ∷ words) = tt

times_plain : (app id : List ℕ) (o p : Option ℕ) → HasLinePath (flood_of app id o p)
times_plain app id None p = tt
times_plain app id (Some input) None = tt
times_plain app id (Some input) (Some times) = no_path (names_process app id) (flood app id input times) tt

flood_plain : (words : List (List ℕ)) → IsPlainLine (parse_flood words)
flood_plain [] = tt
flood_plain (app ∷ []) = tt
flood_plain (app ∷ id ∷ []) = tt
flood_plain (app ∷ id ∷ input ∷ []) = tt
flood_plain (app ∷ id ∷ input ∷ times ∷ []) = times_plain app id (input_of input) (times_of times)
flood_plain (app ∷ id ∷ input ∷ times ∷ more ∷ words) = tt

path_command_plain : (word : List ℕ) (words : List (List ℕ)) → AreLines words → IsPlainLine (parse_path_command word words)
path_command_plain word words plain =
    either (bytes_eq word (codes "file")) (with_word (path_in words) file_begins) _ (path_plain words file_begins plain (λ path line. tt))
    (either (bytes_eq word (codes "create")) (with_word (path_in words) (λ path. whole_command (create path))) _ (path_plain words (λ path. whole_command (create path)) plain (λ path line. line))
    (either (bytes_eq word (codes "set_unpacked")) (with_word (path_in words) (λ path. whole_command (set_unpacked path))) _ (path_plain words (λ path. whole_command (set_unpacked path)) plain (λ path line. line))
    (either (bytes_eq word (codes "relup")) (parse_relup words) _ (relup_plain words plain) (change_plain word words))))

process_command_plain : (word : List ℕ) (words : List (List ℕ)) → AreLines words → IsPlainLine (parse_process_command word words)
process_command_plain word words plain =
    either (bytes_eq word (codes "peek")) (parse_peek words) _ (peek_plain words)
    (either (bytes_eq word (codes "call")) (parse_call words) _ (call_plain words)
    (either (bytes_eq word (codes "flood")) (parse_flood words) _ (flood_plain words) (path_command_plain word words plain)))

word_plain : (word : List ℕ) (words : List (List ℕ)) → AreLines words → IsPlainLine (parse_command word words)
word_plain word words plain =
    either (bytes_eq word (codes "boot")) (without_words words (whole_command boot)) _ (alone_plain words boot tt)
    (either (bytes_eq word (codes "start")) (without_words words (whole_command start)) _ (alone_plain words start tt)
    (either (bytes_eq word (codes "releases")) (without_words words (whole_command releases)) _ (alone_plain words releases tt)
    (either (bytes_eq word (codes "procs")) (without_words words (whole_command procs)) _ (alone_plain words procs tt)
    (either (bytes_eq word (codes "modules")) (without_words words (whole_command modules)) _ (alone_plain words modules tt)
    (either (bytes_eq word (codes "quit")) (without_words words (whole_command quit)) _ (alone_plain words quit tt) (process_command_plain word words plain))))))

words_plain : (words : List (List ℕ)) → AreLines words → IsPlainLine (parse_words words)
words_plain [] plain = tt
words_plain (word ∷ words) plain = word_plain word words plain.1

line_plain : (l : List ℕ) → is_one_line l ≡ true → IsPlainLine (parse_line l)
line_plain l line =
    either (nat_lt most_line (length l)) (whole_command bad) _ tt (either (is_blank l) blank _ tt (either (is_utf8 l) (parse_words (words_of l)) (whole_command bad) (words_plain (words_of l) (split_plain 32 l line)) tt))

-- the commands of lines, and those after a file that began
commands_plain : (ls : Feed (List ℕ)) → AreFeedLines ls → HaveLinePaths (commands_of ls) × ((path bs : List ℕ) → HaveLinePaths (commands_behind path bs ls))
commands_plain over lines = (tt, λ path bs. (tt, tt))
commands_plain cut lines = (tt, λ path bs. tt)
commands_plain (next l ls) (line, lines) =
    let (rest, behind) = commands_plain ls lines in
    (put (parse_line l) (line_plain l line) rest (λ path. behind path []), λ path bs. ending path bs (is_end l) rest (behind path (bs ++ (l ++ 10 ∷ []))))
  where
    put : (said : ParsedLine) → IsPlainLine said → HaveLinePaths (commands_of ls) → ((path : List ℕ) → HaveLinePaths (commands_behind path [] ls)) → HaveLinePaths (put_parsed said (commands_of ls) (λ path. commands_behind path [] ls))
    put blank plain rest behind = rest
    put (file_begins path) plain rest behind = behind path
    put (whole_command c) plain rest behind = (plain, rest)

    ending : (path bs : List ℕ) (b : Bool) → HaveLinePaths (commands_of ls) → HaveLinePaths (commands_behind path (bs ++ (l ++ 10 ∷ [])) ls)
        → HaveLinePaths (if b then next (file path (file_of bs)) (commands_of ls) else commands_behind path (bs ++ (l ++ 10 ∷ [])) ls)
    ending path bs true rest behind = (tt, rest)
    ending path bs false rest behind = behind

pub reads_line_paths : ReadsLinePaths
reads_line_paths input = (commands_plain (lines_of (bytes_within most_bytes input)) (lines_plain (bytes_within most_bytes input))).0

-- the list of events that an image stands for
image_versions : (ran events : Events) (extent : Extent) (c : List ℕ) → IsCrashImageOf (at_rest_since ran events extent) c → (list : Releases) → list_after events ≡ Some list → AreFromFiles list
image_versions ran events extent c of list after =
    let versions = of_image c of.list of.image_of in
    let same : Some of.list ≡ Some list = sym of.after ∙ ap list_after (only of.has) ∙ after in
    let one : of.list ≡ list = cc in
    subst AreFromFiles one versions
  where
    only : MayHoldEvents (at_rest_since ran events extent) of.events (extent_of c) → of.events ≡ events
    only (since, inl has) = has.0
    only (since, inr has) = has.0

-- a store with nothing in doubt
store_at_rest : {D : Type 0} (v : Device D) → IsDevice v → (s : StoreState) (disk : D) → HasNoDoubt s → ((c : List ℕ) → v.may_leave disk c → IsCrashImageOf s c) → HasVersionsAt (not_booted s)
store_at_rest v laws s disk sure holds =
    subst (λ t. HasVersionsAt (not_booted t)) (sym sure.0) (λ events list is after.
    image_versions s.known.ran s.known.acknowledged s.extent (v.seen disk) (subst (λ t. IsCrashImageOf t (v.seen disk)) sure.0 (holds (v.seen disk) (laws.reads_an_image disk))) list (sym (ap list_after (only events is)) ∙ after))
  where
    only : (events : Events) → MayBeEventsOf (at_rest_since s.known.ran s.known.acknowledged s.extent) events → events ≡ s.known.acknowledged
    only events (inl same) = same
    only events (inr same) = same

pub keeps_versions : {D : Type 0} (v : Device D) → IsDevice v → KeepsVersions v
keeps_versions v laws (unknown_bytes x) disk sure holds = tt
keeps_versions v laws (running events extent ps) disk sure holds = image_versions events events extent (v.seen disk) (holds (v.seen disk) (laws.reads_an_image disk))
keeps_versions v laws (dead s) disk sure holds = store_at_rest v laws s disk sure holds
keeps_versions v laws (not_booted s) disk sure holds = store_at_rest v laws s disk sure holds

-- where a session begins there are no processes
no_processes : {D : Type 0} (v : Device D) (p : DiskState) (disk : D) → Starts v p disk → HasModuleVersionsAt p
no_processes v (unknown_bytes x) disk starts = tt
no_processes v (not_booted s) disk starts = tt
no_processes v (running events extent ps) disk starts = absurd starts
no_processes v (dead s) disk starts = tt

pub replies_keep_versions : {D : Type 0} (v : Device D) (source : Source) → RepliesKeepVersions v source
replies_keep_versions v source = record {
  first = no_processes v;
  modules = keeps_versions_of_modules source;
  releases = λ p c a line all versions (does, comes, is). (each_good source p c does line all versions comes a is).1;
}
