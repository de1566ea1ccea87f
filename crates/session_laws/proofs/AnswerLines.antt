-- Where an answer ends in a text.
use Rattle.std.proofs.Common.{◌≡◌, ℕ, Bool, true, false, not, List, [], ◌∷◌, ◌++◌, length, map, codes, Option, Some, None, Result, Ok, Err, refl, sym, ap, ◌∙◌, subst, append_assoc}
use Rattle.std.specs.Prelude.{if◌then◌else◌, ◌==◌}
use Rattle.std.specs.List.{flat_map}
use Rattle.std.specs.Fmt.{decimal}
use Rattle.std.proofs.lemmas.Bool.{and_parts}
use Rattle.erl_term.proofs.Lines.{append_line, commas_line, decimal_line, term_line, members_line}
use Rattle.erl_number.specs.FaultTexts.{term_fault_text}
use Rattle.erl_term.specs.Lines.{is_one_line}
use Rattle.erl_term.specs.Printing.{text_of, texts_of, with_commas}
use Rattle.erl_term.specs.TermFault.{TermFault}
use Rattle.erl_term.specs.TermFault.TheVariants as term
use Rattle.erl_term.specs.Value.{Value, Values, values_of}
use Rattle.erl_term.specs.Value.Value.{atom, list, tuple}
use Rattle.erl_term.specs.Value.Values.{no_values, value}
use Rattle.rel_files.specs.Fault.{Fault, file_fault_text}
use Rattle.rel_files.specs.Fault.Fault.{bad_term, bad_shape, duplicate, bad_version, no_memory as out_of_memory}
use Rattle.relup_file.specs.Form.{entry_term}
use Rattle.relup_file.specs.Relup.{RelupForm}
use Rattle.relup_translate.specs.Fault.{FaultForm}
use Rattle.relup_translate.specs.Fault.FaultForm.{no_appup, no_entry, unknown_module, regex_version, needs_new_emulator, unsupported}
use Rattle.relup_command.proofs.RelupLines.{ReportsLineFault, IsLineTranslation}
use Rattle.relup_command.specs.Answer.{fault_line, relup_lines, translation_lines}
use Rattle.rel_list.specs.Releases.{Releases, Entry}
use Rattle.rel_list.specs.Status.{status_word}
use Rattle.rel_list.specs.declared.status.Status.{Status}
use Rattle.rel_list.specs.declared.status.Status.TheVariants.{Unpacked, Current, Old, Permanent, OneShot}
use Rattle.rel_handler.specs.declared.error.BootError.{BootError}
use Rattle.rel_handler.specs.declared.error.BootError.TheVariants as boot_error
use Rattle.rel_unpack.specs.Refusal.{Trouble, trouble_text}
use Rattle.rel_unpack.specs.Refusal.Trouble.{unreadable, faulty, faulty_relup, misshapen}
use Rattle.relup_file.specs.Fault.{relup_fault_text}
use Rattle.relup_file.specs.declared.fault.RelupFault.{RelupFault}
use Rattle.relup_file.specs.declared.fault.RelupFault.TheVariants as relup_fault
use Rattle.node_listing.specs.Listing.{listing, count_line, release_line, application_value}
use Rattle.rel_list.specs.declared.fault.ListError.{ListError}
use Rattle.rel_list.specs.declared.fault.ListError.TheVariants as list_error
use Rattle.rel_list.specs.Event.Event.{installed}
use Rattle.rel_list.specs.Refusal.{refusal}
use Rattle.relup_file.specs.Search.{FoundForm}
use Rattle.node_command.specs.Installing.{script_to, unless_listed_refusal}
use Rattle.node_command.specs.Taking.{list_refusal}
use Rattle.node_answer.specs.Refusals.{NodeRefusal, refusal_of, refusal_line}
use Rattle.rel_session.specs.Booting.{boot_line}
use Rattle.node_answer.specs.Refusals.NodeRefusal.{no_such_release, existing_release, already_installed, bad_status, permanent, is_running, lib_differs, bad_file, missing_file, vsn_mismatch, no_table, too_many, no_matching_relup, script_refused, must_reboot, device, full, dead, no_memory, exists}
use Rattle.node_upgrade.specs.Failure.{Failure, Why, failure_text, why_text}
use Rattle.node_upgrade.specs.Failure.Why.{new_emulator, no_point, two_points, misplaced, fails}
use Rattle.script_progress.specs.Fault as script
use Rattle.script_progress.specs.Fault.{Cause, cause_text}
use Rattle.node_answer.specs.Lines.{installed_text}
use Rattle.node_answer.specs.Lines.{ok_line, done_line, check_line, checked_line}
use Rattle.rel_files.specs.Terms.{list_of, triple_term, text_term, atoms_term}

-- Where a reader of answers stands: at the start of one or of a line of a listing, within such a line, or in the last line.
pub data Mode : Type 0 where
  start : Mode
  within : Mode
  last : Mode

-- the first answer of a text
abbrev pub cut : Mode → List ℕ → List ℕ
cut m [] = []
cut start (x ∷ s) = x ∷ (if x == 123 then cut within s else cut last s)
cut within (x ∷ s) = x ∷ (if x == 10 then cut start s else cut within s)
cut last (x ∷ s) = x ∷ (if x == 10 then [] else cut last s)

-- Whatever follows it, this is an answer that is found, or its end.
abbrev pub IsWhole : List ℕ → Type 0
IsWhole s = (behind : List ℕ) → cut start (s ++ behind) ≡ s

abbrev pub EndsIt : List ℕ → Type 0
EndsIt s = (behind : List ℕ) → cut last (s ++ behind) ≡ s

-- whatever follows it, this ends a line of a listing
abbrev pub EndsLine : List ℕ → Type 0
EndsLine s = (behind : List ℕ) → cut within (s ++ behind) ≡ s ++ cut start behind

-- Two answers in front of the same text are one.
pub one_front : (s t : List ℕ) → IsWhole s → IsWhole t → (x y : List ℕ) → s ++ x ≡ t ++ y → s ≡ t
one_front s t whole whole_too x y is = sym (whole x) ∙ ap (cut start) is ∙ whole_too y

no_newline : (b : Bool) → not b ≡ true → b ≡ false
no_newline true e = absurd cc
no_newline false e = refl

-- a line without its end
pub ends_behind : (l s : List ℕ) → is_one_line l ≡ true → EndsIt s → EndsIt (l ++ s)
ends_behind [] s line ends = ends
ends_behind (b ∷ l) s line ends = λ behind.
    let (first, more) = and_parts (not (b == 10)) (is_one_line l) line in
    ap (λ q. b ∷ (if q then [] else cut last ((l ++ s) ++ behind))) (no_newline (b == 10) first) ∙ ap (λ t. b ∷ t) (ends_behind l s more ends behind)

line_behind : (l s : List ℕ) → is_one_line l ≡ true → EndsLine s → EndsLine (l ++ s)
line_behind [] s line ends = ends
line_behind (b ∷ l) s line ends = λ behind.
    let (first, more) = and_parts (not (b == 10)) (is_one_line l) line in
    ap (λ q. b ∷ (if q then cut start ((l ++ s) ++ behind) else cut within ((l ++ s) ++ behind))) (no_newline (b == 10) first) ∙ ap (λ t. b ∷ t) (line_behind l s more ends behind)

pub newline : EndsIt (codes "\n")
newline behind = refl

pub ok_whole : (vsn : List ℕ) → is_one_line vsn ≡ true → IsWhole (ok_line vsn)
ok_whole vsn line behind = ap (λ t. codes "ok " ++ t) (ends_behind vsn (codes "\n") line newline behind)

pub done_whole : (details : List ℕ) → is_one_line details ≡ true → IsWhole (done_line details)
done_whole details line behind = ap (λ t. codes "ok" ++ t) (ends_behind details (codes "\n") line newline behind)

-- the texts of faults
term_fault_plain : (f : TermFault) → is_one_line (term_fault_text f) ≡ true
term_fault_plain (term.BadToken at) = decimal_line at
term_fault_plain (term.BadNumber at) = decimal_line at
term_fault_plain (term.Unclosed at) = decimal_line at
term_fault_plain (term.MissingDot at) = decimal_line at
term_fault_plain (term.Unsupported at) = decimal_line at
term_fault_plain (term.Deep at) = decimal_line at
term_fault_plain term.NoMemory = refl

fault_plain : (f : Fault) → is_one_line (file_fault_text f) ≡ true
fault_plain (bad_term e) = term_fault_plain e
fault_plain (bad_shape at) = decimal_line at
fault_plain (duplicate name) = refl
fault_plain bad_version = refl
fault_plain out_of_memory = refl

relup_fault_plain : (f : RelupFault) → is_one_line (relup_fault_text f) ≡ true
relup_fault_plain (relup_fault.BadTerm e) = term_fault_plain e
relup_fault_plain (relup_fault.BadShape n) = decimal_line n
relup_fault_plain relup_fault.NoMemory = refl

trouble_plain : (t : Trouble) → is_one_line (trouble_text t) ≡ true
trouble_plain unreadable = refl
trouble_plain (faulty f) = fault_plain f
trouble_plain (faulty_relup f) = relup_fault_plain f
trouble_plain misshapen = refl

-- the path or the name that a refusal reports is within a line
abbrev pub HasLine : NodeRefusal → Type 0
HasLine (lib_differs app) = is_one_line app ≡ true
HasLine (no_table app) = is_one_line app ≡ true
HasLine (bad_file path trouble) = is_one_line path ≡ true
HasLine (missing_file path) = is_one_line path ≡ true
HasLine (vsn_mismatch path) = is_one_line path ≡ true
HasLine why = Unit {0}

word_plain : (s : Status) → is_one_line (status_word s) ≡ true
word_plain Unpacked = refl
word_plain Current = refl
word_plain Old = refl
word_plain Permanent = refl
word_plain OneShot = refl

-- why a script isn't carried out to its end
cause_plain : (c : Cause) → is_one_line (cause_text c) ≡ true
cause_plain script.Cause.no_library = refl
cause_plain script.Cause.no_module = refl
cause_plain script.Cause.not_fetched = refl
cause_plain script.Cause.no_table = refl
cause_plain script.Cause.no_change = refl
cause_plain (script.Cause.raised x) = append_line (codes "Raised ") (text_of x) refl (term_line x)
cause_plain script.Cause.in_use = refl
cause_plain script.Cause.no_app = refl
cause_plain script.Cause.no_slot = refl
cause_plain script.Cause.no_super = refl
cause_plain script.Cause.unsupported = refl
cause_plain script.Cause.no_memory = refl

why_plain : (w : Why) → is_one_line (why_text w) ≡ true
why_plain new_emulator = refl
why_plain no_point = refl
why_plain two_points = refl
why_plain misplaced = refl
why_plain (fails c) = cause_plain c

failure_plain : (f : Failure) → is_one_line (failure_text f) ≡ true
failure_plain f = append_line (decimal f.instr) (codes " " ++ why_text f.why) (decimal_line f.instr) (why_plain f.why)

pub refusal_whole : (why : NodeRefusal) → HasLine why → IsWhole (refusal_line why)
refusal_whole no_such_release line behind = refl
refusal_whole existing_release line behind = refl
refusal_whole already_installed line behind = refl
refusal_whole (bad_status s) line behind = ap (λ t. codes "error handler 4 BadStatus " ++ t) (ends_behind (status_word s) (codes "\n") (word_plain s) newline behind)
refusal_whole permanent line behind = refl
refusal_whole is_running line behind = refl
refusal_whole (lib_differs app) line behind = ap (λ t. codes "error handler 7 LibDiffers " ++ t) (ends_behind app (codes "\n") line newline behind)
refusal_whole (no_table app) line behind = ap (λ t. codes "error handler 11 NoTable " ++ t) (ends_behind app (codes "\n") line newline behind)
refusal_whole (bad_file path t) line behind =
    ap (λ u. codes "error handler 8 BadFile " ++ u)
    (ends_behind path (codes " " ++ (trouble_text t ++ codes "\n")) line (λ more. ap (λ u. codes " " ++ u) (ends_behind (trouble_text t) (codes "\n") (trouble_plain t) newline more)) behind)
refusal_whole (missing_file path) line behind = ap (λ t. codes "error handler 9 MissingFile " ++ t) (ends_behind path (codes "\n") line newline behind)
refusal_whole (vsn_mismatch path) line behind = ap (λ t. codes "error handler 10 VsnMismatch " ++ t) (ends_behind path (codes "\n") line newline behind)
refusal_whole too_many line behind = refl
refusal_whole no_matching_relup line behind = refl
refusal_whole (script_refused f) line behind = ap (λ t. codes "error handler 14 Refused " ++ t) (ends_behind (failure_text f) (codes "\n") (failure_plain f) newline behind)
refusal_whole (must_reboot f) line behind = ap (λ t. codes "error handler 15 MustReboot " ++ t) (ends_behind (failure_text f) (codes "\n") (failure_plain f) newline behind)
refusal_whole device line behind = refl
refusal_whole full line behind = refl
refusal_whole dead line behind = refl
refusal_whole no_memory line behind = refl
refusal_whole exists line behind = refl

pub boot_line_whole : (why : BootError) → IsWhole (boot_line why)
boot_line_whole boot_error.NotAStore behind = refl
boot_line_whole (boot_error.Damaged at) behind = refl
boot_line_whole boot_error.Device behind = refl
boot_line_whole boot_error.NoMemory behind = refl
boot_line_whole (boot_error.BadRecord i) behind = refl

-- a release that was installed
pub installed_whole : (other : List ℕ) (descr : Value) (stale : List (List ℕ)) → IsWhole (installed_text other descr stale)
installed_whole other descr stale behind =
    let modules = ends_behind (text_of (atoms_term stale)) (codes "\n") (term_line (atoms_term stale)) newline in
    let later = ends_behind (text_of descr) (codes " " ++ (text_of (atoms_term stale) ++ codes "\n")) (term_line descr) (λ more. ap (λ t. 32 ∷ t) (modules more)) in
    ap (λ t. codes "ok " ++ t)
    (ends_behind (text_of (text_term other)) (codes " " ++ (text_of descr ++ (codes " " ++ (text_of (atoms_term stale) ++ codes "\n")))) (term_line (text_term other)) (λ more. ap (λ t. 32 ∷ t) (later more)) behind)

-- a line that reports a tuple, and then an answer's rest
pub tuple_line : (vs : Values) (end rest : List ℕ) → EndsLine end → IsWhole rest → IsWhole ((text_of (tuple vs) ++ end) ++ rest)
tuple_line vs end rest ends whole behind =
    let inner = with_commas (texts_of vs) ++ codes "}" in
    let plain : is_one_line inner ≡ true = append_line (with_commas (texts_of vs)) (codes "}") (commas_line (texts_of vs) (members_line vs)) refl in
    let line = line_behind inner end plain ends (rest ++ behind) in
    ap (cut start) (append_assoc (text_of (tuple vs) ++ end) rest behind) ∙ ap (λ t. 123 ∷ t) (line ∙ ap (λ t. (inner ++ end) ++ t) (whole behind))

line_of_listing : (e : Entry) (rest : List ℕ) → IsWhole rest → IsWhole (release_line e ++ rest)
line_of_listing e rest whole =
    let apps = list (values_of (map application_value e.release.apps)) in
    tuple_line (values_of (text_term e.release.name ∷ text_term e.release.vsn ∷ apps ∷ atom (status_word e.status) ∷ [])) (codes "\n") rest (λ behind. refl) whole

count_whole : (n : ℕ) → IsWhole (count_line n)
count_whole n behind = ap (λ t. codes "ok " ++ t) (ends_behind (decimal n) (codes "\n") (decimal_line n) newline behind)

-- lines, none of which ends the answer, and then their count
pub lines_whole : {X : Type 0} (line : X → List ℕ) → ((x : X) (rest : List ℕ) → IsWhole rest → IsWhole (line x ++ rest)) → (xs : List X) (n : ℕ) → IsWhole (flat_map line xs ++ count_line n)
lines_whole line goes_on [] n = count_whole n
lines_whole line goes_on (x ∷ xs) n =
    subst IsWhole (sym (append_assoc (line x) (flat_map line xs) (count_line n))) (goes_on x (flat_map line xs ++ count_line n) (lines_whole line goes_on xs n))

pub listing_whole : (es : Releases) → IsWhole (listing es)
listing_whole es = lines_whole release_line line_of_listing es (length es)

-- what the list refuses of an installation
pub listed_whole : (why : ListError) → IsWhole (refusal_line (refusal_of (list_refusal why)))
listed_whole list_error.NoSuchRelease behind = refl
listed_whole list_error.ExistingRelease behind = refl
listed_whole list_error.LibDiffers behind = refl
listed_whole list_error.AlreadyInstalled behind = refl
listed_whole (list_error.BadStatus s) behind = refusal_whole (bad_status s) tt behind
listed_whole list_error.Permanent behind = refl
listed_whole list_error.Running behind = refl
listed_whole list_error.NoMemory behind = refl

-- the script of an installation, or why there is none
pub check_whole : (vsn : List ℕ) (es : Releases) → IsWhole (check_line vsn es)
check_whole vsn es = go (refusal (installed vsn) es) (script_to vsn es)
  where
    go : (o : Option ListError) (found : Option FoundForm) → IsWhole (checked_line (unless_listed_refusal o found))
    go (Some why) found = listed_whole why
    go None None = λ behind. refl
    go None (Some f) =
        let other = text_of (text_term f.other) in
        done_whole (codes " " ++ (other ++ (codes " " ++ text_of f.descr)))
        (append_line other (codes " " ++ text_of f.descr) (term_line (text_term f.other)) (term_line f.descr))

-- a relup and `ok`, or why there is none
term_whole : (u v w : Value) → IsWhole (text_of (triple_term u v w) ++ codes ".\nok\n")
term_whole u v w =
    let text = text_of (triple_term u v w) in
    subst IsWhole (append_assoc text (codes ".\n") (codes "ok\n"))
    (tuple_line (value u (value v (value w no_values))) (codes ".\n") (codes "ok\n") (λ behind. refl) (λ behind. refl))

relup_whole : (r : RelupForm) → IsWhole (relup_lines r)
relup_whole r = term_whole (text_term r.vsn) (list_of (map entry_term r.ups)) (list_of (map entry_term r.downs))

fault_whole : (f : FaultForm) → ReportsLineFault f → IsWhole (fault_line f)
fault_whole (no_appup app) line behind = ap (λ t. codes "error relup 1 NoAppup " ++ t) (ends_behind app (codes "\n") line newline behind)
fault_whole (no_entry app vsn) (line, vsn_line) behind =
    ap (λ t. codes "error relup 2 NoEntry " ++ t)
    (ends_behind app (codes " " ++ (vsn ++ codes "\n")) line (λ more. ap (λ t. codes " " ++ t) (ends_behind vsn (codes "\n") vsn_line newline more)) behind)
fault_whole (unknown_module name) line behind = ap (λ t. codes "error relup 3 UnknownModule " ++ t) (ends_behind name (codes "\n") line newline behind)
fault_whole (regex_version app) line behind = ap (λ t. codes "error relup 4 RegexVersion " ++ t) (ends_behind app (codes "\n") line newline behind)
fault_whole needs_new_emulator line behind = refl
fault_whole (unsupported app) line behind = ap (λ t. codes "error relup 6 Unsupported " ++ t) (ends_behind app (codes "\n") line newline behind)

pub translation_whole : (t : Result RelupForm FaultForm) → IsLineTranslation t → IsWhole (translation_lines t)
translation_whole (Ok r) line = relup_whole r
translation_whole (Err f) line = fault_whole f line
