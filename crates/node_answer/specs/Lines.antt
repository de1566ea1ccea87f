-- The lines that report what was done (OTP: release_handler:check_install_release/1, install_release/1).
use Rattle.std.specs.Prelude.{ℕ, List, ◌++◌, codes, Result, Ok, Err}
use Rattle.erl_term.specs.Printing.{text_of}
use Rattle.erl_term.specs.Value.{Value}
use Rattle.node_command.specs.Installing.{installation}
use Rattle.node_command.specs.declared.error.HandlerError.{HandlerError}
use Rattle.rel_list.specs.Releases.{Releases}
use Rattle.relup_file.specs.Search.{FoundForm}
use Rattle.node_answer.specs.Refusals.{refusal_line, refusal_of}
use Rattle.rel_files.specs.Terms.{text_term, atoms_term}

-- the line that reports that a command was done, and with which version
abbrev pub ok_line : List ℕ → List ℕ
ok_line vsn = codes "ok " ++ (vsn ++ codes "\n")

-- the line that reports that a command was done, with these details
abbrev pub done_line : List ℕ → List ℕ
done_line details = codes "ok" ++ (details ++ codes "\n")

-- the answer to `check`: the version and the description of the script that is found, or why there is none
abbrev pub checked_line : Result FoundForm HandlerError → List ℕ
checked_line (Ok f) = done_line (codes " " ++ (text_of (text_term f.other) ++ (codes " " ++ text_of f.descr)))
checked_line (Err why) = refusal_line (refusal_of why)

abbrev pub check_line : List ℕ → Releases → List ℕ
check_line vsn list = checked_line (installation vsn list)

-- the version and the description of the script's entry, and the stale modules
abbrev pub installed_text : List ℕ → Value → List (List ℕ) → List ℕ
installed_text other descr stale =
    codes "ok " ++ (text_of (text_term other) ++ (codes " " ++ (text_of descr ++ (codes " "
    ++ (text_of (atoms_term stale) ++ codes "\n")))))

abbrev pub installed_line : FoundForm → List (List ℕ) → List ℕ
installed_line f stale = installed_text f.other f.descr stale
