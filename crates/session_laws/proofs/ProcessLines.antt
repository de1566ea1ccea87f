-- What is reported of processes is a whole answer.
use Rattle.std.proofs.Common.{◌≡◌, ℕ, Bool, true, false, List, [], ◌∷◌, ◌++◌, codes, Option, Some, None, refl, ap}
use Rattle.std.specs.Prelude.{if◌then◌else◌, ◌==◌}
use Rattle.std.specs.Option.{option_map_or}
use Rattle.std.specs.Fmt.{decimal}
use Rattle.erl_term.proofs.Lines.{decimal_line}
use Rattle.erl_term.specs.Value.{values_of}
use Rattle.erl_term.specs.Value.Value.{atom}
use Rattle.rel_files.specs.Name.{IsVersion}
use Rattle.rel_unpack.proofs.LineOutcomes.{OrNone, version_line}
use Rattle.proc_history.specs.declared.value.Now.{Now}
use Rattle.proc_history.specs.declared.value.Outcome.{Outcome}
use Rattle.proc_history.specs.declared.value.Outcome.TheVariants.{Done, Crashed, Ended}
use Rattle.proc_history.specs.declared.value.Standing.{Standing}
use Rattle.proc_history.specs.declared.value.Standing.TheVariants.{Up, Down, Stopped}
use Rattle.proc_history.specs.declared.value.Value.{Value}
use Rattle.proc_history.specs.Values.{nothing, up_if, up_at, up_in}
use Rattle.node_listing.specs.Listing.{process_line, process_value, term_line, standing_word, module_line}
use Rattle.node_processes.specs.Answers.{processes_line, modules_line, peek_line, peeked_line, state_line, call_line, called_line, reply_line, outcome_line, outcome_at, value_at}
use Rattle.node_processes.specs.Calls.{Calls, calls_line}
use Rattle.node_processes.specs.Calls.Calls.{once, often}
use Rattle.node_processes.specs.Floods.{counts_line, flood_line, flooded_line}
use Rattle.node_processes.specs.ModuleVersions.{HasModuleVersion, HaveModuleVersions}
use Rattle.proc_table.specs.declared.pid.Pid.{Pid}
use Rattle.node_processes.specs.Processes.{Processes, process_named}
use Rattle.node_processes.proofs.ModuleVersions.{each_at, nothing_version}
use Rattle.rel_files.specs.Terms.{text_term}
use Rattle.session_laws.proofs.AnswerLines.{EndsIt, IsWhole, ends_behind, newline, lines_whole, tuple_line}

process_whole : (v : Value) (rest : List ℕ) → IsWhole rest → IsWhole (process_line v ++ rest)
process_whole v rest whole = go v.now
  where
    go : (o : Option Now) → IsWhole (option_map_or (λ (n : Now). term_line (process_value n)) o [] ++ rest)
    go None = whole
    go (Some n) = tuple_line (values_of (atom n.app ∷ atom n.id ∷ atom n.table.name ∷ text_term n.table.vsn ∷ atom (standing_word n.standing) ∷ [])) (codes "\n") rest (λ behind. refl) whole

pub processes_whole : (ps : Processes) → IsWhole (processes_line ps)
processes_whole ps = lines_whole process_line process_whole ps.values _

module_whole : (m : List ℕ × List ℕ) (rest : List ℕ) → IsWhole rest → IsWhole (module_line m.0 m.1 ++ rest)
module_whole m rest whole = tuple_line (values_of (atom m.0 ∷ text_term m.1 ∷ [])) (codes "\n") rest (λ behind. refl) whole

pub modules_whole : (ps : Processes) → IsWhole (modules_line ps)
modules_whole ps = lines_whole (λ (m : List ℕ × List ℕ). module_line m.0 m.1) module_whole _ _

-- the process that is up
up_version : (round : ℕ) (v : Value) → HasModuleVersion v → OrNone (λ (n : Now). IsVersion n.table.vsn) (up_in round v)
up_version round v version = in_round (v.round == round)
  where
    standing : (n : Now) (s : Standing) → IsVersion n.table.vsn → OrNone (λ (m : Now). IsVersion m.table.vsn) (up_if n s)
    standing n Up is = is
    standing n Down is = tt
    standing n Stopped is = tt

    here : (o : Option Now) → v.now ≡ o → OrNone (λ (n : Now). IsVersion n.table.vsn) (up_at o)
    here None at = tt
    here (Some n) at = standing n n.standing (version n at)

    in_round : (b : Bool) → OrNone (λ (n : Now). IsVersion n.table.vsn) (if b then up_at v.now else None)
    in_round true = here v.now refl
    in_round false = tt

state_whole : (o : Option Now) → OrNone (λ (n : Now). IsVersion n.table.vsn) o → IsWhole (state_line o)
state_whole None version behind = refl
state_whole (Some n) version behind =
    ap (λ t. codes "ok " ++ t)
    (ends_behind (decimal n.state) (codes " " ++ (n.table.vsn ++ codes "\n")) (decimal_line n.state) (λ more. ap (λ t. codes " " ++ t) (ends_behind n.table.vsn (codes "\n") (version_line n.table.vsn version) newline more)) behind)

pub peek_whole : (app id : List ℕ) (ps : Processes) → HaveModuleVersions ps → IsWhole (peek_line app id ps)
peek_whole app id ps all = go (process_named app id ps)
  where
    go : (o : Option Pid) → IsWhole (peeked_line ps o)
    go None = λ behind. refl
    go (Some p) = state_whole (up_in p.round (value_at ps p)) (up_version p.round (value_at ps p) (each_at HasModuleVersion ps.values p.slot nothing all.values nothing_version))

outcome_whole : (o : Outcome) → IsWhole (outcome_line o)
outcome_whole (Done r) behind = ap (λ t. codes "ok " ++ t) (ends_behind (decimal r) (codes "\n") (decimal_line r) newline behind)
outcome_whole Crashed behind = refl
outcome_whole (Ended r) behind = ap (λ t. codes "ended " ++ t) (ends_behind (decimal r) (codes "\n") (decimal_line r) newline behind)

call_whole : (app id : List ℕ) (input : ℕ) (ps : Processes) → IsWhole (call_line app id input ps)
call_whole app id input ps = go (process_named app id ps)
  where
    by_now : (o : Option Now) → IsWhole (reply_line input o)
    by_now None = λ behind. refl
    by_now (Some n) = outcome_whole (outcome_at n input)

    go : (o : Option Pid) → IsWhole (called_line input ps o)
    go None = λ behind. refl
    go (Some p) = by_now (up_in p.round (value_at ps p))

number_ends : (n : ℕ) (rest : List ℕ) → EndsIt rest → EndsIt (decimal n ++ rest)
number_ends n rest ends = ends_behind (decimal n) rest (decimal_line n) ends

counts_whole : (done crashed ended down : ℕ) → IsWhole (counts_line done crashed ended down)
counts_whole done crashed ended down behind =
    ap (λ t. codes "ok done " ++ t) (number_ends done _ (λ a.
    ap (λ t. codes " crashed " ++ t) (number_ends crashed _ (λ b.
    ap (λ t. codes " ended " ++ t) (number_ends ended _ (λ d.
    ap (λ t. codes " down " ++ t) (number_ends down (codes "\n") newline d)) b)) a)) behind)

flood_whole : (app id : List ℕ) (input times : ℕ) (ps : Processes) → IsWhole (flood_line app id input times ps)
flood_whole app id input times ps = go (process_named app id ps)
  where
    go : (o : Option Pid) → IsWhole (flooded_line input times ps o)
    go None = λ behind. refl
    go (Some p) = counts_whole _ _ _ _

pub calls_whole : (c : Calls) (ps : Processes) → IsWhole (calls_line c ps)
calls_whole (once app id input) ps = call_whole app id input ps
calls_whole (often app id input times) ps = flood_whole app id input times ps
