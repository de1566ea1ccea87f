-- What an appup file says, or which fault it has; docs/RULES.md gives the format.
use Rattle.std.specs.Prelude.{◌≡◌, ℕ, true, List, [], None}
use Rattle.erl_term.specs.Value.{Value}
use Rattle.rel_files.specs.Fault.Fault.{bad_term, bad_shape}
use Rattle.rel_files.specs.Kind.{Kind, TermSays, Says, HasFault}
use Rattle.appup_file.specs.declared.fault.AppupFault.{AppupFault}
use Rattle.appup_file.specs.declared.fault.AppupFault.TheVariants.{BadTerm, BadShape, NoMemory}
use Rattle.appup_file.specs.Instruction.{AppupForm}
use Rattle.appup_file.specs.Parts.{appup_in}

-- The files of appups: a name may stand twice, and a version that is none is no appup's.
abbrev pub appup_files : Kind AppupForm
appup_files = record { read = appup_in; names = λ a. []; has_versions = λ a. true }

-- The term says this appup.
abbrev pub TermSaysAppup : Value → AppupForm → Type 0
TermSaysAppup v a = TermSays appup_files v a

-- The fault of a term: it says no appup.
abbrev pub IsTermFault : Value → AppupFault → Type 0
IsTermFault v BadShape = appup_in v ≡ None
IsTermFault v f = ⊥

-- The file says this appup.
abbrev pub SaysAppup : List ℕ → AppupForm → Type 0
SaysAppup bytes a = Says appup_files bytes a

-- The fault of a file. Out of memory is none.
abbrev pub IsAppupFault : List ℕ → AppupFault → Type 0
IsAppupFault bytes (BadTerm e) = HasFault appup_files bytes (bad_term e)
IsAppupFault bytes BadShape = (at : ℕ) × HasFault appup_files bytes (bad_shape at)
IsAppupFault bytes NoMemory = ⊥
