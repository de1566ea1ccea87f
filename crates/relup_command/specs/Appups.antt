-- The appups of a release's applications, from their files.
use Rattle.std.specs.Prelude.{◌≡◌, ℕ, List, ◌++◌, Option, codes, Ok}
use Rattle.rel_files.specs.Fault.Fault.{bad_term, no_memory}
use Rattle.appup_file.specs.File.{SaysAppup, IsAppupFault}
use Rattle.appup_file.specs.Instruction.{AppupForm}
use Rattle.appup_file.specs.declared.fault.AppupFault.{AppupFault}
use Rattle.appup_file.specs.declared.fault.AppupFault.TheVariants.{BadTerm, BadShape, NoMemory}
use Rattle.rel_unpack.specs.Order.{Outcome, Then}
use Rattle.rel_unpack.specs.Refusal.{Trouble}
use Rattle.rel_unpack.specs.Refusal.Trouble.{faulty, misshapen}
use Rattle.rel_unpack.specs.Source.{Source, Form, FileSays, IfThere}
use Rattle.relup_row.specs.Release.{RelupAppForm}

-- lib/App-Vsn/ebin/App.appup
abbrev pub appup_path : RelupAppForm → List ℕ
appup_path a = codes "lib/" ++ (a.name ++ (codes "-" ++ (a.vsn ++ (codes "/ebin/" ++ (a.name ++ codes ".appup")))))

-- what is reported of an appup's fault
abbrev pub appup_trouble : AppupFault → Trouble
appup_trouble (BadTerm e) = faulty (bad_term e)
appup_trouble BadShape = misshapen
appup_trouble NoMemory = faulty no_memory

-- the file has a fault that is reported so
abbrev pub HasAppupTrouble : List ℕ → Trouble → Type 0
HasAppupTrouble bytes t = (f : AppupFault) × IsAppupFault bytes f × (t ≡ appup_trouble f)

abbrev pub appup_form : Form AppupForm
appup_form = record { says = SaysAppup; fails = HasAppupTrouble }

-- the appup of an application: without a file it has none
abbrev pub AppupAt : Source → RelupAppForm → Outcome (Option AppupForm)
AppupAt source a = IfThere source (appup_path a) (FileSays appup_form source (appup_path a))

abbrev pub with_appup : RelupAppForm → Option AppupForm → RelupAppForm
with_appup a p = record { name = a.name; vsn = a.vsn; start = a.start; modules = a.modules; appup = p }

-- an application with the appup of its file
abbrev pub WithAppup : Source → RelupAppForm → Outcome RelupAppForm
WithAppup source a = Then (AppupAt source a) (λ p r. r ≡ Ok (with_appup a p))
