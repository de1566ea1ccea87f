-- What a `.app` file says, or which fault it has (OTP: app(4)); docs/RULES.md gives the format.
use Rattle.std.specs.Prelude.{ℕ, Bool, List, length, nat_le, Option}
use Rattle.std.specs.Option.{option_map}
use Rattle.erl_term.specs.Value.{Value}
use Rattle.rel_files.specs.declared.fault.FileFault.{FileFault}
use Rattle.rel_files.specs.Fault.{fault_of}
use Rattle.rel_files.specs.Name.{is_text}
use Rattle.rel_files.specs.Kind.{Kind, TermSays, HasTermFault, Says, HasFault}
use Rattle.rel_files.specs.AppParts.{Contents, contents_in}

-- an application: its name, its version, its modules, the module that starts it, if there is one, and its whole term
pub record Specification : Type 0 where
  pub name : List ℕ
  pub vsn : List ℕ
  pub modules : List (List ℕ)
  pub top : Option (List ℕ)
  pub whole : Value

-- it has no more modules than an application may have
abbrev pub has_few_modules : Specification → Bool
has_few_modules s = nat_le (length s.modules) 1024

abbrev pub with_term : Value → Contents → Specification
with_term v c = record { name = c.name; vsn = c.vsn; modules = c.modules; top = c.top; whole = v }

abbrev pub specification_in : Value → Option Specification
specification_in v = option_map (with_term v) (contents_in v)

-- The files of applications: no module stands twice, and the version is one.
abbrev pub app_files : Kind Specification
app_files = record { read = specification_in; names = λ a. a.modules; has_versions = λ a. is_text 0x21 a.vsn }

-- The term says this application.
abbrev pub IsAppTerm : Value → Specification → Type 0
IsAppTerm v a = TermSays app_files v a

-- The file says this application.
abbrev pub SaysApp : List ℕ → Specification → Type 0
SaysApp bytes a = Says app_files bytes a

-- The fault of a term that begins at this place.
abbrev pub IsTermFault : Value → ℕ → FileFault → Type 0
IsTermFault v at f = HasTermFault app_files v at (fault_of f)

-- The fault of a file.
abbrev pub IsAppFault : List ℕ → FileFault → Type 0
IsAppFault bytes f = HasFault app_files bytes (fault_of f)
