-- The program's options, by clap's meaning of its arguments.
use Rattle.std.specs.Prelude.{◌≡◌, ℕ, Bool, true, false, List, [], map, Option, None, Some, option_map, unwrap_or, string_bytes, codes}
use Rattle.clap.specs.Words.{App, IsAmong, Kinds, Rule, Text, all_of, first_of, one_of, kind_of, matches_of, new_app, new_rule, with_rule}
use Rattle.clap.specs.declared.builder.action.ArgAction.TheVariants.{Append, SetTrue}
use Rattle.clap.specs.declared.error.Error.{Error}
use Rattle.clap.specs.declared.error.kind.ErrorKind.{ErrorKind}
use Rattle.clap.specs.declared.error.kind.ErrorKind.TheVariants.{OutOfMemory, DisplayHelp, DisplayVersion}
use Rattle.mkrelup.specs.declared.options.Options.{Options}
use Rattle.mkrelup.specs.declared.options.OptionsError.{OptionsError}
use Rattle.mkrelup.specs.declared.options.OptionsError.TheVariants.{Answered, NoMemory}

-- the option `--NAME VALUE`
abbrev pub value_rule : Text → Rule
value_rule name = record (new_rule name) { long = Some name; value_names = 1 }

-- the same, which may be given several times
abbrev pub values_rule : Text → Rule
values_rule name = record (value_rule name) { action = Some Append }

-- the option `--NAME`
abbrev pub flag_rule : Text → Rule
flag_rule name = record (new_rule name) { long = Some name; action = Some SetTrue }

-- the word that is no option
abbrev pub release_rule : Rule
release_rule = record (new_rule (codes "NEW.rel")) { required = true }

-- the command `mkrelup`, whose words come without the program's name, and which has a version
abbrev pub mkrelup_alone : App
mkrelup_alone =
    let named = new_app (codes "mkrelup") in
    record named { top = record named.top { no_binary_name = true; has_version = true } }

-- `mkrelup [--root DIR] [--up REL].. [--down REL].. [--restart-emulator] [--out FILE] [--check] NEW.rel`
abbrev pub mkrelup : App
mkrelup =
    let releases = with_rule (with_rule (with_rule mkrelup_alone (value_rule (codes "root"))) (values_rule (codes "up"))) (values_rule (codes "down")) in
    let written = with_rule (with_rule (with_rule releases (flag_rule (codes "restart-emulator"))) (value_rule (codes "out"))) (flag_rule (codes "check")) in
    with_rule written release_rule

-- a flag is set where clap finds `true` under its name, and not where it finds `false` or nothing
pub record IsFlag (found : Option Text) (is_set : Bool) : Type 0 where
  pub missing : found ≡ None → is_set ≡ false
  pub set : found ≡ Some (codes "true") → is_set ≡ true
  pub unset : found ≡ Some (codes "false") → is_set ≡ false

-- The options are what clap finds under their names in the words; without `--root` it is the current folder.
pub record IsGiven (words : List Text) (given : Options) : Type 0 where
  pub new : string_bytes given.new ≡ unwrap_or (first_of (codes "NEW.rel") (matches_of mkrelup words)) []
  pub ups : map string_bytes given.ups.items ≡ unwrap_or (all_of (codes "up") (matches_of mkrelup words)) []
  pub downs : map string_bytes given.downs.items ≡ unwrap_or (all_of (codes "down") (matches_of mkrelup words)) []
  pub root : string_bytes given.root ≡ unwrap_or (first_of (codes "root") (matches_of mkrelup words)) (codes ".")
  pub out : option_map string_bytes given.out ≡ first_of (codes "out") (matches_of mkrelup words)
  pub restart : IsFlag (one_of (codes "restart-emulator") (matches_of mkrelup words)) given.restart
  pub check : IsFlag (one_of (codes "check") (matches_of mkrelup words)) given.check

-- only out of memory is no answer to the arguments
abbrev pub error_of : Error → ErrorKind → OptionsError
error_of e OutOfMemory = NoMemory
error_of e kind = Answered e

-- The answer is one of these. Out of memory is none.
abbrev pub IsAnswer : Kinds → OptionsError → Type 0
IsAnswer kinds (Answered e) = IsAmong (kind_of e) kinds
IsAnswer kinds NoMemory = Unit {0}

-- the exit status of an answer: a help text and a version are no mistake
abbrev pub answer_status : ErrorKind → ℕ
answer_status DisplayHelp = 0
answer_status DisplayVersion = 0
answer_status kind = 2
