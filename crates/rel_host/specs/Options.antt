-- The program's options, by clap's meaning of its arguments.
use Rattle.std.specs.Prelude.{◌≡◌, ℕ, true, Some, List, option_map, string_bytes, codes}
use Rattle.clap.specs.Words.{App, Rule, Text, first_of, matches_of, new_app, new_rule, with_rule}
use Rattle.clap.specs.declared.error.kind.ErrorKind.{ErrorKind}
use Rattle.clap.specs.declared.error.kind.ErrorKind.TheVariants.{OutOfMemory}
use Rattle.rel_host.specs.declared.options.Options.{Options}
use Rattle.rel_host.specs.declared.options.OptionsError.{OptionsError}
use Rattle.rel_host.specs.declared.options.OptionsError.TheVariants as refusal

-- the option `--NAME VALUE`
abbrev pub option_rule : Text → Rule
option_rule name = record (new_rule name) { long = Some name }

-- the command `relnode`, whose words come without the program's name, and which has no `--help`
abbrev pub relnode_alone : App
relnode_alone =
    let named = new_app (codes "relnode") in
    record named { top = record named.top { no_binary_name = true; disable_help_flag = true } }

-- `relnode [--store FILE] [--root DIR]`
abbrev pub relnode : App
relnode = with_rule (with_rule relnode_alone (option_rule (codes "store"))) (option_rule (codes "root"))

-- the options are what clap finds under their names in the words
pub record IsGiven (words : List (List ℕ)) (given : Options) : Type 0 where
  pub store : option_map string_bytes given.store ≡ first_of (codes "store") (matches_of relnode words)
  pub root : option_map string_bytes given.root ≡ first_of (codes "root") (matches_of relnode words)

-- only out of memory is no fault of the arguments
abbrev pub refusal_of : ErrorKind → OptionsError
refusal_of OutOfMemory = refusal.NoMemory
refusal_of _ = refusal.BadArguments
