-- What a node answers of an installation that it doesn't make (OTP: release_handler:check_install_release/1).
use Rattle.std.specs.Prelude.{ℕ, List, if◌then◌else◌, Result, Err}
use Rattle.node_command.specs.Installing.{installation}
use Rattle.node_command.specs.declared.error.HandlerError.{HandlerError}
use Rattle.node_command.specs.declared.error.HandlerError.TheVariants.{Dead}
use Rattle.relup_file.specs.Search.{FoundForm}
use Rattle.node_store.specs.State.{list_in, is_dead}
use Rattle.node_store.specs.declared.node_store.NodeStore.{NodeStore}

-- the script by which the release of this version would be installed, or why it would not
abbrev pub check_result : {D : Type 0} → List ℕ → NodeStore D → Result FoundForm HandlerError
check_result vsn h = if is_dead h then Err Dead else installation vsn (list_in h)
