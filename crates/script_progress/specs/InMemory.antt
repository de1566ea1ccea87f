-- What stands in memory, as definitions see it.
use Rattle.std.specs.Prelude.{map}
use Rattle.erl_term.specs.Value.{value_of}
use Rattle.library.specs.InMemory.{shared_of}
use Rattle.script_progress.specs.declared.cause.Cause as declared
use Rattle.script_progress.specs.declared.cause.Cause.TheVariants.{NoLibrary, NoModule, NotFetched, NoTable, NoChange, Raised, InUse, NoApp, NoSlot, Unsupported, NoSuper, NoMemory}
use Rattle.script_progress.specs.declared.sources.Sources as lent
use Rattle.script_progress.specs.Fault.{Cause}
use Rattle.script_progress.specs.Fault.Cause.{no_library, no_module, not_fetched, no_table, no_change, raised, in_use, no_app, no_slot, unsupported, no_super, no_memory}
use Rattle.script_progress.specs.Script.{Site}
use Rattle.loaded_modules.specs.Loaded.{listed_in}

abbrev pub site_of : lent.Sources → Site
site_of s = record { releases = s.list.now; target = map shared_of s.target.now; loaded = listed_in s.loaded.now }

abbrev pub cause_of : declared.Cause → Cause
cause_of NoLibrary = no_library
cause_of NoModule = no_module
cause_of NotFetched = not_fetched
cause_of NoTable = no_table
cause_of NoChange = no_change
cause_of (Raised term) = raised (value_of term)
cause_of InUse = in_use
cause_of NoApp = no_app
cause_of NoSlot = no_slot
cause_of Unsupported = unsupported
cause_of NoSuper = no_super
cause_of NoMemory = no_memory
