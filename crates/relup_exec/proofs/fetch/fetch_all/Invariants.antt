use Rattle.std.proofs.Common.{◌≡◌, true, map, string_bytes, take, is_some}
use Rattle.std.specs.List.{list_all}
use Rattle.library.specs.InMemory.{shared_of}
use Rattle.loaded_modules.specs.Loaded.{library_modules, listed_in}
use Rattle.script_progress.specs.Script.{fetched_of}
use Rattle.relup_exec.proofs.fetch.fetch_all.Given as goal

-- the modules so far are there, and were fetched
abbrev pub invariant-loop-name : goal.invariant-loop-name
invariant-loop-name l =
    (list_all (λ n. is_some (library_modules (shared_of l.library) n)) (map string_bytes (take l.name-index l.names)) ≡ true)
    × (listed_in l.fetched ≡ fetched_of (shared_of l.library) (map string_bytes (take l.name-index l.names)) (listed_in l.initial.fetched))
