-- What a node starts.
use Rattle.std.specs.Prelude.{ℕ, List}
use Rattle.rel_files.specs.Release.{Release}
use Rattle.start_record.specs.Text.{Versions, start_text as text_of_start}

-- what a node starts whose permanent release is this
abbrev pub start_of_release : Release → Versions
start_of_release r = record { erts = r.erts; vsn = r.vsn }

-- what the start slot says of a release: its ERTS version, its own version and a new line
abbrev pub start_text : Release → List ℕ
start_text r = text_of_start (start_of_release r)
