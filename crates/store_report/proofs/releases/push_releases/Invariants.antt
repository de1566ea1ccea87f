use Rattle.std.proofs.Common.{◌≡◌, ◌++◌, map, take}
use Rattle.rel_list.specs.Keyed.{entry_of}
use Rattle.store_report.specs.Lines.{releases_text}
use Rattle.store_report.proofs.releases.push_releases.Given as goal

abbrev pub invariant-loop-listed : goal.invariant-loop-listed
invariant-loop-listed l = l.text.items ≡ l.initial.text.items ++ releases_text (map entry_of (take l.listed-index l.entries))
