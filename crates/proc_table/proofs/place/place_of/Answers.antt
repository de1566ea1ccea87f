use Rattle.std.proofs.Common.{sym}
use Rattle.proc_table.proofs.PlaceLemmas.{place_is}
use Rattle.proc_table.proofs.place.place_of.Goals as goal

pub returns : goal.returns
returns c = record { inside = c.requires; is = sym (place_is c.args.slot) }
