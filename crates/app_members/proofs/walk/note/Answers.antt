use Rattle.std.proofs.lemmas.Map.Text.{btree_map_updates_str}
use Rattle.app_members.proofs.walk.note.Goals as goal

pub returns : goal.returns
returns c = λ q. btree_map_updates_str c.args.name.now c.args.noted.now c.insert.new.self _ c.in_ok-insert.ensures.updates q
