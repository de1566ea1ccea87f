use Rattle.erl_token.proofs.TilingLemmas.{items_tile}
use Rattle.erl_token.proofs.laws.items_tile_a_text.Goals as goal

pub returns : goal.returns
returns c = items_tile
