use Rattle.std.proofs.Common.{sym}
use Rattle.erl_number.proofs.TextPlaces.{byte_cut}
use Rattle.erl_number.proofs.text.Text.byte.Goals as goal

pub returns-in-Byte-clause-cut : goal.returns-in-Byte-clause-cut
returns-in-Byte-clause-cut c =
    λ small. byte_cut c.args.self.valid.now c.args.self.is_spoilt c.args.place c.in-Byte.byte c.at.ensures.utf8 (sym c.in-Byte.ensures.byte) small
