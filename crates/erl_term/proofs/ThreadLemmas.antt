-- A term may go to another thread. It holds itself, so no proof of it is generated, nor of a type that it stands in.
use denote.RattleType.{RattleType}
use denote.Builtin.{u8}
use denote.Struct.Field.{row_field}
use denote.Param.Send.{IsSend, sendable}
use denote.Param.SendFields.{as_row_send, variants_send}
use denote.Hole.FixSend.{Sends, fix_send}
use Rattle.std.proofs.Crossing as crossing
use Rattle.std.proofs.Crossing.{Vec-send}
use Rattle.std.specs.contracts.alloc.Global.{the_row as heap}
use Rattle.std.specs.contracts.impls.GlobalAllocator.TheImpl.{ghosts}
use Rattle.std.specs.contracts.string.String as String
use Rattle.std.specs.contracts.vec.Vec as Vec
use Rattle.std.proofs.string.String.TheSendSync as string
use Rattle.erl_term.specs.contracts.term.Term as Term
use Rattle.erl_term.specs.contracts.term.Term.TheKnot as Knot

pub text_send : IsSend (String.the_row heap ghosts)
text_send = string.the_send heap ghosts crossing.send crossing.frees

bytes_send : IsSend (Vec.the_row u8 heap ghosts)
bytes_send = Vec-send u8 (search sendable)

list_send : (h : RattleType) → IsSend h → IsSend (denote.Hole.as_row (row_field (Vec.the_row h heap ghosts)))
list_send h s = as_row_send (row_field (Vec.the_row h heap ghosts)) (Vec-send h s)

-- one layer, over what the terms in it are
layer_send : (h : RattleType) → IsSend h → IsSend (Knot.layer-Term h h)
layer_send h s =
    let text = as_row_send (row_field (String.the_row heap ghosts)) text_send in
    let bytes = as_row_send (row_field (Vec.the_row u8 heap ghosts)) bytes_send in
    let list = list_send h s in
    variants_send (Knot.type-Term h h) ((search sendable, tt), ((text, tt), ((list, tt), ((list, tt), ((bytes, tt), tt)))))

sends_ring : (i : Knot.the_members) → Sends Term.the_ring i
sends_ring = Term.by_members (Sends Term.the_ring) (record { send = λ h all. layer_send (h Term.the_member) (all Term.the_member) })

pub term_send : IsSend Term.the_row
term_send =
    let list = list_send Term.the_hole (fix_send Term.the_ring sends_ring Term.the_member) in
    variants_send Term.enum ((search sendable, tt), ((text_send, tt), ((list, tt), ((list, tt), ((bytes_send, tt), tt)))))
