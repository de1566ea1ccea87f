-- What contracts see of the ends of a mailbox.
use Rattle.std.specs.Prelude.{ℕ, List}
use Rattle.atomic_table.specs.Seated.{TableId}
use Rattle.crossbeam_channel.specs.Claims.{view}
use Rattle.crossbeam_channel.specs.Ends.{sends_on, receives_on, ruled_capacity}
use Rattle.proc_workers.specs.declared.ends.Sender.{Sender}
use Rattle.proc_workers.specs.declared.ends.Inbox.{Inbox}
use Rattle.proc_workers.specs.declared.hand.Hand.{Hand}
use Rattle.proc_workers.specs.declared.note.Note.{Note}

-- the mailbox to which a sender adds, and that which an inbox reads
abbrev pub mailbox_of : Sender → TableId
mailbox_of s = (sends_on s.end).stamps.shared.table_id

abbrev pub read_by : Inbox → TableId
read_by i = (receives_on i.end).stamps.shared.table_id

-- how many notes it holds at most
abbrev pub capacity_of : Sender → ℕ
capacity_of s = ruled_capacity (sends_on s.end)

-- what a sender and an inbox know of what they did
abbrev pub sender_hand : Sender → Hand
sender_hand s = view s.hand

abbrev pub inbox_hand : Inbox → Hand
inbox_hand i = view i.hand

-- the notes that the inbox took, in order
abbrev pub taken : Inbox → List Note
taken i = (inbox_hand i).taken
