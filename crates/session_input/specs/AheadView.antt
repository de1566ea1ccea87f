-- How the bytes that were read ahead lie in their room.
use Rattle.std.specs.Prelude.{◌≡◌, true, ◌<◌, ◌≤◌, slice_range, vec_len}
use Rattle.session_input.specs.declared.ahead.Ahead.TheInside.{Inside}
use Rattle.session_input.specs.Ahead.{Pending}

abbrev pub pending_of : Inside → Pending
pending_of a = record { bytes = slice_range a.room.items a.start a.end; taken = a.taken; is_over = a.is_over }

pub record IsWithin (a : Inside) : Type 0 where
  pub ordered : a.start ≤ a.end
  pub in_room : a.end ≤ vec_len a.room
  pub some_room : 0 < vec_len a.room
  pub bounded : a.taken ≤ 16777216
  pub before_bound : a.is_over ≡ true → a.taken < 16777216
