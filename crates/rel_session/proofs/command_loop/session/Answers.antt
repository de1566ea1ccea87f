use Rattle.std.proofs.Common.{◌≡◌, ◌∙◌, refl, subst}
use Rattle.std.specs.Prelude.{Ok, Err}
use Rattle.counted_io.specs.Failures.{HasRisen}
use Rattle.session_input.specs.declared.command.Command.{Command as CommandInMemory}
use Rattle.session_input.specs.declared.error.SessionError.TheVariants.{Read, Write, Limit, NoMemory}
use Rattle.session_input.specs.Commands.{command_of}
use Rattle.session_input.specs.Input.{commands_left, reached, taken, most_bytes}
use Rattle.rel_session.specs.Run.Ending.{ended, unwritten, out_of_memory}
use Rattle.rel_session.specs.Session.{ending_of}
use Rattle.rel_session.proofs.LoopLemmas.{fresh_end, fresh_left, is_bounded, within, begins, goes_on, may_write, ends, ends_for, quits, stops_within, stops_before, sessions, by_error, not_reported, is_reported, no_error, one_error, read_reported, never_written, limit_reported, Write≢Read, Write≢Limit, NoMemory≢Read, NoMemory≢Write, NoMemory≢Limit}
use Rattle.rel_session.proofs.DeviceLemmas.{IsDevice}
use Rattle.rel_session.proofs.command_loop.session.Goals as goal

pub loop-command-init : goal.loop-command-init
loop-command-init g c =
    let laws : IsDevice g.D.Disk = record { reads_an_image = g.met.D.Disk.reads_an_image; counts_now = g.met.D.Disk.counts_now; only_now = g.met.D.Disk.only_now } in
    let base = g.F.Files.gives c.args.files.now in
    let known = g.R.Read.remaining c.args.input.now.reader.reader in (
      begins g.D.Disk laws base (within known) (commands_left g.R.Read.remaining c.args.input.now) (reached c.args.input.now) c.args.disk c.new-node.result (g.A.AnswerWriter.written c.args.output.now)
          (fresh_left g.R.Read.remaining c.args.input.now c.requires.fresh) c.new-node.ensures.place c.new-node.ensures.files,
      rw c.new-node.ensures.place tt,
      refl,
      refl,
      λ disk text is. is,
      fresh_end g.R.Read.remaining c.args.input.now c.requires.fresh,
    )

pub write_answer-requires : goal.write_answer-requires
write_answer-requires g c =
    let laws : IsDevice g.D.Disk = record { reads_an_image = g.met.D.Disk.reads_an_image; counts_now = g.met.D.Disk.counts_now; only_now = g.met.D.Disk.only_now } in
    let base = g.F.Files.gives c.args.files.now in
    let known = g.R.Read.remaining c.args.input.now.reader.reader in
    let now = commands_left g.R.Read.remaining c.loop-command.input in
    let new = commands_left g.R.Read.remaining c.next_command.new.self in
    let upto = reached c.loop-command.input in
    let further = reached c.next_command.new.self in
    let old = g.A.AnswerWriter.written c.args.output.now in
    let mid = g.A.AnswerWriter.written c.loop-command.output in
    rw c.as_str.ensures.value (may_write g.D.Disk laws base known now new upto further c.args.disk c.loop-command.node old mid c.in-Ok-Some.ensures.further c.in-Ok-Some.ensures.bounded c.loop-command.invariant.0 (command_of c.in-Ok-Some.command) c.in-Ok-Some-text.text c.follow-next.result.0
    (rw c.in-Ok-Some.field-0-is at c.in-Ok-Some.ensures.command) (rw (c.in-Ok-Some-text.is, c.in-Ok-Some-text.field-0-is) at c.follow-next.ensures.followed)
    (g.A.AnswerWriter.allows c.loop-command.output) (λ disk text is. c.loop-command.invariant.4 disk text (c.requires.allowed disk text is)))

pub loop-command-preserved : goal.loop-command-preserved
loop-command-preserved g c =
    let laws : IsDevice g.D.Disk = record { reads_an_image = g.met.D.Disk.reads_an_image; counts_now = g.met.D.Disk.counts_now; only_now = g.met.D.Disk.only_now } in
    let base = g.F.Files.gives c.args.files.now in
    let known = g.R.Read.remaining c.args.input.now.reader.reader in
    let now = commands_left g.R.Read.remaining c.loop-command.input in
    let new = commands_left g.R.Read.remaining c.next_command.new.self in
    let upto = reached c.loop-command.input in
    let further = reached c.next_command.new.self in
    let old = g.A.AnswerWriter.written c.args.output.now in
    let mid = g.A.AnswerWriter.written c.loop-command.output in (
      goes_on g.D.Disk laws base (within known) now new upto further c.in-Ok-Some.ensures.further c.args.disk c.loop-command.node old mid c.loop-command.invariant.0
          (command_of c.in-Ok-Some.command) c.in-Ok-Some-text.text c.follow-next.result.0 (g.A.AnswerWriter.written c.write_answer.new.self) (rw c.in-Ok-Some.field-0-is at c.in-Ok-Some.ensures.command)
          (rw (c.in-Ok-Some-text.is, c.in-Ok-Some-text.field-0-is) at c.follow-next.ensures.followed) (rw c.as_str.ensures.value at c.in_default.ensures.written),
      c.follow-next.ensures.sound,
      c.in-Ok-Some.ensures.cause ∙ c.loop-command.invariant.2,
      c.in_default.ensures.counted ∙ c.loop-command.invariant.3,
      λ disk text is. c.write_answer.ensures.kept disk text (c.loop-command.invariant.4 disk text is),
      c.in-Ok-Some.ensures.end,
    )

pub returns-in-Ok-None : goal.returns-in-Ok-None
returns-in-Ok-None g c =
    let laws : IsDevice g.D.Disk = record { reads_an_image = g.met.D.Disk.reads_an_image; counts_now = g.met.D.Disk.counts_now; only_now = g.met.D.Disk.only_now } in
    let base = g.F.Files.gives c.args.files.now in
    let known = g.R.Read.remaining c.args.input.now.reader.reader in
    let now = commands_left g.R.Read.remaining c.loop-command.input in
    let new = commands_left g.R.Read.remaining c.next_command.new.self in
    let upto = reached c.loop-command.input in
    let further = reached c.next_command.new.self in
    let old = g.A.AnswerWriter.written c.args.output.now in
    let mid = g.A.AnswerWriter.written c.loop-command.output in
    record {
      session =
          sessions g.D.Disk laws base known ended (taken c.next_command.new.self) c.args.disk c.into_disk.result old mid
          (ends g.D.Disk laws base (within known) now new upto further c.in-Ok-None.ensures.further c.args.disk c.loop-command.node old mid c.loop-command.invariant.0 most_bytes c.into_disk.result c.in-Ok-None.ensures.bounded c.into_disk.ensures (rw c.in-Ok-None.field-0-is at c.in-Ok-None.ensures.command));
      read = not_reported Read (Ok tt) c.args.input.now.reader.failures c.next_command.new.self.reader.failures (no_error Read) (c.in-Ok-None.ensures.cause ∙ c.loop-command.invariant.2);
      write = not_reported Write (Ok tt) (g.A.AnswerWriter.failed c.args.output.now) (g.A.AnswerWriter.failed c.loop-command.output) (no_error Write) c.loop-command.invariant.3;
      limit = λ is. absurd (no_error Limit is);
      bounded = is_bounded c.next_command.new.self c.in-Ok-None.ensures.bounded;
    }

pub returns-in-Err : goal.returns-in-Err
returns-in-Err g c =
    let laws : IsDevice g.D.Disk = record { reads_an_image = g.met.D.Disk.reads_an_image; counts_now = g.met.D.Disk.counts_now; only_now = g.met.D.Disk.only_now } in
    let base = g.F.Files.gives c.args.files.now in
    let known = g.R.Read.remaining c.args.input.now.reader.reader in
    let now = commands_left g.R.Read.remaining c.loop-command.input in
    let new = commands_left g.R.Read.remaining c.next_command.new.self in
    let upto = reached c.loop-command.input in
    let further = reached c.next_command.new.self in
    let old = g.A.AnswerWriter.written c.args.output.now in
    let mid = g.A.AnswerWriter.written c.loop-command.output in
    record {
      session =
          sessions g.D.Disk laws base known (ending_of (Err c.in-Err.error)) (taken c.next_command.new.self) c.args.disk c.into_disk-in-Err.result old mid
          (ends_for g.D.Disk laws base (within known) now new upto further c.in-Err.ensures.further c.args.disk c.loop-command.node old mid c.loop-command.invariant.0 (λ (d : CommandInMemory) e. command_of d ≡ e) c.in-Err.error c.loop-command.input c.next_command.new.self
          c.into_disk-in-Err.result c.in-Err.ensures.bounded refl c.into_disk-in-Err.ensures c.in-Err.ensures.cause c.in-Err.ensures.command);
      read = read_reported c.in-Err.error c.args.input.now.reader.failures c.loop-command.input c.next_command.new.self c.loop-command.invariant.2 c.in-Err.ensures.cause;
      write = not_reported Write (Err c.in-Err.error) (g.A.AnswerWriter.failed c.args.output.now) (g.A.AnswerWriter.failed c.loop-command.output)
          (never_written c.in-Err.error c.loop-command.input c.next_command.new.self c.in-Err.ensures.cause) c.loop-command.invariant.3;
      limit = λ is. limit_reported c.in-Err.error c.loop-command.input c.next_command.new.self c.in-Err.ensures.cause is;
      bounded = is_bounded c.next_command.new.self c.in-Err.ensures.bounded;
    }

pub returns-in-Err-write_answer : goal.returns-in-Err-write_answer
returns-in-Err-write_answer g c =
    let laws : IsDevice g.D.Disk = record { reads_an_image = g.met.D.Disk.reads_an_image; counts_now = g.met.D.Disk.counts_now; only_now = g.met.D.Disk.only_now } in
    let base = g.F.Files.gives c.args.files.now in
    let known = g.R.Read.remaining c.args.input.now.reader.reader in
    let now = commands_left g.R.Read.remaining c.loop-command.input in
    let new = commands_left g.R.Read.remaining c.next_command.new.self in
    let upto = reached c.loop-command.input in
    let further = reached c.next_command.new.self in
    let old = g.A.AnswerWriter.written c.args.output.now in
    let mid = g.A.AnswerWriter.written c.loop-command.output in
    let then = g.A.AnswerWriter.written c.write_answer.new.self in
    record {
      session =
          by_error g.D.Disk laws base known (taken c.next_command.new.self) Write c.from.result c.args.disk c.into_disk-in-Err-write_answer.result old then c.from.ensures
          (sessions g.D.Disk laws base known unwritten (taken c.next_command.new.self) c.args.disk c.into_disk-in-Err-write_answer.result old then
          (stops_within g.D.Disk laws base (within known) now new upto further c.in-Ok-Some.ensures.further c.args.disk c.loop-command.node old mid c.loop-command.invariant.0 most_bytes (command_of c.in-Ok-Some.command) c.in-Ok-Some-text.text c.follow-next.result.0
          c.into_disk-in-Err-write_answer.result then c.in-Ok-Some.ensures.bounded c.into_disk-in-Err-write_answer.ensures (rw c.in-Ok-Some.field-0-is at c.in-Ok-Some.ensures.command)
          (rw (c.in-Ok-Some-text.is, c.in-Ok-Some-text.field-0-is) at c.follow-next.ensures.followed) (rw c.as_str.ensures.value at c.in-Err-write_answer.ensures.prefix)));
      read = not_reported Read (Err c.from.result) c.args.input.now.reader.failures c.next_command.new.self.reader.failures (one_error c.from.result Write Read c.from.ensures Write≢Read) (c.in-Ok-Some.ensures.cause ∙ c.loop-command.invariant.2);
      write =
          is_reported Write c.from.result (g.A.AnswerWriter.failed c.args.output.now) (g.A.AnswerWriter.failed c.write_answer.new.self) c.from.ensures
          (subst (λ n. HasRisen n (g.A.AnswerWriter.failed c.write_answer.new.self)) c.loop-command.invariant.3 c.in-Err-write_answer.ensures.counted);
      limit = λ is. absurd (one_error c.from.result Write Limit c.from.ensures Write≢Limit is);
      bounded = is_bounded c.next_command.new.self c.in-Ok-Some.ensures.bounded;
    }

pub returns-in-Ok-None-text : goal.returns-in-Ok-None-text
returns-in-Ok-None-text g c =
    let laws : IsDevice g.D.Disk = record { reads_an_image = g.met.D.Disk.reads_an_image; counts_now = g.met.D.Disk.counts_now; only_now = g.met.D.Disk.only_now } in
    let base = g.F.Files.gives c.args.files.now in
    let known = g.R.Read.remaining c.args.input.now.reader.reader in
    let now = commands_left g.R.Read.remaining c.loop-command.input in
    let new = commands_left g.R.Read.remaining c.next_command.new.self in
    let upto = reached c.loop-command.input in
    let further = reached c.next_command.new.self in
    let old = g.A.AnswerWriter.written c.args.output.now in
    let mid = g.A.AnswerWriter.written c.loop-command.output in
    record {
      session =
          sessions g.D.Disk laws base known ended (taken c.next_command.new.self) c.args.disk c.into_disk-in-Ok-None-text.result old mid
          (quits g.D.Disk laws base (within known) now new upto further c.in-Ok-Some.ensures.further c.args.disk c.loop-command.node old mid c.loop-command.invariant.0 most_bytes
          (command_of c.in-Ok-Some.command) c.follow-next.result.0 c.into_disk-in-Ok-None-text.result c.in-Ok-Some.ensures.bounded c.into_disk-in-Ok-None-text.ensures
          (rw c.in-Ok-Some.field-0-is at c.in-Ok-Some.ensures.command) (rw (c.in-Ok-None-text.is, c.in-Ok-None-text.field-0-is) at c.follow-next.ensures.followed));
      read = not_reported Read (Ok tt) c.args.input.now.reader.failures c.next_command.new.self.reader.failures (no_error Read) (c.in-Ok-Some.ensures.cause ∙ c.loop-command.invariant.2);
      write = not_reported Write (Ok tt) (g.A.AnswerWriter.failed c.args.output.now) (g.A.AnswerWriter.failed c.loop-command.output) (no_error Write) c.loop-command.invariant.3;
      limit = λ is. absurd (no_error Limit is);
      bounded = is_bounded c.next_command.new.self c.in-Ok-Some.ensures.bounded;
    }

pub returns-in-Err-text : goal.returns-in-Err-text
returns-in-Err-text g c =
    let laws : IsDevice g.D.Disk = record { reads_an_image = g.met.D.Disk.reads_an_image; counts_now = g.met.D.Disk.counts_now; only_now = g.met.D.Disk.only_now } in
    let base = g.F.Files.gives c.args.files.now in
    let known = g.R.Read.remaining c.args.input.now.reader.reader in
    let now = commands_left g.R.Read.remaining c.loop-command.input in
    let new = commands_left g.R.Read.remaining c.next_command.new.self in
    let upto = reached c.loop-command.input in
    let further = reached c.next_command.new.self in
    let old = g.A.AnswerWriter.written c.args.output.now in
    let mid = g.A.AnswerWriter.written c.loop-command.output in
    let memory = rw c.in-Err-text.is at c.follow-next.ensures.memory in
    record {
      session =
          by_error g.D.Disk laws base known (taken c.next_command.new.self) NoMemory c.in-Err-text.error c.args.disk c.into_disk-in-Err-text.result old mid memory
          (sessions g.D.Disk laws base known out_of_memory (taken c.next_command.new.self) c.args.disk c.into_disk-in-Err-text.result old mid
          (stops_before g.D.Disk laws base (within known) now new upto further c.in-Ok-Some.ensures.further c.args.disk c.loop-command.node old mid c.loop-command.invariant.0 most_bytes
          (command_of c.in-Ok-Some.command) c.in-Err-text.error c.follow-next.result.0 c.into_disk-in-Err-text.result c.in-Ok-Some.ensures.bounded c.into_disk-in-Err-text.ensures
          (rw c.in-Ok-Some.field-0-is at c.in-Ok-Some.ensures.command) (rw c.in-Err-text.is at c.follow-next.ensures.followed)));
      read = not_reported Read (Err c.in-Err-text.error) c.args.input.now.reader.failures c.next_command.new.self.reader.failures (one_error c.in-Err-text.error NoMemory Read memory NoMemory≢Read) (c.in-Ok-Some.ensures.cause ∙ c.loop-command.invariant.2);
      write = not_reported Write (Err c.in-Err-text.error) (g.A.AnswerWriter.failed c.args.output.now) (g.A.AnswerWriter.failed c.loop-command.output) (one_error c.in-Err-text.error NoMemory Write memory NoMemory≢Write) c.loop-command.invariant.3;
      limit = λ is. absurd (one_error c.in-Err-text.error NoMemory Limit memory NoMemory≢Limit is);
      bounded = is_bounded c.next_command.new.self c.in-Ok-Some.ensures.bounded;
    }
