use Rattle.std.proofs.Common.{inr, ◌+◌, refl, sym, ◌∙◌, ap}
use Rattle.std.specs.Prelude.{◌==◌, slice_index}
use Rattle.rel_store.specs.Contents.{AreContentsOf}
use Rattle.rel_store.specs.Layout.{base_of, format_of}
use Rattle.rel_store.specs.Records.{records_of, space}
use Rattle.rel_store.proofs.Exits.{no_error, same_error, value_of, other_one, first_so}
use Rattle.rel_store.proofs.Scan.{bodies_of}
use Rattle.rel_store.proofs.store.Store.open_disk.Goals as goal

-- what was read once the disk was synced is what a crash leaves
pub returns-in-Ok-clause-settled : goal.returns-in-Ok-clause-settled
returns-in-Ok-clause-settled g c =
    let read = value_of (AreContentsOf (g.D.Disk.seen c.args.disk)) c.in-Ok.is c.read_contents.ensures.ok in
    let synced = other_one c.read_contents.ensures.synced (λ failed. no_error c.in-Ok.is failed.0) in
    record {
      works = refl;
      records = ap (λ l. records_of l) synced.same ∙ read.records;
      durable = λ d now. synced.durable d now ∙ sym synced.same;
      end = read.end ∙ ap (λ l. base_of l + space (bodies_of c.in-Ok.contents.records.items)) (sym synced.same);
      start = read.start ∙ ap (λ l. slice_index l 9 == 1) (sym synced.same);
      base = read.base ∙ ap (λ l. base_of l) (sym synced.same);
      chooses = read.chooses ∙ ap (λ l. slice_index l 10 == 1) (sym synced.same);
      format = read.format ∙ ap (λ l. format_of l) (sym synced.same);
    }

pub returns-in-Ok-clause-sound : goal.returns-in-Ok-clause-sound
returns-in-Ok-clause-sound g c = record { settled = λ works. returns-in-Ok-clause-settled g c }

pub returns-in-Ok-clause-records : goal.returns-in-Ok-clause-records
returns-in-Ok-clause-records g c = c.in-Ok.ensures.ok.records

pub returns-in-Ok-clause-format : goal.returns-in-Ok-clause-format
returns-in-Ok-clause-format g c = c.in-Ok.ensures.ok.format

pub returns-in-Ok-clause-any_moment : goal.returns-in-Ok-clause-any_moment
returns-in-Ok-clause-any_moment g c = c.read_contents.ensures.any_moment

pub returns-in-Ok-clause-synced : goal.returns-in-Ok-clause-synced
returns-in-Ok-clause-synced g c = inr (other_one c.read_contents.ensures.synced (λ failed. no_error c.in-Ok.is failed.0))

pub returns-in-Ok-clause-counted : goal.returns-in-Ok-clause-counted
returns-in-Ok-clause-counted g c = c.read_contents.ensures.counted

pub returns-in-Err-clause-any_moment : goal.returns-in-Err-clause-any_moment
returns-in-Err-clause-any_moment g c = c.read_contents.ensures.any_moment

pub returns-in-Err-clause-synced : goal.returns-in-Err-clause-synced
returns-in-Err-clause-synced g c = first_so (λ failed. (same_error c.in-Err.is failed.0, failed.1)) c.read_contents.ensures.synced

pub returns-in-Err-clause-counted : goal.returns-in-Err-clause-counted
returns-in-Err-clause-counted g c = c.read_contents.ensures.counted

pub returns-in-Err-clause-refused : goal.returns-in-Err-clause-refused
returns-in-Err-clause-refused g c = c.in-Err.ensures.refused
