use Rattle.std.proofs.Common.{◌≡◌, ap, subst, string_bytes}
use Rattle.std.specs.Prelude.{IfOk}
use Rattle.node_answer.specs.Refusals.{refusal_of, refusal_line}
use Rattle.node_answer.proofs.refusal.refusal_line.Goals.{in-NoSuchRelease, in-ExistingRelease, in-AlreadyInstalled, in-Permanent, in-Running, in-TooMany, in-NoMatchingRelup, in-Device, in-Full, in-Dead, in-NoMemory, in-Exists}
use Rattle.node_answer.proofs.refusal.refusal_line.Goals as goal

pub returns-in-BadStatus : goal.returns-in-BadStatus
returns-in-BadStatus c = rw c.in-BadStatus.is (rw c.as_str.ensures at c.with_detail.ensures)

pub returns-in-LibDiffers : goal.returns-in-LibDiffers
returns-in-LibDiffers c = rw c.in-LibDiffers.is (rw c.as_str-in-LibDiffers.ensures.value at c.with_detail-in-LibDiffers.ensures)

pub returns-in-BadFile : goal.returns-in-BadFile
returns-in-BadFile c = rw c.in-BadFile.is c.format.ensures.ok

pub returns-in-MissingFile : goal.returns-in-MissingFile
returns-in-MissingFile c = rw c.in-MissingFile.is (rw c.as_str-in-MissingFile.ensures.value at c.with_detail-in-MissingFile.ensures)

pub returns-in-VsnMismatch : goal.returns-in-VsnMismatch
returns-in-VsnMismatch c = rw c.in-VsnMismatch.is (rw c.as_str-in-VsnMismatch.ensures.value at c.with_detail-in-VsnMismatch.ensures)

pub returns-in-NoTable : goal.returns-in-NoTable
returns-in-NoTable c = rw c.in-NoTable.is (rw c.as_str-in-NoTable.ensures.value at c.with_detail-in-NoTable.ensures)

pub returns : goal.returns
returns c =
    let line : c.match-why.line.now ≡ refusal_line (refusal_of c.args.why.now) = elim c.match-why.branch [
      | in-NoSuchRelease w ↦ rw w.in-NoSuchRelease.is (ap (λ text. text.now) w.line-is)
      | in-ExistingRelease w ↦ rw w.in-ExistingRelease.is (ap (λ text. text.now) w.line-is)
      | in-AlreadyInstalled w ↦ rw w.in-AlreadyInstalled.is (ap (λ text. text.now) w.line-is)
      | in-Permanent w ↦ rw w.in-Permanent.is (ap (λ text. text.now) w.line-is)
      | in-Running w ↦ rw w.in-Running.is (ap (λ text. text.now) w.line-is)
      | in-TooMany w ↦ rw w.in-TooMany.is (ap (λ text. text.now) w.line-is)
      | in-NoMatchingRelup w ↦ rw w.in-NoMatchingRelup.is (ap (λ text. text.now) w.line-is)
      | in-Device w ↦ rw w.in-Device.is (ap (λ text. text.now) w.line-is)
      | in-Full w ↦ rw w.in-Full.is (ap (λ text. text.now) w.line-is)
      | in-Dead w ↦ rw w.in-Dead.is (ap (λ text. text.now) w.line-is)
      | in-NoMemory w ↦ rw w.in-NoMemory.is (ap (λ text. text.now) w.line-is)
      | in-Exists w ↦ rw w.in-Exists.is (ap (λ text. text.now) w.line-is)
    ] in
    subst (λ text. IfOk c.from_str.result (λ s. string_bytes s ≡ text)) line c.from_str.ensures.ok
