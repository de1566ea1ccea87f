use Rattle.std.proofs.Common.{◌≡◌, ◌<◌, get_or, length, sym, ap, arith}
use Rattle.relup_row.proofs.FirstLemmas.{none_kept, kept_more, kept_same}
use Rattle.relup_row.proofs.fetches.firsts_by.Goals.{then-branch+in_ok-push, else-branch}
use Rattle.relup_row.proofs.fetches.firsts_by.Goals as goal

pub loop-mention-init : goal.loop-mention-init
loop-mention-init g c = none_kept g.N.MentionName.name c.args.mentions.now c.new-seen.result c.new-firsts.result.items c.new-seen.ensures.empty c.new-firsts.ensures.items

pub loop-mention-preserved : goal.loop-mention-preserved
loop-mention-preserved g c =
    let ms = c.args.mentions.now in
    let i = c.loop-mention.mention-index in
    let m = c.mention-item.result in
    let within : i < length ms = omega arith in
    let at : get_or ms i m ≡ m = sym c.mention-item.is in
    let seen = c.loop-mention.seen in
    let kept = c.loop-mention.firsts.items in
    let added = c.in_ok-insert.field-0 in
    elim c.if-branch.branch [
      | then-branch+in_ok-push w ↦
          kept_more g.N.MentionName.name ms i m seen c.insert.new.self c.of.result added kept w.push.new.self.items c.if-branch.firsts.items within at c.of.ensures c.in_ok-insert.ensures.updates
          c.in_ok-insert.ensures.added w.if-branch.true (ap (λ v. v.items) w.firsts-is) w.in_ok-push.ensures.items c.loop-mention.invariant
      | else-branch w ↦
          kept_same g.N.MentionName.name ms i m seen c.insert.new.self c.of.result added kept c.if-branch.firsts.items within at c.of.ensures c.in_ok-insert.ensures.updates c.in_ok-insert.ensures.added
          w.if-branch.false (ap (λ v. v.items) w.firsts-is) c.loop-mention.invariant
    ]
