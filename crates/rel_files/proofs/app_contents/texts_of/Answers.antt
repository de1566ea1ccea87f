use Rattle.std.proofs.Common.{ℕ, List, Bor, string_bytes}
use Rattle.rel_files.proofs.Rows.{made_more, made_all}
use Rattle.rel_files.proofs.app_contents.texts_of.Goals as goal

abbrev text : Bor (List ℕ) → List ℕ
text t = t.now

pub loop-name-preserved : goal.loop-name-preserved
loop-name-preserved c =
    made_more string_bytes text c.args.names.now c.loop-name.name-index c.name-item.result c.loop-name.texts.items c.push.new.self.items c.as_str.result
    c.loop-name-test.true c.name-item.is c.as_str.ensures.value c.in_ok-push.ensures.items c.loop-name.invariant

pub returns : goal.returns
returns c = made_all string_bytes text c.args.names.now c.loop-name.name-index c.loop-name.texts.items c.loop-name-test.false c.loop-name.invariant
