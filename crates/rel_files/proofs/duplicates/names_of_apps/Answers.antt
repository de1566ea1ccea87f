use Rattle.std.proofs.Common.{ℕ, List, Bor, string_bytes}
use Rattle.rel_files.specs.declared.draft.AppDraft.{AppDraft}
use Rattle.rel_files.proofs.Rows.{made_more, made_all}
use Rattle.rel_files.proofs.duplicates.names_of_apps.Goals as goal

abbrev name_of : AppDraft → List ℕ
name_of a = string_bytes a.name

abbrev text : Bor (List ℕ) → List ℕ
text n = n.now

pub loop-app-preserved : goal.loop-app-preserved
loop-app-preserved c =
    made_more name_of text c.args.apps.now c.loop-app.app-index c.app-item.result c.loop-app.names.items c.push.new.self.items c.as_str.result c.loop-app-test.true
    c.app-item.is c.as_str.ensures.value c.in_ok-push.ensures.items c.loop-app.invariant

pub returns : goal.returns
returns c = made_all name_of text c.args.apps.now c.loop-app.app-index c.loop-app.names.items c.loop-app-test.false c.loop-app.invariant
