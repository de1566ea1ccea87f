use Rattle.std.proofs.Common.{◌++◌, [], ◌∷◌, ◌∙◌, ap}
use Rattle.rel_store.specs.Layout.{new_layout}
use Rattle.rel_store.specs.Records.{record_bytes}
use Rattle.rel_store.proofs.bytes.spell_store.Goals as goal

pub returns : goal.returns
returns c =
    c.in_ok-push_record.ensures.ok
    ∙ ap (λ l. l ++ (1 ∷ (record_bytes c.args.first.now ++ 0 ∷ []))) (c.in_ok-push_layout.ensures ∙ ap (λ l. l ++ new_layout c.args.start.now) c.in_ok-bytes.ensures.items)
