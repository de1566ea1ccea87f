use Rattle.std.proofs.Common.{◌++◌, map, string_bytes, option_to_list, refl, ap, ◌∙◌}
use Rattle.std.specs.List.{filter_map}
use Rattle.relup_row.specs.Release.{relup_release_of}
use Rattle.relup_row.specs.Fetches.{mention, mention_of}
use Rattle.relup_block.proofs.WalkLemmas.{one_further, none_left}
use Rattle.relup_row.proofs.WalkLemmas.{before_rest}
use Rattle.relup_row.proofs.rows.push_modules.Goals as goal

pub loop-name-preserved : goal.loop-name-preserved
loop-name-preserved c =
    let give = mention (relup_release_of c.args.target.now) in
    one_further mention_of string_bytes (filter_map give) c.args.names.now c.loop-name.name-index c.name-item.result c.loop-name.out.items c.push_module.new.out.items (option_to_list (give (string_bytes c.name-item.result))) _
    c.loop-name-test.true c.name-item.is (before_rest (give (string_bytes c.name-item.result)) _)
    (c.in_ok-push_module.ensures ∙ ap (λ n. map mention_of c.loop-name.out.items ++ option_to_list (give n)) c.as_str.ensures.value) c.loop-name.invariant

pub returns : goal.returns
returns c =
    none_left mention_of string_bytes (filter_map (mention (relup_release_of c.args.target.now))) c.args.names.now c.loop-name.name-index c.loop-name.out.items _ refl
    c.loop-name-test.false c.loop-name.invariant
