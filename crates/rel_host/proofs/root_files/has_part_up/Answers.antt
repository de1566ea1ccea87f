use Rattle.std.proofs.Common.{lit<, rules, ◌∙◌, sym, None, Some}
use Rattle.std.proofs.lemmas.Str.Pattern.{split_once_first}
use Rattle.rel_host.proofs.PathLemmas.{climbs_behind, climbs_last}
use Rattle.rel_host.proofs.root_files.has_part_up.Goals as goal

pub loop-part-preserved : goal.loop-part-preserved
loop-part-preserved c =
    let cut = split_once_first 47 c.loop-part.rest.now (Some (c.in-Some.part, c.in-Some.behind)) c.in-Some.ensures.cases (lit< tt) in
    (search rules, climbs_behind c.loop-part.rest.now c.in-Some.part.now c.in-Some.behind.now cut.0 cut.1 cut.2 (sym c.eq.ensures ∙ c.if-eq.false) ∙ c.loop-part.invariant.1)

pub returns : goal.returns
returns c =
    let one = split_once_first 47 c.loop-part.rest.now None c.in_default.ensures.cases (lit< tt) in
    c.eq-2.ensures ∙ sym (climbs_last c.loop-part.rest.now one) ∙ c.loop-part.invariant.1
