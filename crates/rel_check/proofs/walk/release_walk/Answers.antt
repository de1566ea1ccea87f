use Rattle.std.proofs.Common.{◌∙◌, ap, map}
use Rattle.rel_check.specs.InMemory.{part_of}
use Rattle.rel_check.specs.Summary.{Known, known_in, nothing_started, parts_joined}
use Rattle.rel_check.proofs.walk.release_walk.Goals as goal

pub returns : goal.returns
returns c =
    let ps = map part_of c.args.parts.now in
    c.parts_joined.ensures
    ∙ (ap (λ s. parts_joined (known_in c.in_ok-level.level) s ps) c.nothing_started.ensures
    ∙ ap (λ (k : Known). parts_joined k nothing_started ps) (λ j q. c.in_ok-level.ensures q j))
