use Rattle.std.proofs.Common.{◌≡◌, ◌∙◌, map, string_bytes, sym, ap, subst}
use Rattle.erl_term.specs.Value.{value_of}
use Rattle.rel_list.specs.Event.{recorded}
use Rattle.rel_records.specs.Image.{MakesAsImage, imaged}
use Rattle.rel_records.specs.Record.{imaged_term}
use Rattle.record_writer.proofs.ImageLemmas.{image_not_there, image_there, image_value_so, written_makes}
use Rattle.record_writer.proofs.image.image_body.Goals as goal

pub returns-then-not-can_be_read_back-clause-body : goal.returns-then-not-can_be_read_back-clause-body
returns-then-not-can_be_read_back-clause-body c =
    let rows = c.in_ok-rows.ensures ∙ ap (λ es. map imaged_term (map imaged (recorded es))) c.releases.ensures.entries in
    let is = image_value_so c.args.list.now (value_of c.in_ok-term.term) _ _ c.in_ok-term.ensures rows c.in_ok-libs.ensures in
    image_not_there (recorded c.args.list.now) (value_of c.in_ok-term.term) is (sym c.if-not-can_be_read_back.ensures.value)

pub returns-clause-body : goal.returns-clause-body
returns-clause-body c =
    let rows = c.in_ok-rows.ensures ∙ ap (λ es. map imaged_term (map imaged (recorded es))) c.releases.ensures.entries in
    let is = image_value_so c.args.list.now (value_of c.in_ok-term.term) _ _ c.in_ok-term.ensures rows c.in_ok-libs.ensures in
    image_there (recorded c.args.list.now) (value_of c.in_ok-term.term) (string_bytes c.in_ok-body.body) is (sym c.if-not-can_be_read_back.ensures.value) c.in_ok-body.ensures.printed

pub returns-clause-makes : goal.returns-clause-makes
returns-clause-makes c = λ x same.
    let rows = c.in_ok-rows.ensures ∙ ap (λ es. map imaged_term (map imaged (recorded es))) c.releases.ensures.entries in
    let is = image_value_so c.args.list.now (value_of c.in_ok-term.term) _ _ c.in_ok-term.ensures rows c.in_ok-libs.ensures in
    let there : c.in_ok-body.body ≡ x = cc same in
    subst (λ s. MakesAsImage (recorded c.args.list.now) (string_bytes s)) there
    (written_makes c.args.list.now c.requires.made c.releases.ensures.distinct (value_of c.in_ok-term.term) is (sym c.if-not-can_be_read_back.ensures.value) (string_bytes c.in_ok-body.body) c.in_ok-body.ensures.read_back)
