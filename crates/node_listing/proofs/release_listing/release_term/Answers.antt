use Rattle.std.proofs.Common.{ap, ◌∙◌}
use Rattle.erl_term.specs.Value.Value.{atom}
use Rattle.node_listing.proofs.ListingLemmas.{whole_release, whole_applications}
use Rattle.rel_files.specs.Terms.{text_term}
use Rattle.node_listing.proofs.release_listing.release_term.Goals as goal

pub returns : goal.returns
returns c =
    whole_release c.tuple_of_four.result _ _ _ _ _ _ _ _
    (c.in_ok-name.ensures ∙ ap text_term c.as_str.ensures.value)
    (c.in_ok-vsn.ensures ∙ ap text_term c.as_str-2.ensures.value)
    (c.list_term-applications.ensures ∙ whole_applications _ _ _ c.in_ok-application_terms.ensures c.as_slice.ensures.value)
    (c.in_ok-status.ensures ∙ ap atom c.as_str-3.ensures)
    c.tuple_of_four.ensures
