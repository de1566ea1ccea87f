use Rattle.std.proofs.Common.{◌≡◌, arith, length, string_bytes, not, sym, ap, ◌∙◌, subst, true≢false}
use Rattle.std.proofs.lemmas.List.{length-map}
use Rattle.rel_files.specs.Release.{release_of}
use Rattle.rel_list.specs.Releases.{one_shot}
use Rattle.rel_records.proofs.RecordLaws.{make_versions}
use Rattle.rel_store.specs.State.{Fits, end_in, records_in}
use Rattle.node_command.specs.Taking.{change_size, no_terms}
use Rattle.node_store.specs.Image.{boot_size}
use Rattle.node_store.specs.State.{list_in}
use Rattle.rel_handler.proofs.Boots.{one_shot_reported}
use Rattle.rel_handler.proofs.booting.boot_record.Goals as goal

pub change_body-requires-clause-versions : goal.change_body-requires-clause-versions
change_body-requires-clause-versions g c = make_versions c.args.node.now.store.format (records_in c.args.node.now.store) (list_in c.args.node.now) c.requires.makes

-- The record of the boot doesn't fit.
pub returns-then-not-fits-clause-refused : goal.returns-then-not-fits-clause-refused
unfolding change_size
returns-then-not-fits-clause-refused g c =
    let h = c.args.node.now in
    let one = sym (one_shot_reported release_of c.one_shot.result (one_shot (list_in h)) c.one_shot.ensures) ∙ (c.is_none.ensures ∙ ap not c.if-is_none.false) in
    let reported : c.len.result ≡ length (string_bytes c.in_ok-body.body) = (let n = c.len.ensures in omega (arith, n)) in
    let long : c.len.result ≡ boot_size (list_in h) = reported ∙ ap length (c.in_ok-body.ensures.body no_terms) in (
      λ space. true≢false (sym (c.fits.ensures.1 (subst (λ n. Fits (end_in h.store) n) (sym long) (space one))) ∙ c.if-not-fits.true),
      sym (length-map c.records.result.now _) ∙ ap (λ bodies. length bodies) c.records.ensures,
    )

-- The record of the boot fits.
pub returns-clause-body : goal.returns-clause-body
unfolding change_size
returns-clause-body g c =
    let es = list_in c.args.node.now in
    let one = sym (one_shot_reported release_of c.one_shot.result (one_shot es) c.one_shot.ensures) ∙ (c.is_none.ensures ∙ ap not c.if-is_none.false) in
    (one, record { spells = c.in_ok-body.ensures.spells; reports = c.in_ok-body.ensures.reports }, ap length (c.in_ok-body.ensures.body no_terms))

pub returns-clause-room : goal.returns-clause-room
unfolding change_size
returns-clause-room g c = λ one.
    let h = c.args.node.now in
    let reported : c.len.result ≡ length (string_bytes c.in_ok-body.body) = (let n = c.len.ensures in omega (arith, n)) in
    let long : c.len.result ≡ boot_size (list_in h) = reported ∙ ap length (c.in_ok-body.ensures.body no_terms) in
    subst (λ n. Fits (end_in h.store) n) long (c.fits.ensures.0 c.if-not-fits.false)
