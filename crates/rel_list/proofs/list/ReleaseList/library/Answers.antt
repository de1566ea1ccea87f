use Rattle.std.proofs.Common.{rules, ◌≡◌, ◌+◌, ◌∷◌, ◌∙◌, None, Some, map, drop, sym, ap}
use Rattle.std.proofs.lemmas.List.{drop_more}
use Rattle.library.specs.Library.{library_at}
use Rattle.library.specs.InMemory.{shared_of}
use Rattle.rel_list.specs.Keyed.{entry_of}
use Rattle.rel_list.specs.Releases.{library_in}
use Rattle.rel_list.proofs.LibraryLaws.{library_here, library_behind}
use Rattle.rel_list.proofs.list.ReleaseList.library.Goals as goal

pub returns-in-Some : goal.returns-in-Some
returns-in-Some c =
    let later = drop (c.loop-listed.listed-index + 1) c.releases-releases.result.now in
    let split : drop c.loop-listed.listed-index c.releases-releases.result.now ≡ c.listed-item.result ∷ later =
    drop_more c.releases-releases.result.now c.loop-listed.listed-index c.listed-item.result c.loop-listed-test.true ∙ ap (λ r. r ∷ later) (sym c.listed-item.is) in
    let here : library_at c.args.name.now c.args.vsn.now (map shared_of c.listed-item.result.libraries.items) ≡ Some (shared_of c.in-Some.found.now) = search rules in
    sym (library_here (entry_of c.listed-item.result) (map entry_of later) c.args.name.now c.args.vsn.now (shared_of c.in-Some.found.now) here)
    ∙ sym (ap (λ rs. library_in (map entry_of rs) c.args.name.now c.args.vsn.now) split)
    ∙ c.loop-listed.invariant

pub loop-listed-preserved : goal.loop-listed-preserved
loop-listed-preserved c =
    let later = drop (c.loop-listed.listed-index + 1) c.releases-releases.result.now in
    let split : drop c.loop-listed.listed-index c.releases-releases.result.now ≡ c.listed-item.result ∷ later =
    drop_more c.releases-releases.result.now c.loop-listed.listed-index c.listed-item.result c.loop-listed-test.true ∙ ap (λ r. r ∷ later) (sym c.listed-item.is) in
    let none : library_at c.args.name.now c.args.vsn.now (map shared_of c.listed-item.result.libraries.items) ≡ None = search rules in
    sym (library_behind (entry_of c.listed-item.result) (map entry_of later) c.args.name.now c.args.vsn.now none)
    ∙ sym (ap (λ rs. library_in (map entry_of rs) c.args.name.now c.args.vsn.now) split)
    ∙ c.loop-listed.invariant
