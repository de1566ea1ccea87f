use Rattle.std.proofs.Common.{◌≡◌, ◌+◌, ◌++◌, ◌∷◌, [], ◌∙◌, map, take, sym, ap}
use Rattle.std.proofs.lemmas.List.{map_push, take_more, take_all}
use Rattle.library.specs.InMemory.{library_of}
use Rattle.library.specs.InMemory.{shared_of}
use Rattle.rel_list.specs.Keyed.{entry_of}
use Rattle.rel_list.specs.Releases.{each_once, libraries_named, libraries_of}
use Rattle.rel_list.proofs.LibraryLaws.{libraries-push}
use Rattle.rel_list.proofs.list.ReleaseList.libs.Goals as goal

pub loop-listed-preserved : goal.loop-listed-preserved
loop-listed-preserved c =
    let i = c.loop-listed.listed-index in
    let named = libraries_named (map entry_of (take i c.releases-releases.result.now)) in
    let grown : map entry_of (take (i + 1) c.releases-releases.result.now) ≡ map entry_of (take i c.releases-releases.result.now) ++ entry_of c.listed-item.result ∷ [] =
    ap (map entry_of)
    (take_more c.releases-releases.result.now i c.listed-item.result c.loop-listed-test.true ∙ ap (λ r. take i c.releases-releases.result.now ++ r ∷ []) (sym c.listed-item.is))
    ∙ map_push entry_of (take i c.releases-releases.result.now) c.listed-item.result in
    let more : libraries_named (map entry_of (take (i + 1) c.releases-releases.result.now)) ≡ named ++ map shared_of c.listed-item.result.libraries.items =
    ap libraries_named grown ∙ libraries-push (map entry_of (take i c.releases-releases.result.now)) (entry_of c.listed-item.result) in
    let pushed : map (λ k. library_of k.now) c.push_new.new.found.items ≡ each_once (named ++ map shared_of c.as_slice.result.now) =
    c.in_ok-push_new.ensures named c.loop-listed.invariant in
    pushed ∙ ap (λ ls. each_once (named ++ map shared_of ls)) c.as_slice.ensures.value ∙ sym (ap each_once more)

pub returns : goal.returns
returns c =
    c.loop-listed.invariant
    ∙ ap (λ r. libraries_of (map entry_of r)) (take_all _ c.releases-releases.result.now c.loop-listed-test.false)
    ∙ ap libraries_of c.releases-releases.ensures.entries
