use Rattle.std.proofs.Common.{◌≡◌, ◌++◌, ℕ, ◌+◌, ◌<◌, List, [], ◌∷◌, length, get_or, map, take, ap, sym, ◌∙◌, append-nil}
use Rattle.std.proofs.lemmas.List.{map_more, flat_map_more, take_all}
use Rattle.rel_list.specs.Keyed.{entry_of}
use Rattle.rel_list.specs.declared.listed.ListedRelease.{ListedRelease}
use Rattle.store_report.specs.Lines.{release_line, releases_text}
use Rattle.store_report.proofs.releases.push_releases.Goals as goal

-- the line of the release of this index
line_more : (listed : List ListedRelease) (i : ℕ) (l : ListedRelease) (first old new : List ℕ) → i < length listed → l ≡ get_or listed i l → new ≡ old ++ release_line (entry_of l)
    → old ≡ first ++ releases_text (map entry_of (take i listed)) → new ≡ first ++ releases_text (map entry_of (take (i + 1) listed))
line_more listed i l first old new within at grown so_far =
    let before = map entry_of (take i listed) in
    let entries : map entry_of (take (i + 1) listed) ≡ before ++ entry_of l ∷ [] = map_more entry_of listed i l within ∙ ap (λ m. before ++ entry_of m ∷ []) (sym at) in
    grown
    ∙ ap (λ t. t ++ release_line (entry_of l)) so_far
    ∙ flat_map_more release_line first before (entry_of l)
    ∙ ap (λ es. first ++ releases_text es) (sym entries)

pub loop-listed-init : goal.loop-listed-init
loop-listed-init c = sym (append-nil _)

pub loop-listed-preserved : goal.loop-listed-preserved
loop-listed-preserved c =
    line_more c.releases-entries.result.now c.loop-listed.listed-index c.listed-item.result _ _ _
    c.loop-listed-test.true c.listed-item.is c.in_ok-push_release.ensures c.loop-listed.invariant

pub returns : goal.returns
returns c =
    c.loop-listed.invariant
    ∙ ap (λ ls. c.args.text.now.items ++ releases_text (map entry_of ls)) (take_all c.loop-listed.listed-index c.releases-entries.result.now c.loop-listed-test.false)
    ∙ ap (λ es. c.args.text.now.items ++ releases_text es) c.releases-entries.ensures.entries
