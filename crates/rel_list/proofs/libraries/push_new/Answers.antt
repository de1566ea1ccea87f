use Rattle.std.proofs.Common.{rules, ◌≡◌, ◌+◌, ◌++◌, ◌∷◌, [], ◌∙◌, Bool, true, false, cond, map, take, append-nil, sym, ap}
use Rattle.std.proofs.lemmas.List.{map_push, take_more, take_all}
use Rattle.library.specs.InMemory.{library_of, shared_of}
use Rattle.rel_list.specs.Releases.{each_once}
use Rattle.rel_list.proofs.LibraryLaws.{is_among, once-more}
use Rattle.rel_list.proofs.libraries.push_new.Goals as goal
use Rattle.rel_list.proofs.libraries.push_new.Goals.{then-not-is_among+in_ok-push, else-not-is_among}

pub loop-library-preserved : goal.loop-library-preserved
loop-library-preserved c = λ ls were.
    let i = c.loop-library.library-index in
    let library = shared_of c.library-item.result in
    let old = map (λ k. library_of k.now) c.loop-library.found.items in
    let new = map (λ k. library_of k.now) c.if-not-is_among.found.items in
    let grown : map shared_of (take (i + 1) c.args.libraries.now) ≡ map shared_of (take i c.args.libraries.now) ++ library ∷ [] =
    ap (map shared_of)
    (take_more c.args.libraries.now i c.library-item.result c.loop-library-test.true ∙ ap (λ m. take i c.args.libraries.now ++ m ∷ []) (sym c.library-item.is))
    ∙ map_push shared_of (take i c.args.libraries.now) c.library-item.result in
    let is : new ≡ cond (is_among library old) old (old ++ library ∷ []) = elim c.if-not-is_among.branch [
      | then-not-is_among+in_ok-push w ↦
          let none : is_among library old ≡ false = search rules in
          let items : c.if-not-is_among.found.items ≡ c.loop-library.found.items ++ c.as_ref-library.result ∷ [] = search rules in
          let pushed : new ≡ old ++ library ∷ [] =
          ap (map (λ k. library_of k.now)) items ∙ map_push (λ k. library_of k.now) c.loop-library.found.items c.as_ref-library.result
          ∙ ap (λ k. old ++ library_of k ∷ []) c.as_ref-library.ensures in
          pushed ∙ sym (ap (λ (b : Bool). cond b old (old ++ library ∷ [])) none)
      | else-not-is_among w ↦
          let there : is_among library old ≡ true = search rules in
          let same : new ≡ old = search rules in
          same ∙ sym (ap (λ (b : Bool). cond b old (old ++ library ∷ [])) there)
    ] in
    once-more ls (map shared_of (take i c.args.libraries.now)) (map shared_of (take (i + 1) c.args.libraries.now)) library old new grown (c.loop-library.invariant ls were) is

pub loop-library-init : goal.loop-library-init
loop-library-init c = λ ls were. were ∙ ap each_once (sym (append-nil ls))

pub returns : goal.returns
returns c = λ ls were. c.loop-library.invariant ls were ∙ ap (λ r. each_once (ls ++ map shared_of r)) (take_all _ c.args.libraries.now c.loop-library-test.false)
