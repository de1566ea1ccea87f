use Rattle.std.proofs.Common.{◌++◌, ◌∷◌, [], ◌∙◌, map, sym, ap}
use Rattle.std.proofs.lemmas.List.{map_push}
use Rattle.library.specs.InMemory.{shared_of}
use Rattle.rel_files.proofs.Rows.{viewed}
use Rattle.rel_list.specs.Releases.{shared}
use Rattle.rel_list.proofs.list.ReleaseList.share.Goals as goal

pub loop-library-preserved : goal.loop-library-preserved
loop-library-preserved c =
    viewed shared_of c.loop-library.all.items c.push.new.self.items c.in_ok-own_or.field-0 c.in_ok-push.ensures.items
    ∙ (λ j. c.loop-library.invariant j ++ c.in_ok-own_or.ensures j ∷ [])
    ∙ sym (ap (shared c.args.self.now) (map_push shared_of c.loop-library.yielded c.in-Some.library) ∙ map_push _ (map shared_of c.loop-library.yielded) (shared_of c.in-Some.library))
