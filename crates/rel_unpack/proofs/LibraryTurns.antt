-- The libraries of applications, one after another, up to the first refusal.
use Rattle.std.proofs.Common.{◌≡◌, ◌++◌, List, [], ◌∷◌, Option, Some, None, Ok, Err, sym, ap, subst, ◌∙◌, append_assoc}
use Rattle.std.proofs.lemmas.List.{append-nil}
use Rattle.rel_files.specs.Release.{Application}
use Rattle.library.specs.Library.{Library}
use Rattle.rel_unpack.specs.Applications.{LibraryAt, LibrariesAt}
use Rattle.rel_unpack.specs.Refusal.{Refusal}
use Rattle.rel_unpack.specs.Source.{Source}

-- What the applications from this place on give comes after the libraries that were read so far.
pub record AreReadTo (source : Source) (all later : List Application) (done : List Library) : Type 0 where
  pub turn : (ls : List Library) (why : Option Refusal) → LibrariesAt source later ls why → LibrariesAt source all (done ++ ls) why

module _ (source : Source) (all : List Application) where
  pub at_first : (done : List Library) → done ≡ [] → AreReadTo source all all done
  at_first done none = subst (λ (ls : List Library). AreReadTo source all all ls) (sym none) (record { turn = λ ls why gives. gives })

  pub one_more : (now later : List Application) (a : Application) (done new : List Library) (l : Library) → now ≡ a ∷ later → LibraryAt source a (Ok l) → new ≡ done ++ l ∷ []
      → AreReadTo source all now done → AreReadTo source all later new
  one_more now later a done new l split here grown so_far = record { turn = go }
    where
      go : (ls : List Library) (why : Option Refusal) → LibrariesAt source later ls why → LibrariesAt source all (new ++ ls) why
      go ls why gives =
          subst (λ (ks : List Library). LibrariesAt source all ks why) (sym (append_assoc done (l ∷ []) ls) ∙ ap (λ (ks : List Library). ks ++ ls) (sym grown))
          (so_far.turn (l ∷ ls) why (subst (λ (apps : List Application). LibrariesAt source apps (l ∷ ls) why) (sym split) (here, gives)))

  pub refused : (now later : List Application) (a : Application) (done : List Library) (why : Refusal) → now ≡ a ∷ later → LibraryAt source a (Err why)
      → AreReadTo source all now done → LibrariesAt source all done (Some why)
  refused now later a done why split here so_far =
      subst (λ (ls : List Library). LibrariesAt source all ls (Some why)) (append-nil done)
      (so_far.turn [] (Some why) (subst (λ (apps : List Application). LibrariesAt source apps [] (Some why)) (sym split) here))

  pub at_last : (now : List Application) (done : List Library) → now ≡ [] → AreReadTo source all now done → LibrariesAt source all done None
  at_last now done none so_far =
      subst (λ (ls : List Library). LibrariesAt source all ls None) (append-nil done)
      (so_far.turn [] None (subst (λ (apps : List Application). LibrariesAt source apps [] None) (sym none) tt))
