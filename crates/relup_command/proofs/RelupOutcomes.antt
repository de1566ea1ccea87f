-- The request of a relup has one answer where each path of the source has one, and has an answer where each path has one.
use Rattle.std.proofs.Common.{◌≡◌, ◌⊎◌, inl, inr, ℕ, List, refl, sym, ap, ◌∙◌}
use Rattle.rel_files.proofs.KindFiles.{says_one}
use Rattle.rel_files.specs.Release.{Application}
use Rattle.appup_file.proofs.FileLemmas.{one_fault, never_both, says_or_fault}
use Rattle.appup_file.specs.File.{appup_files, SaysAppup, IsAppupFault}
use Rattle.appup_file.specs.Instruction.{AppupForm}
use Rattle.appup_file.specs.declared.fault.AppupFault.{AppupFault}
use Rattle.rel_unpack.specs.Applications.{AppAt}
use Rattle.rel_unpack.specs.Order.{Each}
use Rattle.rel_unpack.specs.Refusal.{Trouble}
use Rattle.rel_unpack.specs.Release.{ReleaseAt}
use Rattle.rel_unpack.specs.Source.{Source, GivesOne, GivesEach}
use Rattle.rel_unpack.proofs.OneOutcome.{IsOne, SaysOne, one_outcome, one_then, one_each, one_if_there, one_release, one_application}
use Rattle.rel_unpack.proofs.SomeOutcome.{HasSome, SaysSome, some_outcome, some_then, some_each, some_if_there, some_release, some_application}
use Rattle.relup_row.specs.Release.{RelupAppForm, RelupReleaseForm}
use Rattle.relup_command.specs.Answer.{AnswerAt}
use Rattle.relup_command.specs.Appups.{AppupAt, WithAppup, HasAppupTrouble, appup_form, appup_path, appup_trouble}
use Rattle.relup_command.specs.Releases.{RelupAppAt, RelupReleaseAt, ReleasesAt, WithAppups}

one_trouble : (bytes : List ℕ) (t u : Trouble) → HasAppupTrouble bytes t → HasAppupTrouble bytes u → t ≡ u
one_trouble bytes t u (f, has, is) (g, has_too, also) = is ∙ ap appup_trouble (one_fault bytes f g has has_too) ∙ sym also

says_one_appup : SaysOne appup_form
says_one_appup = record {
  one_value = says_one appup_files;
  one_trouble = one_trouble;
  never_both = λ bytes a t says (f, has, is). never_both bytes a f says has;
}

says_some_appup : SaysSome appup_form
says_some_appup bytes = go (says_or_fault bytes)
  where
    go : ((a : AppupForm) × SaysAppup bytes a) ⊎ ((f : AppupFault) × IsAppupFault bytes f) → ((a : AppupForm) × SaysAppup bytes a) ⊎ ((t : Trouble) × HasAppupTrouble bytes t)
    go (inl has) = inl has
    go (inr (f, has)) = inr (appup_trouble f, (f, has, refl))

module _ (source : Source) (one : GivesOne source) where
  one_relup_app : (a : Application) → IsOne (RelupAppAt source a)
  one_relup_app a = one_then (AppAt source a) _ (one_application source one a) (λ s. one_outcome _)

  one_relup_release : (path : List ℕ) → IsOne (RelupReleaseAt source path)
  one_relup_release path =
      one_then (ReleaseAt source path) _ (one_release source one path)
      (λ f. one_then (Each (RelupAppAt source) f.release.apps) _ (one_each (RelupAppAt source) one_relup_app f.release.apps) (λ apps. one_outcome _))

  one_with_appup : (a : RelupAppForm) → IsOne (WithAppup source a)
  one_with_appup a = one_then (AppupAt source a) _ (one_if_there appup_form says_one_appup source one (appup_path a)) (λ p. one_outcome _)

  one_with_appups : (release : RelupReleaseForm) → IsOne (WithAppups source release)
  one_with_appups release = one_then (Each (WithAppup source) release.apps) _ (one_each (WithAppup source) one_with_appup release.apps) (λ apps. one_outcome _)

  one_releases : (new : List ℕ) (ups downs : List (List ℕ)) → IsOne (ReleasesAt source new ups downs)
  one_releases new ups downs =
      one_then (RelupReleaseAt source new) _ (one_relup_release new) (λ release.
      one_then (Each (RelupReleaseAt source) ups) _ (one_each (RelupReleaseAt source) one_relup_release ups) (λ lower.
      one_then (Each (RelupReleaseAt source) downs) _ (one_each (RelupReleaseAt source) one_relup_release downs) (λ back.
      one_then (WithAppups source release) _ (one_with_appups release) (λ whole. one_outcome _))))

  pub one_answer : (new : List ℕ) (ups downs : List (List ℕ)) → IsOne (AnswerAt source new ups downs)
  one_answer new ups downs = one_then (ReleasesAt source new ups downs) _ (one_releases new ups downs) (λ all. one_outcome _)

module _ (source : Source) (each : GivesEach source) where
  some_relup_app : (a : Application) → HasSome (RelupAppAt source a)
  some_relup_app a = some_then (AppAt source a) _ (some_application source each a) (λ s. some_outcome _)

  some_relup_release : (path : List ℕ) → HasSome (RelupReleaseAt source path)
  some_relup_release path =
      some_then (ReleaseAt source path) _ (some_release source each path)
      (λ f. some_then (Each (RelupAppAt source) f.release.apps) _ (some_each (RelupAppAt source) some_relup_app f.release.apps) (λ apps. some_outcome _))

  some_with_appup : (a : RelupAppForm) → HasSome (WithAppup source a)
  some_with_appup a = some_then (AppupAt source a) _ (some_if_there appup_form says_some_appup source each (appup_path a)) (λ p. some_outcome _)

  some_with_appups : (release : RelupReleaseForm) → HasSome (WithAppups source release)
  some_with_appups release = some_then (Each (WithAppup source) release.apps) _ (some_each (WithAppup source) some_with_appup release.apps) (λ apps. some_outcome _)

  some_releases : (new : List ℕ) (ups downs : List (List ℕ)) → HasSome (ReleasesAt source new ups downs)
  some_releases new ups downs =
      some_then (RelupReleaseAt source new) _ (some_relup_release new) (λ release.
      some_then (Each (RelupReleaseAt source) ups) _ (some_each (RelupReleaseAt source) some_relup_release ups) (λ lower.
      some_then (Each (RelupReleaseAt source) downs) _ (some_each (RelupReleaseAt source) some_relup_release downs) (λ back.
      some_then (WithAppups source release) _ (some_with_appups release) (λ whole. some_outcome _))))

  pub some_answer : (new : List ℕ) (ups downs : List (List ℕ)) → HasSome (AnswerAt source new ups downs)
  some_answer new ups downs = some_then (ReleasesAt source new ups downs) _ (some_releases new ups downs) (λ all. some_outcome _)
