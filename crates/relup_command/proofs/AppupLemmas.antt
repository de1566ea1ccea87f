-- Appups that are put in their places, one after another.
use Rattle.std.proofs.Common.{◌≡◌, ◌<◌, ◌+◌, ℕ, List, ◌∷◌, Option, Result, Ok, Err, IfErr, length, drop, sym, ap, subst, ◌∙◌}
use Rattle.std.specs.Prelude.{slice_index_or}
use Rattle.std.proofs.lemmas.List.{drop_more}
use Rattle.std.specs.Option.{option_map}
use Rattle.std.specs.Result.{IsErrAnd}
use Rattle.appup_file.specs.declared.appup.Appup.{Appup}
use Rattle.appup_file.specs.Instruction.{appup_of}
use Rattle.rel_unpack.specs.Source.{Source}
use Rattle.relup_row.specs.declared.release.RelupApp.{RelupApp}
use Rattle.relup_row.specs.Release.{relup_app_of}
use Rattle.relup_command.specs.Appups.{AppupAt, WithAppup}

-- What was not reached yet is as it was, also after the next one.
pub same_rest : {X : Type 0} (old now : List X) (n : ℕ) (x : X) → n < length now → n < length old → drop n now ≡ drop n old → x ≡ slice_index_or now n x
    → (drop n old ≡ x ∷ drop (n + 1) old) × (drop (n + 1) now ≡ drop (n + 1) old)
same_rest {X} old now n x in_now in_old same is =
    let there : drop n old ≡ slice_index_or old n x ∷ drop (n + 1) old = drop_more old n x in_old in
    let both : slice_index_or now n x ∷ drop (n + 1) now ≡ slice_index_or old n x ∷ drop (n + 1) old = sym (drop_more now n x in_now) ∙ (same ∙ there) in
    let heads : slice_index_or now n x ≡ slice_index_or old n x = cc in
    let tails : drop (n + 1) now ≡ drop (n + 1) old = cc in
    (there ∙ ap (λ (y : X). y ∷ drop (n + 1) old) (sym heads ∙ sym is), tails)

-- an application that got the appup of its file
pub with_its_appup : (source : Source) (x z : RelupApp) (p : Option Appup) → x ≡ z → AppupAt source (relup_app_of x) (Ok (option_map appup_of p))
    → WithAppup source (relup_app_of x) (Ok (relup_app_of (record { name = z.name; vsn = z.vsn; start = z.start; modules = z.modules; appup = p })))
with_its_appup source x z p is has =
    (option_map appup_of p, has, ap (λ (w : RelupApp). Ok (relup_app_of (record { name = w.name; vsn = w.vsn; start = w.start; modules = w.modules; appup = p }))) (sym is))

-- an error is passed on
pub error_passed_on : {X E : Type 0} (Q : E → Type 0) (e : E) (r : Result X E) → IsErrAnd r (λ f. f ≡ e) → Q e → IfErr r Q
error_passed_on Q e (Ok x) and reported = tt
error_passed_on Q e (Err f) and reported = subst Q (sym and) reported
