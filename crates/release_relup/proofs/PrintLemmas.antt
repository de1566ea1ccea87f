-- The text of a relup that is read back, and a relup that isn't.
use Rattle.std.proofs.Common.{◌≡◌, ap, sym, subst, ◌∙◌, ℕ, Bool, List, [], ◌∷◌, ◌++◌}
use Rattle.erl_term.specs.Printing.{text_of}
use Rattle.erl_term.specs.Value.{Value}
use Rattle.erl_term.specs.Within.{IsWithin, ReadsAs}
use Rattle.rel_files.specs.OneTermFile.{HasFileTerm}
use Rattle.relup_file.specs.Form.{relup_term}
use Rattle.relup_file.specs.Relup.{RelupForm}
use Rattle.relup_file.proofs.Printed.{read_back}
use Rattle.relup_file.proofs.RelupLemmas.{is_said}
use Rattle.relup_by_patterns.specs.Plain.{IsPlainRelease}
use Rattle.relup_command.specs.Laws.{AreWellFormed}
use Rattle.relup_command.specs.Releases.{Releases}
use Rattle.relup_row.specs.Release.{RelupReleaseForm}
use Rattle.release_relup.specs.Made.{IsPrinted, IsRelupOf, IsTextOf, IsTooDeep}
use Rattle.release_relup.proofs.NameLemmas.{is_relup}

pub is_printed : (relup : RelupForm) (v : Value) (out text : List ℕ) → v ≡ relup_term relup → text ≡ text_of v → out ≡ text ++ 46 ∷ [] → HasFileTerm out v → IsPrinted relup out
is_printed relup v out text same printed is has = record {
  is = is ∙ ap (λ t. t ++ 46 ∷ []) (printed ∙ ap text_of same);
  reads_back = λ form. (relup_term relup, subst (HasFileTerm out) same has, is_said relup form);
}

pub is_too_deep : (relup : RelupForm) (v : Value) (out text : List ℕ) → v ≡ relup_term relup → (IsWithin 64 v → ReadsAs 64 text v) → out ≡ text ++ 46 ∷ []
    → (HasFileTerm out v → ⊥) → IsTooDeep relup
is_too_deep relup v out text same reads is none within =
    none (subst (HasFileTerm out) (sym same) (read_back 64 out text v (relup_term relup) same within reads is))

-- The text of the relup of well-formed releases.
pub is_text : (restart : Bool) (all : Releases) (plain : RelupReleaseForm) (relup : RelupForm) (text : List ℕ) (us ds us' ds' : List RelupReleaseForm)
    → us ≡ all.ups → ds ≡ all.downs → us' ≡ all.ups → ds' ≡ all.downs → IsPlainRelease us ds all.new plain → IsRelupOf restart plain us' ds' relup → IsPrinted relup text
    → AreWellFormed all → IsTextOf restart all text
is_text restart all plain relup text us ds us' ds' ups downs ups' downs' plainly made printed of =
    let p : IsPlainRelease all.ups all.downs all.new plain =
    subst (λ (u : List RelupReleaseForm). IsPlainRelease u all.downs all.new plain) ups (subst (λ (d : List RelupReleaseForm). IsPlainRelease us d all.new plain) downs plainly) in
    let m : IsRelupOf restart plain all.ups all.downs relup =
    subst (λ (u : List RelupReleaseForm). IsRelupOf restart plain u all.downs relup) ups' (subst (λ (d : List RelupReleaseForm). IsRelupOf restart plain us' d relup) downs' made) in
    record { plain = plain; is_plain = p; relup = relup; made = m; is = printed.is; says = printed.reads_back (is_relup restart all plain relup of p m) }
