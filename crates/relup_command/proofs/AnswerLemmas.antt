-- An answer is that of what the files say, and a relup that is made can be read back from it.
use Rattle.std.proofs.Common.{◌≡◌, ◌≢◌, ℕ, List, Result, Ok, Err, ap, refl, sym, subst, ◌∙◌}
use Rattle.rel_unpack.specs.Source.{Source}
use Rattle.erl_term.specs.Within.{IsWithin}
use Rattle.relup_file.specs.Form.{IsRelup, relup_term}
use Rattle.relup_file.specs.Relup.{RelupForm}
use Rattle.relup_translate.specs.declared.error.TranslateError.{TranslateError}
use Rattle.relup_translate.specs.declared.error.TranslateError.TheVariants.{NoAppup, NoEntry, UnknownModule, RegexVersion, NeedsNewEmulator, Unsupported, NoMemory}
use Rattle.relup_translate.specs.Fault.{FaultForm, Says}
use Rattle.relup_translate.specs.Translation.{Refuses}
use Rattle.relup_command.specs.Answer.{AnswerAt, AnswersFile, AnswersMadeRelup, fault_line, relup_lines, translation_lines}
use Rattle.relup_command.specs.Relup.{IsMadeOf, IsRefusalOf}
use Rattle.relup_command.specs.declared.error.RelupError.TheVariants.{Appups}
use Rattle.relup_command.proofs.NameLemmas.{made_relups_are_named}

-- An error says the fault that a translation is.
says_fault : (t : Result RelupForm FaultForm) (why : TranslateError) → why ≢ NoMemory → Refuses t why → (f : FaultForm) × (t ≡ Err f) × Says why f
says_fault t NoMemory known refuses = absurd (known refl)
says_fault (Err f) (NoAppup app) known says = (f, refl, says)
says_fault (Err f) (NoEntry app vsn) known says = (f, refl, says)
says_fault (Err f) (UnknownModule name) known says = (f, refl, says)
says_fault (Err f) (RegexVersion app) known says = (f, refl, says)
says_fault (Err f) NeedsNewEmulator known says = (f, refl, says)
says_fault (Err f) (Unsupported app) known says = (f, refl, says)
says_fault (Ok r) (NoAppup app) known says = absurd says
says_fault (Ok r) (NoEntry app vsn) known says = absurd says
says_fault (Ok r) (UnknownModule name) known says = absurd says
says_fault (Ok r) (RegexVersion app) known says = absurd says
says_fault (Ok r) NeedsNewEmulator known says = absurd says
says_fault (Ok r) (Unsupported app) known says = absurd says

pub fault_answered : (source : Source) (new : List ℕ) (ups downs : List (List ℕ)) (why : TranslateError) (text : List ℕ) → why ≢ NoMemory
    → ((f : FaultForm) → Says why f → text ≡ fault_line f) → IsRefusalOf source new ups downs (Appups why) → AnswerAt source new ups downs (Ok text)
fault_answered source new ups downs why text known reported (all, there, refuses) =
    let (f, is, says) = says_fault _ why known refuses in
    (all, there, ap Ok (reported f says ∙ ap translation_lines (sym is)))

-- The relup that was made is the one that is read back.
pub made_read_back : (source : Source) (new : List ℕ) (ups downs : List (List ℕ)) (made : RelupForm) (text : List ℕ)
    → (IsRelup made → IsWithin 64 (relup_term made) → AnswersFile text made) → text ≡ relup_lines made → IsMadeOf source new ups downs made
    → AnswersMadeRelup source new ups downs text
made_read_back source new ups downs made text read lines (all, there, is) = record {
  all = all;
  there = there;
  is = lines ∙ ap translation_lines (sym is);
  says = λ relup of within.
      let e : Ok made ≡ Ok relup = sym is ∙ of in
      let same : made ≡ relup = cc in
      subst (λ r. IsWithin 64 (relup_term r) → AnswersFile text r) same (read (made_relups_are_named source new ups downs made (all, there, is))) within;
}

-- Where there is a fault, no relup is made that could be read back.
pub fault_read_back : (source : Source) (new : List ℕ) (ups downs : List (List ℕ)) (why : TranslateError) (text : List ℕ) → why ≢ NoMemory
    → ((f : FaultForm) → Says why f → text ≡ fault_line f) → IsRefusalOf source new ups downs (Appups why) → AnswersMadeRelup source new ups downs text
fault_read_back source new ups downs why text known line (all, there, refuses) =
    let (f, is, says) = says_fault _ why known refuses in
    record {
      all = all;
      there = there;
      is = line f says ∙ ap translation_lines (sym is);
      says = λ relup of within. let e : Err f ≡ Ok relup = sym is ∙ of in absurd cc;
    }
