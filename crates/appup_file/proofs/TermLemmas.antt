-- A term says an appup exactly where it is a term of this appup.
use Rattle.std.proofs.Common.{◌≡◌, ◌↔◌, ℕ, List, [], ◌∷◌, Option, Some, refl, sym, ap, subst, ◌∙◌}
use Rattle.std.specs.List.{AllZip}
use Rattle.std.specs.Option.{option_map, option_and_then}
use Rattle.erl_term.specs.Value.{Value, Values, values_of}
use Rattle.erl_term.specs.Value.Value.{list, bin}
use Rattle.rel_files.specs.Parts.{list_in, pair_in}
use Rattle.rel_files.proofs.Options.{mapped, chained}
use Rattle.relup_instruction.specs.Parts.{all_in}
use Rattle.rel_files.proofs.TermParts.{from_list, from_pair, version_in-text, from_version}
use Rattle.relup_instruction.proofs.InstructionLemmas.{list_of_values}
use Rattle.relup_file.specs.Parts.{outer_in}
use Rattle.relup_file.proofs.RelupLemmas.{outer_in-term, from_outer_in}
use Rattle.rel_files.specs.Sketch.{version_in}
use Rattle.appup_file.specs.Instruction.{AppupInstruction, VersionForm, AppupEntryForm, AppupForm}
use Rattle.appup_file.specs.Instruction.VersionForm.{text, pattern}
use Rattle.appup_file.specs.Form.{Spells, IsOther, IsEntryTerm, IsAppupTerm}
use Rattle.appup_file.specs.Parts.{appup_instruction_in, other_version_in, entry_in, from_outer, appup_in}
use Rattle.appup_file.specs.File.{TermSaysAppup}
use Rattle.appup_file.proofs.Defaults.{defaults}
use Rattle.appup_file.proofs.FullTerms.{full}
use Rattle.appup_file.proofs.Spellings.{spelled}
use Rattle.rel_files.specs.Terms.{pair_term}

reads : (v : Value) (i : AppupInstruction) → Spells v i → appup_instruction_in v ≡ Some i
reads v i h = defaults v ∙ (ap appup_instruction_in h.0 ∙ full i h.1)

-- terms one after another
all_read : {A : Type 0} (f : Value → Option A) (R : Value → A → Type 0) → ((v : Value) (a : A) → R v a → f v ≡ Some a)
    → (vs : List Value) (bs : List A) → AllZip R vs bs → all_in f (values_of vs) ≡ Some bs
all_read f R each [] [] h = refl
all_read {A} f R each (v ∷ vs) (b ∷ bs) h =
    ap (option_and_then (λ (a : A). option_map (λ (rest : List A). a ∷ rest) (all_in f (values_of vs)))) (each v b h.0)
    ∙ ap (option_map (λ (rest : List A). b ∷ rest)) (all_read f R each vs bs h.1)
all_read f R each vs bs h = absurd h

read_all : {A : Type 0} (f : Value → Option A) (R : Value → A → Type 0) → ((v : Value) (a : A) → f v ≡ Some a → R v a)
    → (vs : List Value) (bs : List A) → all_in f (values_of vs) ≡ Some bs → AllZip R vs bs
read_all f R each [] bs e = let same : [] ≡ bs = cc in subst (AllZip R []) same tt
read_all {A} f R each (v ∷ vs) bs e =
    let first = chained (λ (a : A). option_map (λ (rest : List A). a ∷ rest) (all_in f (values_of vs))) (f v) bs e in
    let more = mapped (λ (rest : List A). first.0 ∷ rest) (all_in f (values_of vs)) bs first.2 in
    subst (AllZip R (v ∷ vs)) more.2 (each v first.0 first.1, read_all f R each vs more.0 more.1)

-- versions
other_read : (v : Value) (x : VersionForm) → IsOther v x → other_version_in v ≡ Some x
other_read v (text s) h = ap other_version_in h.0 ∙ ap (option_map text) (version_in-text s h.1)
other_read v (pattern bs) h = ap other_version_in h

from_text : (v : Value) (x : VersionForm) → option_map text (version_in v) ≡ Some x → IsOther v x
from_text v x e = let s = mapped text (version_in v) x e in subst (IsOther v) s.2 (from_version v s.0 s.1)

read_other : (v : Value) (x : VersionForm) → other_version_in v ≡ Some x → IsOther v x
read_other (bin bs) x e = let same : pattern bs ≡ x = cc in subst (IsOther (bin bs)) same refl
read_other v x e = from_text v x e

-- entries
abbrev entered : VersionForm → List AppupInstruction → AppupEntryForm
entered vsn is' = record { vsn = vsn; instrs = is' }

entry_read : (v : Value) (e : AppupEntryForm) → IsEntryTerm v e → entry_in v ≡ Some e
entry_read v e h =
    ap entry_in h.is
    ∙ (ap (option_and_then (λ (vsn : VersionForm). option_map (entered vsn) (all_in appup_instruction_in (values_of h.instrs)))) (other_read h.vsn e.vsn h.version)
    ∙ ap (option_map (entered e.vsn)) (all_read appup_instruction_in Spells reads h.instrs e.instrs h.each))

read_entry : (v : Value) (e : AppupEntryForm) → entry_in v ≡ Some e → IsEntryTerm v e
read_entry v e is =
    let p = chained (λ (p : Value × Value). option_and_then (λ (vsn : VersionForm). option_and_then (λ (vs : Values). option_map (entered vsn) (all_in appup_instruction_in vs)) (list_in p.1)) (other_version_in p.0)) (pair_in v) e is in
    let vsn = chained (λ (vsn : VersionForm). option_and_then (λ (vs : Values). option_map (entered vsn) (all_in appup_instruction_in vs)) (list_in p.0.1)) (other_version_in p.0.0) e p.2 in
    let vs = chained (λ (vs : Values). option_map (entered vsn.0) (all_in appup_instruction_in vs)) (list_in p.0.1) e vsn.2 in
    let row = mapped (entered vsn.0) (all_in appup_instruction_in vs.0) e vs.2 in
    let ws = list_of_values vs.0 in
    let read : IsEntryTerm v (entered vsn.0 row.0) = record {
      vsn = p.0.0;
      instrs = ws.0;
      is = from_pair v p.0 p.1 ∙ ap (pair_term p.0.0) (from_list p.0.1 vs.0 vs.1 ∙ ap list ws.1);
      version = read_other p.0.0 vsn.0 vsn.1;
      each = read_all appup_instruction_in Spells spelled ws.0 row.0 (ap (all_in appup_instruction_in) (sym ws.1) ∙ row.1);
    } in
    subst (IsEntryTerm v) row.2 read

-- appups
abbrev joined : List ℕ → List AppupEntryForm → List AppupEntryForm → AppupForm
joined vsn ups downs = record { vsn = vsn; ups = ups; downs = downs }

appup_read : (v : Value) (a : AppupForm) → IsAppupTerm v a → appup_in v ≡ Some a
appup_read v a h =
    ap (option_and_then from_outer) (outer_in-term v a.vsn h.ups h.downs h.outer)
    ∙ (ap (option_and_then (λ (ups : List AppupEntryForm). option_map (joined a.vsn ups) (all_in entry_in (values_of h.downs)))) (all_read entry_in IsEntryTerm entry_read h.ups a.ups h.each_up)
    ∙ ap (option_map (joined a.vsn a.ups)) (all_read entry_in IsEntryTerm entry_read h.downs a.downs h.each_down))

read_appup : (v : Value) (a : AppupForm) → appup_in v ≡ Some a → IsAppupTerm v a
read_appup v a e =
    let o = chained from_outer (outer_in v) a e in
    let has = from_outer_in v o.0 o.1 in
    let ups = chained (λ (ups : List AppupEntryForm). option_map (joined o.0.vsn ups) (all_in entry_in o.0.downs)) (all_in entry_in o.0.ups) a o.2 in
    let downs = mapped (joined o.0.vsn ups.0) (all_in entry_in o.0.downs) a ups.2 in
    let read : IsAppupTerm v (joined o.0.vsn ups.0 downs.0) = record {
      ups = has.ups;
      downs = has.downs;
      outer = has.outer;
      each_up = read_all entry_in IsEntryTerm read_entry has.ups ups.0 (ap (all_in entry_in) (sym has.ups_are) ∙ ups.1);
      each_down = read_all entry_in IsEntryTerm read_entry has.downs downs.0 (ap (all_in entry_in) (sym has.downs_are) ∙ downs.1);
    } in
    subst (IsAppupTerm v) downs.2 read

pub says_its_term : (v : Value) (a : AppupForm) → TermSaysAppup v a ↔ IsAppupTerm v a
says_its_term v a = (λ says. read_appup v a says.shape, λ h. record { shape = appup_read v a h; distinct = tt; versions = refl })
