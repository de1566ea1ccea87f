-- A way has no fault exactly where each application of another version goes over.
use Rattle.std.proofs.Common.{◌≡◌, refl, ap, ap₂, sym, ◌∙◌, ℕ, Bool, true, false, List, [], ◌∷◌, Option, None, Some, Result, Ok, Err, if◌then◌else◌, bytes_eq}
use Rattle.std.proofs.lemmas.Slice.Eq.{bytes_eq-Decides}
use Rattle.std.specs.List.{AllByRecursion}
use Rattle.std.specs.Option.{option_and_then}
use Rattle.relup_instruction.specs.declared.instruction.Direction.{Direction}
use Rattle.relup_instruction.specs.declared.instruction.Direction.TheVariants.{Up, Down}
use Rattle.appup_file.specs.declared.search.EntryFault.{EntryFault}
use Rattle.appup_file.specs.Instruction.{AppupInstruction, AppupForm}
use Rattle.appup_file.specs.Search.{entries_of, entry_for}
use Rattle.relup_row.specs.Release.{RelupAppForm, WayForm, app_named}
use Rattle.relup_translate.specs.Fault.{FaultForm}
use Rattle.relup_translate.specs.Fault.FaultForm.{needs_new_emulator}
use Rattle.relup_translate.specs.Translation.{instruction_fault, first_fault, counting, found, searched, by_appup, between_versions, if_other, row_fault, app_fault, way_fault}
use Rattle.relup_translate.specs.Laws.{higher, lower, GoesOver, IsWhole, SoundIsWhole}
use Rattle.relup_translate.proofs.OutcomeLemmas.{all_sound, no_fault}

-- The appup of an application has an entry for a version, without a fault.
record HasEntry (w : WayForm) (d : Direction) (b a : RelupAppForm) (vsn : List ℕ) : Type 0 where
  appup : AppupForm
  instrs : List AppupInstruction
  has : a.appup ≡ Some appup
  counts : appup.vsn ≡ a.vsn
  entry : entry_for vsn (entries_of d appup) ≡ Ok instrs
  sound : AllByRecursion (λ (i : AppupInstruction). instruction_fault w b i ≡ None) instrs

module _ (w : WayForm) (d : Direction) (b a : RelupAppForm) (vsn : List ℕ) where
  has_entry : row_fault w b (by_appup d a vsn) ≡ None → HasEntry w d b a vsn
  has_entry e = go a.appup refl e
    where
      in_appup : (p : AppupForm) → a.appup ≡ Some p → p.vsn ≡ a.vsn → (r : Result (List AppupInstruction) EntryFault)
          → entry_for vsn (entries_of d p) ≡ r → row_fault w b (found a.name vsn r) ≡ None → HasEntry w d b a vsn
      in_appup p has counts (Ok is) entry q =
          record { appup = p; instrs = is; has = has; counts = counts; entry = entry; sound = all_sound (instruction_fault w b) is q }
      in_appup p has counts (Err f) entry q = absurd cc

      counted : (p : AppupForm) → a.appup ≡ Some p → (t : Bool) → bytes_eq p.vsn a.vsn ≡ t
          → row_fault w b (searched d a.name vsn (if t then Some p else None)) ≡ None → HasEntry w d b a vsn
      counted p has true is q = in_appup p has ((bytes_eq-Decides p.vsn a.vsn).0 is) (entry_for vsn (entries_of d p)) refl q
      counted p has false is q = absurd cc

      go : (o : Option AppupForm) → a.appup ≡ o → row_fault w b (searched d a.name vsn (option_and_then (counting a) o)) ≡ None → HasEntry w d b a vsn
      go None has q = absurd cc
      go (Some p) has q = counted p has (bytes_eq p.vsn a.vsn) refl q

  answers : (h : HasEntry w d b a vsn) → by_appup d a vsn ≡ Ok h.instrs
  answers h =
      ap (λ (o : Option AppupForm). searched d a.name vsn (option_and_then (counting a) o)) h.has
      ∙ (ap (λ (t : Bool). searched d a.name vsn (if t then Some h.appup else None)) ((bytes_eq-Decides h.appup.vsn a.vsn).1 h.counts)
      ∙ ap (λ (r : Result (List AppupInstruction) EntryFault). found a.name vsn r) h.entry)

module _ (w : WayForm) where
  goes_over : (d : Direction) (b a : RelupAppForm) → row_fault w b (between_versions d b a) ≡ None
      → HasEntry w d b (higher d b a) (lower d b a).vsn
  goes_over Up b a e = has_entry w Up b a b.vsn e
  goes_over Down b a e = has_entry w Down b b a.vsn e

  answers_over : (d : Direction) (b a : RelupAppForm) (h : HasEntry w d b (higher d b a) (lower d b a).vsn) → between_versions d b a ≡ Ok h.instrs
  answers_over Up b a h = answers w Up b a b.vsn h
  answers_over Down b a h = answers w Down b b a.vsn h

  -- What goes over has these instructions.
  pub instructions_over : (b a : RelupAppForm) (g : GoesOver w b a) → between_versions w.direction b a ≡ Ok g.instrs
  instructions_over b a g =
      answers_over w.direction b a (record { appup = g.appup; instrs = g.instrs; has = g.has; counts = g.counts; entry = g.entry; sound = g.sound })

  -- Where the versions differ
  abbrev fault_over : RelupAppForm → Option RelupAppForm → Option FaultForm
  fault_over a o = option_and_then (λ (b : RelupAppForm). row_fault w b (between_versions w.direction b a)) (option_and_then (if_other a) o)

  app_goes_over : (a : RelupAppForm) → app_fault w a ≡ None → (b : RelupAppForm) → app_named a.name w.left ≡ Some b → (b.vsn ≡ a.vsn → ⊥) → GoesOver w b a
  app_goes_over a e b named other = go (bytes_eq b.vsn a.vsn) refl (sym (ap (fault_over a) named) ∙ e)
    where
      go : (t : Bool) → bytes_eq b.vsn a.vsn ≡ t
          → option_and_then (λ (b' : RelupAppForm). row_fault w b' (between_versions w.direction b' a)) (if t then None else Some b) ≡ None → GoesOver w b a
      go true is q = absurd (other ((bytes_eq-Decides b.vsn a.vsn).0 is))
      go false is q =
          let h = goes_over w.direction b a q in
          record { appup = h.appup; instrs = h.instrs; has = h.has; counts = h.counts; entry = h.entry; sound = h.sound }

  abbrev GoesOverIfOther : RelupAppForm → Type 0
  GoesOverIfOther a = (b : RelupAppForm) → app_named a.name w.left ≡ Some b → (b.vsn ≡ a.vsn → ⊥) → GoesOver w b a

  no_app_fault : (a : RelupAppForm) → GoesOverIfOther a → app_fault w a ≡ None
  no_app_fault a h = go (app_named a.name w.left) refl
    where
      differing : (b : RelupAppForm) → app_named a.name w.left ≡ Some b → (t : Bool) → bytes_eq b.vsn a.vsn ≡ t
          → option_and_then (λ (b' : RelupAppForm). row_fault w b' (between_versions w.direction b' a)) (if t then None else Some b) ≡ None
      differing b named true is = refl
      differing b named false is =
          let differ : b.vsn ≡ a.vsn → ⊥ = λ same. let both : true ≡ false = sym ((bytes_eq-Decides b.vsn a.vsn).1 same) ∙ is in absurd cc in
          let g = h b named differ in
          ap (row_fault w b) (instructions_over b a g)
          ∙ no_fault (λ (i : AppupInstruction). instruction_fault w b i ≡ None) (instruction_fault w b) (λ i e. e) g.instrs g.sound

      go : (o : Option RelupAppForm) → app_named a.name w.left ≡ o → fault_over a o ≡ None
      go None named = refl
      go (Some b) named = differing b named (bytes_eq b.vsn a.vsn) refl

  abbrev fault_if_same : Bool → Option FaultForm
  fault_if_same t = if t then first_fault (app_fault w) w.target.apps else Some needs_new_emulator

  all_go_over : (apps : List RelupAppForm) → AllByRecursion (λ (a : RelupAppForm). app_fault w a ≡ None) apps → AllByRecursion GoesOverIfOther apps
  all_go_over [] h = tt
  all_go_over (a ∷ apps) h = (app_goes_over a h.0, all_go_over apps h.1)

  whole : way_fault w ≡ None → IsWhole w
  whole e = go (bytes_eq w.left.erts w.target.erts) refl e
    where
      go : (t : Bool) → bytes_eq w.left.erts w.target.erts ≡ t → fault_if_same t ≡ None → IsWhole w
      go true is q = record {
        erts = (bytes_eq-Decides w.left.erts w.target.erts).0 is;
        each = all_go_over w.target.apps (all_sound (app_fault w) w.target.apps q);
      }
      go false is q = absurd cc

  sound : IsWhole w → way_fault w ≡ None
  sound h =
      ap fault_if_same ((bytes_eq-Decides w.left.erts w.target.erts).1 h.erts)
      ∙ no_fault GoesOverIfOther (app_fault w) no_app_fault w.target.apps h.each

pub sound_is_whole : SoundIsWhole
sound_is_whole w = (whole w, sound w)
