-- The script of a way has what each change of an application becomes.
use Rattle.std.proofs.Common.{◌≡◌, refl, ap, sym, ◌∙◌, Bool, true, false, List, [], ◌∷◌, ◌++◌, reverse, filter_map, flat_map, Option, None, Some, is_some, Result, if◌then◌else◌, bytes_eq}
use Rattle.std.proofs.lemmas.List.{append_assoc, reverse-append}
use Rattle.std.proofs.lemmas.List.Concat.{flat_map-append}
use Rattle.std.proofs.lemmas.Slice.Eq.{bytes_eq-Decides}
use Rattle.std.specs.List.{AllByRecursion, cons_option}
use Rattle.std.specs.Option.{option_and_then}
use Rattle.std.specs.Result.{result_ok}
use Rattle.relup_instruction.specs.Instruction.{Instruction}
use Rattle.relup_instruction.specs.Instruction.Instruction.{point_of_no_return}
use Rattle.appup_file.specs.Instruction.{AppupInstruction}
use Rattle.appup_file.specs.Instruction.AppupInstruction.{add_application, remove_application}
use Rattle.relup_row.specs.Release.{RelupAppForm, WayForm, app_named}
use Rattle.relup_row.specs.Fetches.{fetching}
use Rattle.relup_row.specs.Script.{mentions, written_fetches, row_script, restart_at_end}
use Rattle.relup_translate.specs.Fault.{FaultForm}
use Rattle.relup_translate.specs.Translation.{between_versions, if_other, coming_row, changing_row, going_row, rows, way_script}
use Rattle.relup_translate.specs.Laws.{GoesOver, StandsBehindPoint, ChangesAll, ScriptsChangeAll}
use Rattle.relup_translate.proofs.WholeLemmas.{instructions_over}

-- The member stands in the list.
record StandsIn {A : Type 0} (a : A) (xs : List A) : Type 0 where
  front : List A
  rest : List A
  is : xs ≡ front ++ (a ∷ rest)

module _ {A : Type 0} where
  in_first : (a : A) (xs ys : List A) → StandsIn a xs → StandsIn a (xs ++ ys)
  in_first a xs ys h = record {
    front = h.front;
    rest = h.rest ++ ys;
    is = ap (λ (zs : List A). zs ++ ys) h.is ∙ append_assoc h.front (a ∷ h.rest) ys;
  }

  in_last : (a : A) (xs ys : List A) → StandsIn a ys → StandsIn a (xs ++ ys)
  in_last a xs ys h = record {
    front = xs ++ h.front;
    rest = h.rest;
    is = ap (λ (zs : List A). xs ++ zs) h.is ∙ sym (append_assoc xs h.front (a ∷ h.rest));
  }

  in_reverse : (a : A) (xs : List A) → StandsIn a xs → StandsIn a (reverse xs)
  in_reverse a xs h = record {
    front = reverse h.rest;
    rest = reverse h.front;
    is =
        ap reverse h.is
        ∙ (reverse-append h.front (a ∷ h.rest)
        ∙ (ap (λ (zs : List A). zs ++ reverse h.front) (reverse-append (a ∷ []) h.rest)
        ∙ append_assoc (reverse h.rest) (a ∷ []) (reverse h.front)));
  }

  under : (o : Option A) (a : A) (xs : List A) → StandsIn a xs → StandsIn a (cons_option o xs)
  under None a xs h = h
  under (Some x) a xs h = record { front = x ∷ h.front; rest = h.rest; is = ap (λ (zs : List A). x ∷ zs) h.is }

  -- What is made of one stands in what is made of all.
  all_stand : {B : Type 0} (f : B → Option A) (bs : List B) (all : List A) → ((a : A) → StandsIn a (filter_map f bs) → StandsIn a all)
      → AllByRecursion (λ (b : B). (a : A) → f b ≡ Some a → StandsIn a all) bs
  all_stand f [] all within = tt
  all_stand f (b ∷ bs) all within = (
    λ a e. within a (record { front = []; rest = filter_map f bs; is = ap (λ (o : Option A). cons_option o (filter_map f bs)) e }),
    all_stand f bs all (λ a h. within a (under (f b) a (filter_map f bs) h)),
  )

-- What holds of all of a list, and what follows of it.
following : {A : Type 0} (P Q : A → Type 0) → ((a : A) → P a → Q a) → (xs : List A) → AllByRecursion P xs → AllByRecursion Q xs
following P Q f [] h = tt
following P Q f (x ∷ xs) h = (f x h.0, following P Q f xs h.1)

module _ (w : WayForm) where
  abbrev Row : Type 0
  Row = List AppupInstruction

  stands : (row : Row) → StandsIn row (rows w) → StandsBehindPoint (way_script w) (row_script w row)
  stands row h =
      let first = fetching (flat_map (mentions w) (rows w)) in
      let second = flat_map written_fetches (rows w) in
      let end = restart_at_end (rows w) in
      let before = flat_map (row_script w) h.front in
      let behind = flat_map (row_script w) h.rest in
      let parts : flat_map (row_script w) (rows w) ++ end ≡ before ++ (row_script w row ++ (behind ++ end)) =
      ap (λ (rs : List Row). flat_map (row_script w) rs ++ end) h.is
      ∙ (ap (λ (is : List Instruction). is ++ end) (flat_map-append (row_script w) h.front (row ∷ h.rest))
      ∙ (append_assoc before (row_script w row ++ behind) end ∙ ap (λ (is : List Instruction). before ++ is) (append_assoc (row_script w row) behind end))) in
      record {
        front = first ++ second;
        between = before;
        rest = behind ++ end;
        is =
            sym (append_assoc first second (point_of_no_return ∷ (flat_map (row_script w) (rows w) ++ end)))
            ∙ ap (λ (is : List Instruction). (first ++ second) ++ (point_of_no_return ∷ is)) parts;
      }

  -- The rows of each kind are among all.
  abbrev Among : (RelupAppForm → Option Row) → RelupAppForm → Type 0
  Among f a = (row : Row) → f a ≡ Some row → StandsIn row (rows w)

  abbrev coming : List Row
  coming = filter_map (coming_row w) w.target.apps

  abbrev changing : List Row
  changing = filter_map (changing_row w) w.target.apps

  abbrev going : List Row
  going = filter_map (going_row w) w.left.apps

  all_coming : AllByRecursion (Among (coming_row w)) w.target.apps
  all_coming = all_stand (coming_row w) w.target.apps (rows w) (λ row h. in_first row coming (changing ++ reverse going) h)

  all_changing : AllByRecursion (Among (changing_row w)) w.target.apps
  all_changing =
      all_stand (changing_row w) w.target.apps (rows w)
      (λ row h. in_last row coming (changing ++ reverse going) (in_first row changing (reverse going) h))

  all_going : AllByRecursion (Among (going_row w)) w.left.apps
  all_going =
      all_stand (going_row w) w.left.apps (rows w)
      (λ row h. in_last row coming (changing ++ reverse going) (in_last row changing (reverse going) (in_reverse row going h)))

  abbrev added : RelupAppForm → Row
  added a = add_application (record { name = a.name; start = a.start }) ∷ []

  abbrev removed : RelupAppForm → Row
  removed b = remove_application b.name ∷ []

  comes : (a : RelupAppForm) → app_named a.name w.left ≡ None → coming_row w a ≡ Some (added a)
  comes a none = ap (λ (o : Option RelupAppForm). if is_some o then None else Some (added a)) none

  goes : (b : RelupAppForm) → app_named b.name w.target ≡ None → going_row w b ≡ Some (removed b)
  goes b none = ap (λ (o : Option RelupAppForm). if is_some o then None else Some (removed b)) none

  abbrev over : RelupAppForm → RelupAppForm → Option Row
  over a b = result_ok (between_versions w.direction b a)

  changes : (a b : RelupAppForm) → app_named a.name w.left ≡ Some b → (b.vsn ≡ a.vsn → ⊥) → (g : GoesOver w b a) → changing_row w a ≡ Some g.instrs
  changes a b named other g =
      ap (λ (o : Option RelupAppForm). option_and_then (over a) (option_and_then (if_other a) o)) named
      ∙ (ap (λ (t : Bool). option_and_then (over a) (if t then None else Some b)) (differ (bytes_eq b.vsn a.vsn) refl)
      ∙ ap (λ (r : Result Row FaultForm). result_ok r) (instructions_over w b a g))
    where
      differ : (t : Bool) → bytes_eq b.vsn a.vsn ≡ t → bytes_eq b.vsn a.vsn ≡ false
      differ true is = absurd (other ((bytes_eq-Decides b.vsn a.vsn).0 is))
      differ false is = is

  abbrev Stands : Row → Type 0
  Stands row = StandsBehindPoint (way_script w) (row_script w row)

  changes_all : ChangesAll w
  changes_all = record {
    comes = following (Among (coming_row w)) (λ (a : RelupAppForm). app_named a.name w.left ≡ None → Stands (added a))
        (λ a h none. stands (added a) (h (added a) (comes a none))) w.target.apps all_coming;
    changes = following (Among (changing_row w))
        (λ (a : RelupAppForm). (b : RelupAppForm) → app_named a.name w.left ≡ Some b → (b.vsn ≡ a.vsn → ⊥) → (g : GoesOver w b a) → Stands g.instrs)
        (λ a h b named other g. stands g.instrs (h g.instrs (changes a b named other g))) w.target.apps all_changing;
    goes = following (Among (going_row w)) (λ (b : RelupAppForm). app_named b.name w.target ≡ None → Stands (removed b))
        (λ b h none. stands (removed b) (h (removed b) (goes b none))) w.left.apps all_going;
  }

pub scripts_change_all : ScriptsChangeAll
scripts_change_all = changes_all
