-- No search in plain entries ends at a pattern, and no translation of a plain release does.
use Rattle.std.proofs.Common.{◌≡◌, ℕ, Bool, true, false, List, [], ◌∷◌, Option, None, Some, is_some, IfSome, IsSomeAnd, Result, Ok, Err, subst, if◌then◌else◌, bytes_eq}
use Rattle.std.specs.List.{AllByRecursion, AllZip}
use Rattle.std.specs.Option.{option_and_then, option_or}
use Rattle.relup_instruction.specs.declared.instruction.Direction.{Direction}
use Rattle.relup_instruction.specs.declared.instruction.Direction.TheVariants.{Up, Down}
use Rattle.relup_instruction.specs.Instruction.{Instruction}
use Rattle.relup_instruction.specs.Instruction.Instruction.{point_of_no_return, restart_new_emulator}
use Rattle.appup_file.specs.declared.search.EntryFault.{EntryFault}
use Rattle.appup_file.specs.declared.search.EntryFault.TheVariants as entry_fault
use Rattle.appup_file.specs.Instruction.{AppupInstruction, AppupEntryForm, AppupForm, VersionForm}
use Rattle.appup_file.specs.Instruction.AppupInstruction.{update, load_module, add_module, delete_module, add_application, remove_application, restart_application, low_level}
use Rattle.appup_file.specs.Instruction.VersionForm.{text, pattern}
use Rattle.appup_file.specs.Search.{entries_of, ends_at, answer_of, answer_at, entry_for}
use Rattle.appup_plain.specs.Plain.{IsPlain}
use Rattle.appup_plain.specs.Plain.IsPlain.{nothing, entry, none}
use Rattle.relup_row.specs.Release.{RelupAppForm, RelupReleaseForm, WayForm, way_between, app_named}
use Rattle.relup_row.proofs.ListLemmas.{of_found, of_next}
use Rattle.relup_translate.specs.Fault.{FaultForm}
use Rattle.relup_translate.specs.Fault.FaultForm.{regex_version, needs_new_emulator, unsupported}
use Rattle.relup_translate.specs.Translation.{known, target_has_app, left_has_app, low_level_fault, instruction_fault, first_fault, counting, counting_appup, found, searched, by_appup, between_versions, if_other, other_version, row_fault, app_fault, way_fault, release_fault, fault_between, relup_between, unless_fault, translation}
use Rattle.relup_by_patterns.specs.Plain.{IsPlainAppup, IsPlainAppupOf, IsPlainApp, IsPlainRelease}

-- The fault is no regular expression.
abbrev NoRegex : FaultForm → Type 0
NoRegex (regex_version app) = ⊥
NoRegex f = Unit {0}

-- The entry has a plain version, as all entries of an application's appup have.
abbrev IsText : VersionForm → Type 0
IsText (text s) = Unit {0}
IsText (pattern bs) = ⊥

abbrev HasText : AppupEntryForm → Type 0
HasText e = IsText e.vsn

abbrev AreTexts : AppupForm → Type 0
AreTexts p = AllByRecursion HasText p.ups × AllByRecursion HasText p.downs

abbrev HasTexts : RelupAppForm → Type 0
HasTexts a = IfSome a.appup AreTexts

-- Entries that were made plain have plain versions.
plain_texts : (es : List AppupEntryForm) (asked : List (List ℕ)) (plain : List AppupEntryForm) → IsPlain es asked plain → AllByRecursion HasText plain
plain_texts es [] plain nothing = tt
plain_texts es (v ∷ asked) plain (entry vsn row is p) = (tt, plain_texts es asked _ p)
plain_texts es (v ∷ asked) plain (none vsn is p) = plain_texts es asked plain p

-- An application with a plain appup has plain versions.
of_app : (ups downs : List RelupReleaseForm) (a c : RelupAppForm) → IsPlainApp ups downs a c → HasTexts c
of_app ups downs a c h = go c.appup h.appup
  where
    own : (o : Option AppupForm) (q : AppupForm) → IsSomeAnd o (λ p. IsPlainAppup a ups downs p q) → AreTexts q
    own None q k = absurd k
    own (Some p) q k = (plain_texts p.ups _ q.ups k.up_entries, plain_texts p.downs _ q.downs k.down_entries)

    go : (o : Option AppupForm) → IsPlainAppupOf a ups downs o → IfSome o AreTexts
    go None k = tt
    go (Some q) k = own a.appup q k

-- All appups of a plain release have plain versions.
of_apps : (ups downs : List RelupReleaseForm) (as' cs : List RelupAppForm) → AllZip (IsPlainApp ups downs) as' cs → AllByRecursion HasTexts cs
of_apps ups downs [] [] h = tt
of_apps ups downs [] (c ∷ cs) h = absurd h
of_apps ups downs (a ∷ as') [] h = absurd h
of_apps ups downs (a ∷ as') (c ∷ cs) h = (of_app ups downs a c h.0, of_apps ups downs as' cs h.1)

-- The answer of a search is no fault of a pattern.
abbrev Answers : Result (List AppupInstruction) EntryFault → Type 0
Answers (Err entry_fault.RegexVersion) = ⊥
Answers r = Unit {0}

abbrev Finds : Result (List AppupInstruction) FaultForm → Type 0
Finds (Err f) = NoRegex f
Finds (Ok is) = Unit {0}

of_answer : (v : VersionForm) (is : List AppupInstruction) → IsText v → Answers (answer_of v is)
of_answer (text s) is h = tt
of_answer (pattern bs) is h = absurd h

of_entry : (o : Option AppupEntryForm) → IfSome o HasText → Answers (answer_at o)
of_entry None h = tt
of_entry (Some e) h = of_answer e.vsn e.instrs h

of_entries : (d : Direction) (p : AppupForm) → AreTexts p → AllByRecursion HasText (entries_of d p)
of_entries Up p h = h.0
of_entries Down p h = h.1

of_search : (app vsn : List ℕ) (r : Result (List AppupInstruction) EntryFault) → Answers r → Finds (found app vsn r)
of_search app vsn (Ok is) h = tt
of_search app vsn (Err entry_fault.NoEntry) h = tt
of_search app vsn (Err entry_fault.RegexVersion) h = absurd h

of_searched : (d : Direction) (app vsn : List ℕ) (o : Option AppupForm) → IfSome o AreTexts → Finds (searched d app vsn o)
of_searched d app vsn None h = tt
of_searched d app vsn (Some p) h =
    of_search app vsn (entry_for vsn (entries_of d p))
    (of_entry _ (of_found HasText (λ (e : AppupEntryForm). ends_at vsn e.vsn) (entries_of d p) (of_entries d p h)))

of_counting : (a : RelupAppForm) (p : AppupForm) → AreTexts p → IfSome (counting a p) AreTexts
of_counting a p h = go (bytes_eq p.vsn a.vsn)
  where
    go : (b : Bool) → IfSome (if b then Some p else None) AreTexts
    go true = h
    go false = tt

-- No search by the appup of an application with plain versions ends at a pattern.
of_appup : (d : Direction) (a : RelupAppForm) (vsn : List ℕ) → HasTexts a → Finds (by_appup d a vsn)
of_appup d a vsn h = of_searched d a.name vsn (counting_appup a) (of_next AreTexts AreTexts (counting a) (of_counting a) a.appup h)

-- A test gives no fault of a pattern, where the fault that it may give is none.
of_known : (b : Bool) (f : FaultForm) → NoRegex f → IfSome (known b f) NoRegex
of_known true f h = tt
of_known false f h = h

of_either : (o q : Option FaultForm) → IfSome o NoRegex → IfSome q NoRegex → IfSome (option_or o q) NoRegex
of_either None q h k = k
of_either (Some f) q h k = h

of_low_level : (app : List ℕ) (i : Instruction) → IfSome (low_level_fault app i) NoRegex
of_low_level app point_of_no_return = tt
of_low_level app restart_new_emulator = tt
of_low_level app i = tt

of_instruction : (w : WayForm) (b : RelupAppForm) (i : AppupInstruction) → IfSome (instruction_fault w b i) NoRegex
of_instruction w b (update u) = of_known _ _ tt
of_instruction w b (load_module l) = of_known _ _ tt
of_instruction w b (add_module d) = of_known _ _ tt
of_instruction w b (delete_module d) = of_known _ _ tt
of_instruction w b (add_application a) = of_known _ _ tt
of_instruction w b (remove_application app) = of_known _ _ tt
of_instruction w b (restart_application app) =
    of_either (left_has_app w app b.name) (target_has_app w app b.name)
    (of_known (is_some (app_named app w.left)) (unsupported b.name) tt) (of_known (is_some (app_named app w.target)) (unsupported b.name) tt)
of_instruction w b (low_level i) = of_low_level b.name i

-- The first fault of several things is no fault of a pattern, where none of theirs is.
of_first : {A : Type 0} (P : A → Type 0) (f : A → Option FaultForm) → ((a : A) → P a → IfSome (f a) NoRegex) → (xs : List A) → AllByRecursion P xs
    → IfSome (first_fault f xs) NoRegex
of_first P f each [] h = tt
of_first P f each (x ∷ xs) h = of_either (f x) (first_fault f xs) (each x h.0) (of_first P f each xs h.1)

anything : {A : Type 0} (xs : List A) → AllByRecursion (λ x. Unit {0}) xs
anything [] = tt
anything (x ∷ xs) = (tt, anything xs)

of_row : (w : WayForm) (b : RelupAppForm) (r : Result (List AppupInstruction) FaultForm) → Finds r → IfSome (row_fault w b r) NoRegex
of_row w b (Err f) h = h
of_row w b (Ok is) h = of_first (λ i. Unit {0}) (instruction_fault w b) (λ i any. of_instruction w b i) is (anything is)

-- Going up, the appup of the target's application counts. It gives no fault of a pattern.
of_upgrade : (left target : RelupReleaseForm) (a : RelupAppForm) → HasTexts a → IfSome (app_fault (record { direction = Up; left = left; target = target }) a) NoRegex
of_upgrade left target a h = go (other_version w a)
  where
    w : WayForm
    w = record { direction = Up; left = left; target = target }

    go : (o : Option RelupAppForm) → IfSome (option_and_then (λ (b : RelupAppForm). row_fault w b (between_versions Up b a)) o) NoRegex
    go None = tt
    go (Some b) = of_row w b (by_appup Up a b.vsn) (of_appup Up a b.vsn h)

-- Going down, the appup of the application in the release that is left counts. Its versions are plain.
of_other : (a b : RelupAppForm) → HasTexts b → IfSome (if_other a b) HasTexts
of_other a b h = go (bytes_eq b.vsn a.vsn)
  where
    go : (t : Bool) → IfSome (if t then None else Some b) HasTexts
    go true = tt
    go false = h

of_downgrade : (left target : RelupReleaseForm) → AllByRecursion HasTexts left.apps → (a : RelupAppForm)
    → IfSome (app_fault (record { direction = Down; left = left; target = target }) a) NoRegex
of_downgrade left target h a =
    of_next NoRegex HasTexts (λ (b : RelupAppForm). row_fault w b (between_versions Down b a))
    (λ b k. of_row w b (by_appup Down b a.vsn) (of_appup Down b a.vsn k))
    (option_and_then (if_other a) (app_named a.name left))
    (of_next HasTexts HasTexts (if_other a) (of_other a) (app_named a.name left) (of_found HasTexts (λ (b : RelupAppForm). bytes_eq b.name a.name) left.apps h))
  where
    w : WayForm
    w = record { direction = Down; left = left; target = target }

of_way : (w : WayForm) → IfSome (first_fault (app_fault w) w.target.apps) NoRegex → IfSome (way_fault w) NoRegex
of_way w h = go (bytes_eq w.left.erts w.target.erts)
  where
    go : (b : Bool) → IfSome (if b then first_fault (app_fault w) w.target.apps else Some needs_new_emulator) NoRegex
    go true = h
    go false = tt

of_release : (d : Direction) (new other : RelupReleaseForm) → AllByRecursion HasTexts new.apps → IfSome (release_fault d new other) NoRegex
of_release Up new other h = of_way (way_between Up new other) (of_first HasTexts _ (of_upgrade other new) new.apps h)
of_release Down new other h =
    of_way (way_between Down new other) (of_first (λ a. Unit {0}) _ (λ a any. of_downgrade new other h a) other.apps (anything other.apps))

of_releases : (d : Direction) (new : RelupReleaseForm) (others : List RelupReleaseForm) → AllByRecursion HasTexts new.apps
    → IfSome (first_fault (release_fault d new) others) NoRegex
of_releases d new others h = of_first (λ r. Unit {0}) (release_fault d new) (λ other any. of_release d new other h) others (anything others)

-- No translation of a plain release ends at a pattern.
pub ends_at_no_pattern : (ups downs : List RelupReleaseForm) (new plain : RelupReleaseForm) → IsPlainRelease ups downs new plain
    → (app : List ℕ) → translation plain ups downs ≡ Err (regex_version app) → ⊥
ends_at_no_pattern ups downs new plain h app e = go (fault_between plain ups downs) (of_either _ _ (of_releases Up plain ups texts) (of_releases Down plain downs texts)) e
  where
    texts : AllByRecursion HasTexts plain.apps
    texts = of_apps ups downs new.apps plain.apps h.apps

    go : (o : Option FaultForm) → IfSome o NoRegex → unless_fault (relup_between plain ups downs) o ≡ Err (regex_version app) → ⊥
    go None k q = absurd cc
    go (Some f) k q = let is : f ≡ regex_version app = cc in subst NoRegex is k
