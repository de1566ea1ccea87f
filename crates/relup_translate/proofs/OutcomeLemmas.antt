-- The outcome of a translation: a relup where no way has a fault, or the first fault.
use Rattle.std.proofs.Common.{◌≡◌, refl, ap, sym, ◌∙◌, ℕ, List, [], ◌∷◌, ◌++◌, map, Option, None, Some, Ok, Err}
use Rattle.std.specs.List.{AllByRecursion}
use Rattle.std.specs.Option.{option_or}
use Rattle.relup_instruction.specs.declared.instruction.Direction.{Direction}
use Rattle.relup_instruction.specs.declared.instruction.Direction.TheVariants.{Up, Down}
use Rattle.relup_file.specs.Relup.{RelupForm}
use Rattle.relup_row.specs.Release.{RelupReleaseForm, WayForm, way_between}
use Rattle.relup_translate.specs.Fault.{FaultForm}
use Rattle.relup_translate.specs.Translation.{first_fault, way_fault, release_fault, fault_between, entry, relup_between, unless_fault, translation}
use Rattle.relup_translate.specs.Laws.{ways, AreSound, IsFirstFault, entry_versions, versions, MakesSoundWays, RefusesFirstFault, HasEachEntry}

-- The first fault of a list.
pub all_sound : {A : Type 0} (f : A → Option FaultForm) (xs : List A) → first_fault f xs ≡ None → AllByRecursion (λ x. f x ≡ None) xs
all_sound f [] e = tt
all_sound f (x ∷ xs) e = go (all_sound f xs) (f x) refl e
  where
    go : (first_fault f xs ≡ None → AllByRecursion (λ y. f y ≡ None) xs) → (o : Option FaultForm) → f x ≡ o
        → option_or o (first_fault f xs) ≡ None → AllByRecursion (λ y. f y ≡ None) (x ∷ xs)
    go more None p q = (p, more q)
    go more (Some g) p q = absurd cc

pub no_fault : {A : Type 0} (P : A → Type 0) (f : A → Option FaultForm) → ((a : A) → P a → f a ≡ None) → (xs : List A) → AllByRecursion P xs → first_fault f xs ≡ None
no_fault P f none [] h = refl
no_fault P f none (x ∷ xs) h = (λ j. option_or (none x h.0 j) (no_fault P f none xs h.1 j))

none_first : (ws : List WayForm) → AreSound ws → first_fault way_fault ws ≡ None
none_first ws h = no_fault (λ w. way_fault w ≡ None) way_fault (λ w e. e) ws h

some_first : (before : List WayForm) (wrong : WayForm) (after : List WayForm) (f : FaultForm) → AreSound before → way_fault wrong ≡ Some f
    → first_fault way_fault (before ++ (wrong ∷ after)) ≡ Some f
some_first [] wrong after f h e = ap (λ (o : Option FaultForm). option_or o (first_fault way_fault after)) e
some_first (w ∷ before) wrong after f h e =
    ap (λ (o : Option FaultForm). option_or o (first_fault way_fault (before ++ (wrong ∷ after)))) h.0 ∙ some_first before wrong after f h.1 e

is_some_first : (ws : List WayForm) (f : FaultForm) → IsFirstFault ws f → first_fault way_fault ws ≡ Some f
is_some_first ws f h = ap (first_fault way_fault) h.is ∙ some_first h.before h.wrong h.after f h.sound h.fault

first_is : (ws : List WayForm) (f : FaultForm) → first_fault way_fault ws ≡ Some f → IsFirstFault ws f
first_is [] f e = absurd cc
first_is (w ∷ ws) f e = go (first_is ws f) (way_fault w) refl e
  where
    go : (first_fault way_fault ws ≡ Some f → IsFirstFault ws f) → (o : Option FaultForm) → way_fault w ≡ o
        → option_or o (first_fault way_fault ws) ≡ Some f → IsFirstFault (w ∷ ws) f
    go more (Some g) p q = record { before = []; wrong = w; after = ws; is = refl; sound = tt; fault = p ∙ q }
    go more None p q =
        let there = more q in
        record {
          before = w ∷ there.before;
          wrong = there.wrong;
          after = there.after;
          is = ap (λ (vs : List WayForm). w ∷ vs) there.is;
          sound = (p, there.sound);
          fault = there.fault;
        }

-- The faults of the ways are those that the translation looks for.
of_releases : (d : Direction) (new : RelupReleaseForm) (others : List RelupReleaseForm)
    → first_fault way_fault (map (way_between d new) others) ≡ first_fault (release_fault d new) others
of_releases d new [] = refl
of_releases d new (r ∷ rs) = ap (λ (o : Option FaultForm). option_or (release_fault d new r) o) (of_releases d new rs)

of_both : (vs ws : List WayForm) → first_fault way_fault (vs ++ ws) ≡ option_or (first_fault way_fault vs) (first_fault way_fault ws)
of_both [] ws = refl
of_both (v ∷ vs) ws = ap (λ (o : Option FaultForm). option_or (way_fault v) o) (of_both vs ws) ∙ either (way_fault v) (first_fault way_fault vs) (first_fault way_fault ws)
  where
    either : (a b c : Option FaultForm) → option_or a (option_or b c) ≡ option_or (option_or a b) c
    either None b c = refl
    either (Some f) b c = refl

pub of_ways : (new : RelupReleaseForm) (ups downs : List RelupReleaseForm) → first_fault way_fault (ways new ups downs) ≡ fault_between new ups downs
of_ways new ups downs =
    of_both (map (way_between Up new) ups) (map (way_between Down new) downs)
    ∙ (λ j. option_or (of_releases Up new ups j) (of_releases Down new downs j))

-- What is made.
made : (new : RelupReleaseForm) (ups downs : List RelupReleaseForm) (r : RelupForm) → translation new ups downs ≡ Ok r
    → (fault_between new ups downs ≡ None) × (r ≡ relup_between new ups downs)
made new ups downs r e = go (fault_between new ups downs) e
  where
    go : (o : Option FaultForm) → unless_fault (relup_between new ups downs) o ≡ Ok r → (o ≡ None) × (r ≡ relup_between new ups downs)
    go None q = (refl, cc)
    go (Some f) q = absurd cc

pub sound_where_made : (new : RelupReleaseForm) (ups downs : List RelupReleaseForm) (r : RelupForm) → translation new ups downs ≡ Ok r
    → AreSound (ways new ups downs) × (r ≡ relup_between new ups downs)
sound_where_made new ups downs r e =
    let there = made new ups downs r e in
    (all_sound way_fault (ways new ups downs) (of_ways new ups downs ∙ there.0), there.1)

made_where_sound : (new : RelupReleaseForm) (ups downs : List RelupReleaseForm) (r : RelupForm)
    → AreSound (ways new ups downs) × (r ≡ relup_between new ups downs) → translation new ups downs ≡ Ok r
made_where_sound new ups downs r h =
    ap (unless_fault (relup_between new ups downs)) (sym (of_ways new ups downs) ∙ none_first (ways new ups downs) h.0) ∙ ap Ok (sym h.1)

pub makes_sound_ways : MakesSoundWays
makes_sound_ways new ups downs r = (sound_where_made new ups downs r, made_where_sound new ups downs r)

-- What is refused.
refused : (new : RelupReleaseForm) (ups downs : List RelupReleaseForm) (f : FaultForm) → translation new ups downs ≡ Err f → fault_between new ups downs ≡ Some f
refused new ups downs f e = go (fault_between new ups downs) e
  where
    go : (o : Option FaultForm) → unless_fault (relup_between new ups downs) o ≡ Err f → o ≡ Some f
    go None q = absurd cc
    go (Some g) q = cc

pub refuses_first_fault : RefusesFirstFault
refuses_first_fault new ups downs f = (
  λ e. first_is (ways new ups downs) f (of_ways new ups downs ∙ refused new ups downs f e),
  λ h. ap (unless_fault (relup_between new ups downs)) (sym (of_ways new ups downs) ∙ is_some_first (ways new ups downs) f h),
)

-- What is made has an entry for each of the other releases.
same_versions : (d : Direction) (new : RelupReleaseForm) (others : List RelupReleaseForm) → entry_versions (map (entry d new) others) ≡ versions others
same_versions d new [] = refl
same_versions d new (r ∷ rs) = ap (λ (vs : List (List ℕ)). r.vsn ∷ vs) (same_versions d new rs)

pub has_each_entry : HasEachEntry
has_each_entry new ups downs r e =
    let is = (made new ups downs r e).1 in (
      ap (λ (s : RelupForm). s.vsn) is,
      ap (λ (s : RelupForm). entry_versions s.ups) is ∙ same_versions Up new ups,
      ap (λ (s : RelupForm). entry_versions s.downs) is ∙ same_versions Down new downs,
    )
