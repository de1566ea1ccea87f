-- The instructions of a block, by what they load, change, suspend and resume.
use Rattle.std.proofs.Common.{◌≡◌, refl, ap, sym, subst, ◌∙◌, ℕ, true, false, List, [], ◌∷◌, ◌++◌, map, reverse, filter, filter_map, flat_map, Some, IsPermutation, if◌then◌else◌}
use Rattle.std.proofs.lemmas.List.{append_assoc, append-nil, map-append}
use Rattle.std.proofs.lemmas.Grind.{flat_map-append as of_both}
use Rattle.std.proofs.lemmas.List.Sorted.{IsPermutation-refl, IsPermutation-map}
use Rattle.relup_instruction.specs.declared.instruction.Direction.{Direction}
use Rattle.relup_instruction.specs.declared.instruction.Direction.TheVariants.{Up, Down}
use Rattle.relup_instruction.specs.Instruction.{SuspensionForm, PurgingForm, ChangeForm, ConversionForm, Instruction}
use Rattle.relup_instruction.specs.Instruction.Instruction.{suspend, load, code_change, resume}
use Rattle.relup_block.specs.declared.order.ChoiceRule.TheVariants.{DependentsFirst, DependenciesFirst}
use Rattle.relup_block.specs.Order.{BlockItemForm, order}
use Rattle.relup_block.specs.Order.BlockItemForm.{updated, loaded}
use Rattle.relup_block.specs.Block.{suspension, resumption, change, purging, is_of_kind, over, suspending, loading, changing, resuming, updating, in_orders, block}
use Rattle.relup_block.specs.Laws.{load_by, changed_by, suspended_by, resumed_by, OrdersUp, OrdersDown, ResumesSuspended, LoadsBeforeChange, ChangesBeforeLoad, is_change, SuspendsMeanwhile}
use Rattle.relup_block.proofs.DependencyLemmas.{makes_orders}
use Rattle.relup_block.proofs.PermutationLemmas.{order_same, order_has_items, order_filter}

-- A block is in two orders.
pub in_two_orders : (d : Direction) (xs : List BlockItemForm) → (ss ys : List BlockItemForm) × (block d xs ≡ in_orders d ss ys)
in_two_orders Up xs = (order DependentsFirst xs, order DependenciesFirst xs, refl)
in_two_orders Down xs = (order DependenciesFirst xs, order DependentsFirst xs, refl)

abbrev conversion : Direction → List ChangeForm → Instruction
conversion d cs = code_change (record { mode = Some d; changes = cs })

module _ {A : Type 0} (f : Instruction → List A) where
  -- The function makes nothing of a list of loads, where it makes nothing of each load.
  of_loads : ((p : PurgingForm) → f (load p) ≡ []) → (xs : List BlockItemForm) → flat_map f (loading xs) ≡ []
  of_loads none [] = refl
  of_loads none (x ∷ xs) = (λ j. none (purging x) j ++ of_loads none xs j)

  -- The function makes nothing of a single instruction over a list, where it makes nothing of each of this kind.
  of_none : {B : Type 0} (g : List B → Instruction) → ((bs : List B) → f (g bs) ≡ []) → (bs : List B) → flat_map f (over g bs) ≡ []
  of_none g none [] = refl
  of_none g none (b ∷ bs) = ap (λ (as' : List A). as' ++ []) (none (b ∷ bs))

  of_one : {B : Type 0} (g : List B → Instruction) (h : List B → List A) → h [] ≡ [] → ((bs : List B) → f (g bs) ≡ h bs) → (bs : List B) → flat_map f (over g bs) ≡ h bs
  of_one g h none one [] = sym none
  of_one g h none one (b ∷ bs) = ap (λ (as' : List A). as' ++ []) (one (b ∷ bs)) ∙ append-nil (h (b ∷ bs))

  of_block : (d : Direction) (ss xs : List BlockItemForm)
      → flat_map f (in_orders d ss xs) ≡ flat_map f (suspending ss) ++ (flat_map f (updating d xs) ++ flat_map f (resuming ss))
  of_block d ss xs =
      of_both f (suspending ss) (updating d xs ++ resuming ss)
      ∙ ap (λ (as' : List A). flat_map f (suspending ss) ++ as') (of_both f (updating d xs) (resuming ss))

  of_down : (xs : List BlockItemForm) → flat_map f (updating Down xs)
      ≡ flat_map f (loading (filter (is_of_kind true) xs)) ++ (flat_map f (changing Down xs) ++ flat_map f (loading (filter (is_of_kind false) xs)))
  of_down xs =
      of_both f (loading (filter (is_of_kind true) xs)) (changing Down xs ++ loading (filter (is_of_kind false) xs))
      ∙ ap (λ (as' : List A). flat_map f (loading (filter (is_of_kind true) xs)) ++ as') (of_both f (changing Down xs) (loading (filter (is_of_kind false) xs)))

  -- where nothing is made of suspending and resuming
  of_updates : ((ss : List SuspensionForm) → f (suspend ss) ≡ []) → ((names : List (List ℕ)) → f (resume names) ≡ [])
      → (d : Direction) (ss xs : List BlockItemForm) → flat_map f (in_orders d ss xs) ≡ flat_map f (updating d xs)
  of_updates first last d ss xs =
      of_block d ss xs
      ∙ ((λ j. of_none suspend first (filter_map suspension ss) j ++ (flat_map f (updating d xs) ++ of_none resume last (reverse (filter_map resumption ss)) j))
      ∙ append-nil (flat_map f (updating d xs)))

  -- where nothing is made of loads and changes
  of_no_updates : ((p : PurgingForm) → f (load p) ≡ []) → ((d : Direction) (cs : List ChangeForm) → f (conversion d cs) ≡ [])
      → (d : Direction) (xs : List BlockItemForm) → flat_map f (updating d xs) ≡ []
  of_no_updates loads changes Up xs =
      of_both f (loading xs) (changing Up xs) ∙ (λ j. of_loads loads xs j ++ of_none (conversion Up) (changes Up) (filter_map change xs) j)
  of_no_updates loads changes Down xs =
      of_down xs
      ∙ (λ j. of_loads loads (filter (is_of_kind true) xs) j
      ++ (of_none (conversion Down) (changes Down) (filter_map change xs) j ++ of_loads loads (filter (is_of_kind false) xs) j))

-- What is loaded.
pub loads_of : (xs : List BlockItemForm) → flat_map load_by (loading xs) ≡ map purging xs
loads_of [] = refl
loads_of (x ∷ xs) = ap (λ (ps : List PurgingForm). purging x ∷ ps) (loads_of xs)

pub no_loads : (d : Direction) (xs : List BlockItemForm) → flat_map load_by (changing d xs) ≡ []
no_loads d xs = of_none load_by (conversion d) (λ cs. refl) (filter_map change xs)

loaded_up : (ss xs : List BlockItemForm) → flat_map load_by (in_orders Up ss xs) ≡ map purging xs
loaded_up ss xs =
    of_updates load_by (λ ss'. refl) (λ names. refl) Up ss xs
    ∙ (of_both load_by (loading xs) (changing Up xs) ∙ ((λ j. loads_of xs j ++ no_loads Up xs j) ∙ append-nil (map purging xs)))

loaded_down : (ss xs : List BlockItemForm) → flat_map load_by (in_orders Down ss xs) ≡ map purging (filter (is_of_kind true) xs ++ filter (is_of_kind false) xs)
loaded_down ss xs =
    let static = filter (is_of_kind true) xs in
    let others = filter (is_of_kind false) xs in
    of_updates load_by (λ ss'. refl) (λ names. refl) Down ss xs
    ∙ (of_down load_by xs ∙ ((λ j. loads_of static j ++ (no_loads Down xs j ++ loads_of others j)) ∙ sym (map-append purging static others)))

-- What is changed.
changes_updating : (d : Direction) (xs : List BlockItemForm) → flat_map changed_by (updating d xs) ≡ filter_map change xs
changes_updating Up xs =
    of_both changed_by (loading xs) (changing Up xs)
    ∙ (λ j. of_loads changed_by (λ p. refl) xs j ++ of_one changed_by (conversion Up) (λ cs. cs) refl (λ cs. refl) (filter_map change xs) j)
changes_updating Down xs =
    of_down changed_by xs
    ∙ ((λ j. of_loads changed_by (λ p. refl) (filter (is_of_kind true) xs) j
    ++ (of_one changed_by (conversion Down) (λ cs. cs) refl (λ cs. refl) (filter_map change xs) j ++ of_loads changed_by (λ p. refl) (filter (is_of_kind false) xs) j))
    ∙ append-nil (filter_map change xs))

changes_in_orders : (d : Direction) (ss ys : List BlockItemForm) → flat_map changed_by (in_orders d ss ys) ≡ filter_map change ys
changes_in_orders d ss ys = of_updates changed_by (λ ss'. refl) (λ names. refl) d ss ys ∙ changes_updating d ys

-- What is suspended and resumed.
same_names : (xs : List BlockItemForm) → map (λ (s : SuspensionForm). s.name) (filter_map suspension xs) ≡ filter_map resumption xs
same_names [] = refl
same_names (updated u ∷ xs) = ap (λ (names : List (List ℕ)). u.name ∷ names) (same_names xs)
same_names (loaded l ∷ xs) = same_names xs

suspended_in : (d : Direction) (ss xs : List BlockItemForm) → flat_map suspended_by (in_orders d ss xs) ≡ filter_map suspension ss
suspended_in d ss xs =
    of_block suspended_by d ss xs
    ∙ ((λ j. of_one suspended_by suspend (λ ss'. ss') refl (λ ss'. refl) (filter_map suspension ss) j
    ++ (of_no_updates suspended_by (λ p. refl) (λ e cs. refl) d xs j ++ of_none suspended_by resume (λ names. refl) (reverse (filter_map resumption ss)) j))
    ∙ append-nil (filter_map suspension ss))

resumed_in : (d : Direction) (ss xs : List BlockItemForm) → flat_map resumed_by (in_orders d ss xs) ≡ reverse (filter_map resumption ss)
resumed_in d ss xs =
    of_block resumed_by d ss xs
    ∙ (λ j. of_none resumed_by suspend (λ ss'. refl) (filter_map suspension ss) j
    ++ (of_no_updates resumed_by (λ p. refl) (λ e cs. refl) d xs j ++ of_one resumed_by resume (λ names. names) refl (λ names. refl) (reverse (filter_map resumption ss)) j))

pub resumes_suspended : ResumesSuspended
resumes_suspended d xs =
    let orders = in_two_orders d xs in
    let ss = orders.0 in
    let ys = orders.1 in
    subst (λ (is : List Instruction). flat_map resumed_by is ≡ reverse (map (λ (s : SuspensionForm). s.name) (flat_map suspended_by is))) (sym orders.2)
    (resumed_in d ss ys ∙ ap reverse (sym (same_names ss) ∙ ap (map (λ (s : SuspensionForm). s.name)) (sym (suspended_in d ss ys))))

-- The instructions of a block go by its two orders.
pub orders_up : OrdersUp
orders_up xs =
    let ss = order DependentsFirst xs in
    let ys = order DependenciesFirst xs in
    record {
      suspended = ss;
      loaded = ys;
      suspending = makes_orders DependentsFirst xs;
      loading = makes_orders DependenciesFirst xs;
      suspends = suspended_in Up ss ys;
      loads = loaded_up ss ys;
      changes = changes_in_orders Up ss ys;
    }

pub orders_down : OrdersDown
orders_down xs =
    let ss = order DependenciesFirst xs in
    let ys = order DependentsFirst xs in
    record {
      suspended = ss;
      loaded = ys;
      suspending = makes_orders DependenciesFirst xs;
      loading = makes_orders DependentsFirst xs;
      suspends = suspended_in Down ss ys;
      loads = loaded_down ss ys;
      changes = changes_in_orders Down ss ys;
    }

-- Where states are changed.
abbrev conversion_by : Instruction → List ConversionForm
conversion_by (code_change c) = c ∷ []
conversion_by i = []

nothing_in_either : {A : Type 0} (xs ys : List A) → xs ++ ys ≡ [] → (xs ≡ []) × (ys ≡ [])
nothing_in_either [] ys e = (refl, e)
nothing_in_either (x ∷ xs) ys e = absurd cc

-- Where nothing is made of instructions, nothing is made of one of them, and of those after it.
none_from_one_on : {A : Type 0} (f : Instruction → List A) (front rest : List Instruction) (i : Instruction)
    → flat_map f (front ++ (i ∷ rest)) ≡ [] → (f i ≡ []) × (flat_map f rest ≡ [])
none_from_one_on f front rest i e =
    nothing_in_either (f i) (flat_map f rest) (nothing_in_either (flat_map f front) _ (sym (of_both f front (i ∷ rest)) ∙ e)).1

has_one : (front rest : List Instruction) (c : ConversionForm) → flat_map conversion_by (front ++ (code_change c ∷ rest)) ≡ [] → ⊥
has_one front rest c e =
    let none : c ∷ [] ≡ [] = (none_from_one_on conversion_by front rest (code_change c) e).0 in
    absurd cc

only_one : (before after front rest : List Instruction) (c d : ConversionForm) → flat_map conversion_by before ≡ [] → flat_map conversion_by after ≡ []
    → before ++ (code_change d ∷ after) ≡ front ++ (code_change c ∷ rest) → (before ≡ front) × (d ≡ c) × (after ≡ rest)
only_one [] after [] rest c d p q e = (refl, cc, cc)
only_one [] after (j ∷ front) rest c d p q e =
    let tail : after ≡ front ++ (code_change c ∷ rest) = cc in
    absurd (has_one front rest c (sym (ap (flat_map conversion_by) tail) ∙ q))
only_one (i ∷ before) after [] rest c d p q e =
    let head : code_change c ≡ i = cc in
    let some : (c ∷ []) ++ flat_map conversion_by before ≡ [] = ap (λ (k : Instruction). conversion_by k ++ flat_map conversion_by before) head ∙ p in
    absurd cc
only_one (i ∷ before) after (j ∷ front) rest c d p q e =
    let head : i ≡ j = cc in
    let tail : before ++ (code_change d ∷ after) ≡ front ++ (code_change c ∷ rest) = cc in
    let there = only_one before after front rest c d (nothing_in_either (conversion_by i) _ p).1 q tail in
    ((λ k. head k ∷ there.0 k), there.1, there.2)

-- one instruction that changes states between two parts that change none
at_change : (d : Direction) (a b e z front rest : List Instruction) (cs : List ChangeForm) (c : ConversionForm)
    → flat_map conversion_by a ≡ [] → flat_map conversion_by b ≡ [] → flat_map conversion_by e ≡ [] → flat_map conversion_by z ≡ []
    → a ++ ((b ++ (over (conversion d) cs ++ e)) ++ z) ≡ front ++ (code_change c ∷ rest)
    → (a ++ b ≡ front) × (cs ≡ c.changes) × (e ++ z ≡ rest) × (c.mode ≡ Some d)
at_change d a b e z front rest [] c p q r s is =
    let quiet : flat_map conversion_by (a ++ ((b ++ e) ++ z)) ≡ [] =
    of_both conversion_by a ((b ++ e) ++ z)
    ∙ (ap (λ (ks : List ConversionForm). flat_map conversion_by a ++ ks) (of_both conversion_by (b ++ e) z ∙ ap (λ (ks : List ConversionForm). ks ++ flat_map conversion_by z) (of_both conversion_by b e))
    ∙ (λ j. p j ++ ((q j ++ r j) ++ s j))) in
    absurd (has_one front rest c (sym (ap (flat_map conversion_by) is) ∙ quiet))
at_change d a b e z front rest (k ∷ ks) c p q r s is =
    let shape : (a ++ b) ++ (conversion d (k ∷ ks) ∷ (e ++ z)) ≡ front ++ (code_change c ∷ rest) =
    append_assoc a b (conversion d (k ∷ ks) ∷ (e ++ z))
    ∙ (ap (λ (is' : List Instruction). a ++ is') (sym (append_assoc b (conversion d (k ∷ ks) ∷ e) z)) ∙ is) in
    let there = only_one (a ++ b) (e ++ z) front rest c (record { mode = Some d; changes = k ∷ ks }) (of_both conversion_by a b ∙ (λ j. p j ++ q j)) (of_both conversion_by e z ∙ (λ j. r j ++ s j)) shape in
    (there.0, ap (λ (g : ConversionForm). g.changes) there.1, there.2, sym (ap (λ (g : ConversionForm). g.mode) there.1))

no_conversion_first : (ss : List BlockItemForm) → flat_map conversion_by (suspending ss) ≡ []
no_conversion_first ss = of_none conversion_by suspend (λ ss'. refl) (filter_map suspension ss)

no_conversion_last : (ss : List BlockItemForm) → flat_map conversion_by (resuming ss) ≡ []
no_conversion_last ss = of_none conversion_by resume (λ names. refl) (reverse (filter_map resumption ss))

loads_first : (ss xs : List BlockItemForm) → flat_map load_by (suspending ss ++ loading xs) ≡ map purging xs
loads_first ss xs = of_both load_by (suspending ss) (loading xs) ∙ (λ j. of_none load_by suspend (λ ss'. refl) (filter_map suspension ss) j ++ loads_of xs j)

loads_last : (ss xs : List BlockItemForm) → flat_map load_by (loading xs ++ resuming ss) ≡ map purging xs
loads_last ss xs =
    of_both load_by (loading xs) (resuming ss)
    ∙ ((λ j. loads_of xs j ++ of_none load_by resume (λ names. refl) (reverse (filter_map resumption ss)) j) ∙ append-nil (map purging xs))

pub loads_before_change : LoadsBeforeChange
loads_before_change xs front rest c is =
    let ss = order DependentsFirst xs in
    let ys = order DependenciesFirst xs in
    let shape : suspending ss ++ ((loading ys ++ (changing Up ys ++ [])) ++ resuming ss) ≡ front ++ (code_change c ∷ rest) =
    ap (λ (is' : List Instruction). suspending ss ++ ((loading ys ++ is') ++ resuming ss)) (append-nil (changing Up ys)) ∙ is in
    let there = at_change Up (suspending ss) (loading ys) [] (resuming ss) front rest (filter_map change ys) c
    (no_conversion_first ss) (of_loads conversion_by (λ p. refl) ys) refl (no_conversion_last ss) shape in (
      subst (IsPermutation (map purging xs)) (sym (loads_first ss ys) ∙ ap (flat_map load_by) there.0) (IsPermutation-map purging xs ys (order_has_items DependenciesFirst xs)),
      subst (IsPermutation (filter_map change xs)) there.1 (order_same change DependenciesFirst xs),
      subst (IsPermutation []) (sym (loads_last ss []) ∙ ap (flat_map load_by) there.2) (IsPermutation-refl []),
      there.3,
    )

pub changes_before_load : ChangesBeforeLoad
changes_before_load xs front rest c is =
    let ss = order DependenciesFirst xs in
    let ys = order DependentsFirst xs in
    let static = filter (is_of_kind true) ys in
    let others = filter (is_of_kind false) ys in
    let there = at_change Down (suspending ss) (loading static) (loading others) (resuming ss) front rest (filter_map change ys) c
    (no_conversion_first ss) (of_loads conversion_by (λ p. refl) static) (of_loads conversion_by (λ p. refl) others) (no_conversion_last ss) is in (
      subst (IsPermutation (map purging (filter (is_of_kind true) xs))) (sym (loads_first ss static) ∙ ap (flat_map load_by) there.0)
          (IsPermutation-map purging _ _ (order_filter (is_of_kind true) DependentsFirst xs)),
      subst (IsPermutation (filter_map change xs)) there.1 (order_same change DependentsFirst xs),
      subst (IsPermutation (map purging (filter (is_of_kind false) xs))) (sym (loads_last ss others) ∙ ap (flat_map load_by) there.2)
          (IsPermutation-map purging _ _ (order_filter (is_of_kind false) DependentsFirst xs)),
      there.3,
    )

-- Meanwhile the modules of all updates are suspended.

-- the instruction, where it loads a module or changes states
abbrev itself_if_change : Instruction → List Instruction
itself_if_change i = if is_change i then i ∷ [] else []

is_not_left_out : (i : Instruction) → is_change i ≡ true → itself_if_change i ≡ [] → ⊥
is_not_left_out i is none =
    let some : i ∷ [] ≡ [] = sym (ap (λ b. if b then i ∷ [] else []) is) ∙ none in
    absurd cc

module _ {A : Type 0} (f : Instruction → List A) where
  -- Where no change stands in the first part, and nothing is made of the second, nothing is made of what stands after a change.
  none_behind_a_change : (first second front rest : List Instruction) (i : Instruction) → is_change i ≡ true
      → flat_map itself_if_change first ≡ [] → flat_map f second ≡ [] → first ++ second ≡ front ++ (i ∷ rest) → flat_map f rest ≡ []
  none_behind_a_change [] second front rest i is quiet none e = (none_from_one_on f front rest i (sym (ap (flat_map f) e) ∙ none)).1
  none_behind_a_change (k ∷ first) second [] rest i is quiet none e =
      let head : i ≡ k = cc in
      absurd (is_not_left_out i is (ap itself_if_change head ∙ (nothing_in_either (itself_if_change k) _ quiet).0))
  none_behind_a_change (k ∷ first) second (j ∷ front) rest i is quiet none e =
      let tail : first ++ second ≡ front ++ (i ∷ rest) = cc in
      none_behind_a_change first second front rest i is (nothing_in_either (itself_if_change k) _ quiet).1 none tail

  -- Where nothing is made of the first part, and no change stands in the second, nothing is made of what stands before a change.
  none_before_a_change : (first second front rest : List Instruction) (i : Instruction) → is_change i ≡ true
      → flat_map f first ≡ [] → flat_map itself_if_change second ≡ [] → first ++ second ≡ front ++ (i ∷ rest) → flat_map f front ≡ []
  none_before_a_change [] second front rest i is none quiet e =
      absurd (is_not_left_out i is (none_from_one_on itself_if_change front rest i (sym (ap (flat_map itself_if_change) e) ∙ quiet)).0)
  none_before_a_change (k ∷ first) second [] rest i is none quiet e = refl
  none_before_a_change (k ∷ first) second (j ∷ front) rest i is none quiet e =
      let head : j ≡ k = cc in
      let tail : first ++ second ≡ front ++ (i ∷ rest) = cc in
      let nothing = nothing_in_either (f k) (flat_map f first) none in
      λ t. (ap f head ∙ nothing.0) t ++ none_before_a_change first second front rest i is nothing.1 quiet tail t

-- In a block nothing is suspended after the suspending, and nothing is resumed before the resuming.
suspends_none_later : (d : Direction) (ss xs : List BlockItemForm) → flat_map suspended_by (updating d xs ++ resuming ss) ≡ []
suspends_none_later d ss xs =
    of_both suspended_by (updating d xs) (resuming ss)
    ∙ (λ j. of_no_updates suspended_by (λ p. refl) (λ e cs. refl) d xs j ++ of_none suspended_by resume (λ names. refl) (reverse (filter_map resumption ss)) j)

resumes_none_earlier : (d : Direction) (ss xs : List BlockItemForm) → flat_map resumed_by (suspending ss ++ updating d xs) ≡ []
resumes_none_earlier d ss xs =
    of_both resumed_by (suspending ss) (updating d xs)
    ∙ (λ j. of_none resumed_by suspend (λ ss'. refl) (filter_map suspension ss) j ++ of_no_updates resumed_by (λ p. refl) (λ e cs. refl) d xs j)

pub suspends_meanwhile : SuspendsMeanwhile
suspends_meanwhile d xs front rest i block_is is =
    let orders = in_two_orders d xs in
    let ss = orders.0 in
    let ys = orders.1 in
    let shape : suspending ss ++ (updating d ys ++ resuming ss) ≡ front ++ (i ∷ rest) = sym orders.2 ∙ block_is in (
      none_behind_a_change suspended_by (suspending ss) (updating d ys ++ resuming ss) front rest i is
          (of_none itself_if_change suspend (λ ss'. refl) (filter_map suspension ss)) (suspends_none_later d ss ys) shape,
      none_before_a_change resumed_by (suspending ss ++ updating d ys) (resuming ss) front rest i is
          (resumes_none_earlier d ss ys) (of_none itself_if_change resume (λ names. refl) (reverse (filter_map resumption ss)))
          (append_assoc (suspending ss) (updating d ys) (resuming ss) ∙ shape),
    )
