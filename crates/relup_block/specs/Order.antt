-- The orders in which the modules of a block are suspended and loaded. They follow the dependencies that the appup names (OTP:
-- appup(4), DepMods), by this project's own rules of choice.
use Rattle.std.specs.Prelude.{ℕ, zero, suc, Bool, not, ◌&&◌, List, [], ◌∷◌, ◌++◌, length, Option, None, Some, map, if◌then◌else◌}
use Rattle.std.specs.List.{list_any}
use Rattle.appup_file.specs.Instruction.{UpdateForm, LoadForm, update_of, load_of}
use Rattle.relup_block.specs.declared.order.BlockItem.{BlockItem}
use Rattle.relup_block.specs.declared.order.BlockItem.TheVariants.{Updated, Loaded}
use Rattle.relup_block.specs.declared.order.ChoiceRule.{ChoiceRule}
use Rattle.relup_block.specs.declared.order.ChoiceRule.TheVariants.{DependentsFirst, DependenciesFirst}
use Rattle.std.specs.Str.{bytes_eq}

-- what stands in a block
pub data BlockItemForm : Type 0 where
  updated : UpdateForm → BlockItemForm
  loaded : LoadForm → BlockItemForm

abbrev pub block_item_of : BlockItem → BlockItemForm
block_item_of (Updated u) = updated (update_of u.now)
block_item_of (Loaded l) = loaded (load_of l.now)

abbrev pub block_items_of : List BlockItem → List BlockItemForm
block_items_of = map block_item_of

abbrev pub item_name : BlockItemForm → List ℕ
item_name (updated u) = u.name
item_name (loaded l) = l.name

abbrev pub item_deps : BlockItemForm → List (List ℕ)
item_deps (updated u) = u.dep_mods
item_deps (loaded l) = l.dep_mods

-- whether a name is among these
abbrev pub is_among : List ℕ → List (List ℕ) → Bool
is_among s = list_any (λ (n : List ℕ). bytes_eq n s)

-- The first depends on the second: it names it in its DepMods.
abbrev pub depends_on : BlockItemForm → BlockItemForm → Bool
depends_on x y = is_among (item_name y) (item_deps x)

-- whether another item has to come before this one
abbrev pub must_wait_for : ChoiceRule → BlockItemForm → BlockItemForm → Bool
must_wait_for DependentsFirst x y = depends_on y x
must_wait_for DependenciesFirst x y = depends_on x y

-- none of these has to come before it
abbrev pub is_free : ChoiceRule → BlockItemForm → List BlockItemForm → Bool
is_free rule x others = not (list_any (must_wait_for rule x) others)

-- the first item after these that is free of all the others, and what remains without it
abbrev pub first_free : ChoiceRule → List BlockItemForm → List BlockItemForm → Option (BlockItemForm × List BlockItemForm)
first_free rule before [] = None
first_free rule before (x ∷ after) =
    if is_free rule x before && is_free rule x after then Some (x, before ++ after)
    else first_free rule (before ++ (x ∷ [])) after

-- the item that is chosen, and what remains without it: the free one that was found, or the first of all where none is free
abbrev pub or_first : BlockItemForm → List BlockItemForm → Option (BlockItemForm × List BlockItemForm) → BlockItemForm × List BlockItemForm
or_first x xs (Some p) = p
or_first x xs None = (x, xs)

-- the next choice, and what remains without it
abbrev pub choice : ChoiceRule → List BlockItemForm → Option (BlockItemForm × List BlockItemForm)
choice rule [] = None
choice rule (x ∷ xs) = Some (or_first x xs (first_free rule [] (x ∷ xs)))

-- what is chosen, and then what is made of the rest
abbrev pub choose_then : (List BlockItemForm → List BlockItemForm) → Option (BlockItemForm × List BlockItemForm) → List BlockItemForm
choose_then more None = []
choose_then more (Some p) = p.0 ∷ more p.1

-- the items of so many choices, one after another
abbrev pub choices : ChoiceRule → ℕ → List BlockItemForm → List BlockItemForm
choices rule zero xs = []
choices rule (suc n) xs = choose_then (λ rest. choices rule n rest) (choice rule xs)

-- all the items, by one choice after another
abbrev pub order : ChoiceRule → List BlockItemForm → List BlockItemForm
order rule xs = choices rule (length xs) xs
