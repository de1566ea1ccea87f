-- What holds of each instruction that the instructions of an appup become after the point of no return.
use Rattle.std.proofs.Common.{ℕ, true, false, List, [], ◌∷◌, map, filter, filter_map, flat_map, Option, None, Some, IfSome}
use Rattle.std.specs.List.{AllByRecursion}
use Rattle.rel_files.specs.declared.release.StartType.{StartType}
use Rattle.rel_files.specs.declared.release.StartType.TheVariants.{Load, Unloaded}
use Rattle.relup_instruction.specs.declared.instruction.Direction.{Direction}
use Rattle.relup_instruction.specs.declared.instruction.Direction.TheVariants.{Up, Down}
use Rattle.relup_instruction.specs.Instruction.{SuspensionForm, PurgingForm, ChangeForm, ConversionForm, CallForm, Instruction}
use Rattle.relup_instruction.specs.Instruction.Instruction.{suspend, load, code_change, resume, remove, purge, apply}
use Rattle.appup_file.specs.Instruction.{AppupInstruction}
use Rattle.appup_file.specs.Instruction.AppupInstruction.{update, load_module, add_module, delete_module, add_application, remove_application, restart_application, low_level}
use Rattle.relup_block.specs.Order.{BlockItemForm, item_name, order}
use Rattle.relup_block.specs.Order.BlockItemForm.{updated, loaded}
use Rattle.relup_block.specs.Block.{change, purging, is_of_kind, over, suspending, loading, changing, resuming, updating, in_orders, block}
use Rattle.relup_block.proofs.PermutationLemmas.{order_has_items}
use Rattle.relup_row.specs.Release.{RelupAppForm, WayForm, app_named}
use Rattle.relup_row.specs.Script.{load_plainly, remove_plainly, starting, coming, stopping, going, of_app, in_place, single, block_item, PartForm, put_item, put, parts, part_script, row_script, loaded_by}
use Rattle.relup_row.specs.Script.PartForm.{a_block, a_single}
use Rattle.relup_row.proofs.ListLemmas.{of_both, of_first, of_last, of_each, of_map, of_parts, of_filter, of_permutation}

-- P holds of each instruction that is made; of a `load`, where Q holds of its module.
pub record HoldsOfMade (P : Instruction → Type 0) (Q : List ℕ → Type 0) : Type 0 where
  pub suspends : (ss : List SuspensionForm) → P (suspend ss)
  pub loads : (p : PurgingForm) → Q p.name → P (load p)
  pub changes : (c : ConversionForm) → P (code_change c)
  pub resumes : (names : List (List ℕ)) → P (resume names)
  pub removes : (p : PurgingForm) → P (remove p)
  pub purges : (names : List (List ℕ)) → P (purge names)
  pub applies : (c : CallForm) → P (apply c)

-- what stays in its place of what an appup has itself
abbrev pub written : AppupInstruction → List Instruction
written (low_level i) = in_place i
written i = []

module _ (P : Instruction → Type 0) (Q : List ℕ → Type 0) (of : HoldsOfMade P Q) where
  -- P holds of the instructions that start an application.
  of_starting : (start : StartType) (app : List ℕ) → AllByRecursion P (starting start app)
  of_starting Load app = (of.applies _, tt)
  of_starting Unloaded app = tt
  of_starting start app = (of.applies _, tt)

  -- P holds of the instructions that stop an application.
  of_stopping : (a : RelupAppForm) → AllByRecursion P (stopping a)
  of_stopping a =
      (of.applies _, of_both P (map remove_plainly a.modules) _ (of_each P remove_plainly (λ m. of.removes _) a.modules) (of.purges _, tt))

  -- P holds of the instructions by which an application leaves.
  of_going : (a : RelupAppForm) → AllByRecursion P (going a)
  of_going a = of_both P (stopping a) _ (of_stopping a) (of.applies _, tt)

  of_leaving : (f : RelupAppForm → List Instruction) → ((a : RelupAppForm) → AllByRecursion P (f a)) → (o : Option RelupAppForm) → AllByRecursion P (of_app f o)
  of_leaving f each None = tt
  of_leaving f each (Some a) = each a

  -- P holds of the instructions by which an application comes, where Q holds of its modules.
  of_coming : (start : RelupAppForm → StartType) (o : Option RelupAppForm) → AllByRecursion Q (of_app (λ (a : RelupAppForm). a.modules) o)
      → AllByRecursion P (of_app (λ (a : RelupAppForm). coming (start a) a) o)
  of_coming start None h = tt
  of_coming start (Some a) h =
      of_both P (map load_plainly a.modules) _ (of_map P Q load_plainly (λ m q. of.loads _ q) a.modules h) (of_starting (start a) a.name)

  -- P holds of what is made of an instruction outside a block, where it holds of what the appup has itself.
  of_single : (w : WayForm) (i : AppupInstruction) → AllByRecursion Q (loaded_by w i) → AllByRecursion P (written i) → AllByRecursion P (single w i)
  of_single w (add_module d) h k = (of.loads _ h.0, tt)
  of_single w (delete_module d) h k = (of.removes _, (of.purges _, tt))
  of_single w (add_application a) h k = of_coming (λ b. a.start) (app_named a.name w.target) h
  of_single w (remove_application app) h k = of_leaving going of_going (app_named app w.left)
  of_single w (restart_application app) h k =
      of_both P (of_app stopping (app_named app w.left)) _ (of_leaving stopping of_stopping (app_named app w.left))
      (of_coming (λ b. b.start) (app_named app w.target) h)
  of_single w (low_level i) h k = k
  of_single w i h k = tt

  -- Q holds of the module of a block's item.
  abbrev IsOfItem : BlockItemForm → Type 0
  IsOfItem x = Q (item_name x)

  of_load : (x : BlockItemForm) → IsOfItem x → P (load (purging x))
  of_load (updated u) q = of.loads _ q
  of_load (loaded l) q = of.loads _ q

  of_loading : (xs : List BlockItemForm) → AllByRecursion IsOfItem xs → AllByRecursion P (loading xs)
  of_loading xs h = of_map P IsOfItem (λ (x : BlockItemForm). load (purging x)) of_load xs h

  -- P holds of the instruction over several parts of a block, if there are any.
  of_over : {A : Type 0} (f : List A → Instruction) → ((as' : List A) → P (f as')) → (as' : List A) → AllByRecursion P (over f as')
  of_over f each [] = tt
  of_over f each (a ∷ as') = (each (a ∷ as'), tt)

  of_changing : (d : Direction) (xs : List BlockItemForm) → AllByRecursion P (changing d xs)
  of_changing d xs = of_over (λ (cs : List ChangeForm). code_change (record { mode = Some d; changes = cs })) (λ cs. of.changes _) (filter_map change xs)

  -- P holds of the loads and the changes of a block together.
  of_updating : (d : Direction) (xs : List BlockItemForm) → AllByRecursion IsOfItem xs → AllByRecursion P (updating d xs)
  of_updating Up xs h = of_both P (loading xs) (changing Up xs) (of_loading xs h) (of_changing Up xs)
  of_updating Down xs h =
      of_both P (loading (filter (is_of_kind true) xs)) _ (of_loading _ (of_filter IsOfItem (is_of_kind true) xs h))
      (of_both P (changing Down xs) _ (of_changing Down xs) (of_loading _ (of_filter IsOfItem (is_of_kind false) xs h)))

  -- P holds of a block in two orders of its items.
  of_in_orders : (d : Direction) (ss xs : List BlockItemForm) → AllByRecursion IsOfItem xs → AllByRecursion P (in_orders d ss xs)
  of_in_orders d ss xs h =
      of_both P (suspending ss) _ (of_over suspend of.suspends _)
      (of_both P (updating d xs) (resuming ss) (of_updating d xs h) (of_over resume of.resumes _))

  -- P holds of a block whatever the rules of its two orders are.
  in_rules : (first second : _) (d : Direction) (xs : List BlockItemForm) → AllByRecursion IsOfItem xs → AllByRecursion P (in_orders d (order first xs) (order second xs))
  in_rules first second d xs h = of_in_orders d (order first xs) (order second xs) (of_permutation IsOfItem xs (order second xs) (order_has_items second xs) h)

  -- P holds of what a block becomes.
  of_block : (d : Direction) (xs : List BlockItemForm) → AllByRecursion IsOfItem xs → AllByRecursion P (block d xs)
  of_block Up xs h = search (in_rules, h)
  of_block Down xs h = search (in_rules, h)

  -- Q holds of what a part of a row loads, and P of what stays of it.
  abbrev IsOfPart : WayForm → PartForm → Type 0
  IsOfPart w (a_block xs) = AllByRecursion IsOfItem xs
  IsOfPart w (a_single i) = AllByRecursion Q (loaded_by w i) × AllByRecursion P (written i)

  of_part : (w : WayForm) (p : PartForm) → IsOfPart w p → AllByRecursion P (part_script w p)
  of_part w (a_block xs) h = of_block w.direction xs h
  of_part w (a_single i) h = of_single w i h.0 h.1

  of_item : (w : WayForm) (i : AppupInstruction) → AllByRecursion Q (loaded_by w i) → IfSome (block_item i) IsOfItem
  of_item w (update u) h = h.0
  of_item w (load_module l) h = h.0
  of_item w i h = tt

  of_put_item : (w : WayForm) (x : BlockItemForm) (ps : List PartForm) → IsOfItem x → AllByRecursion (IsOfPart w) ps → AllByRecursion (IsOfPart w) (put_item x ps)
  of_put_item w x [] q h = ((q, tt), tt)
  of_put_item w x (a_block xs ∷ ps) q h = ((q, h.0), h.1)
  of_put_item w x (a_single i ∷ ps) q h = ((q, tt), h)

  of_put : (w : WayForm) (i : AppupInstruction) (o : Option BlockItemForm) (ps : List PartForm) → IsOfPart w (a_single i) → IfSome o IsOfItem
      → AllByRecursion (IsOfPart w) ps → AllByRecursion (IsOfPart w) (put i o ps)
  of_put w i (Some x) ps is item h = of_put_item w x ps item h
  of_put w i None ps is item h = (is, h)

  of_row_parts : (w : WayForm) (is : List AppupInstruction) → AllByRecursion Q (flat_map (loaded_by w) is) → AllByRecursion P (flat_map written is)
      → AllByRecursion (IsOfPart w) (parts is)
  of_row_parts w [] h k = tt
  of_row_parts w (i ∷ is) h k =
      let here = of_first Q (loaded_by w i) (flat_map (loaded_by w) is) h in
      of_put w i (block_item i) (parts is) (here, of_first P (written i) (flat_map written is) k) (of_item w i here)
      (of_row_parts w is (of_last Q (loaded_by w i) (flat_map (loaded_by w) is) h) (of_last P (written i) (flat_map written is) k))

  -- P holds of what rows become.
  pub of_rows : (w : WayForm) (rs : List (List AppupInstruction)) → AllByRecursion Q (flat_map (flat_map (loaded_by w)) rs)
      → AllByRecursion P (flat_map (flat_map written) rs) → AllByRecursion P (flat_map (row_script w) rs)
  of_rows w [] h k = tt
  of_rows w (is ∷ rs) h k =
      let names = flat_map (loaded_by w) is in
      let own = flat_map written is in
      of_both P (row_script w is) _
      (of_parts P (IsOfPart w) (part_script w) (of_part w) (parts is) (of_row_parts w is (of_first Q names _ h) (of_first P own _ k)))
      (of_rows w rs (of_last Q names _ h) (of_last P own _ k))
