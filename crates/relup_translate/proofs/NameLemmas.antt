-- The names in a made relup are names, and its versions are versions.
use Rattle.std.proofs.Common.{refl, sym, subst, ℕ, Bool, true, false, List, [], ◌∷◌, ◌++◌, map, reverse, filter, filter_map, flat_map, Option, None, Some, IfSome, if◌then◌else◌, bytes_eq}
use Rattle.std.specs.List.{AllByRecursion, list_any}
use Rattle.std.specs.Option.{option_map}
use Rattle.rel_files.specs.Name.{IsName}
use Rattle.rel_files.specs.declared.release.StartType.{StartType}
use Rattle.rel_files.specs.declared.release.StartType.TheVariants.{Load, Unloaded}
use Rattle.relup_instruction.specs.declared.instruction.Direction.{Direction}
use Rattle.relup_instruction.specs.declared.instruction.Direction.TheVariants.{Up, Down}
use Rattle.relup_instruction.specs.declared.instruction.Timeout.{Timeout}
use Rattle.relup_instruction.specs.declared.instruction.Timeout.TheVariants.{Default, Infinity, Milliseconds}
use Rattle.relup_instruction.specs.Instruction.{ChangeForm, Instruction}
use Rattle.relup_instruction.specs.Instruction.Instruction.{load_object_code, suspend, load, code_change, resume, restart_emulator}
use Rattle.relup_instruction.specs.Form.{IsTimeout, IsFetch, IsSuspension, IsChange, IsInstruction}
use Rattle.relup_file.specs.Form.{IsScript, IsEntry, IsRelup}
use Rattle.appup_file.specs.Form.{IsAppupInstruction}
use Rattle.appup_file.specs.Instruction.{ChangeForm as StateForm, AppupInstruction}
use Rattle.appup_file.specs.Instruction.ChangeForm.{soft, advanced}
use Rattle.appup_file.specs.Instruction.AppupInstruction.{update, load_module, add_module, delete_module, add_application, remove_application, restart_application, low_level}
use Rattle.relup_block.specs.Order.{BlockItemForm, is_among, order}
use Rattle.relup_block.specs.Order.BlockItemForm.{updated, loaded}
use Rattle.relup_block.specs.Block.{written_timeout, suspension, resumption, change_to, change, purging, is_of_kind, over, suspending, loading, changing, updating, in_orders, block}
use Rattle.relup_block.proofs.PermutationLemmas.{order_has_items}
use Rattle.relup_row.specs.Release.{RelupAppForm, RelupReleaseForm, WayForm, way_between, app_named, owner}
use Rattle.relup_row.specs.Fetches.{MentionForm, mention, module_of, app_of, differs, firsts, fetch, fetches, fetching}
use Rattle.relup_row.specs.Script.{load_plainly, remove_plainly, starting, coming, stopping, going, of_app, in_place, single, block_item, PartForm, put_item, put, parts, part_script, row_script, app_modules, loaded_by, mentions_by, mentions, written_fetch, written_fetches, asks_restart, restart_at_end, script}
use Rattle.relup_row.specs.Script.PartForm.{a_block, a_single}
use Rattle.relup_translate.specs.Translation.{rows, entry}
use Rattle.relup_translate.specs.WellFormed.{IsWellFormedApp, IsWellFormedRelease, HasWellFormedAppups}
use Rattle.relup_translate.specs.Laws.{MadeRelupsAreNamed}
use Rattle.relup_translate.proofs.OutcomeLemmas.{sound_where_made}
use Rattle.relup_row.proofs.ListLemmas.{of_both, of_map, of_parts, of_options, of_filter, of_permutation, of_reverse, of_found}
use Rattle.relup_translate.proofs.WayLemmas.{InHigher, of_changing, of_all_rows}

-- The names of these instructions are names, and their versions are versions.
abbrev AreNamed : List Instruction → Type 0
AreNamed = AllByRecursion IsInstruction

-- The instructions that start an application have names.
named_starting : (start : StartType) (app : List ℕ) → AreNamed (starting start app)
named_starting Load app = (refl, tt)
named_starting Unloaded app = tt
named_starting start app = (refl, tt)

-- The instructions by which an application comes have names.
named_coming : (start : StartType) (a : RelupAppForm) → IsWellFormedApp a → AreNamed (coming start a)
named_coming start a h =
    of_both IsInstruction (map load_plainly a.modules) (starting start a.name)
    (of_map IsInstruction IsName load_plainly (λ m name. name) a.modules h.2) (named_starting start a.name)

-- The instructions that stop an application have names.
named_stopping : (a : RelupAppForm) → IsWellFormedApp a → AreNamed (stopping a)
named_stopping a h =
    (refl, of_both IsInstruction (map remove_plainly a.modules) _ (of_map IsInstruction IsName remove_plainly (λ m name. name) a.modules h.2) (h.2, tt))

-- The instructions by which an application leaves have names.
named_going : (a : RelupAppForm) → IsWellFormedApp a → AreNamed (going a)
named_going a h = of_both IsInstruction (stopping a) _ (named_stopping a h) (refl, tt)

-- What holds of all that is made of a well-formed application holds of all that is made of one, if there is one.
of_one : {A : Type 0} (P : A → Type 0) (f : RelupAppForm → List A) → ((a : RelupAppForm) → IsWellFormedApp a → AllByRecursion P (f a))
    → (o : Option RelupAppForm) → IfSome o IsWellFormedApp → AllByRecursion P (of_app f o)
of_one P f each None h = tt
of_one P f each (Some a) h = each a h

-- The application of a name is well formed, if the release has it.
named_app : (name : List ℕ) (r : RelupReleaseForm) → IsWellFormedRelease r → IfSome (app_named name r) IsWellFormedApp
named_app name r h = of_found IsWellFormedApp (λ (a : RelupAppForm). bytes_eq a.name name) r.apps h.1

-- A low-level instruction stays what it is.
named_in_place : (i : Instruction) → IsInstruction i → AreNamed (in_place i)
named_in_place (load_object_code f) h = tt
named_in_place restart_emulator h = tt
named_in_place i h = (h, tt)

-- The releases of a way are well formed, and so are the appups of the higher one.
record IsWellFormedWay (w : WayForm) : Type 0 where
  left : IsWellFormedRelease w.left
  target : IsWellFormedRelease w.target
  appups : InHigher IsAppupInstruction w.direction w.left w.target

-- What is made of an instruction outside a block has names.
named_single : (w : WayForm) → IsWellFormedWay w → (i : AppupInstruction) → IsAppupInstruction i → AreNamed (single w i)
named_single w of (add_module d) h = (h.0, tt)
named_single w of (delete_module d) h = (h.0, ((h.0, tt), tt))
named_single w of (add_application a) h =
    of_one IsInstruction (coming a.start) (named_coming a.start) (app_named a.name w.target) (named_app a.name w.target of.target)
named_single w of (remove_application app) h = of_one IsInstruction going named_going (app_named app w.left) (named_app app w.left of.left)
named_single w of (restart_application app) h =
    of_both IsInstruction (of_app stopping (app_named app w.left)) _
    (of_one IsInstruction stopping named_stopping (app_named app w.left) (named_app app w.left of.left))
    (of_one IsInstruction (λ (a : RelupAppForm). coming a.start a) (λ a. named_coming a.start a) (app_named app w.target)
    (named_app app w.target of.target))
named_single w of (low_level i) h = named_in_place i h
named_single w of (update u) h = tt
named_single w of (load_module l) h = tt

-- The names of an item of a block are names, and its timeout is not below 0.
abbrev IsItem : BlockItemForm → Type 0
IsItem (updated u) = IsAppupInstruction (update u)
IsItem (loaded l) = IsAppupInstruction (load_module l)

-- An instruction over a list has the names of its members.
named_over : {A : Type 0} (Q : A → Type 0) (f : List A → Instruction) → ((as' : List A) → AllByRecursion Q as' → IsInstruction (f as'))
    → (as' : List A) → AllByRecursion Q as' → AreNamed (over f as')
named_over Q f each [] h = tt
named_over Q f each (a ∷ as') h = (each (a ∷ as') h, tt)

-- A timeout that is written is not below 0.
is_timeout : (t : Timeout) → IsTimeout (Some t) → IsTimeout (written_timeout t)
is_timeout Default h = tt
is_timeout Infinity h = tt
is_timeout (Milliseconds n) h = h

-- An item of a block is suspended by its name.
is_suspension : (x : BlockItemForm) → IsItem x → IfSome (suspension x) IsSuspension
is_suspension (updated u) h = (h.0, is_timeout u.timeout h.1)
is_suspension (loaded l) h = tt

-- An item of a block is resumed by its name.
is_resumption : (x : BlockItemForm) → IsItem x → IfSome (resumption x) IsName
is_resumption (updated u) h = h.0
is_resumption (loaded l) h = tt

-- The state of a module is changed by its name.
is_change_to : (name : List ℕ) (c : StateForm) → IsName name → IfSome (change_to name c) IsChange
is_change_to name soft h = tt
is_change_to name (advanced extra) h = h

is_change : (x : BlockItemForm) → IsItem x → IfSome (change x) IsChange
is_change (updated u) h = is_change_to u.name u.change h.0
is_change (loaded l) h = tt

-- An item of a block is loaded by its name.
is_load : (x : BlockItemForm) → IsItem x → IsInstruction (load (purging x))
is_load (updated u) h = h.0
is_load (loaded l) h = h.0

-- The items of a block have names.
abbrev AreItems : List BlockItemForm → Type 0
AreItems = AllByRecursion IsItem

named_loading : (xs : List BlockItemForm) → AreItems xs → AreNamed (loading xs)
named_loading xs h = of_map IsInstruction IsItem (λ (x : BlockItemForm). load (purging x)) is_load xs h

-- The changes of a block have names.
named_changing : (d : Direction) (xs : List BlockItemForm) → AreItems xs → AreNamed (changing d xs)
named_changing d xs h =
    named_over IsChange (λ (cs : List ChangeForm). code_change (record { mode = Some d; changes = cs })) (λ cs are. are) (filter_map change xs)
    (of_options IsChange IsItem change is_change xs h)

-- The loads and the changes of a block together have names.
named_updating : (d : Direction) (xs : List BlockItemForm) → AreItems xs → AreNamed (updating d xs)
named_updating Up xs h = of_both IsInstruction (loading xs) (changing Up xs) (named_loading xs h) (named_changing Up xs h)
named_updating Down xs h =
    of_both IsInstruction (loading (filter (is_of_kind true) xs)) _ (named_loading _ (of_filter IsItem (is_of_kind true) xs h))
    (of_both IsInstruction (changing Down xs) _ (named_changing Down xs h) (named_loading _ (of_filter IsItem (is_of_kind false) xs h)))

-- A block in two orders of its items has names.
named_in_orders : (d : Direction) (ss xs : List BlockItemForm) → AreItems ss → AreItems xs → AreNamed (in_orders d ss xs)
named_in_orders d ss xs of_ss of_xs =
    of_both IsInstruction (suspending ss) _
    (named_over IsSuspension suspend (λ ss' are. are) (filter_map suspension ss) (of_options IsSuspension IsItem suspension is_suspension ss of_ss))
    (of_both IsInstruction (updating d xs) _ (named_updating d xs of_xs)
    (named_over IsName resume (λ names are. are) (reverse (filter_map resumption ss))
    (of_reverse IsName (filter_map resumption ss) (of_options IsName IsItem resumption is_resumption ss of_ss))))

-- A block has names whatever the rules of its two orders are.
in_rules : (first second : _) (d : Direction) (xs : List BlockItemForm) → AreItems xs → AreNamed (in_orders d (order first xs) (order second xs))
in_rules first second d xs h =
    named_in_orders d (order first xs) (order second xs) (of_permutation IsItem xs (order first xs) (order_has_items first xs) h)
    (of_permutation IsItem xs (order second xs) (order_has_items second xs) h)

-- What a block becomes has names.
named_block : (d : Direction) (xs : List BlockItemForm) → AreItems xs → AreNamed (block d xs)
named_block Up xs h = search (in_rules, h)
named_block Down xs h = search (in_rules, h)

-- The names of a part of a row are names.
abbrev IsPart : PartForm → Type 0
IsPart (a_block xs) = AreItems xs
IsPart (a_single i) = IsAppupInstruction i

-- An instruction is an item of a block, if it belongs to one.
is_item : (i : AppupInstruction) → IsAppupInstruction i → IfSome (block_item i) IsItem
is_item (update u) h = h
is_item (load_module l) h = h
is_item (add_module d) h = tt
is_item (delete_module d) h = tt
is_item (add_application a) h = tt
is_item (remove_application app) h = tt
is_item (restart_application app) h = tt
is_item (low_level i) h = tt

-- Parts with one item more have names that are names, where the parts and the item have.
of_put_item : (x : BlockItemForm) (ps : List PartForm) → IsItem x → AllByRecursion IsPart ps → AllByRecursion IsPart (put_item x ps)
of_put_item x [] is h = ((is, tt), tt)
of_put_item x (a_block xs ∷ ps) is h = ((is, h.0), h.1)
of_put_item x (a_single i ∷ ps) is h = ((is, tt), h)

-- Parts with one instruction more have names that are names, where the parts and the instruction have.
of_put : (i : AppupInstruction) (o : Option BlockItemForm) (ps : List PartForm) → IsAppupInstruction i → IfSome o IsItem
    → AllByRecursion IsPart ps → AllByRecursion IsPart (put i o ps)
of_put i (Some x) ps is item h = of_put_item x ps item h
of_put i None ps is item h = (is, h)

-- A row consists of instructions with names.
abbrev AreRow : List AppupInstruction → Type 0
AreRow = AllByRecursion IsAppupInstruction

of_row_parts : (is : List AppupInstruction) → AreRow is → AllByRecursion IsPart (parts is)
of_row_parts [] h = tt
of_row_parts (i ∷ is) h = of_put i (block_item i) (parts is) h.0 (is_item i h.0) (of_row_parts is h.1)

-- What a part of a row becomes has names.
named_part : (w : WayForm) → IsWellFormedWay w → (p : PartForm) → IsPart p → AreNamed (part_script w p)
named_part w of (a_block xs) h = named_block w.direction xs h
named_part w of (a_single i) h = named_single w of i h

-- What a row becomes has names.
named_row : (w : WayForm) → IsWellFormedWay w → (is : List AppupInstruction) → AreRow is → AreNamed (row_script w is)
named_row w of is h = of_parts IsInstruction IsPart (part_script w) (named_part w of) (parts is) (of_row_parts is h)

-- A module that is mentioned is named, and its application is well formed.
abbrev IsMention : MentionForm → Type 0
IsMention m = IsName m.name × IsWellFormedApp m.app

-- The modules of the application of a name are named.
named_modules : (name : List ℕ) (r : RelupReleaseForm) → IsWellFormedRelease r → AllByRecursion IsName (app_modules name r)
named_modules name r of = of_one IsName (λ (a : RelupAppForm). a.modules) (λ a h. h.2) (app_named name r) (named_app name r of)

-- The modules that an instruction loads have names.
named_loaded : (w : WayForm) → IsWellFormedWay w → (i : AppupInstruction) → IsAppupInstruction i → AllByRecursion IsName (loaded_by w i)
named_loaded w of (update u) h = (h.0, tt)
named_loaded w of (load_module l) h = (h.0, tt)
named_loaded w of (add_module d) h = (h.0, tt)
named_loaded w of (add_application a) h = named_modules a.name w.target of.target
named_loaded w of (restart_application app) h = named_modules app w.target of.target
named_loaded w of (delete_module d) h = tt
named_loaded w of (remove_application app) h = tt
named_loaded w of (low_level i) h = tt

-- A name is mentioned with an application of the target, if one has it.
is_mention : (w : WayForm) → IsWellFormedWay w → (name : List ℕ) → IsName name → IfSome (mention w.target name) IsMention
is_mention w of name named =
    go (owner name w.target) (of_found IsWellFormedApp (λ (a : RelupAppForm). is_among name a.modules) w.target.apps of.target.1)
  where
    go : (o : Option RelupAppForm) → IfSome o IsWellFormedApp → IfSome (option_map (λ (a : RelupAppForm). record { name = name; app = a }) o) IsMention
    go None h = tt
    go (Some a) h = (named, h)

-- The modules that a row mentions have names, and their applications are well formed.
of_mentions : (w : WayForm) → IsWellFormedWay w → (is : List AppupInstruction) → AreRow is → AllByRecursion IsMention (mentions w is)
of_mentions w of is h =
    of_parts IsMention IsAppupInstruction (mentions_by w)
    (λ i is_one. of_options IsMention IsName (mention w.target) (is_mention w of) (loaded_by w i) (named_loaded w of i is_one)) is h

-- Of mentions with names, the first of each key have names too.
of_firsts : (key : MentionForm → List ℕ) (ms : List MentionForm) → AllByRecursion IsMention ms → AllByRecursion IsMention (firsts key ms)
of_firsts key [] h = tt
of_firsts key (m ∷ ms) h = (h.0, of_filter IsMention (differs key m) (firsts key ms) (of_firsts key ms h.1))

-- The fetch of mentioned modules has names and a version.
is_fetch : (ms : List MentionForm) → AllByRecursion IsMention ms → (m : MentionForm) → IsMention m → IsFetch (fetch ms m.app)
is_fetch ms h m is = (
  is.1.0,
  is.1.1,
  of_map IsName IsMention module_of (λ n of. of.0) _ (of_filter IsMention (λ (n : MentionForm). bytes_eq n.app.name m.app.name) ms h),
)

-- The fetches of mentioned modules have names and versions.
named_fetching : (ms : List MentionForm) → AllByRecursion IsMention ms → AreNamed (fetching ms)
named_fetching ms h =
    of_map IsInstruction IsFetch load_object_code (λ f is. is) (fetches ms)
    (of_map IsFetch IsMention (λ (m : MentionForm). fetch (firsts module_of ms) m.app) (is_fetch (firsts module_of ms) (of_firsts module_of ms h))
    (firsts app_of ms) (of_firsts app_of ms h))

-- The fetches that an appup has itself have names.
named_written : (i : AppupInstruction) → IsAppupInstruction i → AreNamed (written_fetch i)
named_written (low_level (load_object_code f)) h = (h, tt)
named_written i h = tt

-- The instructions of a script that a file can say have names.
of_script : (is : List Instruction) → IsScript is → AreNamed is
of_script [] h = tt
of_script (i ∷ is) h = h

-- With such instructions in front it is still one.
behind : (is js : List Instruction) → AreNamed is → IsScript js → IsScript (is ++ js)
behind [] js h k = k
behind (i ∷ is) js h k = (h.0, of_both IsInstruction is js h.1 (of_script js k))

-- A restart at the end names nothing.
named_restart : (restarts : Bool) → AreNamed (if restarts then restart_emulator ∷ [] else [])
named_restart true = (tt, tt)
named_restart false = tt

-- The script of rows with names is one that a file can say.
is_script : (w : WayForm) → IsWellFormedWay w → (rs : List (List AppupInstruction)) → AllByRecursion AreRow rs → IsScript (script w rs)
is_script w of rs h =
    behind (fetching (flat_map (mentions w) rs)) _
    (named_fetching (flat_map (mentions w) rs) (of_parts IsMention AreRow (mentions w) (of_mentions w of) rs h))
    (behind (flat_map written_fetches rs) _
    (of_parts IsInstruction AreRow written_fetches (λ is row. of_parts IsInstruction IsAppupInstruction written_fetch named_written is row) rs h) (
      tt,
      of_both IsInstruction (flat_map (row_script w) rs) (restart_at_end rs)
          (of_parts IsInstruction AreRow (row_script w) (named_row w of) rs h) (named_restart (list_any (list_any asks_restart) rs)),
    ))

-- The rows of a way have names.
named_rows : (w : WayForm) → IsWellFormedWay w → AllByRecursion AreRow (rows w)
named_rows w of =
    of_all_rows IsAppupInstruction w IsWellFormedApp (λ a h. h.0) (λ b h. h.0) of.target.1 of.left.1
    (of_changing IsAppupInstruction w.direction w.left w.target of.appups)

-- The way between well-formed releases is well formed.
of_way : (d : Direction) (new other : RelupReleaseForm) → IsWellFormedRelease new → HasWellFormedAppups new → IsWellFormedRelease other
    → IsWellFormedWay (way_between d new other)
of_way Up new other of appups of_other = record { left = of_other; target = of; appups = appups }
of_way Down new other of appups of_other = record { left = of; target = of_other; appups = appups }

-- Each entry of a made relup is one that a file can say.
is_entry : (d : Direction) (new : RelupReleaseForm) → IsWellFormedRelease new → HasWellFormedAppups new
    → (other : RelupReleaseForm) → IsWellFormedRelease other → IsEntry (entry d new other)
is_entry d new of appups other of_other =
    let w = way_between d new other in
    let way = of_way d new other of appups of_other in
    (of_other.0, is_script w way (rows w) (named_rows w way))

-- A relup that is made is one that a file can say.
pub made_relups_are_named : MadeRelupsAreNamed
made_relups_are_named new ups downs r of appups of_ups of_downs e =
    subst IsRelup (sym (sound_where_made new ups downs r e).1) (record {
      version = of.0;
      ups = of_map IsEntry IsWellFormedRelease (entry Up new) (is_entry Up new of appups) ups of_ups;
      downs = of_map IsEntry IsWellFormedRelease (entry Down new) (is_entry Down new of appups) downs of_downs;
    })
