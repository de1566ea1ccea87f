-- The modules of processes, by the slots in which they began.
use Rattle.std.proofs.Common.{◌≡◌, ◌==◌, ℕ, zero, suc, ◌+◌, ◌<◌, Bool, false, List, ◌∷◌, ◌++◌, length, map, drop, replicate, slice_index_or, Option, Some, None, refl, sym, ap, ◌∙◌}
use Rattle.std.specs.List.{find}
use Rattle.std.specs.Option.{option_map, option_map_or, option_or}
use Rattle.std.specs.Str.{bytes_eq}
use Rattle.std.proofs.lemmas.List.{drop_more}
use Rattle.std.proofs.lemmas.List.Folds.{find-append}
use Rattle.sup_tree.specs.declared.tree.StartedApp.{StartedApp}
use Rattle.started_members.specs.declared.member.StartedProcess.{StartedProcess}
use Rattle.sup_tree.specs.Tree.{App, NotesUsers, all_processes, app_of, app_processes, module_in}
use Rattle.started_members.specs.Members.{Notes, module_among, processes_among}

option_map-option_or : {X Y : Type 0} (f : X → Y) (o p : Option X) → option_map f (option_or o p) ≡ option_or (option_map f o) (option_map f p)
option_map-option_or f None p = refl
option_map-option_or f (Some x) p = refl

among-append : (slot : ℕ) (ps qs : List StartedProcess) → module_among slot (ps ++ qs) ≡ option_or (module_among slot ps) (module_among slot qs)
among-append slot ps qs =
    let there = λ (p : StartedProcess). p.pid.slot == slot in
    ap (option_map (λ (p : StartedProcess). p.module)) (find-append there ps qs) ∙ option_map-option_or _ (find there ps) (find there qs)

-- what is found in an application, or else in those after it
in_first : (slot : ℕ) (left rest : List App) (a : App) → left ≡ a ∷ rest → module_in slot left ≡ option_or (module_among slot (app_processes a)) (module_in slot rest)
in_first slot left rest a split = ap (module_in slot) split ∙ among-append slot (app_processes a) (all_processes rest)

-- none of the application began there
pub not_here : (slot : ℕ) (left rest : List App) (a : App) (r : Option (List ℕ)) → left ≡ a ∷ rest → module_among slot (app_processes a) ≡ None
    → module_in slot left ≡ r → module_in slot rest ≡ r
not_here slot left rest a r split none so_far = sym (in_first slot left rest a split ∙ ap (λ o. option_or o (module_in slot rest)) none) ∙ so_far

-- one of the application did
pub found_here : (slot : ℕ) (left rest : List App) (a : App) (m : List ℕ) (r : Option (List ℕ)) → left ≡ a ∷ rest → module_among slot (app_processes a) ≡ Some m
    → module_in slot left ≡ r → Some m ≡ r
found_here slot left rest a m r split found so_far = sym (in_first slot left rest a split ∙ ap (λ o. option_or o (module_in slot rest)) found) ∙ so_far

-- what is noted before any application
pub none_noted : (n p : ℕ) → slice_index_or (replicate n false) p false ≡ false
none_noted zero p = refl
none_noted (suc n) zero = refl
none_noted (suc n) (suc p) = none_noted n p

first_or : {X : Type 0} (f : X → Bool) (o r : Option X) → option_map_or f o (option_map_or f r false) ≡ option_map_or f (option_or o r) false
first_or f None r = refl
first_or f (Some x) r = refl

-- one application more, in front of those that are noted
pub app_noted : (name : List ℕ) (apps : List StartedApp) (place : ℕ) (a : StartedApp) (before used : List Bool) → place < length apps → a ≡ slice_index_or apps place a
    → NotesUsers name (map app_of (drop (place + 1) apps)) before → Notes name (processes_among a.members.items) before used → NotesUsers name (map app_of (drop place apps)) used
app_noted name apps place a before used inside at so_far here p =
    let later = map app_of (drop (place + 1) apps) in
    let split : map app_of (drop place apps) ≡ app_of a ∷ later = ap (map app_of) (drop_more apps place a inside ∙ ap (λ x. x ∷ drop (place + 1) apps) (sym at)) in
    let own = module_among p (app_processes (app_of a)) in
    here p ∙ (ap (option_map_or (bytes_eq name) own) (so_far p) ∙ (first_or (bytes_eq name) own (module_in p later)
    ∙ ap (λ (o : Option (List ℕ)). option_map_or (bytes_eq name) o false) (sym (in_first p _ later (app_of a) split))))
