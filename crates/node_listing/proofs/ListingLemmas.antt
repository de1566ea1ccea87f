-- Lists made one by one.
use Rattle.std.proofs.Common.{◌≡◌, ℕ, ◌+◌, ◌<◌, ◌++◌, List, [], ◌∷◌, map, ◌≤◌, length, take, get_or, refl, ap, sym, ◌∙◌}
use Rattle.std.proofs.lemmas.List.{map-append, map_more, flat_map_more, take_all}
use Rattle.std.specs.List.{flat_map}
use Rattle.std.specs.Prelude.{Result, Ok, Err, IfOk}
use Rattle.erl_term.specs.Value.{Value, value_of, values_of}
use Rattle.erl_term.specs.declared.term.Term.{Term}
use Rattle.rel_files.specs.declared.release.RelApp.{RelApp}
use Rattle.rel_files.specs.Release.{application_of}
use Rattle.rel_list.specs.Keyed.{entry_of}
use Rattle.rel_list.specs.Releases.{Releases}
use Rattle.rel_list.specs.declared.listed.ListedRelease.{ListedRelease}
use Rattle.node_listing.specs.Listing.{application_value, release_line, count_line, listing}
use Rattle.erl_term.specs.Value.Value.{list, tuple}

map-twice : {A B C : Type 0} (f : B → C) (g : A → B) (xs : List A) → map f (map g xs) ≡ map (λ a. f (g a)) xs
map-twice f g [] = refl
map-twice f g (x ∷ xs) = ap (λ ys. f (g x) ∷ ys) (map-twice f g xs)

-- one more application, of those in its place
pub application_more : (all : List RelApp) (i : ℕ) (a : RelApp) (old new : List Term) (term : Term) → i < length all → a ≡ get_or all i a → value_of term ≡ application_value (application_of a) → new ≡ old ++ term ∷ []
    → map value_of old ≡ map (λ b. application_value (application_of b)) (take i all) → map value_of new ≡ map (λ b. application_value (application_of b)) (take (i + 1) all)
application_more all i a old new term within at made grown so_far =
    let reported : RelApp → Value = λ b. application_value (application_of b) in
    let spelled : map reported (take (i + 1) all) ≡ map reported (take i all) ++ reported a ∷ [] = map_more reported all i a within ∙ ap (λ b. map reported (take i all) ++ reported b ∷ []) (sym at) in
    (ap (map value_of) grown ∙ map-append value_of old (term ∷ [])) ∙ ((λ j. so_far j ++ made j ∷ []) ∙ sym spelled)

-- the applications are there
pub whole_applications : (vs : List Value) (applications all : List RelApp) → vs ≡ map (λ a. application_value (application_of a)) applications → applications ≡ all
    → list (values_of vs) ≡ list (values_of (map application_value (map application_of all)))
whole_applications vs applications all e same =
    ap (λ ws. list (values_of ws)) (e ∙ ap (map (λ a. application_value (application_of a))) same ∙ sym (map-twice application_value application_of all))

-- all four parts are there
pub whole_release : {E : Type 0} (r : Result Term E) (n v applications s : Value) (n' v' applications' s' : Value) → n ≡ n' → v ≡ v' → applications ≡ applications' → s ≡ s'
    → IfOk r (λ t. value_of t ≡ tuple (values_of (n ∷ v ∷ applications ∷ s ∷ []))) → IfOk r (λ t. value_of t ≡ tuple (values_of (n' ∷ v' ∷ applications' ∷ s' ∷ [])))
whole_release (Err e) n v applications s n' v' applications' s' en ev ea es reported = tt
whole_release (Ok t) n v applications s n' v' applications' s' en ev ea es reported = reported ∙ (λ i. tuple (values_of (en i ∷ ev i ∷ ea i ∷ es i ∷ [])))

-- one more line, of the release in its place
pub line_more : (listed : List ListedRelease) (i : ℕ) (l : ListedRelease) (old new : List ℕ) → i < length listed → l ≡ get_or listed i l → new ≡ old ++ release_line (entry_of l)
    → old ≡ flat_map release_line (map entry_of (take i listed)) → new ≡ flat_map release_line (map entry_of (take (i + 1) listed))
line_more listed i l old new within at grown so_far =
    let before = map entry_of (take i listed) in
    let entries : map entry_of (take (i + 1) listed) ≡ before ++ entry_of l ∷ [] = map_more entry_of listed i l within ∙ ap (λ m. before ++ entry_of m ∷ []) (sym at) in
    grown ∙ ap (λ t. t ++ release_line (entry_of l)) so_far ∙ flat_map_more release_line [] before (entry_of l) ∙ ap (flat_map release_line) (sym entries)

-- all lines are there, and the last one, which reports how many there are
pub whole_listing : (listed : List ListedRelease) (i count : ℕ) (releases : Releases) (lines text : List ℕ) → length listed ≤ i → map entry_of listed ≡ releases → lines ≡ flat_map release_line (map entry_of (take i listed))
    → count ≡ length releases → text ≡ lines ++ count_line count → text ≡ listing releases
whole_listing listed i count releases lines text end entries so_far counted grown =
    let all : lines ≡ flat_map release_line releases = so_far ∙ ap (λ ls. flat_map release_line (map entry_of ls)) (take_all i listed end) ∙ ap (flat_map release_line) entries in
    grown ∙ (λ j. all j ++ count_line (counted j))
