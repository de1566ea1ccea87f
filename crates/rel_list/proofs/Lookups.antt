-- What the map finds is what the entries have.
use Rattle.std.proofs.Common.{◌≡◌, ℕ, ◌+◌, zero, suc, add-one, Bool, true, false, cond, List, [], ◌∷◌, ◌++◌, map, take, drop, slice_get, Option, Some, None, String, string_bytes, refl, sym, ap, ◌∙◌, find}
use Rattle.std.specs.declared.alloc.Global.{Global}
use Rattle.std.specs.declared.hash.BuildHasherDefault.{BuildHasherDefault}
use Rattle.std.specs.declared.hash.FoldHasher.{FoldHasher}
use Rattle.std.specs.Map.{lookup, values_of, remove_entry}
use Rattle.std.specs.Option.{option_and_then, option_map, option_map_or}
use Rattle.std.specs.Str.{bytes_eq}
use Rattle.std.specs.String.{string_eq}
use Rattle.std.proofs.lemmas.List.{map_push}
use Rattle.std.proofs.lemmas.Map.Text.{hash_map_text_same}
use Rattle.indexmap.specs.IndexMap.{IndexMap, insert_entry, set_value_at}
use Rattle.indexmap.proofs.CallerLemmas.{insert_entry-new}
use Rattle.library.specs.InMemory.{shared_of}
use Rattle.rel_files.specs.Release.{Release, release_of}
use Rattle.relup_file.specs.Relup.{relup_of}
use Rattle.rel_list.specs.declared.listed.ListedRelease.{ListedRelease}
use Rattle.rel_list.specs.declared.status.Status.{Status}
use Rattle.rel_list.specs.declared.change.StatusChange.{StatusChange}
use Rattle.rel_list.specs.Releases.{Entry, status_of, release_at, relup_at, libraries_at}
use Rattle.rel_list.specs.Event.{with_statuses, without}
use Rattle.rel_list.specs.Change.{status_after, changed}
use Rattle.rel_list.specs.Keyed.{entry_of, entries_in, AreKeyed}

-- one more entry in front of both
in_front : (b c : Bool) (l : ListedRelease) (found : Option Entry) (kept : Option ListedRelease)
    → b ≡ c → found ≡ option_map entry_of kept
    → cond b (Some (entry_of l)) found ≡ option_map entry_of (cond c (Some l) kept)
in_front true true l found kept same rest = refl
in_front false false l found kept same rest = rest
in_front true false l found kept same rest = cc
in_front false true l found kept same rest = cc

-- the first entry of a version is what the map has at it
pub find-entries_in : (vsn : List ℕ) (ps : List (String Global × ListedRelease)) → AreKeyed ps
    → find (λ (e : Entry). bytes_eq vsn e.release.vsn) (entries_in ps) ≡ option_map entry_of (lookup (λ k. bytes_eq vsn (string_bytes k)) ps)
find-entries_in vsn [] keyed = refl
find-entries_in vsn (p ∷ ps) keyed =
    in_front _ _ p.1 _ _ (ap (bytes_eq vsn) (sym keyed.0)) (find-entries_in vsn ps keyed.1)

-- so its status is that of what the map has there
pub status_of-entries_in : (vsn : List ℕ) (ps : List (String Global × ListedRelease)) → AreKeyed ps
    → status_of vsn (entries_in ps) ≡ option_map (λ (l : ListedRelease). l.status) (lookup (λ k. bytes_eq vsn (string_bytes k)) ps)
status_of-entries_in vsn ps keyed =
    ap (option_map (λ (e : Entry). e.status)) (find-entries_in vsn ps keyed) ∙ twice (lookup (λ k. bytes_eq vsn (string_bytes k)) ps)
  where
    twice : (o : Option ListedRelease) → option_map (λ (e : Entry). e.status) (option_map entry_of o) ≡ option_map (λ (l : ListedRelease). l.status) o
    twice None = refl
    twice (Some l) = refl

-- and so is its release
pub release_at-entries_in : (vsn : List ℕ) (ps : List (String Global × ListedRelease)) → AreKeyed ps
    → release_at vsn (entries_in ps) ≡ option_map (λ (l : ListedRelease). release_of l.release) (lookup (λ k. bytes_eq vsn (string_bytes k)) ps)
release_at-entries_in vsn ps keyed =
    ap (option_map (λ (e : Entry). e.release)) (find-entries_in vsn ps keyed) ∙ twice (lookup (λ k. bytes_eq vsn (string_bytes k)) ps)
  where
    twice : (o : Option ListedRelease) → option_map (λ (e : Entry). e.release) (option_map entry_of o) ≡ option_map (λ (l : ListedRelease). release_of l.release) o
    twice None = refl
    twice (Some l) = refl

-- and so is its relup
pub relup_at-entries_in : (vsn : List ℕ) (ps : List (String Global × ListedRelease)) → AreKeyed ps
    → relup_at vsn (entries_in ps) ≡ option_and_then (λ (l : ListedRelease). option_map relup_of l.relup) (lookup (λ k. bytes_eq vsn (string_bytes k)) ps)
relup_at-entries_in vsn ps keyed =
    ap (option_and_then (λ (e : Entry). e.relup)) (find-entries_in vsn ps keyed) ∙ twice (lookup (λ k. bytes_eq vsn (string_bytes k)) ps)
  where
    twice : (o : Option ListedRelease)
        → option_and_then (λ (e : Entry). e.relup) (option_map entry_of o) ≡ option_and_then (λ (l : ListedRelease). option_map relup_of l.relup) o
    twice None = refl
    twice (Some l) = refl

-- and so are its libraries
pub libraries_at-entries_in : (vsn : List ℕ) (ps : List (String Global × ListedRelease)) → AreKeyed ps
    → libraries_at vsn (entries_in ps) ≡ option_map_or (λ (l : ListedRelease). map shared_of l.libraries.items) (lookup (λ k. bytes_eq vsn (string_bytes k)) ps) []
libraries_at-entries_in vsn ps keyed =
    ap (λ o. option_map_or (λ (e : Entry). e.libraries) o []) (find-entries_in vsn ps keyed) ∙ twice (lookup (λ k. bytes_eq vsn (string_bytes k)) ps)
  where
    twice : (o : Option ListedRelease)
        → option_map_or (λ (e : Entry). e.libraries) (option_map entry_of o) [] ≡ option_map_or (λ (l : ListedRelease). map shared_of l.libraries.items) o []
    twice None = refl
    twice (Some l) = refl

-- where no entry has the version, the map has nothing at it
pub nothing_at : (vsn : List ℕ) (ps : List (String Global × ListedRelease)) → AreKeyed ps → status_of vsn (entries_in ps) ≡ None
    → lookup (λ k. bytes_eq vsn (string_bytes k)) ps ≡ None
nothing_at vsn ps keyed unlisted =
    without (lookup (λ k. bytes_eq vsn (string_bytes k)) ps) (sym (status_of-entries_in vsn ps keyed) ∙ unlisted)
  where
    without : (o : Option ListedRelease) → option_map (λ (l : ListedRelease). l.status) o ≡ None → o ≡ None
    without None e = refl
    without (Some l) e = cc

-- the first release whose status passes a test, among the entries and as they are kept
pub first_release : (test : Status → Bool) (ls : List ListedRelease)
    → option_map (λ (e : Entry). e.release) (find (λ (e : Entry). test e.status) (map entry_of ls))
    ≡ option_map (λ (l : ListedRelease). release_of l.release) (find (λ (l : ListedRelease). test l.status) ls)
first_release test [] = refl
first_release test (l ∷ ls) = go (test l.status) (first_release test ls)
  where
    among : Option Entry
    among = find (λ (e : Entry). test e.status) (map entry_of ls)

    kept : Option ListedRelease
    kept = find (λ (k : ListedRelease). test k.status) ls

    go : (b : Bool) → option_map (λ (e : Entry). e.release) among ≡ option_map (λ (k : ListedRelease). release_of k.release) kept
        → option_map (λ (e : Entry). e.release) (cond b (Some (entry_of l)) among) ≡ option_map (λ (k : ListedRelease). release_of k.release) (cond b (Some l) kept)
    go true rest = refl
    go false rest = rest

-- the version of the current release, as it is kept and among the entries
pub first_version : (test : Status → Bool) (ls : List ListedRelease)
    → option_map (λ (l : ListedRelease). string_bytes l.release.vsn) (find (λ (l : ListedRelease). test l.status) ls)
    ≡ option_map (λ (e : Entry). e.release.vsn) (find (λ (e : Entry). test e.status) (map entry_of ls))
first_version test ls =
    twice (find (λ (l : ListedRelease). test l.status) ls) ∙ ap (option_map (λ (r : Release). r.vsn)) (sym (first_release test ls))
    ∙ once (find (λ (e : Entry). test e.status) (map entry_of ls))
  where
    twice : (o : Option ListedRelease)
        → option_map (λ (l : ListedRelease). string_bytes l.release.vsn) o ≡ option_map (λ (r : Release). r.vsn) (option_map (λ (l : ListedRelease). release_of l.release) o)
    twice None = refl
    twice (Some l) = refl

    once : (o : Option Entry) → option_map (λ (r : Release). r.vsn) (option_map (λ (e : Entry). e.release) o) ≡ option_map (λ (e : Entry). e.release.vsn) o
    once None = refl
    once (Some e) = refl

-- a further pair, at its version
pub AreKeyed-push : (ps : List (String Global × ListedRelease)) (k : String Global) (l : ListedRelease)
    → AreKeyed ps → string_bytes k ≡ string_bytes l.release.vsn → AreKeyed (ps ++ (k, l) ∷ [])
AreKeyed-push [] k l keyed same = (same, tt)
AreKeyed-push (p ∷ ps) k l keyed same = (keyed.0, AreKeyed-push ps k l keyed.1 same)

-- is a further entry
pub entries_in-push : (ps : List (String Global × ListedRelease)) (k : String Global) (l : ListedRelease)
    → entries_in (ps ++ (k, l) ∷ []) ≡ entries_in ps ++ entry_of l ∷ []
entries_in-push ps k l = ap (map entry_of) (map_push _ ps (k, l)) ∙ map_push entry_of (values_of ps) l

-- the map's entries, once a release of a new version is inserted
pub inserted : (m : IndexMap (String Global) ListedRelease (BuildHasherDefault FoldHasher)) (k : String Global) (l : ListedRelease)
    → AreKeyed m.entries → string_bytes k ≡ string_bytes l.release.vsn → status_of (string_bytes l.release.vsn) (entries_in m.entries) ≡ None
    → insert_entry string_eq m.entries k l ≡ m.entries ++ (k, l) ∷ []
inserted m k l keyed same unlisted =
    insert_entry-new string_eq m k l
    ((hash_map_text_same k (string_bytes l.release.vsn) m.entries (sym same)).0 ∙ nothing_at (string_bytes l.release.vsn) m.entries keyed unlisted)

-- the map's pairs, changed as far as here
abbrev pub changed_to : StatusChange → ℕ → List (String Global × ListedRelease) → List (String Global × ListedRelease)
changed_to c i ps = map (changed c) (take i ps) ++ drop i ps

-- the next pair is changed too
next_changed : (c : StatusChange) (i : ℕ) (ps : List (String Global × ListedRelease)) (l : ListedRelease)
    → slice_get (values_of (changed_to c i ps)) i ≡ Some l
    → set_value_at (changed_to c i ps) i (record l { status = status_after c (string_bytes l.release.vsn) l.status }) ≡ changed_to c (suc i) ps
next_changed c zero [] l at = cc
next_changed c zero (p ∷ ps) l at =
    let same : l ≡ p.1 = cc at in
    λ k. (p.0, record (same k) { status = status_after c (string_bytes (same k).release.vsn) (same k).status }) ∷ ps
next_changed c (suc i) [] l at = cc
next_changed c (suc i) (p ∷ ps) l at = ap (λ qs. changed c p ∷ qs) (next_changed c i ps l at)

pub changed-more : (c : StatusChange) (i : ℕ) (ps qs : List (String Global × ListedRelease)) (l : ListedRelease) (s : Status)
    → qs ≡ changed_to c i ps → slice_get (values_of qs) i ≡ Some l → s ≡ status_after c (string_bytes l.release.vsn) l.status
    → set_value_at qs i (record l { status = s }) ≡ changed_to c (i + 1) ps
changed-more c i ps qs l s so_far at is =
    (λ k. set_value_at (so_far k) i (record l { status = is k }))
    ∙ next_changed c i ps l (ap (λ rs. slice_get (values_of rs) i) (sym so_far) ∙ at)
    ∙ ap (λ n. changed_to c n ps) (sym (add-one i))

-- where there is no next pair, all are changed
none_left : (c : StatusChange) (i : ℕ) (ps : List (String Global × ListedRelease)) → slice_get (values_of (changed_to c i ps)) i ≡ None
    → changed_to c i ps ≡ changed_to c (suc i) ps
none_left c zero [] past = refl
none_left c zero (p ∷ ps) past = cc
none_left c (suc i) [] past = refl
none_left c (suc i) (p ∷ ps) past = ap (λ qs. changed c p ∷ qs) (none_left c i ps past)

pub changed-all : (c : StatusChange) (i : ℕ) (ps qs : List (String Global × ListedRelease)) → qs ≡ changed_to c i ps → slice_get (values_of qs) i ≡ None
    → qs ≡ changed_to c (i + 1) ps
changed-all c i ps qs so_far past =
    so_far ∙ none_left c i ps (ap (λ rs. slice_get (values_of rs) i) (sym so_far) ∙ past) ∙ ap (λ n. changed_to c n ps) (sym (add-one i))

-- a change of statuses leaves each release at its version
pub AreKeyed-changed : (c : StatusChange) (ps : List (String Global × ListedRelease)) → AreKeyed ps → AreKeyed (map (changed c) ps)
AreKeyed-changed c [] keyed = tt
AreKeyed-changed c (p ∷ ps) keyed = (keyed.0, AreKeyed-changed c ps keyed.1)

-- and is that of the entries
pub entries_in-changed : (c : StatusChange) (ps : List (String Global × ListedRelease)) → entries_in (map (changed c) ps) ≡ with_statuses (status_after c) (entries_in ps)
entries_in-changed c [] = refl
entries_in-changed c (p ∷ ps) = ap (λ es. entry_of (changed c p).1 ∷ es) (entries_in-changed c ps)

-- without a key, the rest stand at their versions
pub AreKeyed-removed : (v : List ℕ) (ps : List (String Global × ListedRelease)) → AreKeyed ps → AreKeyed (remove_entry (λ k. bytes_eq v (string_bytes k)) ps)
AreKeyed-removed v [] keyed = tt
AreKeyed-removed v (p ∷ ps) keyed = go (bytes_eq v (string_bytes p.0)) (AreKeyed-removed v ps keyed.1)
  where
    rest : List (String Global × ListedRelease)
    rest = remove_entry (λ k. bytes_eq v (string_bytes k)) ps

    go : (b : Bool) → AreKeyed rest → AreKeyed (cond b ps (p ∷ rest))
    go true kept = keyed.1
    go false kept = (keyed.0, kept)

-- and the entries are those without the release of that version
pub entries_in-removed : (v : List ℕ) (ps : List (String Global × ListedRelease)) → AreKeyed ps
    → entries_in (remove_entry (λ k. bytes_eq v (string_bytes k)) ps) ≡ without v (entries_in ps)
entries_in-removed v [] keyed = refl
entries_in-removed v (p ∷ ps) keyed =
    go (bytes_eq v (string_bytes p.0)) (entries_in-removed v ps keyed.1)
    ∙ ap (λ b. cond b (entries_in ps) (entry_of p.1 ∷ without v (entries_in ps))) (ap (bytes_eq v) keyed.0)
  where
    rest : List (String Global × ListedRelease)
    rest = remove_entry (λ k. bytes_eq v (string_bytes k)) ps

    go : (b : Bool) → entries_in rest ≡ without v (entries_in ps)
        → entries_in (cond b ps (p ∷ rest)) ≡ cond b (entries_in ps) (entry_of p.1 ∷ without v (entries_in ps))
    go true kept = refl
    go false kept = ap (λ es. entry_of p.1 ∷ es) kept
