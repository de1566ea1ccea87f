-- What holds of each list that records make.
use Rattle.std.proofs.Common.{◌≡◌, ℕ, List, [], ◌∷◌, Option, Some, sym, subst}
use Rattle.std.specs.List.{AllByRecursion}
use Rattle.erl_term.specs.Value.{Value, Values}
use Rattle.erl_term.specs.Value.Values.{no_values, value}
use Rattle.rel_files.specs.File.{IsReleaseTerm}
use Rattle.rel_files.specs.Release.{Release}
use Rattle.relup_file.specs.Relup.{RelupForm}
use Rattle.library.specs.Library.{Library, IsLibrary}
use Rattle.library.proofs.TermCases.{are_libraries}
use Rattle.rel_list.specs.Releases.{Releases}
use Rattle.rel_list.specs.Event.{step}
use Rattle.rel_list.specs.Event.Event.{removed}
use Rattle.rel_records.specs.Lists.{added_by, assign_all, made_by, Makes, MakesFrom}
use Rattle.rel_records.specs.Reading.{AreImaged, Says, StandsForRelup}
use Rattle.rel_records.specs.Record.{Assignment, Imaged, Record, makes, adds, assigns, removes, images}
use Rattle.rel_records.proofs.InvariantLemmas.{IsOf, kept_behind}
use Rattle.rel_records.proofs.RecordPlaces.{taken_so}

-- terms say the release and its relup, if it has one
pub record AreSaid (r : Release) (o : Option RelupForm) : Type 0 where
  pub rel : Value
  pub last : Value
  pub release : IsReleaseTerm rel r
  pub relup : StandsForRelup last o

each_said : (vs : Values) (xs : List Imaged) → AreImaged vs xs → AllByRecursion (λ (x : Imaged). AreSaid x.release x.relup) xs
each_said no_values [] are = tt
each_said no_values (x ∷ xs) are = absurd are
each_said (value v vs) [] are = absurd are
each_said (value v vs) (x ∷ xs) are = (record { rel = are.0.rel; last = are.0.last; release = are.0.release; relup = are.0.relup }, each_said vs xs are.1)

-- the releases of a record that a term says are said so, and its libraries are some
said_of : (v : Value) (r : Record) → Says v r → IsOf AreSaid IsLibrary r
said_of v (makes r ls o) b = (record { rel = b.rel; last = b.last; release = b.release; relup = b.relup }, are_libraries b.libs ls b.libraries)
said_of v (adds r ls o) b = (record { rel = b.rel; last = b.last; release = b.release; relup = b.relup }, are_libraries b.libs ls b.libraries)
said_of v (images xs ls) s = (each_said s.rows xs s.releases, are_libraries s.libs ls s.libraries)
said_of v (assigns given) says = tt
said_of v (removes w) says = tt

module _ (P : Releases → Type 0)
    (first : (r : Release) (ls : List Library) (o : Option RelupForm) (es next : Releases) → AreSaid r o → AllByRecursion IsLibrary ls → made_by r ls o es ≡ Some next → P es → P next)
    (further : (r : Release) (ls : List Library) (o : Option RelupForm) (es next : Releases) → AreSaid r o → AllByRecursion IsLibrary ls → added_by r ls o es ≡ Some next → P es → P next)
    (statuses : (given : List Assignment) (es next : Releases) → assign_all given es ≡ Some next → P es → P next)
    (left : (v : List ℕ) (es next : Releases) → step (removed v) es ≡ Some next → P es → P next) where
  kept_from : (format : ℕ) (es : Releases) (bodies : List (List ℕ)) (end : Releases) → MakesFrom format es bodies end → P es → P end
  kept_from format es [] end is holds = subst P (sym is) holds
  kept_from format es (body ∷ bodies) end (r, next, spelled, taken, rest) holds =
      kept_from format next bodies end rest
      (kept_behind AreSaid IsLibrary P first further statuses left r es next (said_of spelled.term r spelled.says) (taken_so format r es next taken) holds)

  -- what each record keeps holds of each list that records make
  pub kept_made : P [] → (format : ℕ) (bodies : List (List ℕ)) (es : Releases) → Makes format bodies es → P es
  kept_made holds format bodies es makes_it = kept_from format [] bodies es makes_it.0 holds
