-- The term in which an image writes a release: that of a file which says it.
use Rattle.std.specs.Prelude.{ℕ, List, [], ◌∷◌, ◌++◌, map, codes, Option, None, Some}
use Rattle.erl_term.specs.Value.{Value}
use Rattle.erl_term.specs.Value.Value.{atom}
use Rattle.rel_files.specs.declared.release.StartType.{StartType}
use Rattle.rel_files.specs.declared.release.StartType.TheVariants.{Permanent}
use Rattle.rel_files.specs.Form.{start_word}
use Rattle.rel_files.specs.Release.{Application, Release}
use Rattle.rel_files.specs.Terms.{tuple_of, list_of, pair_term, text_term, atoms_term}

-- the start type of an application, which is left out where it is permanent
abbrev pub start_members : StartType → List Value
start_members Permanent = []
start_members s = atom (start_word s) ∷ []

-- the list of the applications that are included in it, where the release says so
abbrev pub included_members : Option (List (List ℕ)) → List Value
included_members None = []
included_members (Some names) = atoms_term names ∷ []

-- {App, Vsn}, {App, Vsn, Type}, {App, Vsn, IncApps} or {App, Vsn, Type, IncApps}
abbrev pub application_term : Application → Value
application_term a = tuple_of (atom a.name ∷ text_term a.vsn ∷ (start_members a.start ++ included_members a.included))

-- {release, {Name, Vsn}, {erts, EVsn}, [AppSpec]}
abbrev pub file_term : Release → Value
file_term r =
    tuple_of (atom (codes "release")
    ∷ pair_term (text_term r.name) (text_term r.vsn)
    ∷ pair_term (atom (codes "erts")) (text_term r.erts)
    ∷ list_of (map application_term r.apps) ∷ [])
