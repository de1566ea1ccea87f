-- What the path of a release brings reports what is within a line.
use Rattle.std.proofs.Common.{◌≡◌, ℕ, ◌-◌, true, not, zero, suc, List, [], ◌∷◌, take, length, codes, Option, Some, None, Result, Ok, Err, refl}
use Rattle.std.specs.Prelude.{◌==◌}
use Rattle.std.specs.List.{AllByRecursion, suffix_len}
use Rattle.std.specs.Result.{result_err}
use Rattle.std.proofs.lemmas.Bool.{and_parts, and_from}
use Rattle.erl_term.specs.Lines.{is_one_line}
use Rattle.erl_term.proofs.Lines.{append_line}
use Rattle.library.specs.Library.{Library}
use Rattle.rel_check.specs.Relup.{relup_mismatch}
use Rattle.rel_check.specs.declared.relup.RelupMismatch.{RelupMismatch}
use Rattle.rel_check.specs.declared.relup.RelupMismatch.TheVariants.{TooMany, OtherVersion}
use Rattle.rel_unpack.specs.Refusal.{Refusal}
use Rattle.rel_unpack.specs.Release.{Found, ReleaseAt}
use Rattle.rel_unpack.specs.Relup.{RelupAt, RelupFound, RelupIn, folder_of, relup_form, relup_path, unless_mismatch}
use Rattle.rel_unpack.specs.Source.{Source, FileSays}
use Rattle.rel_unpack.specs.Unpacking.{Brought, BroughtAt, RelupRead, WithFiles, brought_with}
use Rattle.rel_unpack.proofs.LineLibraries.{IsLineLibrary, good_unpacking}
use Rattle.rel_unpack.proofs.LineOutcomes.{AreGood, IsGood, IsLineFound, IsSaid, OrNone, ReportsLine, good_file, good_outcome, good_release, good_then, good_where_there}

-- The path of a relup is a line where that of its release is one.
take_line : (n : ℕ) (s : List ℕ) → is_one_line s ≡ true → is_one_line (take n s) ≡ true
take_line zero s line = refl
take_line (suc n) [] line = refl
take_line (suc n) (b ∷ s) line =
    let (here, more) = and_parts (not (b == 10)) (is_one_line s) line in
    and_from (not (b == 10)) (is_one_line (take n s)) here (take_line n s more)

relup_path_line : (path : List ℕ) → is_one_line path ≡ true → is_one_line (relup_path path) ≡ true
relup_path_line path line = append_line (folder_of path) (codes "relup") (take_line (length path - suffix_len (λ b. not (b == 47)) path) path line) refl

-- Whatever a relup says, it needs no line here.
abbrev IsAny : RelupFound → Type 0
IsAny f = Unit {0}

mismatch_line : (path : List ℕ) → is_one_line path ≡ true → (f : RelupFound) (why : Option RelupMismatch) → IsGood IsAny (unless_mismatch path f why)
mismatch_line path line f None = tt
mismatch_line path line f (Some TooMany) = tt
mismatch_line path line f (Some OtherVersion) = line

good_relup : (source : Source) (path vsn : List ℕ) → is_one_line path ≡ true → AreGood (RelupAt source path vsn) (OrNone IsAny)
good_relup source path vsn whole =
    let there = relup_path path in
    let line = relup_path_line path whole in
    good_where_there source there (RelupIn source there vsn) IsAny
    (good_then (FileSays relup_form source there) _ (IsSaid relup_form source there line) IsAny (good_file relup_form source there line)
    (λ f said. good_outcome IsAny _ (mismatch_line there line f (relup_mismatch vsn f.relup))))

good_relup_read : (source : Source) (path vsn : List ℕ) (why : Option Refusal) → is_one_line path ≡ true → AreGood (RelupRead source path vsn why) (OrNone IsAny)
good_relup_read source path vsn None line = good_relup source path vsn line
good_relup_read source path vsn (Some why) line = good_outcome (OrNone IsAny) (Ok None) tt

refusal_line : (read : Result (Option RelupFound) Refusal) → IsGood (OrNone IsAny) read → OrNone ReportsLine (result_err read)
refusal_line (Ok relup) good = tt
refusal_line (Err why) good = good

-- What is brought of such a path: the release, the names of its libraries, and both refusals.
pub record IsLineBrought (b : Brought) : Type 0 where
  pub found : IsLineFound b.found
  pub libraries : AllByRecursion (λ (l : Library). is_one_line l.app.name ≡ true) b.libraries
  pub refusal : OrNone ReportsLine b.refusal
  pub relup_refusal : OrNone ReportsLine b.relup_refusal

names_of_libraries : (ls : List Library) → AllByRecursion IsLineLibrary ls → AllByRecursion (λ (l : Library). is_one_line l.app.name ≡ true) ls
names_of_libraries [] all = tt
names_of_libraries (l ∷ ls) all = (all.0.own, names_of_libraries ls all.1)

pub good_brought : (source : Source) (path : List ℕ) → is_one_line path ≡ true → AreGood (BroughtAt source path) IsLineBrought
good_brought source path line =
    good_then (ReleaseAt source path) (WithFiles source path) IsLineFound IsLineBrought (good_release source path line) rest
  where
    rest : (f : Found) → IsLineFound f → AreGood (WithFiles source path f) IsLineBrought
    rest f lines r (ls, why, gives, (read, reads, is)) =
        let (all, reported) = good_unpacking source f.release.apps ls why lines.apps gives in
        let good = good_relup_read source path f.release.vsn why line read reads in
        let all_lines : IsLineBrought (brought_with f ls why read) =
        record { found = lines; libraries = names_of_libraries ls all; refusal = reported; relup_refusal = refusal_line read good } in
        good_outcome IsLineBrought (Ok (brought_with f ls why read)) all_lines r is
