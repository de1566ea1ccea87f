-- What a release brings of its relup: one that it can have, whose term keeps within limits.
use Rattle.std.proofs.Common.{◌≡◌, ℕ, List, [], ◌∷◌, Option, Some, None, IfSome, Result, Ok, Err, refl, sym, subst}
use Rattle.std.specs.Result.{result_unwrap_or}
use Rattle.erl_term.specs.Within.{IsWithin}
use Rattle.erl_term.proofs.Limits.{keeps_limits}
use Rattle.rel_check.specs.Relup.{relup_mismatch}
use Rattle.rel_check.specs.declared.relup.RelupMismatch.{RelupMismatch}
use Rattle.rel_files.specs.OneTermFile.{HasFileTerm}
use Rattle.relup_file.specs.Form.{IsRelupTerm}
use Rattle.erl_term.specs.Value.{Value}
use Rattle.rel_unpack.specs.Refusal.{Refusal}
use Rattle.rel_unpack.specs.Relup.{RelupFound, RelupIn, relup_path, unless_mismatch}
use Rattle.rel_unpack.specs.Source.{Source}
use Rattle.rel_unpack.specs.Unpacking.{Brought, BroughtAt, RelupRead, brought_with}

-- The term says the relup, which a release of this version can have.
pub record IsRelupOf (vsn : List ℕ) (f : RelupFound) : Type 0 where
  pub says : IsRelupTerm f.term f.relup
  pub allowed : relup_mismatch vsn f.relup ≡ None
  pub within : IsWithin 65 f.term

pub term_within : (bytes : List ℕ) (v : Value) → HasFileTerm bytes v → IsWithin 65 v
term_within bytes v (r, reads, is) = subst (IsWithin 65) is (keeps_limits 64 bytes (r ∷ []) reads).0

of_file : (source : Source) (path vsn : List ℕ) (f : RelupFound) → RelupIn source path vsn (Ok f) → IsRelupOf vsn f
of_file source path vsn f (found, (bytes, reads, (has, says)), is) = go (relup_mismatch vsn found.relup) refl is
  where
    go : (why : Option RelupMismatch) → relup_mismatch vsn found.relup ≡ why → Ok f ≡ unless_mismatch path found why → IsRelupOf vsn f
    go None allowed taken =
        let same : f ≡ found = cc in
        subst (IsRelupOf vsn) (sym same) (record { says = says; allowed = allowed; within = term_within bytes found.term has })
    go (Some why) allowed taken = absurd cc

of_read : (source : Source) (path vsn : List ℕ) (why : Option Refusal) (read : Result (Option RelupFound) Refusal) → RelupRead source path vsn why read
    → IfSome (result_unwrap_or read None) (IsRelupOf vsn)
of_read source path vsn why (Err refused) reads = tt
of_read source path vsn why (Ok None) reads = tt
of_read source path vsn None (Ok (Some f)) reads = of_file source (relup_path path) vsn f reads
of_read source path vsn (Some why) (Ok (Some f)) reads = absurd cc

some_within : (vsn : List ℕ) (o : Option RelupFound) → IfSome o (IsRelupOf vsn) → IfSome o (λ (f : RelupFound). IsWithin 65 f.term)
some_within vsn None of = tt
some_within vsn (Some f) of = of.within

pub read_within : (source : Source) (path vsn : List ℕ) (why : Option Refusal) (read : Result (Option RelupFound) Refusal) → RelupRead source path vsn why read
    → IfSome (result_unwrap_or read None) (λ (f : RelupFound). IsWithin 65 f.term)
read_within source path vsn why read reads = some_within vsn (result_unwrap_or read None) (of_read source path vsn why read reads)

pub brought_relup : (source : Source) (path : List ℕ) (b : Brought) → BroughtAt source path (Ok b) → IfSome b.relup (IsRelupOf b.found.release.vsn)
brought_relup source path b (f, found, (ls, why, gives, (read, reads, is))) =
    let same : b ≡ brought_with f ls why read = cc in
    subst (λ (x : Brought). IfSome x.relup (IsRelupOf x.found.release.vsn)) (sym same) (of_read source path f.release.vsn why read reads)
