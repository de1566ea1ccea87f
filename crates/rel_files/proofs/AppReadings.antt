-- What a file says, from its one term.
use Rattle.std.proofs.Common.{◌≡◌, ◌≢◌, ℕ, List, Result, Ok, Err, Option, Some, codes, IfOk, IfErr, inr, ap, sym}
use Rattle.std.specs.Option.{option_map, option_and_then}
use Rattle.erl_term.specs.Value.{Value}
use Rattle.rel_files.specs.declared.fault.FileFault.{FileFault}
use Rattle.rel_files.specs.declared.fault.FileFault.TheVariants.{NoMemory}
use Rattle.rel_files.specs.OneTermFile.{HasTermAt}
use Rattle.rel_files.specs.Fault.{fault_of}
use Rattle.rel_files.proofs.OneTermFile.{has_term}
use Rattle.rel_files.proofs.KindFiles.{never_of_term}
use Rattle.rel_files.specs.declared.app.App.{App}
use Rattle.rel_files.specs.AppParts.{Entries, Contents, value_at, vsn_in, modules_at, top_at, contents, contents_in}
use Rattle.rel_files.specs.AppFile.{Specification, app_files, with_term, specification_in, IsAppTerm, SaysApp, IsTermFault, IsAppFault}
use Rattle.rel_files.specs.AppInMemory.{specification_of}

-- what keys say, from what each of them says
pub of_its_keys : (e : Entries) (name vsn : List ℕ) (modules : List (List ℕ)) (top : Option (List ℕ)) → name ≡ e.name → Some vsn ≡ vsn_in e.pairs
    → Some modules ≡ modules_at (value_at (codes "modules") e.pairs) → Some top ≡ top_at (value_at (codes "mod") e.pairs)
    → Some (record { name = name; vsn = vsn; modules = modules; top = top }) ≡ contents e
of_its_keys e name vsn modules top name_is vsn_is modules_is top_is =
    let said : Option (List ℕ) → Option (List (List ℕ)) → Option (Option (List ℕ)) → List ℕ → Option Contents =
    λ v m t n. option_and_then (λ vsn. option_and_then (λ modules. option_map (λ top. record { name = n; vsn = vsn; modules = modules; top = top }) t) m) v in
    λ j. said (vsn_is j) (modules_is j) (top_is j) (name_is j)

-- what a term of the shape says
pub read : (v : Value) (c : Contents) → Some c ≡ contents_in v → specification_in v ≡ Some (with_term v c)
read v c some = sym (ap (option_map (with_term v)) some)

-- a term that says an application has no fault: out of memory is none
pub only_memory : (v : Value) (at : ℕ) (a : Specification) (f : FileFault) → IsAppTerm v a → (f ≢ NoMemory → IsTermFault v at f) → f ≡ NoMemory
only_memory v at a NoMemory is fault = λ i. NoMemory
only_memory v at a f is fault = absurd (never_of_term app_files v at a (fault_of f) is (fault (λ same. cc)))

-- what its term says, a file says
pub of_a_file : (r : Result App FileFault) (bytes : List ℕ) (at : ℕ) (v : Value) → HasTermAt bytes at v
    → IfOk r (λ app. IsAppTerm v (specification_of app)) → IfOk r (λ app. SaysApp bytes (specification_of app))
of_a_file (Ok app) bytes at v has is = (v, has_term bytes at v has, is)
of_a_file (Err f) bytes at v has is = tt

pub fault_of_a_file : (r : Result App FileFault) (bytes : List ℕ) (at : ℕ) (v : Value) → HasTermAt bytes at v
    → IfErr r (λ f. f ≢ NoMemory → IsTermFault v at f) → IfErr r (λ f. f ≢ NoMemory → IsAppFault bytes f)
fault_of_a_file (Ok app) bytes at v has fault = tt
fault_of_a_file (Err f) bytes at v has fault = λ other. inr (at, v, has, fault other)
