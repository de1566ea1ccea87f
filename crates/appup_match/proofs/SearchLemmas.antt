-- The search as far as it has come.
use Rattle.std.proofs.Common.{◌≡◌, ℕ, suc, ◌+◌, ◌<◌, List, ◌∷◌, length, map, drop, get_or, drop-cons, false, Some, sym, ap, ◌∙◌, subst, arith}
use Rattle.appup_file.specs.declared.appup.AppupEntry.{AppupEntry}
use Rattle.appup_file.specs.Instruction.{entry_of, version_of, AppupEntryForm}
use Rattle.appup_match.specs.Match.{verdict, matching_from, ComesToFault, VersionHas}
use Rattle.appup_match.specs.declared.fault.PatternFault.{PatternFault}

-- what holds where the search goes on from this place
abbrev pub Kept : List ℕ → List AppupEntry → ℕ → Type 0
Kept vsn es i =
    (matching_from i vsn (map entry_of (drop i es)) ≡ matching_from 0 vsn (map entry_of es))
    × ((f : PatternFault) (n : ℕ) → ComesToFault f vsn (map entry_of (drop i es)) n → ComesToFault f vsn (map entry_of es) (i + n))

-- the entries from this one on
from_here : (es : List AppupEntry) (i : ℕ) (e : AppupEntry) → i < length es → e ≡ get_or es i e →
    map entry_of (drop i es) ≡ entry_of e ∷ map entry_of (drop (i + 1) es)
from_here es i e within at =
    let next : suc i ≡ i + 1 = omega arith in
    ap (map entry_of) (drop-cons es i e within ∙ ap (λ x. x ∷ drop (suc i) es) (sym at)) ∙ ap (λ k. entry_of e ∷ map entry_of (drop k es)) next

-- past an entry that isn't for the version
pub past : (vsn : List ℕ) (es : List AppupEntry) (i : ℕ) (e : AppupEntry) → i < length es → e ≡ get_or es i e → verdict vsn (version_of e.vsn) ≡ Some false →
    Kept vsn es i → Kept vsn es (i + 1)
past vsn es i e within at missed kept =
    let here = from_here es i e within at in
    let first = sym (ap (matching_from i vsn) here) ∙ kept.0 in
    let same : (n : ℕ) → i + suc n ≡ i + 1 + n = λ n. omega arith in (
      rw missed at first,
      λ f n h. let P : List AppupEntryForm → Type 0 = λ fs. ComesToFault f vsn fs (suc n) in
          let Q : ℕ → Type 0 = ComesToFault f vsn (map entry_of es) in
          subst Q (same n) (kept.1 f (suc n) (subst P (sym here) (missed, h))),
    )

-- at an entry whose pattern has a fault
pub comes_to : (f : PatternFault) (vsn : List ℕ) (es : List AppupEntry) (i : ℕ) (e : AppupEntry) → i < length es → e ≡ get_or es i e → VersionHas f (version_of e.vsn) →
    Kept vsn es i → ComesToFault f vsn (map entry_of es) i
comes_to f vsn es i e within at has kept =
    let here = from_here es i e within at in
    let P : List AppupEntryForm → Type 0 = λ fs. ComesToFault f vsn fs 0 in
    let Q : ℕ → Type 0 = ComesToFault f vsn (map entry_of es) in
    let same : i + 0 ≡ i = omega arith in
    subst Q same (kept.1 f 0 (subst P (sym here) has))
