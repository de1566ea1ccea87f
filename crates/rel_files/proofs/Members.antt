-- Members of a list or tuple, as terms and as values.
use Rattle.std.proofs.Common.{◌≡◌, suc, List, [], ◌∷◌, length, refl, ap}
use Rattle.erl_term.specs.declared.term.Term.{Term}
use Rattle.erl_term.specs.Value.{members_of}
use Rattle.rel_files.specs.Sketch.{count}

pub count-members_of : (ts : List Term) → count (members_of ts) ≡ length ts
count-members_of [] = refl
count-members_of (t ∷ ts) = ap suc (count-members_of ts)
