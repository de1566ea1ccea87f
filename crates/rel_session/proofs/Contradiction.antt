-- What follows from a contradiction: anything.
use Rattle.std.proofs.Common.{◌≡◌, true, false}

pub never : {A : Type 0} → false ≡ true → A
never e = absurd cc
