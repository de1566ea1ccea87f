-- What is read after a word, as the instruction that it is.
use Rattle.std.proofs.Common.{◌≡◌, Option, None, Some, MatchOption, IsSomeAnd}
use Rattle.std.specs.Option.{option_map}

pub wrapped : {A F I J : Type 0} (shown : I → J) (view : A → F) (make : A → I) (form : F → J) → ((a : A) → shown (make a) ≡ form (view a)) → (o : Option A) (r : Option I)
    → MatchOption o (r ≡ None) (λ a. IsSomeAnd r (λ i. i ≡ make a)) → option_map shown r ≡ option_map form (option_map view o)
wrapped shown view make form same None r is = rw is
wrapped shown view make form same (Some a) None is = absurd is
wrapped shown view make form same (Some a) (Some i) is = rw (is, same a)
