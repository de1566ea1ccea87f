-- How much a release may have.
use Rattle.std.specs.Prelude.{ℕ, Bool, length, nat_le}
use Rattle.rel_files.specs.Release.{Release}

-- how many applications a release has at most
abbrev pub most_applications : ℕ
most_applications = 64

-- a release has no more applications than it may have
abbrev pub is_small : Release → Bool
is_small r = nat_le (length r.apps) most_applications
