-- What contracts read of the characters of a text that are to be bytes.
use Rattle.std.specs.Prelude.{◌≡◌, ℕ, Bool, true, false, List, ◌++◌, nat_lt, if◌then◌else◌, Option, Some, None}
use Rattle.std.specs.List.{list_all}

-- the numbers, if they are bytes
abbrev pub bytes_of : List ℕ → Option (List ℕ)
bytes_of ns = if list_all (λ n. nat_lt n 256) ns then Some ns else None

-- the characters are bytes and stand after those that were there, or they are not all bytes
abbrev pub IsAdded : Bool → List ℕ → List ℕ → List ℕ → Type 0
IsAdded true cs old new = (bytes_of cs ≡ Some cs) × (new ≡ old ++ cs)
IsAdded false cs old new = bytes_of cs ≡ None
