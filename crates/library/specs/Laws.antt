-- Laws of libraries and of their terms.
use Rattle.std.specs.Prelude.{◌≡◌, ◌↔◌, IsTrue}
use Rattle.library.specs.Library.{Library, IsLibrary, library_term, is_same_library}

-- A term is that of one library at most.
abbrev pub SaysOneLibrary : Type 0
SaysOneLibrary = (l k : Library) → IsLibrary l → IsLibrary k → library_term l ≡ library_term k → l ≡ k

-- Two libraries are the same where they are equal.
abbrev pub SameAreEqual : Type 0
SameAreEqual = (l k : Library) → IsLibrary l → IsLibrary k → IsTrue (is_same_library l k) ↔ (l ≡ k)
