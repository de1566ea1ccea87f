-- The texts that files name things by.
use Rattle.std.specs.Prelude.{◌≡◌, ℕ, Bool, ◌||◌, ◌&&◌, IsTrue, List, [], ◌∷◌, ◌++◌, length, ◌==◌, Contains}
use Rattle.std.specs.List.{list_all}
use Rattle.erl_term.specs.Lexing.{is_in}

-- a letter, a digit, or one of _ @ . -
abbrev pub is_name_byte : ℕ → Bool
is_name_byte x = is_in 97 122 x || is_in 65 90 x || is_in 48 57 x || x == 95 || x == 64 || x == 46 || x == 45

-- the name of an application or a module
abbrev pub is_name : List ℕ → Bool
is_name s = is_in 1 255 (length s) && list_all is_name_byte s

-- a text of 1 to 62 characters, none of them below the lowest that may stand in it, and none above ~
abbrev pub is_text : ℕ → List ℕ → Bool
is_text lowest s = is_in 1 62 (length s) && list_all (is_in lowest 0x7E) s

-- the text of a version
abbrev pub IsVersion : List ℕ → Type 0
IsVersion s = IsTrue (is_text 0x21 s)

-- the name of a release, which may have blanks
abbrev pub IsReleaseName : List ℕ → Type 0
IsReleaseName s = IsTrue (is_text 0x20 s)

abbrev pub IsName : List ℕ → Type 0
IsName s = IsTrue (is_name s)

-- no name stands twice
abbrev pub AreDistinct : List (List ℕ) → Type 0
AreDistinct [] = Unit {0}
AreDistinct (n ∷ ns) = (Contains ns n → ⊥) × AreDistinct ns

-- the first name that stands a second time
pub record IsFirstTwice (ns : List (List ℕ)) (n : List ℕ) : Type 0 where
  pub before : List (List ℕ)
  pub after : List (List ℕ)
  pub is : ns ≡ before ++ (n ∷ after)
  pub distinct : AreDistinct before
  pub twice : Contains before n
