-- What a name is: of a channel, a variable or a procedure, and of a node.
use Rattle.std.specs.Prelude.{◌≡◌, ℕ, ◌≤◌, ◌||◌, ◌&&◌, ◌==◌, nat_le, Bool, true, false, List, [], ◌∷◌, length}
use Rattle.std.specs.List.{list_all, list_any}
use Rattle.std.specs.Str.{bytes_eq}
use lib.Chars.{codes}

-- the bytes from low to high
abbrev pub between : ℕ → ℕ → ℕ → Bool
between low high b = nat_le low b && nat_le b high

-- a letter of either case
abbrev pub letter : ℕ → Bool
letter b = between 97 122 b || between 65 90 b

abbrev pub digit : ℕ → Bool
digit b = between 48 57 b

-- what the words of a program are made of: letters, digits and the underscore
abbrev pub word_part : ℕ → Bool
word_part b = letter b || digit b || b == 95

-- what a node's name is made of: the same, and the dot
abbrev pub node_part : ℕ → Bool
node_part b = word_part b || b == 46

abbrev pub begins_with_letter : List ℕ → Bool
begins_with_letter [] = false
begins_with_letter (b ∷ bs) = letter b

-- the words that no channel, variable or procedure is named by
abbrev pub keywords : List (List ℕ)
keywords = codes "in" ∷ codes "out" ∷ codes "chan" ∷ codes "var" ∷ codes "begin" ∷ codes "end" ∷ codes "skip"
    ∷ codes "proc" ∷ codes "call" ∷ []

abbrev pub is_keyword : List ℕ → Bool
is_keyword bs = list_any (bytes_eq bs) keywords

-- a name in a program: at most 24 letters, digits and underscores, the first a letter, and no keyword
pub record IsName (bs : List ℕ) : Type 0 where
  pub short : length bs ≤ 24
  pub first : begins_with_letter bs ≡ true
  pub parts : list_all word_part bs ≡ true
  pub free : is_keyword bs ≡ false

-- the name of a node of a net: at most 32 letters, digits, underscores and dots, the first a letter
pub record IsNodeName (bs : List ℕ) : Type 0 where
  pub short : length bs ≤ 32
  pub first : begins_with_letter bs ≡ true
  pub parts : list_all node_part bs ≡ true
