-- Where names stand, as a table in the order of the names has it.
use Rattle.std.specs.Prelude.{◌≡◌, ℕ, ◌<◌, List, [], length, slice_index_or, Contains, Option, MatchOption}
use Rattle.std.specs.Borrow.{Bor}
use Rattle.std.specs.BTreeMap.{BTreeMap, get_by}
use Rattle.std.specs.Cmp.Lexicographic.{slice_cmp}
use Rattle.std.specs.Ordering.{nat_cmp}

-- the name is at this index
pub record IsNodePlace (names : List (List ℕ)) (name : List ℕ) (place : ℕ) : Type 0 where
  pub within : place < length names
  pub is : slice_index_or names place [] ≡ name

abbrev pub Places : Type 0
Places = BTreeMap (Bor (List ℕ)) ℕ

abbrev pub place_in_table : Places → List ℕ → Option ℕ
place_in_table places name = get_by (λ key. slice_cmp nat_cmp name key.now) places

-- at each of the names the table has a place where it stands, and at no other name a place
abbrev pub IsNameTable : List (List ℕ) → Places → Type 0
IsNameTable names places = (name : List ℕ) →
    MatchOption (place_in_table places name) (¬ Contains names name) (IsNodePlace names name)
