-- Names as pairs of numbers, by which a table finds them.
use Rattle.std.specs.Prelude.{◌≡◌, ℕ, ◌+◌, ◌*◌, ◌≤◌, nat_eq, List, [], ◌∷◌, length, Option, None, Some, MatchOption, Contains, slice_get, take, drop}
use Rattle.std.specs.BTreeMap.{BTreeMap, get}
use Rattle.std.specs.declared.cmp.Ordering.{Ordering}
use Rattle.std.specs.Ordering.{nat_cmp, ordering_then}
use Rattle.indexmap.specs.IndexMap.{IndexMap, get as value_at}
use Rattle.chp_base.specs.Names.{IsNodeName}

-- the number whose digits to the base 256 are the bytes, the lowest first
abbrev pub packed : List ℕ → ℕ
packed [] = 0
packed (b ∷ bs) = b + 256 * packed bs

-- the first 16 bytes of a name, and its others
abbrev pub name_key : List ℕ → ℕ × ℕ
name_key name = (packed (take 16 name), packed (drop 16 name))

-- numbers at pairs of numbers, in the order of these
abbrev pub Places : Type 0
Places = BTreeMap (ℕ × ℕ) ℕ

abbrev pub key_cmp : ℕ × ℕ → ℕ × ℕ → Ordering
key_cmp a b = ordering_then (nat_cmp a.0 b.0) (nat_cmp a.1 b.1)

abbrev pub place_at : Places → List ℕ → Option ℕ
place_at places name = get key_cmp places (name_key name)

-- where the name stands in a list, or none where it isn't there
abbrev pub IsPlaceIn : List (List ℕ) → List ℕ → Option ℕ → Type 0
IsPlaceIn names name place = MatchOption place (¬ Contains names name) (λ k. slice_get names k ≡ Some name)

-- at each name the table has its place in the list, and at a name that isn't there none
abbrev pub IsPlaced : List (List ℕ) → Places → Type 0
IsPlaced names places = (name : List ℕ) → IsNodeName name → IsPlaceIn names name (place_at places name)

-- no number from the length on has a name
abbrev pub IsNumbered : {S : Type 0} → IndexMap ℕ (List ℕ) S → Type 0
IsNumbered names = (k : ℕ) → length names.entries ≤ k → value_at nat_eq names k ≡ None
