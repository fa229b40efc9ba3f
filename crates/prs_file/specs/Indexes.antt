-- Names with their numbers.
use Rattle.std.specs.Prelude.{◌≡◌, ℕ, suc, ◌+◌, ◌-◌, ◌*◌, ◌%◌, ◌^◌, ◌<◌, ◌⊎◌, nat_lt, bit_and, List, [], ◌∷◌, length, slice_index_or, Option, Some, None, option_map, bytes_eq, if◌then◌else◌}
use Rattle.std.specs.BTreeMap.{BTreeMap, get_by}
use Rattle.std.specs.Cmp.Lexicographic.{slice_cmp}
use Rattle.std.specs.List.{fold}
use Rattle.std.specs.Ordering.{nat_cmp}
use Rattle.std.specs.declared.alloc.Global.{Global}
use Rattle.std.specs.declared.vec.Vec.{Vec}

-- the index of a name's first occurrence in a list
abbrev pub place_in : List (List ℕ) → List ℕ → Option ℕ
place_in [] name = None
place_in (n ∷ ns) name = if bytes_eq n name then Some 0 else option_map (λ k. suc k) (place_in ns name)

-- numbers at the bytes of names, in order of the names
abbrev pub Numbers : Type 0
Numbers = BTreeMap (Vec ℕ Global) ℕ

abbrev pub number_at : Numbers → List ℕ → Option ℕ
number_at numbers name = get_by (λ key. slice_cmp nat_cmp name key.items) numbers

-- the last 32 bits of the number that has the bytes of a name as its digits, to the base 11
abbrev pub hash_of : List ℕ → ℕ
hash_of name = fold (λ h b. (h * 11 % 2 ^ 32 + b) % 2 ^ 32) 0 name

-- the slot of a name, by the last bits of its hash where the number of slots is a power of two
abbrev pub slot_in : (count : ℕ) → List ℕ → ℕ
slot_in count name = bit_and (hash_of name) (count - 1)

-- the number in a name's slot
abbrev pub guess_for : (slots name : List ℕ) → ℕ
guess_for slots name = slice_index_or slots (slot_in (length slots) name) 0

-- a name has the number in its slot if that is its own, and else the one that others have for it. Where the number in
-- the slot is no name's, the slot is free, and there is no such name
abbrev pub found_by : List (List ℕ) → (slots : List ℕ) → (others : Numbers) → List ℕ → Option ℕ
found_by names slots others name =
    if nat_lt (guess_for slots name) (length names)
    then (if bytes_eq (slice_index_or names (guess_for slots name) []) name then Some (guess_for slots name)
    else number_at others name)
    else None

-- by slots and others each name is found with its number, and no other one
pub record IsIndexed (names : List (List ℕ)) (slots : List ℕ) (others : Numbers) : Type 0 where
  pub some : 0 < length slots
  pub found : (name : List ℕ) → found_by names slots others name ≡ place_in names name
  pub known : (name : List ℕ) → (number_at others name ≡ None) ⊎ (number_at others name ≡ place_in names name)
