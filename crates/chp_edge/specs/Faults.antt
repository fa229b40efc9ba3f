-- Counts of faults, and the possible reasons of a failed call.
use Rattle.std.specs.Prelude.{◌≡◌, ℕ, ◌<◌, ◌^◌, ◌+◌, ◌-◌, min, List, Option, None, Bool, true, ◌⊎◌}

-- a count after one more: one higher, or still saturated
abbrev pub one_higher : ℕ → ℕ
one_higher count = min (count + 1) (2 ^ 64 - 1)

-- a count rose in a call: it is greater after it, or saturated
abbrev pub Rose : ℕ → ℕ → Type 0
Rose before after = (before < after) ⊎ (after ≡ 2 ^ 64 - 1)

-- a read fault of a name: the shelf's count rose, or the shelf is observable and holds no file of that name
abbrev pub IsReadFault : (before after : ℕ) → (tells : Bool) → (held : Option (List ℕ)) → Type 0
IsReadFault before after tells held = Rose before after ⊎ ((tells ≡ true) × (held ≡ None))
