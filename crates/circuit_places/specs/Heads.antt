-- Truth values for each of n branches, the heads of n guards, and the tests on them.
use Rattle.std.specs.Prelude.{ℕ, zero, suc, Bool, true, false, not, ◌&&◌, ◌||◌}
use Rattle.prs_core.specs.Deciding.{implies}
use Rattle.function_blocks.specs.Rails.{Pairs}

-- one of n branches
pub data Index : ℕ → Type 0 where
  top : {n : ℕ} → Index (suc n)
  under : {n : ℕ} → Index n → Index (suc n)

-- so many truth values, the first one first
abbrev pub Bits : ℕ → Type 0
Bits zero = Unit {0}
Bits (suc n) = Bool × Bits n

abbrev pub low_bits : (n : ℕ) → Bits n
low_bits zero = tt
low_bits (suc n) = (false, low_bits n)

-- the one of this branch, some one, and all of them with this one flipped
abbrev pub bit_of : {n : ℕ} → Index n → Bits n → Bool
bit_of top x = x.0
bit_of (under i) x = bit_of i x.1

abbrev pub some_bit : (n : ℕ) → Bits n → Bool
some_bit zero x = false
some_bit (suc n) x = x.0 || some_bit n x.1

abbrev pub turned_bit : {n : ℕ} → Index n → Bits n → Bits n
turned_bit top x = (not x.0, x.1)
turned_bit (under i) x = (x.0, turned_bit i x.1)

-- that one alone
abbrev pub hot : {n : ℕ} → Index n → Bool → Bits n
hot (top {n = n}) b = (b, low_bits n)
hot (under i) b = (false, hot i b)

-- of guards: all are false, none is true, all are neutral, all have a rail high
abbrev pub each_false : (n : ℕ) → Pairs n → Bool
each_false zero hs = true
each_false (suc n) hs = hs.0.f && each_false n hs.1

abbrev pub nothing_true : (n : ℕ) → Pairs n → Bool
nothing_true zero hs = true
nothing_true (suc n) hs = not hs.0.t && nothing_true n hs.1

abbrev pub all_neutral : (n : ℕ) → Pairs n → Bool
all_neutral zero hs = true
all_neutral (suc n) hs = not hs.0.t && (not hs.0.f && all_neutral n hs.1)

abbrev pub all_valid : (n : ℕ) → Pairs n → Bool
all_valid zero hs = true
all_valid (suc n) hs = (hs.0.t || hs.0.f) && all_valid n hs.1

-- no guard has both rails high
abbrev pub all_single : (n : ℕ) → Pairs n → Bool
all_single zero hs = true
all_single (suc n) hs = not (hs.0.t && hs.0.f) && all_single n hs.1

-- that guard is true and all others are false
abbrev pub alone : {n : ℕ} → Index n → Pairs n → Bool
alone (top {n = n}) hs = hs.0.t && each_false n hs.1
alone (under i) hs = hs.0.f && alone i hs.1

-- that guard isn't false, and no other is true
abbrev pub told : {n : ℕ} → Index n → Pairs n → Bool
told (top {n = n}) hs = not hs.0.f && nothing_true n hs.1
told (under i) hs = not hs.0.t && told i hs.1

-- all guards are false; never where there is no guard
abbrev pub over : (n : ℕ) → Pairs n → Bool
over zero hs = false
over (suc n) hs = hs.0.f && each_false n hs.1

-- each rail that is high in the first is high in the second
abbrev pub below : (n : ℕ) → Pairs n → Pairs n → Bool
below zero x y = true
below (suc n) x y = implies x.0.t y.0.t && (implies x.0.f y.0.f && below n x.1 y.1)
