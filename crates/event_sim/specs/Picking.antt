-- What the schedulers choose.
use Rattle.std.specs.Prelude.{ℕ, ◌-◌, ◌%◌, ◌<◌, List, length, All, AllPairs, Option, Some, None}
use Rattle.rand_pcg.specs.Lcg.{started, advance, increment_of}
use Rattle.rand_pcg.specs.Pcg.{multiplier_64, pcg32}

-- a list that a scheduler may be asked with: nodes below a number, ascending without repeats, at least one
pub record IsChoiceList (nodes : ℕ) (list : List ℕ) : Type 0 where
  pub some : 0 < length list
  pub ascending : AllPairs (λ (a b : ℕ). a < b) list
  pub below : All (λ n. n < nodes) list

-- the words of the generator that is seeded with a seed and the stream 54, counted from 0
abbrev pub word_of : ℕ → ℕ → ℕ
word_of seed count = (pcg32 (advance 64 multiplier_64 count (started 64 multiplier_64 seed (increment_of 64 54)))).0

-- a seed, and how long the log was when it was set; 0 and 0 before
abbrev pub seed_of : Option (ℕ × ℕ) → ℕ
seed_of None = 0
seed_of (Some s) = s.0

abbrev pub since_of : Option (ℕ × ℕ) → ℕ
since_of None = 0
since_of (Some s) = s.1

-- one word for each pick since the seed was set
abbrev pub random_choice : Option (ℕ × ℕ) → ℕ → List ℕ → ℕ
random_choice seeded picks list = word_of (seed_of seeded) (picks - since_of seeded) % length list
