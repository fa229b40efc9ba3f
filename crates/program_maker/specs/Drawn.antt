-- The words that a seed gives: those of O'Neill's 32-bit generator PCG XSH RR on its stream 54.
use Rattle.std.specs.Prelude.{ℕ, ◌%◌, List, map}
use Rattle.std.specs.List.{range_with_len}
use Rattle.rand_pcg.specs.Lcg.{Lcg, advance, started, increment_of}
use Rattle.rand_pcg.specs.Pcg.{multiplier_64, pcg32}

-- the generator when it has given so many words
abbrev pub drawn_after : (seed words : ℕ) → Lcg
drawn_after seed words = advance 64 multiplier_64 words (started 64 multiplier_64 seed (increment_of 64 54))

-- a word of the seed, by its place, counted from 0
abbrev pub word_at : (seed place : ℕ) → ℕ
word_at seed place = (pcg32 (drawn_after seed place)).0

-- what the input offers: the lowest bytes of the four words after those of the stages
abbrev pub drawn_values : (seed stages : ℕ) → List ℕ
drawn_values seed stages = map (λ place. word_at seed place % 256) (range_with_len stages 4)
