-- What the two devices offer, by their notes. Both are always ready.
use Rattle.std.specs.Prelude.{◌≡◌, ℕ, ◌+◌, ◌%◌, ◌^◌, ◌==◌, nat_lt, if◌then◌else◌, List, [], ◌∷◌, length, take, filter, count_by, Option, Some, None, option_map, slice_get}
use Rattle.peer_bench.specs.declared.note.Note.{Note}
use Rattle.peer_bench.specs.declared.note.Note.TheVariants.{Offered, Ready, Took}
use Rattle.peer_bench.specs.Notes.{is_offer, is_offer_on}

-- how many values were offered on a channel, where more than ten count as ten
abbrev pub up_to_ten : ℕ → List Note → ℕ
up_to_ten chan log = length (take 10 (filter (is_offer_on chan) log))

-- the numbers 0 to 9, one after the other, on each channel for itself
abbrev pub ramp_due : List Note → (chan width : ℕ) → Option ℕ
ramp_due log chan width = if up_to_ten chan log == 10 then None else Some (up_to_ten chan log % 2 ^ width)

-- what a ramp keeps besides its notes: on each of the first channels, how many values it has offered there
abbrev pub AreCounts : (log : List Note) → (counts : List ℕ) → Type 0
AreCounts log counts = (chan n : ℕ) → slice_get counts chan ≡ Some n → n ≡ up_to_ten chan log

-- what is held after these notes, where this was held before them: an offer removes it, and a value that is taken
-- brings the next number
abbrev pub held_after : Option ℕ → List Note → Option ℕ
held_after held [] = held
held_after held (Offered at chan value ∷ notes) = held_after None notes
held_after held (Ready at chan ∷ notes) = held_after held notes
held_after held (Took at chan value ∷ notes) = held_after (Some ((value + 1) % 2 ^ 64)) notes

-- what is held, at first 0, on whichever channel, ten times in all
abbrev pub echo_due : List Note → (width : ℕ) → Option ℕ
echo_due log width =
    if nat_lt (count_by is_offer log) 10 then option_map (λ v. v % 2 ^ width) (held_after (Some 0) log) else None

-- a device that goes by its notes alone: all of them, and for how many more it has room
pub record NotedValue : Type 0 where
  pub log : List Note
  pub spare : ℕ

-- what an echo keeps besides its notes: what it holds, and how many values it has offered
pub record IsEcho (log : List Note) (held : Option ℕ) (offers : ℕ) : Type 0 where
  pub held_is : held ≡ held_after (Some 0) log
  pub offers_are : offers ≡ count_by is_offer log
