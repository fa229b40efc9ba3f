-- What the notes of a device say.
use Rattle.std.specs.Prelude.{ℕ, Bool, true, false, ◌==◌, nat_le, List, map, filter, count_by}
use Rattle.peer_bench.specs.declared.note.Note.{Note}
use Rattle.peer_bench.specs.declared.note.Note.TheVariants.{Offered, Ready, Took}

-- the number of moves that were made by then
abbrev pub at_of : Note → ℕ
at_of (Offered at chan value) = at
at_of (Ready at chan) = at
at_of (Took at chan value) = at

-- the notes after at most so many moves
abbrev pub up_to : ℕ → List Note → List Note
up_to moves notes = filter (λ note. nat_le (at_of note) moves) notes

abbrev pub is_offer : Note → Bool
is_offer (Offered at chan value) = true
is_offer (Ready at chan) = false
is_offer (Took at chan value) = false

-- an offer on this channel
abbrev pub is_offer_on : ℕ → Note → Bool
is_offer_on c (Offered at chan value) = chan == c
is_offer_on c (Ready at chan) = false
is_offer_on c (Took at chan value) = false

abbrev pub is_ready_on : ℕ → Note → Bool
is_ready_on c (Offered at chan value) = false
is_ready_on c (Ready at chan) = chan == c
is_ready_on c (Took at chan value) = false

abbrev pub value_of : Note → ℕ
value_of (Offered at chan value) = value
value_of (Ready at chan) = 0
value_of (Took at chan value) = value

-- the values that were offered on a channel
abbrev pub offered_on : ℕ → List Note → List ℕ
offered_on c notes = map value_of (filter (is_offer_on c) notes)

-- how many times it was ready on a channel
abbrev pub times_ready : ℕ → List Note → ℕ
times_ready c notes = count_by (is_ready_on c) notes
