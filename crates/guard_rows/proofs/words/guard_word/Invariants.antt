use Rattle.std.proofs.Common.{◌≡◌, ℕ, Bool, take}
use Rattle.std.specs.Int.{bit_at}
use Rattle.prs_core.specs.Moves.{guard_holds}
use Rattle.guard_rows.specs.Places.{as_bit, index_of}
use Rattle.guard_rows.proofs.words.guard_word.Given as goal

abbrev pub invariant-loop-term : goal.invariant-loop-term
invariant-loop-term l =
    (v : ℕ → Bool) → bit_at l.word (index_of v l.inputs) ≡ as_bit (guard_holds v (take l.term-index l.term-items))
