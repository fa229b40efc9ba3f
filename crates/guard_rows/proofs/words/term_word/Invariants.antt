use Rattle.std.proofs.Common.{◌≡◌, ℕ, Bool, take}
use Rattle.std.specs.Int.{bit_at}
use Rattle.prs_core.specs.Moves.{term_holds}
use Rattle.guard_rows.specs.Places.{as_bit, index_of}
use Rattle.guard_rows.proofs.words.term_word.Given as goal

abbrev pub invariant-loop-literal : goal.invariant-loop-literal
invariant-loop-literal l =
    (v : ℕ → Bool) → bit_at l.word (index_of v l.inputs) ≡ as_bit (term_holds v (take l.literal-index l.literal-items))
