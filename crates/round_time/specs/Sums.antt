-- How long rounds of a program take its circuit at most, read off its run under a script: each for itself, by the
-- phases of the steps that are made in the round before. Circuits keep to it where no assignment reads its own target.
--
-- P: the program; c: a configuration; n: how many rounds.
use Rattle.std.specs.Prelude.{ℕ, zero, suc, ◌+◌, List, map, Option, Some, None}
use Rattle.env_script.specs.Scripts.{OfferValue}
use Rattle.width_check.specs.Processes.{Process, TypedProgram}
use Rattle.chp_meaning.specs.Terms.{Place, statement_at}
use Rattle.chp_meaning.specs.Steps.{Configuration, start_of}
use Rattle.chp_meaning.specs.Rounds.{enabled_places, round}
use Rattle.round_time.specs.Longest.{greatest, first}
use Rattle.round_time.specs.Phases.{phase}

-- of a statement, if there is one
abbrev pub phase_of : TypedProgram → Option Process → ℕ
phase_of P (Some p) = phase P p
phase_of P None = 0

-- the phase of the step at a place
abbrev pub phase_at : TypedProgram → Configuration → Place → ℕ
phase_at P c at = phase_of P (statement_at c.term at)

-- of the steps of the next round the greatest phase
abbrev pub round_phase : TypedProgram → Configuration → ℕ
round_phase P c = greatest (map (phase_at P c) (enabled_places c))

-- So many moves, one behind the other, lead at most to the steps of the n-th round from a configuration on, if so many
-- lead to those of the first: a step is one move, and behind it come those of its phase.
abbrev pub sum_from : TypedProgram → (begins : ℕ) → Configuration → (n : ℕ) → ℕ
sum_from P begins c zero = 0
sum_from P begins c (suc n) = begins + suc (sum_from P (round_phase P c) (round c) n)

-- from the start of the program under a script: `go` rises, and then follows what leads to the body's first step
abbrev pub rounds_sum : TypedProgram → List OfferValue → (n : ℕ) → ℕ
rounds_sum P script n = sum_from P (suc (first P P.body)) (start_of P script) n
