-- The contracts at the nodes 0, 1, ..
use Rattle.std.proofs.Common.{Bool, true, false, not, List, [], ◌∷◌, refl}
use Rattle.std.specs.Prelude.{◌&&◌, ◌||◌}
use Rattle.prs_core.specs.Moves.{high}
use Rattle.prs_core.specs.Parts.{Moment, Keeps}
use Rattle.prs_core.specs.Deciding.{implies, at_2, at_4, at_5, at_6}
use Rattle.cell_sequence.specs.declared.emit.QPorts.{QPorts}
use Rattle.cell_sequence.specs.Handshakes.{skip_part, q_part, loop_part}
use Rattle.cell_sequence.proofs.Tabled.{tabled, first_test, moment_test}

-- request, child's request and answer, latch, next request
abbrev pub first_ports : QPorts
first_ports = record { request = 0; child_request = 1; child_answer = 2; latch = 3; next = 4 }

-- these values, and whether the child's request has moved since the request did: the ten states of a Q-element
abbrev q_state : (r c d u b n : Bool) → Bool
q_state false false false false false n = true
q_state true false false false false false = true
q_state true true false false false true = true
q_state true true true false false true = true
q_state true true true true false true = true
q_state true false true true false true = true
q_state true false false true false true = true
q_state true false false true true true = true
q_state false false false true true n = true
q_state false false false false true n = true
q_state _ _ _ _ _ _ = false

abbrev q_legal : Moment → Bool
q_legal m = q_state (m.value 0) (m.value 1) (m.value 2) (m.value 3) (m.value 4) (m.noted 1)

abbrev with_values : List Bool → Bool → Moment
with_values vs note = record { value = high vs; noted = λ n. note }

pub q_first : Keeps (q_part first_ports)
q_first =
    tabled (q_part first_ports) q_legal
    (λ v. at_5 (λ r c d u b. first_test (q_part first_ports) q_legal (high (r ∷ c ∷ d ∷ u ∷ b ∷ []))) refl (v 0) (v 1) (v 2) (v 3) (v 4))
    (λ m.
    at_6 (λ r c d u b n. let m = with_values (r ∷ c ∷ d ∷ u ∷ b ∷ []) n in implies (q_legal m) (moment_test (q_part first_ports) q_legal m)) refl
    (m.value 0) (m.value 1) (m.value 2) (m.value 3) (m.value 4) (m.noted 1))

-- a skip may be in any state
abbrev any_state : Moment → Bool
any_state m = true

pub skip_first : Keeps (skip_part 0 1)
skip_first =
    tabled (skip_part 0 1) any_state
    (λ v. at_2 (λ r a. first_test (skip_part 0 1) any_state (high (r ∷ a ∷ []))) refl (v 0) (v 1))
    (λ m. at_2 (λ r a. let m = with_values (r ∷ a ∷ []) false in implies (any_state m) (moment_test (skip_part 0 1) any_state m)) refl (m.value 0) (m.value 1))

-- request, answer, the body's request and answer: without a request nothing is high, and the answer never is
abbrev loop_legal : Moment → Bool
loop_legal m = not (m.value 1) && (m.value 0 || not (m.value 2) && not (m.value 3))

pub loop_first : Keeps (loop_part 0 1 2 3)
loop_first =
    tabled (loop_part 0 1 2 3) loop_legal
    (λ v. at_4 (λ r a lr la. first_test (loop_part 0 1 2 3) loop_legal (high (r ∷ a ∷ lr ∷ la ∷ []))) refl (v 0) (v 1) (v 2) (v 3))
    (λ m.
    at_4 (λ r a lr la. let m = with_values (r ∷ a ∷ lr ∷ la ∷ []) false in implies (loop_legal m) (moment_test (loop_part 0 1 2 3) loop_legal m)) refl
    (m.value 0) (m.value 1) (m.value 2) (m.value 3))
