-- The contracts at any nodes.
use Rattle.std.proofs.Common.{◌≡◌, ◌≢◌, ℕ, false, [], ◌∷◌, refl, ap, ◌∙◌}
use Rattle.std.specs.Prelude.{◌||◌, ◌==◌, if◌then◌else◌, AllPairs}
use Rattle.prs_core.specs.Parts.{Moment, Keeps, no_notes}
use Rattle.cell_sequence.specs.declared.emit.QPorts.{QPorts}
use Rattle.cell_sequence.specs.Handshakes.{skip_part, q_part, q_nodes, loop_part, moved_since}
use Rattle.cell_sequence.proofs.Numbered.{first_ports, skip_first, q_first, loop_first}
use Rattle.cell_sequence.proofs.Renamed.{IsOneToOne, seen, numbers_to, same_test, one_to_one, keeps_at}

moved_same : (to : ℕ → ℕ) → IsOneToOne to → (request : ℕ) (m : Moment) (moved node : ℕ) →
    moved_since (to request) m (to moved) (to node) ≡ moved_since request (seen to m) moved node
moved_same to one request m moved node =
    ap (λ b. if b then false else to moved == to node || m.noted (to node)) (same_test to one moved request)
    ∙ ap (λ b. if moved == request then false else b || m.noted (to node)) (same_test to one moved node)

pub skip_kept : (request answer : ℕ) → AllPairs (λ a b. a ≢ b) (request ∷ answer ∷ []) → Keeps (skip_part request answer)
skip_kept request answer distinct = keeps_at (request ∷ answer ∷ []) distinct no_notes (skip_part 0 1) (λ m moved node. refl) skip_first

pub q_kept : (p : QPorts) → AllPairs (λ a b. a ≢ b) (q_nodes p) → Keeps (q_part p)
q_kept p distinct = keeps_at (q_nodes p) distinct (moved_since p.request) (q_part first_ports)
    (moved_same (numbers_to (q_nodes p)) (one_to_one (q_nodes p) distinct) 0) q_first

pub loop_kept : (request answer body_request body_answer : ℕ) → AllPairs (λ a b. a ≢ b) (request ∷ answer ∷ body_request ∷ body_answer ∷ []) →
    Keeps (loop_part request answer body_request body_answer)
loop_kept request answer body_request body_answer distinct =
    keeps_at (request ∷ answer ∷ body_request ∷ body_answer ∷ []) distinct no_notes (loop_part 0 1 2 3) (λ m moved node. refl) loop_first
