-- The contracts of the Q-element, of skip and of the loop (Martin; Burns and Martin).
use Rattle.std.specs.Prelude.{ℕ, Bool, true, false, not, ◌&&◌, ◌||◌, ◌==◌, List, [], ◌∷◌, if◌then◌else◌}
use Rattle.prs_core.specs.Pairs.{no_rules}
use Rattle.prs_core.specs.Parts.{Part, Moment, Wire, wire, owned, never_blocked, no_notes}
use Rattle.cell_sequence.specs.declared.emit.QPorts.{QPorts}
use Rattle.cell_sequence.specs.Sequence.{q_owned, skip_owned, loop_owned}

-- the two wires of a handshake: a request rises where its answer is low and falls where it is high, an answer follows
abbrev pub asking : (request answer : ℕ) → Wire
asking request answer = wire request (λ m. not (m.value answer)) (λ m. m.value answer)

abbrev pub answering : (request answer : ℕ) → Wire
answering request answer = wire answer (λ m. m.value request) (λ m. not (m.value request))

-- of each node, whether it has moved since the request last did
abbrev pub moved_since : (request : ℕ) → Moment → ℕ → ℕ → Bool
moved_since request m moved node = if moved == request then false else moved == node || m.noted node

-- A skip answers its request.
abbrev pub skip_part : (request answer : ℕ) → Part
skip_part request answer = record {
  own = skip_owned request answer;
  promises = answering request answer ∷ [];
  allows = asking request answer ∷ [];
  lows = answer ∷ [];
  bits = [];
  ports = request ∷ answer ∷ [];
  blocked = never_blocked;
  notes = no_notes;
}

-- A Q-element asks its child once for each request of its own, and raises the next request once that handshake is over.
abbrev pub q_part : QPorts → Part
q_part p = record {
  own = q_owned p;
  promises =
      wire p.child_request (λ m. not (m.value p.child_answer) && m.value p.request && not (m.noted p.child_request))
      (λ m. m.value p.child_answer)
      ∷ wire p.next (λ m. m.value p.request && m.noted p.child_request && not (m.value p.child_request)
      && not (m.value p.child_answer)) (λ m. not (m.value p.request))
      ∷ [];
  allows = asking p.request p.next ∷ answering p.child_request p.child_answer ∷ [];
  lows = p.child_request ∷ p.latch ∷ p.next ∷ [];
  bits = [];
  ports = p.request ∷ p.next ∷ [];
  blocked = never_blocked;
  notes = moved_since p.request;
}

abbrev pub q_nodes : QPorts → List ℕ
q_nodes p = p.request ∷ p.child_request ∷ p.child_answer ∷ p.latch ∷ p.next ∷ []

-- A loop's request rises once and never falls. Under it the body is asked again and again. The loop's own answer never
-- moves.
abbrev pub loop_part : (request answer body_request body_answer : ℕ) → Part
loop_part request answer body_request body_answer = record {
  own = owned answer no_rules ∷ loop_owned request body_request body_answer;
  promises =
      wire answer (λ m. false) (λ m. false)
      ∷ wire body_request (λ m. m.value request && not (m.value body_answer)) (λ m. m.value body_answer)
      ∷ [];
  allows = wire request (λ m. true) (λ m. false) ∷ answering body_request body_answer ∷ [];
  lows = answer ∷ body_request ∷ [];
  bits = [];
  ports = request ∷ answer ∷ [];
  blocked = never_blocked;
  notes = no_notes;
}
