-- The rules of the Q-element, of skip and of the loop (Martin; Burns and Martin).
use Rattle.std.specs.Prelude.{◌≢◌, ℕ, ◌<◌, List, [], ◌∷◌, All}
use Rattle.prs_core.specs.Nets.{RulesValue, NodeRules, is_high, is_low, one_term}
use Rattle.prs_core.specs.Parts.{Owned, owned, with_owned}
use Rattle.cell_sequence.specs.declared.emit.QPorts.{QPorts}

-- A Q-element runs its child's whole handshake, and only then asks what follows:
--   d -> u+          ~r -> u-
--   r & ~u -> c+     u -> c-
--   u & ~d -> b+     ~u -> b-
-- with the request r, the child's request c and answer d, the latch u, and the next request b.
abbrev pub q_child : (request latch : ℕ) → NodeRules
q_child request latch = record {
  up = one_term (is_high request ∷ is_low latch ∷ []);
  down = one_term (is_high latch ∷ []);
}

abbrev pub q_latch : (request child_answer : ℕ) → NodeRules
q_latch request child_answer = record {
  up = one_term (is_high child_answer ∷ []);
  down = one_term (is_low request ∷ []);
}

abbrev pub q_next : (latch child_answer : ℕ) → NodeRules
q_next latch child_answer = record {
  up = one_term (is_high latch ∷ is_low child_answer ∷ []);
  down = one_term (is_low latch ∷ []);
}

abbrev pub q_owned : QPorts → List Owned
q_owned p =
    owned p.child_request (q_child p.request p.latch)
    ∷ owned p.latch (q_latch p.request p.child_answer)
    ∷ owned p.next (q_next p.latch p.child_answer)
    ∷ []

abbrev pub with_q : QPorts → RulesValue → RulesValue
with_q p = with_owned (q_owned p)

-- skip answers its request at once: r -> a+, ~r -> a-
abbrev pub skip_answer : (request : ℕ) → NodeRules
skip_answer request = record {
  up = one_term (is_high request ∷ []);
  down = one_term (is_low request ∷ []);
}

abbrev pub skip_owned : (request answer : ℕ) → List Owned
skip_owned request answer = owned answer (skip_answer request) ∷ []

-- a loop asks its body again once that has let go: r & ~la -> lr+, la -> lr-; its own answer has no rules
abbrev pub loop_request : (request body_answer : ℕ) → NodeRules
loop_request request body_answer = record {
  up = one_term (is_high request ∷ is_low body_answer ∷ []);
  down = one_term (is_high body_answer ∷ []);
}

abbrev pub loop_owned : (request body_request body_answer : ℕ) → List Owned
loop_owned request body_request body_answer = owned body_request (loop_request request body_answer) ∷ []

-- the ports are nodes of the rules, and the Q-element's own nodes are distinct from each other and from its inputs
pub record IsPorts (count : ℕ) (p : QPorts) : Type 0 where
  pub request : p.request < count
  pub child_request : p.child_request < count
  pub child_answer : p.child_answer < count
  pub latch : p.latch < count
  pub next : p.next < count
  pub child_own : All (λ n. p.child_request ≢ n) (p.request ∷ p.child_answer ∷ p.latch ∷ p.next ∷ [])
  pub latch_own : All (λ n. p.latch ≢ n) (p.request ∷ p.child_answer ∷ p.next ∷ [])
  pub next_own : All (λ n. p.next ≢ n) (p.request ∷ p.child_answer ∷ [])
