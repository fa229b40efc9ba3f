-- The answer of a site (Martin): several sites share the acknowledge of one end of a channel, or of one variable, one
-- at a time.
use Rattle.std.specs.Prelude.{ℕ, Bool, not, ◌&&◌, List, [], ◌∷◌, map}
use Rattle.prs_core.specs.Nets.{NodeRules, is_high, is_low, one_term}
use Rattle.prs_core.specs.Parts.{Part, Moment, Wire, wire, owned, all_low, never_blocked, no_notes}

-- the acknowledge under the site's own request: r & A -> k+, ~A -> k-
abbrev pub site_answer : (request ack : ℕ) → NodeRules
site_answer request ack = record {
  up = one_term (is_high request ∷ is_high ack ∷ []);
  down = one_term (is_low ack ∷ []);
}

-- A request may rise once the whole handshake before it is over: where all requests, the acknowledge and the answer are
-- low.
abbrev pub site_idle : (others : List ℕ) (request ack answer : ℕ) → Moment → Bool
site_idle others request ack answer m = all_low m.value (request ∷ ack ∷ answer ∷ others)

-- The acknowledge may rise where a request is high, and fall where none is.
abbrev pub acknowledge_wire : (requests : List ℕ) (ack : ℕ) → Wire
acknowledge_wire requests ack = wire ack (λ m. not (all_low m.value requests)) (λ m. all_low m.value requests)

-- The answer is to rise where the request and the acknowledge are high, and to fall where both are low. The site's
-- request may fall where the answer is high, that of another site where the acknowledge is.
abbrev pub site_part : (others : List ℕ) (request ack answer : ℕ) → Part
site_part others request ack answer =
    let idle = site_idle others request ack answer in record {
      own = owned answer (site_answer request ack) ∷ [];
      promises = wire answer (λ m. m.value request && m.value ack) (λ m. not (m.value request) && not (m.value ack))
          ∷ [];
      allows =
          wire request idle (λ m. m.value answer)
          ∷ acknowledge_wire (request ∷ others) ack
          ∷ map (λ other. wire other idle (λ m. m.value ack)) others;
      lows = answer ∷ [];
      bits = [];
      ports = request ∷ answer ∷ [];
      blocked = never_blocked;
      notes = no_notes;
    }
