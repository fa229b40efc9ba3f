-- A move that is no step of the program leaves the configuration, and makes what is due less, so that after few of them each move that is
-- enabled is a step. Then one layer more leads to the configuration after a round: n rounds take at most n times as many layers.
--
-- P: the program; w: what the wires of a circuit show; g: where its body is, guarded by the root; v: a variable; n: a node.
use Rattle.std.proofs.Common.{◌≡◌, ◌≢◌, ℕ, zero, suc, ◌*◌, ◌<◌, ◌≤◌, Bool, true, false, List, [], ◌∷◌, ◌++◌, length, refl, sym, ap, ◌∙◌, subst, inl, inr, arith, length-append}
use Rattle.std.specs.Prelude.{◌⊎◌, not, ◌&&◌, slice_index, Some, is_some}
use Rattle.env_script.specs.Scripts.{OfferValue, IsScript}
use Rattle.env_script.specs.Runs.{history_at}
use Rattle.width_check.specs.Processes.{assigning, receiving, TypedProgram}
use Rattle.width_check.specs.Typing.{var_width}
use Rattle.width_check.specs.Sharing.{writes_var, done_at}
use Rattle.chp_meaning.specs.Terms.{Term, statement_at}
use Rattle.chp_meaning.specs.Halves.{IsPlain}
use Rattle.chp_meaning.specs.Steps.{Configuration, Leads}
use Rattle.chp_meaning.specs.Rounds.{round, rounds_from, rounds}
use Rattle.chp_meaning.proofs.Places.{same_place}
use Rattle.chp_meaning.proofs.Fitting.{Fits, places_apart, opened_fits, meeting_sound}
use Rattle.chp_meaning.proofs.Meeting.{lead_on, leads_fit}
use Rattle.chp_meaning.proofs.RoundRuns.{round_leads, run_behind}
use Rattle.chp_meaning.proofs.RoundsAhead.{rounds_behind}
use Rattle.circuit_places.specs.Bounds.{circuit_most}
use Rattle.circuit_places.specs.Lines.{of_var}
use Rattle.circuit_places.specs.Whole.{Wires, wires_seen, line_ack, value_on, Whole, Node, go_node, own_node, rail_node, ack_node, bit_node, wrote_node, joint_node, is_node, wires_after, wrote_turned, joint_turned, enabled, cells_moved, first_cells, at_first}
use Rattle.circuit_places.proofs.RailLemmas.{each_bit}
use Rattle.circuit_places.proofs.Places.{Mode, idle, running, answered, returning, GuardedAt, g_rests, guarded_shown, guarded_writing}
use Rattle.circuit_places.proofs.Left.{guarded_left}
use Rattle.circuit_places.proofs.Fires.{Passes}
use Rattle.circuit_places.proofs.Writing.{guarded_writing_there}
use Rattle.circuit_places.proofs.Writers.{Writes, guarded_writes}
use Rattle.circuit_places.proofs.Blocks.{joint_some}
use Rattle.circuit_places.proofs.System.{Good, root_left, node_steps, Moves, Stored, no_store, cleared, stores, takes_in, Fitted}
use Rattle.circuit_places.proofs.Unrisen.{Unrisen, Stays}
use Rattle.circuit_places.proofs.CircuitDue.{circuit_due, due_fits}
use Rattle.circuit_places.proofs.CircuitFalls.{circuit_falls}
use Rattle.circuit_places.proofs.Follow.{Followed, NotStored, NoStep, follows_stays}
use Rattle.circuit_places.proofs.BlockMoves.{next_of}
use Rattle.circuit_places.proofs.Quiet.{is_step}
use Rattle.circuit_places.proofs.Trees.{TreesSettle}
use Rattle.circuit_places.proofs.Meets.{ExpressionsHold}
use Rattle.circuit_places.proofs.Carry.{Reached, next_reached, may, present, ack_may, fits, reached}
use Rattle.circuit_places.proofs.Search.{searches}
use Rattle.circuit_places.proofs.StepMoves.{restart}
use Rattle.circuit_places.proofs.Phases.{below}
use Rattle.circuit_places.proofs.LayerRounds.{IsCellLayer, cells_after, round_made}

high_by : (b : Bool) → not b ≡ false → b ≡ true
high_by true e = refl
high_by false e = absurd (cc e)

silent_by : (a s b : Bool) → a ≡ false → b ≡ true → (not a && (s && b)) ≡ false → s ≡ false
silent_by false false true low high e = refl
silent_by false true true low high e = absurd (cc e)
silent_by true s b low high e = absurd (cc low)
silent_by false s false low high e = absurd (cc high)

-- No assignment makes its step where none says that it is under way.
module _ (P : TypedProgram) (script : List OfferValue) {from : Configuration} {moves : ℕ} {hs : List (List ℕ)} (w : Wires) (v : ℕ)
    (some : 1 ≤ var_width P.vars v)
    (low : line_ack P w (of_var v) ≡ false) where
  unsaid : {m : Mode} (g : GuardedAt P.body m) → Good P m g w → {due : ℕ}
      (f : Followed P script from moves hs (root_left (line_ack P w) g) w.bit (guarded_writing (line_ack P w) g) due)
      → root_left (line_ack P w) g ≡ guarded_left (line_ack P w) g → Fits f.to.term → (guarded_shown g).says (of_var v) ≡ false → (y : Term)
      → Passes P (wires_seen P w) (guarded_writing (line_ack P w) g) (of_var v) (root_left (line_ack P w) g) y → (side : Bool)
      → w.rail (of_var v) 0 side ≡ true → ⊥
  unsaid g good f is fit still y pass side up =
      by (guarded_writes (line_ack P w) g v (guarded_writing_there (wires_seen P w) g good.fits v 0 side low (good.rising (of_var v) 0 side refl low up)))
    where
      there : statement_at f.to.term pass.act.at ≡ Some (assigning v pass.span pass.expression)
      there = ap (λ t. statement_at t pass.act.at) f.term ∙ pass.act.stands

      by : Writes (guarded_shown g) (guarded_left (line_ack P w) g) v → ⊥
      by (inl says) = cc (still, says)
      by (inr (q, k, s, u, i)) = by_place (same_place pass.act.at q) (ap (λ t. statement_at t q) (f.term ∙ is) ∙ i)
        where
          by_place : (pass.act.at ≡ q) ⊎ (pass.act.at ≢ q) → statement_at f.to.term q ≡ Some (receiving k s v u) → ⊥
          by_place (inl same) j = absurd (cc (ap (statement_at f.to.term) same, there, j))
          by_place (inr ne) j = places_apart f.to.term pass.act.at q (assigning v pass.span pass.expression) (receiving k s v u) fit ne there j
              (done_at (writes_var v) pass.span) (done_at (writes_var v) u) (inl refl) (inr (inl refl)) refl

  unsaid_any : (m : Mode) (g : GuardedAt P.body m) → m ≢ returning → Good P m g w → {due : ℕ}
      (f : Followed P script from moves hs (root_left (line_ack P w) g) w.bit (guarded_writing (line_ack P w) g) due)
      → Fits f.to.term → (guarded_shown g).says (of_var v) ≡ false → (y : Term)
      → Passes P (wires_seen P w) (guarded_writing (line_ack P w) g) (of_var v) (root_left (line_ack P w) g) y → (side : Bool)
      → w.rail (of_var v) 0 side ≡ true → ⊥
  unsaid_any idle g_rests ne good f fit still y pass side up = cc (good.rising (of_var v) 0 side refl low up)
  unsaid_any running g ne good f fit still y pass side up = unsaid g good f refl fit still y pass side up
  unsaid_any answered g ne good f fit still y pass side up = unsaid g good f refl fit still y pass side up
  unsaid_any returning g ne good f fit still y pass side up = absurd (ne refl)

-- What is no step leaves the configuration, and makes what is due less.
module _ (P : TypedProgram) (script : List OfferValue) (fitted : Fitted P script) {from : Configuration} {moves : ℕ} {x : Whole P.body}
    (r : Reached P script from moves x) (fit : Fits r.followed.to.term) where
  not_stored : (v : ℕ) (now : Wires) → 1 ≤ var_width P.vars v → (after : ℕ → Bool) (y : Term)
      (move : Stored P (guarded_writing (line_ack P x.wires) r.place) after v x.wires now (root_left (line_ack P x.wires) r.place) y)
      → (not (line_ack P x.wires (of_var v)) && ((guarded_shown r.place).says (of_var v) && line_ack P now (of_var v))) ≡ false → NotStored move
  not_stored v now some after y (no_store same e) q = tt
  not_stored v now some after y (cleared high low e) q = tt
  not_stored v now some after y (takes_in low high a e) q = tt
  not_stored v now some after y (stores low high told pass) q =
      let f = r.followed in
      let valid : is_some (value_on (var_width P.vars v) (x.wires.rail (of_var v))) ≡ true =
      ap is_some (pass.read (slice_index f.to.store) (λ z less calm. f.stored z less calm)) in
      let z : 0 < var_width P.vars v = omega (arith, some) in
      let (side, up) = each_bit (var_width P.vars v) (x.wires.rail (of_var v)) valid 0 z in
      absurd (unsaid_any P script x.wires v some low r.mode r.place r.root r.good f fit
      (silent_by (line_ack P x.wires (of_var v)) ((guarded_shown r.place).says (of_var v)) (line_ack P now (of_var v)) low high q) y pass side up)

  unrisen : (v : ℕ) (now : Wires) (after : ℕ → Bool) (y : Term)
      (move : Stored P (guarded_writing (line_ack P x.wires) r.place) after v x.wires now (root_left (line_ack P x.wires) r.place) y) → NotStored move
      → Unrisen P v x.wires now after
  unrisen v now after y (no_store same e) z = inl same
  unrisen v now after y (cleared high low e) z = inr (inl low)
  unrisen v now after y (takes_in low high a e) z = inr (inr a)
  unrisen v now after y (stores low high told pass) z = absurd z

  -- what the move makes of the program
  abbrev move_of : (n : Node P.body) (e : enabled P script x n ≡ true) → Moves P x.wires (guarded_writing (line_ack P x.wires) r.place)
      (guarded_writing (line_ack P (wires_after x.wires n)) (next_reached P script fitted r n e).place) (node_steps r.place n)
      (root_left (line_ack P x.wires) r.place) (root_left (line_ack P (wires_after x.wires n)) (next_reached P script fitted r n e).place) n
  move_of n e = (next_of P script fitted x.histories r.good n (may P script r n e)).term r.root

  no_step : (n : Node P.body) (e : enabled P script x n ≡ true) → is_step P r.place x.wires n ≡ false
      → NoStep P x.wires (guarded_writing (line_ack P x.wires) r.place)
      (guarded_writing (line_ack P (wires_after x.wires n)) (next_reached P script fitted r n e).place) (node_steps r.place n)
      (root_left (line_ack P x.wires) r.place) (root_left (line_ack P (wires_after x.wires n)) (next_reached P script fitted r n e).place) n (move_of n e)
  no_step go_node e still = refl
  no_step (own_node s) e still = still
  no_step (rail_node k i one) e still = refl
  no_step (ack_node k) e still = high_by (x.wires.ack k) still
  no_step (bit_node v i one) e still = refl
  no_step (wrote_node v i) e still =
      let less : i < var_width P.vars v = below i (var_width P.vars v) (present P script fitted r (wrote_node v i) e) in
      not_stored v (wrote_turned x.wires v i) (omega (arith, less)) _ _ (move_of (wrote_node v i) e).1 still
  no_step (joint_node v i) e still =
      not_stored v (joint_turned x.wires v i) (joint_some (var_width P.vars v) (x.wires.wrote v) (x.wires.joint v) i (may P script r (joint_node v i) e)) _ _
      (move_of (joint_node v i) e).1 still

  stays : (n : Node P.body) (e : enabled P script x n ≡ true) → is_step P r.place x.wires n ≡ false
      → Stays P x.wires (guarded_writing (line_ack P (wires_after x.wires n)) (next_reached P script fitted r n e).place) (node_steps r.place n) n
  stays go_node e still = refl
  stays (own_node s) e still = still
  stays (rail_node k i one) e still = refl
  stays (ack_node k) e still = high_by (x.wires.ack k) still
  stays (bit_node v i one) e still = refl
  stays (wrote_node v i) e still = unrisen v (wrote_turned x.wires v i) _ _ (move_of (wrote_node v i) e).1 (no_step (wrote_node v i) e still)
  stays (joint_node v i) e still = unrisen v (joint_turned x.wires v i) _ _ (move_of (joint_node v i) e).1 (no_step (joint_node v i) e still)

  -- such a move leaves the configuration
  pub leaves_to : (n : Node P.body) (e : enabled P script x n ≡ true) → is_step P r.place x.wires n ≡ false
      → (next_reached P script fitted r n e).followed.to ≡ r.followed.to
  leaves_to n e still =
      let y = next_of P script fitted x.histories r.good n (may P script r n e) in
      follows_stays x.wires (guarded_writing (line_ack P x.wires) r.place) (guarded_writing (line_ack P (wires_after x.wires n)) y.to) r.followed
      (circuit_due P y.to (wires_after x.wires n)) (due_fits P y.to (wires_after x.wires n)) fitted r.brought
      (root_left (line_ack P (wires_after x.wires n)) y.to) n (ack_may P script r n e) y.frees (node_steps r.place n)
      (λ stays. circuit_falls P script r.place x.wires x.histories r.good n r.root (present P script fitted r n e) (may P script r n e) y stays) (y.term r.root)
      (no_step n e still)

  pub eases : (n : Node P.body) (e : enabled P script x n ≡ true) → is_step P r.place x.wires n ≡ false
      → suc (circuit_due P (next_reached P script fitted r n e).place (wires_after x.wires n)) ≤ circuit_due P r.place x.wires
  eases n e still = circuit_falls P script r.place x.wires x.histories r.good n r.root (present P script fitted r n e) (may P script r n e)
      (next_of P script fitted x.histories r.good n (may P script r n e)) (stays n e still)

-- layers of moves, one after the other
abbrev pub AreCellLayers : (P : TypedProgram) → List OfferValue → Whole P.body → List (List (Node P.body)) → Type 0
AreCellLayers P script x [] = Unit {0}
AreCellLayers P script x (l ∷ ls) = IsCellLayer P script x l × AreCellLayers P script (cells_after P x l) ls

-- the state after them
abbrev pub cells_behind : (P : TypedProgram) → Whole P.body → List (List (Node P.body)) → Whole P.body
cells_behind P x [] = x
cells_behind P x (l ∷ ls) = cells_behind P (cells_after P x l) ls

behind_append : (P : TypedProgram) (x : Whole P.body) (ls ms : List (List (Node P.body)))
    → cells_behind P x (ls ++ ms) ≡ cells_behind P (cells_behind P x ls) ms
behind_append P x [] ms = refl
behind_append P x (l ∷ ls) ms = behind_append P (cells_after P x l) ls ms

are_append : (P : TypedProgram) (script : List OfferValue) (x : Whole P.body) (ls ms : List (List (Node P.body))) → AreCellLayers P script x ls
    → AreCellLayers P script (cells_behind P x ls) ms → AreCellLayers P script x (ls ++ ms)
are_append P script x [] ms a b = b
are_append P script x (l ∷ ls) ms a b = (a.0, are_append P script (cells_after P x l) ls ms a.1 b)

-- some node that is there has the property, or none does
abbrev pub Searches : TypedProgram → Type 0
Searches P = (f : Node P.body → Bool) → ((n : Node P.body) × (f n ≡ true)) ⊎ ((n : Node P.body) → is_node P n ≡ true → f n ≡ false)

loud_on : (a b : Bool) → (a && not b) ≡ true → a ≡ true
loud_on true b e = refl
loud_on false b e = absurd (cc e)

loud_still : (a b : Bool) → (a && not b) ≡ true → b ≡ false
loud_still true false e = refl
loud_still true true e = absurd (cc e)
loud_still false b e = absurd (cc e)

quiet_step : (a b : Bool) → (a && not b) ≡ false → a ≡ true → b ≡ true
quiet_step true true e h = refl
quiet_step true false e h = absurd (cc e)
quiet_step false b e h = absurd (cc h)

module _ (P : TypedProgram) (script : List OfferValue) (fitted : Fitted P script) (search : Searches P) where
  abbrev Quiet : {from : Configuration} {moves : ℕ} {x : Whole P.body} → Reached P script from moves x → Type 0
  Quiet {x = x} r = (n : Node P.body) → enabled P script x n ≡ true → is_step P r.place x.wires n ≡ true

  -- so many layers lead to a quiet state
  pub record Settled (from : Configuration) (x : Whole P.body) (most : ℕ) : Type 0 where
    pub layers : List (List (Node P.body))
    pub are : AreCellLayers P script x layers
    pub long : length layers ≡ most
    pub moves : ℕ
    pub then_at : Reached P script from moves (cells_behind P x layers)
    pub quiet : (n : Node P.body) → enabled P script (cells_behind P x layers) n ≡ true
        → is_step P then_at.place (cells_behind P x layers).wires n ≡ true

  waits : (most : ℕ) {from : Configuration} {moves : ℕ} {x : Whole P.body} (r : Reached P script from moves x) → Quiet r → Settled from x most
  waits zero {moves = moves} r quiet = record { layers = []; are = tt; long = refl; moves = moves; then_at = r; quiet = quiet }
  waits (suc most) r quiet =
      let s = waits most r quiet in
      record { layers = [] ∷ s.layers; are = (tt, s.are); long = ap (λ k. suc k) s.long; moves = s.moves; then_at = s.then_at; quiet = s.quiet }

  falls : {from : Configuration} {moves : ℕ} {x : Whole P.body} (r : Reached P script from moves x) → Fits from.term → (n : Node P.body)
      → (e : enabled P script x n ≡ true) → is_step P r.place x.wires n ≡ false
      → suc (circuit_due P (next_reached P script fitted r n e).place (cells_moved P x n).wires) ≤ circuit_due P r.place x.wires
  falls r fit n e still = eases P script fitted r (leads_fit fit r.followed.leads) n e still

  settle : (most : ℕ) {from : Configuration} {moves : ℕ} {x : Whole P.body} (r : Reached P script from moves x) → Fits from.term
      → circuit_due P r.place x.wires ≤ most → Settled from x most
  settle zero {from = from} {x = x} r fit few = by (search (λ n. enabled P script x n && not (is_step P r.place x.wires n)))
    where
      by : ((n : Node P.body) × ((enabled P script x n && not (is_step P r.place x.wires n)) ≡ true))
          ⊎ ((n : Node P.body) → is_node P n ≡ true → (enabled P script x n && not (is_step P r.place x.wires n)) ≡ false) → Settled from x 0
      by (inr none) = waits 0 r (λ n e. quiet_step (enabled P script x n) (is_step P r.place x.wires n) (none n (present P script fitted r n e)) e)
      by (inl (n, z)) =
          let less = falls r fit n (loud_on (enabled P script x n) (is_step P r.place x.wires n) z)
          (loud_still (enabled P script x n) (is_step P r.place x.wires n) z) in absurd (omega (arith, less, few))
  settle (suc most) {from = from} {moves = moves} {x = x} r fit few = by (search (λ n. enabled P script x n && not (is_step P r.place x.wires n)))
      (λ n e less. settle most (next_reached P script fitted r n e) fit less)
    where
      by : ((n : Node P.body) × ((enabled P script x n && not (is_step P r.place x.wires n)) ≡ true))
          ⊎ ((n : Node P.body) → is_node P n ≡ true → (enabled P script x n && not (is_step P r.place x.wires n)) ≡ false)
          → ((n : Node P.body) (e : enabled P script x n ≡ true)
          → circuit_due P (next_reached P script fitted r n e).place (cells_moved P x n).wires ≤ most → Settled from (cells_moved P x n) most)
          → Settled from x (suc most)
      by (inr none) go =
          waits (suc most) r (λ n e. quiet_step (enabled P script x n) (is_step P r.place x.wires n) (none n (present P script fitted r n e)) e)
      by (inl (n, z)) go =
          let e = loud_on (enabled P script x n) (is_step P r.place x.wires n) z in
          let less = falls r fit n e (loud_still (enabled P script x n) (is_step P r.place x.wires n) z) in
          let s = go n e (omega (arith, less, few)) in
          record {
            layers = (n ∷ []) ∷ s.layers;
            are = ((e, present P script fitted r n e, λ m i. absurd i, tt), s.are);
            long = ap (λ k. suc k) s.long;
            moves = s.moves;
            then_at = s.then_at;
            quiet = s.quiet;
          }

  -- so many layers as n rounds take, which have come at least as far
  pub record Along (old : Configuration) (x : Whole P.body) (n : ℕ) : Type 0 where
    pub layers : List (List (Node P.body))
    pub are : AreCellLayers P script x layers
    pub long : length layers ≡ n * suc (circuit_most P)
    pub from : Configuration
    pub then_at : Reached P script from 0 (cells_behind P x layers)
    pub begins : then_at.followed.to ≡ from
    pub steps : ℕ
    pub leads : Leads (rounds_from old n) steps from

  pub along : (n : ℕ) (old c : Configuration) {k : ℕ} (x : Whole P.body) (r : Reached P script c 0 x) → r.followed.to ≡ c → Fits old.term → Leads old k c
      → Along old x n
  along zero old c {k = k} x r begins fit l =
      record { layers = []; are = tt; long = omega arith; from = c; then_at = r; begins = begins; steps = k; leads = l }
  along (suc n) old c {k = k} x r begins fit l =
      let few = due_fits P r.place x.wires in
      let s = settle (circuit_most P) r (leads_fit fit l) (omega (arith, few)) in
      let q = s.then_at in
      let far = lead_on l q.followed.leads in
      let made = round_made P script fitted q (leads_fit fit far) s.quiet in
      let on = rounds_behind fit far in
      let rest = along n (round old) (round q.followed.to) (cells_after P (cells_behind P x s.layers) made.nodes) made.then_at made.is
      (leads_fit fit (round_leads old fit)) on.1 in
      let more = made.nodes ∷ rest.layers in
      let same = behind_append P x s.layers more in
      let end = subst (λ (y : Whole P.body). (z : Reached P script rest.from 0 y) × (z.followed.to ≡ rest.from)) (sym same) (rest.then_at, rest.begins) in
      let a = length-append s.layers more in
      let b = s.long in
      let d = rest.long in
      record {
        layers = s.layers ++ more;
        are = are_append P script x s.layers more s.are (made.layer, rest.are);
        long = omega (arith, a, b, d);
        from = rest.from;
        then_at = end.0;
        begins = end.1;
        steps = rest.steps;
        leads = rest.leads;
      }

-- For each number of rounds there are so many layers of moves that have passed what they pass.
pub cells_keep_time : (P : TypedProgram) (script : List OfferValue) → Fitted P script → {c : Configuration} {moves : ℕ} {x : Whole P.body}
    (r : Reached P script c moves x) → Fits c.term → (n : ℕ)
    → (layers : List (List (Node P.body))) × (length layers ≡ n * suc (circuit_most P)) × AreCellLayers P script x layers
    × ((k : ℕ) → (rest : List ℕ) × (history_at (cells_behind P x layers).histories k ≡ history_at (rounds_from c n).histories k ++ rest))
cells_keep_time P script fitted {c = c} {x = x} r fit n =
    let a = along P script fitted (λ f. searches P f) n c r.followed.to x (restart P script r) refl fit r.followed.leads in (
      a.layers,
      a.long,
      a.are,
      λ k.
          let b = run_behind a.leads k in
          (b.0, ap (λ hs. history_at hs k) (sym a.then_at.followed.passed ∙ ap (λ (d : Configuration). d.histories) a.begins) ∙ b.1),
    )

-- The circuit of each covered program whose assignments don't read their own target keeps time: from its first state, for each
-- number of rounds, so many layers of moves have passed what they pass.
abbrev pub CellsKeepTime : Type 0
CellsKeepTime = (P : TypedProgram) → IsPlain P → (script : List OfferValue) → IsScript P.channels script → (n : ℕ)
    → (layers : List (List (Node P.body))) × (length layers ≡ n * suc (circuit_most P)) × AreCellLayers P script (first_cells P) layers
    × ((k : ℕ) → (rest : List ℕ) × (history_at (cells_behind P (first_cells P) layers).histories k ≡ history_at (rounds P script n).histories k ++ rest))

pub cells_on_time : TreesSettle → ExpressionsHold → CellsKeepTime
cells_on_time law hold P is script s n =
    cells_keep_time P script (fits P script is.sized s) (reached law hold P is script s 0 (first_cells P) at_first)
    (opened_fits P.body (meeting_sound P.body is.unshared)) n
