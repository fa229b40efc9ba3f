-- Where each enabled move of the circuit is a step, all steps of the program can be made at once: as one layer of moves, which
-- leads to the configuration after a round.
use Rattle.std.proofs.Common.{◌≡◌, ◌≢◌, ℕ, suc, ◌<◌, ◌≤◌, ◌==◌, Bool, true, false, List, refl, sym, ap, ◌∙◌, subst, inl, arith}
use Rattle.std.specs.Prelude.{not, nat_lt, if◌then◌else◌, Some}
use Rattle.std.proofs.lemmas.Bool.Decides.{nat_tests}
use Rattle.chp_base.specs.declared.span.Span.{Span}
use Rattle.prs_core.specs.Parts.{turned}
use Rattle.env_script.specs.Scripts.{OfferValue}
use Rattle.width_check.specs.Processes.{Formula, assigning, sending, receiving, TypedProgram}
use Rattle.width_check.specs.Typing.{var_width}
use Rattle.width_check.specs.Sharing.{writes_var, done_at}
use Rattle.chp_meaning.specs.Terms.{finished, Place, statement_at}
use Rattle.chp_meaning.specs.Steps.{Configuration, Step}
use Rattle.chp_meaning.proofs.Fitting.{Fits, places_apart}
use Rattle.chp_meaning.proofs.Moves.{Port, ports_apart}
use Rattle.circuit_places.specs.Bounds.{circuit_most}
use Rattle.circuit_places.specs.Lines.{of_var}
use Rattle.circuit_places.specs.Circuit.{QElementCells, Cells, GuardedSpot, tree_answer}
use Rattle.circuit_places.specs.Whole.{Wires, wires_seen, line_ack, Whole, Node, go_node, own_node, rail_node, ack_node, bit_node, wrote_node, joint_node, wires_after, wrote_turned, joint_turned, enabled, cells_moved}
use Rattle.circuit_places.proofs.LineNames.{self_number}
use Rattle.circuit_places.proofs.Places.{Mode, idle, running, answered, returning, asks, GuardedAt, g_rests, guarded_cells, guarded_writing, guarded_moves}
use Rattle.circuit_places.proofs.Left.{guarded_left_past}
use Rattle.circuit_places.proofs.Stepping.{guarded_steps}
use Rattle.circuit_places.proofs.StepPlaces.{guarded_place}
use Rattle.circuit_places.proofs.StillSteps.{guarded_rises, guarded_value, guarded_is_step}
use Rattle.circuit_places.proofs.OwnSteps.{guarded_none}
use Rattle.circuit_places.proofs.Blocks.{Acked, ack_stays, ack_turns, wrote_turns, joint_turns, joint_some, ready_valid}
use Rattle.circuit_places.proofs.RailLemmas.{each_bit}
use Rattle.circuit_places.proofs.System.{Good, root_left, Next, Freed, Fitted}
use Rattle.circuit_places.proofs.CircuitDue.{circuit_due, due_fits}
use Rattle.circuit_places.proofs.Follow.{Followed}
use Rattle.circuit_places.proofs.BlockMoves.{next_of}
use Rattle.circuit_places.proofs.Carry.{Reached, next_reached, may, present}
use Rattle.circuit_places.proofs.StepMoves.{own_made, var_made, ack_made, has_port, hears_port}

-- A node is armed for a place: its next move is the step of the statement there, whatever else moves before it.
pub data Armed (P : TypedProgram) (x : Whole P.body) (c : Configuration) (p : Place) : Node P.body → Type 0 where
  own_armed : (s : GuardedSpot P.body) → guarded_place s ≡ p → guarded_rises s ≡ true → guarded_value P.body x.root s ≡ false → Armed P x c p (own_node s)
  sender_armed : (k : ℕ) (at : Span) (e : Formula) → statement_at c.term p ≡ Some (sending k at e) → x.wires.ack k ≡ false → Armed P x c p (ack_node k)
  receiver_armed : (k v : ℕ) (at to : Span) → statement_at c.term p ≡ Some (receiving k at v to) → x.wires.ack k ≡ false → Armed P x c p (ack_node k)
  bit_armed : (v i : ℕ) (at : Span) (e : Formula) → statement_at c.term p ≡ Some (assigning v at e) → line_ack P x.wires (of_var v) ≡ false
      → ((u : Wires) → line_ack P (wrote_turned u v i) (of_var v) ≡ not (line_ack P u (of_var v))) → Armed P x c p (wrote_node v i)
  joint_armed : (v i : ℕ) (at : Span) (e : Formula) → statement_at c.term p ≡ Some (assigning v at e) → line_ack P x.wires (of_var v) ≡ false
      → ((u : Wires) → line_ack P (joint_turned u v i) (of_var v) ≡ not (line_ack P u (of_var v))) → Armed P x c p (joint_node v i)

never : {A : Type 0} (b : Bool) → b ≡ false → b ≡ true → A
never b e h = absurd (cc (e, h))

pub below : (i n : ℕ) → nat_lt i n ≡ true → i < n
below i n h = grind (arith, nat_tests)

-- Its move makes the step.
module _ (P : TypedProgram) (script : List OfferValue) (fitted : Fitted P script) {c : Configuration} {x : Whole P.body} (r : Reached P script c 0 x)
    (begins : r.followed.to ≡ c) (fit : Fits c.term) {p : Place} {d : Configuration} (made : Step c p d) where
  abbrev Led : Node P.body → Type 0
  Led n = (z : Reached P script c 1 (cells_moved P x n)) × (z.followed.to ≡ d)

  here : Step r.followed.to p d
  here = subst (λ q. Step q p d) (sym begins) made

  here_fits : Fits r.followed.to.term
  here_fits = subst (λ (q : Configuration). Fits q.term) (sym begins) fit

  -- with what is known of the run
  with_run : (n : Node P.body) (e : enabled P script x n ≡ true)
      → (u : Followed P script c 1 (cells_moved P x n).histories (root_left (line_ack P (wires_after x.wires n)) (next_reached P script fitted r n e).place)
      (wires_after x.wires n).bit (guarded_writing (line_ack P (wires_after x.wires n)) (next_reached P script fitted r n e).place)
      (circuit_due P (next_reached P script fitted r n e).place (wires_after x.wires n))) × (u.to ≡ d) → Led n
  with_run n e u =
      let z = next_reached P script fitted r n e in (
        record { mode = z.mode; place = z.place; root = z.root; go = z.go; same = z.same; good = z.good; brought = z.brought; followed = u.0 },
        u.1,
      )

  few : {m : Mode} (g : GuardedAt P.body m) (w : Wires) → suc (circuit_due P g w) ≤ circuit_most P
  few g w = due_fits P g w

  own_led : (s : GuardedSpot P.body) (e : enabled P script x (own_node s) ≡ true) → guarded_place s ≡ p → guarded_rises s ≡ true
      → guarded_value P.body x.root s ≡ false → Led (own_node s)
  own_led s e is rises low =
      let m = may P script r (own_node s) e in
      let z = guarded_is_step (wires_seen P x.wires) r.place s m rises
      (ap (λ (q : QElementCells (Cells P.body)). guarded_value P.body q s) (sym r.same) ∙ low) in
      with_run (own_node s) e (by r.mode r.place r.good r.followed m z (next_of P script fitted x.histories r.good (own_node s) m)
      (subst (λ q. Step r.followed.to q d) (sym is) here) here_fits)
    where
      by : (m : Mode) (g : GuardedAt P.body m) → Good P m g x.wires
          → {due : ℕ} (f : Followed P script c 0 x.histories (root_left (line_ack P x.wires) g) x.wires.bit (guarded_writing (line_ack P x.wires) g) due)
          → guarded_moves (wires_seen P x.wires) g s ≡ true → guarded_steps g s ≡ true → (y : Next P script m g x.wires x.histories (own_node s))
          → Step f.to (guarded_place s) d → Fits f.to.term
          → (u : Followed P script c 1 x.histories (root_left (line_ack P x.wires) y.to) x.wires.bit (guarded_writing (line_ack P x.wires) y.to)
          (circuit_due P y.to x.wires)) × (u.to ≡ d)
      by running g good f e z y step fits = own_made P g x.wires x.histories good f s e z y fits step (circuit_due P y.to x.wires) (few y.to x.wires)
      by idle g good f e z y step fits = never _ (guarded_none g (λ i. cc i) s) z
      by answered g good f e z y step fits = never _ (guarded_none g (λ i. cc i) s) z
      by returning g good f e z y step fits = never _ (guarded_none g (λ i. cc i) s) z

  -- a node of a variable's block
  var_led : (n : Node P.body) (e : enabled P script x n ≡ true) (v : ℕ) (at : Span) (t : Formula) → statement_at c.term p ≡ Some (assigning v at t)
      → (wires_after x.wires n).rail ≡ x.wires.rail → (wires_after x.wires n).bit ≡ x.wires.bit → ((k : ℕ) → (wires_after x.wires n).ack k ≡ x.wires.ack k)
      → ((y : ℕ) → (y == v) ≡ false → line_ack P (wires_after x.wires n) (of_var y) ≡ line_ack P x.wires (of_var y))
      → line_ack P x.wires (of_var v) ≡ false → line_ack P (wires_after x.wires n) (of_var v) ≡ true → 1 ≤ var_width P.vars v
      → Acked (var_width P.vars v) (x.wires.bit v) (x.wires.rail (of_var v)) (x.wires.wrote v) (line_ack P x.wires (of_var v))
      (line_ack P (wires_after x.wires n) (of_var v))
      → guarded_cells (next_reached P script fitted r n e).place ≡ guarded_cells r.place
      → asks (next_reached P script fitted r n e).mode ≡ asks r.mode
      → ((y : ℕ) → Freed P x.wires (wires_after x.wires n) (guarded_writing (line_ack P x.wires) r.place y)
      (guarded_writing (line_ack P (wires_after x.wires n)) (next_reached P script fitted r n e).place y) y ⊥)
      → (cells_moved P x n).histories ≡ x.histories → Led n
  var_led n e v at t stands rails bits acks far low high some acked cells_stay asked frees same =
      let z = next_reached P script fitted r n e in
      with_run n e (subst (λ hs. (u : Followed P script c 1 hs (root_left (line_ack P (wires_after x.wires n)) z.place) (wires_after x.wires n).bit
      (guarded_writing (line_ack P (wires_after x.wires n)) z.place) (circuit_due P z.place (wires_after x.wires n))) × (u.to ≡ d)) (sym same)
      (by r.mode r.place r.root r.good r.followed z.mode z.place cells_stay asked frees
      (ap (λ (q : Configuration). statement_at q.term p) begins ∙ stands) here here_fits))
    where
      by : (m : Mode) (g : GuardedAt P.body m) → m ≢ returning → Good P m g x.wires
          → {due : ℕ} (f : Followed P script c 0 x.histories (root_left (line_ack P x.wires) g) x.wires.bit (guarded_writing (line_ack P x.wires) g) due)
          → (k : Mode) (h : GuardedAt P.body k) → guarded_cells h ≡ guarded_cells g → asks k ≡ asks m
          → ((y : ℕ) → Freed P x.wires (wires_after x.wires n) (guarded_writing (line_ack P x.wires) g y)
          (guarded_writing (line_ack P (wires_after x.wires n)) h y) y ⊥) → statement_at f.to.term p ≡ Some (assigning v at t)
          → Step f.to p d → Fits f.to.term
          → (u : Followed P script c 1 x.histories (root_left (line_ack P (wires_after x.wires n)) h) (wires_after x.wires n).bit
          (guarded_writing (line_ack P (wires_after x.wires n)) h) (circuit_due P h (wires_after x.wires n))) × (u.to ≡ d)
      by running g ne good f k h cells ask freed stand step fits =
          var_made P script g x.wires x.histories good f v (wires_after x.wires n) rails bits acks far low high some acked h cells ask freed p at t stand fits
          step (circuit_due P h (wires_after x.wires n)) (few h (wires_after x.wires n))
      by idle g_rests ne good f k h cells ask freed stand step fits = absurd (none acked)
        where
          none : Acked (var_width P.vars v) (x.wires.bit v) (x.wires.rail (of_var v)) (x.wires.wrote v) (line_ack P x.wires (of_var v))
              (line_ack P (wires_after x.wires n) (of_var v)) → ⊥
          none (ack_stays stay) = cc (stay, low, high)
          none (ack_turns over ready) =
              let valid = ready_valid (var_width P.vars v) (x.wires.bit v) (x.wires.rail (of_var v)) (x.wires.wrote v) (line_ack P x.wires (of_var v)) low
              ready in
              let z : 0 < var_width P.vars v = omega (arith, some) in
              let (side, up) = each_bit (var_width P.vars v) (x.wires.rail (of_var v)) valid.0 0 z in
              cc (good.rising (of_var v) 0 side refl low up)
      by answered g ne good f k h cells ask freed stand step fits =
          let over : statement_at finished p ≡ Some (assigning v at t) =
          sym (ap (λ q. statement_at q p) (f.term ∙ guarded_left_past (line_ack P x.wires) g)) ∙ stand in absurd (cc over)
      by returning g ne good f k h cells ask freed stand step fits = absurd (ne refl)

  pub led : (n : Node P.body) (e : enabled P script x n ≡ true) → Armed P x c p n → Led n
  led _ e (own_armed s is rises low) = own_led s e is rises low
  led _ e (sender_armed k at t stands low) =
      (next_reached P script fitted r (ack_node k) e, ack_made P script fitted r begins fit k e low made (has_port made k at t stands))
  led _ e (receiver_armed k v at to stands low) =
      (next_reached P script fitted r (ack_node k) e, ack_made P script fitted r begins fit k e low made (hears_port made k v at to stands))
  led _ e (bit_armed v i at t stands low turns) =
      let w = x.wires in
      let m = may P script r (wrote_node v i) e in
      let less : i < var_width P.vars v = below i (var_width P.vars v) (present P script fitted r (wrote_node v i) e) in
      let some : 1 ≤ var_width P.vars v = omega (arith, less) in
      let y = next_of P script fitted x.histories r.good (wrote_node v i) m in
      let same : (wrote_turned w v i).wrote v ≡ turned (w.wrote v) i = ap (λ b. if b then turned (w.wrote v) i else w.wrote v) (self_number v) in
      var_led (wrote_node v i) e v at t stands refl refl (λ k. refl)
      (λ z h. ap (λ (l : ℕ → Bool). tree_answer (var_width P.vars z) l (w.joint z)) (ap (λ b. if b then turned (w.wrote v) i else w.wrote z) h))
      low (turns w ∙ ap not low) some
      (subst (λ (l : ℕ → Bool). Acked (var_width P.vars v) (w.bit v) (w.rail (of_var v)) (w.wrote v) (line_ack P w (of_var v))
      (tree_answer (var_width P.vars v) l (w.joint v))) (sym same)
      (wrote_turns (var_width P.vars v) (w.bit v) (w.rail (of_var v)) (w.wrote v) (w.joint v) (r.good.block v some) i less m).acked)
      y.same y.go y.frees refl
  led _ e (joint_armed v i at t stands low turns) =
      let w = x.wires in
      let m = may P script r (joint_node v i) e in
      let some : 1 ≤ var_width P.vars v = joint_some (var_width P.vars v) (w.wrote v) (w.joint v) i m in
      let y = next_of P script fitted x.histories r.good (joint_node v i) m in
      let same : (joint_turned w v i).joint v ≡ turned (w.joint v) i = ap (λ b. if b then turned (w.joint v) i else w.joint v) (self_number v) in
      var_led (joint_node v i) e v at t stands refl refl (λ k. refl)
      (λ z h. ap (λ (l : ℕ → Bool). tree_answer (var_width P.vars z) (w.wrote z) l) (ap (λ b. if b then turned (w.joint v) i else w.joint z) h))
      low (turns w ∙ ap not low) some
      (subst (λ (l : ℕ → Bool). Acked (var_width P.vars v) (w.bit v) (w.rail (of_var v)) (w.wrote v) (line_ack P w (of_var v))
      (tree_answer (var_width P.vars v) (w.wrote v) l)) (sym same)
      (joint_turns (var_width P.vars v) (w.bit v) (w.rail (of_var v)) (w.wrote v) (w.joint v) (r.good.block v some) i m).acked)
      y.same y.go y.frees refl

-- Two places have two nodes.
two_writers : (c : Configuration) → Fits c.term → {p q : Place} (v : ℕ) (at to : Span) (e f : Formula) → p ≢ q
    → statement_at c.term p ≡ Some (assigning v at e) → statement_at c.term q ≡ Some (assigning v to f) → ⊥
two_writers c fit {p = p} {q = q} v at to e f ne h k =
    places_apart c.term p q (assigning v at e) (assigning v to f) fit ne h k (done_at (writes_var v) at) (done_at (writes_var v) to) (inl refl) (inl refl) refl

port_of : {P : TypedProgram} {x : Whole P.body} {c : Configuration} {p : Place} {d : Configuration} {k : ℕ} → Step c p d → Armed P x c p (ack_node k)
    → Port c p k
port_of s (sender_armed k at e h low) = has_port s k at e h
port_of s (receiver_armed k v at to h low) = hears_port s k v at to h

pub two_nodes : (P : TypedProgram) {x : Whole P.body} {c : Configuration} (fit : Fits c.term) {p q : Place} {d e : Configuration} (n : Node P.body)
    → Step c p d → Step c q e → p ≢ q → Armed P x c p n → Armed P x c q n → ⊥
two_nodes P {c = c} fit {p = p} {q = q} (ack_node k) s t ne a b = ports_apart c p q k fit ne (port_of s a) (port_of t b)
two_nodes P fit (own_node s) _ _ ne (own_armed _ is rises low) (own_armed _ too again down) = ne (sym is ∙ too)
two_nodes P {c = c} fit (wrote_node v i) _ _ ne (bit_armed _ _ at e h low turns) (bit_armed _ _ to f k down over) = two_writers c fit v at to e f ne h k
two_nodes P {c = c} fit (joint_node v i) _ _ ne (joint_armed _ _ at e h low turns) (joint_armed _ _ to f k down over) = two_writers c fit v at to e f ne h k
two_nodes P fit go_node s t ne a b = elim a [ ]
two_nodes P fit (rail_node line bit one) s t ne a b = elim a [ ]
two_nodes P fit (bit_node var bit one) s t ne a b = elim a [ ]
