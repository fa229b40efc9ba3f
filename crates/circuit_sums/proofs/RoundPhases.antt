-- In a state in which each enabled move is a step, the phases of a round's steps are no more than the configuration says, and this is less than `longest`.
--
-- P: the program; r: how the state x is reached; n, ns: nodes; at, ps: places; v: a variable.
use Rattle.std.proofs.Common.{◌≡◌, ℕ, suc, ◌-◌, ◌≤◌, Bool, true, false, List, [], ◌∷◌, refl, sym, ap, ◌∙◌, inl, inr, arith}
use Rattle.std.specs.Prelude.{not, ◌&&◌, map}
use Rattle.std.proofs.Math.Nat.{le-max_left, le-max_right, max-le}
use Rattle.env_script.specs.Scripts.{OfferValue}
use Rattle.width_check.specs.Processes.{TypedProgram}
use Rattle.width_check.specs.Typing.{IsProcess}
use Rattle.chp_meaning.specs.Fitting.{In}
use Rattle.chp_meaning.specs.Terms.{Place}
use Rattle.chp_meaning.specs.Steps.{Configuration}
use Rattle.chp_meaning.specs.Rounds.{enabled_places}
use Rattle.chp_meaning.proofs.RoundRuns.{Can, can_each}
use Rattle.circuit_places.specs.Lines.{of_var}
use Rattle.circuit_places.specs.Whole.{Whole, line_ack, wrote_turned, joint_turned, Node, own_node, enabled}
use Rattle.circuit_places.proofs.Talks.{guarded_talks_sends, guarded_says_talks}
use Rattle.circuit_places.proofs.Meets.{sends}
use Rattle.circuit_places.proofs.Places.{guarded_shown}
use Rattle.circuit_places.proofs.StillSteps.{guarded_was_low}
use Rattle.circuit_places.proofs.System.{Fitted}
use Rattle.circuit_places.proofs.Quiet.{is_step, Makes, by_own, by_sender, by_receiver, by_bit, by_joint, each_made}
use Rattle.circuit_places.proofs.Carry.{Reached, enabled_is}
use Rattle.circuit_places.proofs.LayerRounds.{StepAt}
use Rattle.round_time.specs.Longest.{greatest, longest}
use Rattle.round_time.specs.Phases.{phase, passes, puts}
use Rattle.round_time.specs.Sums.{phase_of, phase_at, round_phase}
use Rattle.circuit_ranks.proofs.SiteRooms.{long_some}
use Rattle.circuit_sums.proofs.Passes.{node_phase}
use Rattle.circuit_sums.proofs.Statements.{guarded_statement}
use Rattle.circuit_sums.proofs.StepStands.{own_stands}
use Rattle.circuit_sums.proofs.StepLayers.{worst, AreEnabled}
use Rattle.circuit_sums.proofs.PassesBounded.{passes_less, puts_less}
use Rattle.circuit_sums.proofs.PhasesBounded.{own_phase}

-- the assignment is under way
told : (a b c : Bool) → (not a && (b && c)) ≡ true → b ≡ true
told false true c e = refl
told false false c e = absurd (cc e)
told true b c e = absurd (cc e)

module _ (P : TypedProgram) (script : List OfferValue) (fitted : Fitted P script) (typed : IsProcess P.channels P.vars P.body)
    {from : Configuration} {moves : ℕ} {x : Whole P.body} (r : Reached P script from moves x)
    (quiet : (n : Node P.body) → enabled P script x n ≡ true → is_step P r.place x.wires n ≡ true) where
  abbrev c : Configuration
  c = r.followed.to

  written : (v : ℕ) → (guarded_shown r.place).says (of_var v) ≡ true → sends P.body (of_var v) ≡ true
  written v e = guarded_talks_sends r.place (of_var v) (guarded_says_talks r.place (of_var v) e)

  -- the phase of the statement at the place of a node's step
  at_node : (at : Place) (n : Node P.body) → enabled P script x n ≡ true → Makes c.term at n
      → (node_phase P n ≤ phase_at P c at) × (suc (phase_at P c at) ≤ longest P)
  at_node at _ on (by_own s q stands own place) =
      let does = quiet (own_node s) on in
      let k = own_stands P script r s does in
      let is : phase_at P c at ≡ phase P (guarded_statement P.body s) = ap (phase_at P c) (sym place) ∙ ap (phase_of P) k.0 in
      let l = own_phase P r.good.meets typed s (guarded_was_low r.place s does).0 in
      let m = k.1 in
      (omega (arith, m, is), omega (arith, l, is))
  at_node at _ on (by_sender k s e stands) =
      let is : phase_at P c at ≡ passes P k = ap (phase_of P) stands in
      let l = passes_less P r.good.meets typed k in
      (omega (arith, is), omega (arith, l, is))
  at_node at _ on (by_receiver k v s u stands) =
      let is : phase_at P c at ≡ passes P k = ap (phase_of P) stands in
      let l = passes_less P r.good.meets typed k in
      (omega (arith, is), omega (arith, l, is))
  at_node at n on (by_bit v s e i stands) =
      let is : phase_at P c at ≡ puts P v = ap (phase_of P) stands in
      let l = puts_less P r.good.meets typed v (written v (told (line_ack P x.wires (of_var v)) ((guarded_shown r.place).says (of_var v))
      (line_ack P (wrote_turned x.wires v i) (of_var v)) (quiet n on))) in
      (omega (arith, is), omega (arith, l, is))
  at_node at n on (by_joint v s e i stands) =
      let is : phase_at P c at ≡ puts P v = ap (phase_of P) stands in
      let l = puts_less P r.good.meets typed v (written v (told (line_ack P x.wires (of_var v)) ((guarded_shown r.place).says (of_var v))
      (line_ack P (joint_turned x.wires v i) (of_var v)) (quiet n on))) in
      (omega (arith, is), omega (arith, l, is))

  -- each step that can be made is the move of some node
  phase_less : (at : Place) → Can c at → suc (phase_at P c at) ≤ longest P
  phase_less at can =
      let n = each_made P fitted x.wires x.histories r.place r.good (λ m e. quiet m (enabled_is P script r m ∙ e)) r.root r.followed can.1 in
      (at_node at n.0 (enabled_is P script r n.0 ∙ n.1) n.2).1

  all_less : (ps : List Place) → ((at : Place) → In ps at → Can c at) → greatest (map (phase_at P c) ps) ≤ longest P - 1
  all_less [] can = omega arith
  all_less (p ∷ ps) can = max-le (let l = phase_less p (can p (inl refl)) in omega (arith, l)) (all_less ps (λ at i. can at (inr i)))

  pub round_less : suc (round_phase P c) ≤ longest P
  round_less = let a = all_less (enabled_places c) (can_each c) in let l = long_some P in omega (arith, a, l)

  at_most : (ps : List Place) (at : Place) → In ps at → phase_at P c at ≤ greatest (map (phase_at P c) ps)
  at_most [] at i = absurd i
  at_most (p ∷ ps) at (inl same) =
      let l = le-max_left (phase_at P c p) (greatest (map (phase_at P c) ps)) in let e = ap (phase_at P c) same in omega (arith, l, e)
  at_most (p ∷ ps) at (inr i) =
      let l = le-max_right (phase_at P c p) (greatest (map (phase_at P c) ps)) in let m = at_most ps at i in omega (arith, l, m)

  pub worst_round : (ns : List (Node P.body)) → ((n : Node P.body) → In ns n → StepAt c.term (enabled_places c) n)
      → AreEnabled P script fitted r quiet ns → worst P ns ≤ round_phase P c
  worst_round [] each l = omega arith
  worst_round (n ∷ ns) each l =
      let s = each n (inl refl) in
      let a = (at_node s.place n l.0 s.makes).0 in
      let b = at_most (enabled_places c) s.place s.among in
      max-le (omega (arith, a, b)) (worst_round ns (λ m i. each m (inr i)) l.2)
