-- From a state in which all silent moves have ranks below a number, n rounds take so many layers as the phases of their steps come to: as many as the number
-- says lead to the first round's steps, one makes these, and as many as their greatest phase says lead to those of the next round.
--
-- P: the program; r: how the state x is reached, c: its configuration; most: that each silent move's rank is below it; n: how many rounds.
use Rattle.std.proofs.Common.{◌≡◌, ℕ, zero, suc, ◌*◌, ◌≤◌, true, List, [], ◌∷◌, ◌++◌, length, refl, sym, ap, ◌∙◌, subst, arith, length-append}
use Rattle.env_script.specs.Scripts.{OfferValue}
use Rattle.width_check.specs.Processes.{TypedProgram}
use Rattle.width_check.specs.Typing.{IsProcess}
use Rattle.chp_meaning.specs.Steps.{Configuration}
use Rattle.chp_meaning.specs.Rounds.{round, rounds_from}
use Rattle.chp_meaning.proofs.Fitting.{Fits}
use Rattle.chp_meaning.proofs.Meeting.{leads_fit}
use Rattle.chp_meaning.proofs.RoundRuns.{round_leads}
use Rattle.circuit_places.specs.Whole.{Whole, Node, enabled}
use Rattle.circuit_places.proofs.System.{Fitted}
use Rattle.circuit_places.proofs.Quiet.{is_step}
use Rattle.circuit_places.proofs.Carry.{Reached}
use Rattle.circuit_places.proofs.LayerRounds.{IsCellLayer, cells_after, round_made}
use Rattle.circuit_places.proofs.Search.{searches}
use Rattle.round_time.specs.Longest.{longest}
use Rattle.round_time.specs.Sums.{round_phase, sum_from}
use Rattle.circuit_time.proofs.Levels.{IsSpread, AreSpread, spread_behind, Below, calm}
use Rattle.circuit_time.proofs.Paced.{spread_append, are_append, spread_of}
use Rattle.circuit_ranks.proofs.Ranks.{rank}
use Rattle.circuit_ranks.proofs.Lowers.{lowers}
use Rattle.circuit_sums.proofs.StepLayers.{AreEnabled, layer_below}
use Rattle.circuit_sums.proofs.RoundPhases.{round_less, worst_round}

-- so many layers, behind which has passed what n rounds pass
pub record Summed (P : TypedProgram) (script : List OfferValue) (c : Configuration) (x : Whole P.body) (n most : ℕ) : Type 0 where
  pub layers : List (List (Node P.body))
  pub are : AreSpread P script x layers
  pub long : length layers ≡ sum_from P most c n
  pub passed : (spread_behind P x layers).histories ≡ (rounds_from c n).histories
  pub few : suc most ≤ longest P → sum_from P most c n ≤ n * longest P

module _ (P : TypedProgram) (script : List OfferValue) (fitted : Fitted P script) (typed : IsProcess P.channels P.vars P.body) where
  enabled_all : {from : Configuration} {moves : ℕ} {x : Whole P.body} (r : Reached P script from moves x)
      (quiet : (n : Node P.body) → enabled P script x n ≡ true → is_step P r.place x.wires n ≡ true) (ns : List (Node P.body)) → IsCellLayer P script x ns
      → AreEnabled P script fitted r quiet ns
  enabled_all r quiet [] l = tt
  enabled_all r quiet (n ∷ ns) l = (l.0, (λ m i. (l.2 m i).0), enabled_all r quiet ns l.3)

  -- behind a layer that makes a round's steps
  record RoundDone (c : Configuration) (x : Whole P.body) : Type 0 where
    nodes : List (Node P.body)
    are : IsSpread P script x nodes
    then_at : Reached P script (round c) 0 (cells_after P x nodes)
    is : then_at.followed.to ≡ round c
    below : Below P script fitted (rank P) then_at (round_phase P c)
    less : suc (round_phase P c) ≤ longest P

  round_done : {from : Configuration} {moves : ℕ} {x : Whole P.body} (r : Reached P script from moves x) → Fits r.followed.to.term
      → ((n : Node P.body) → enabled P script x n ≡ true → is_step P r.place x.wires n ≡ true) → RoundDone r.followed.to x
  round_done {x = x} r fit quiet =
      let made = round_made P script fitted r fit quiet in
      let on = enabled_all r quiet made.nodes made.layer in
      let w = worst_round P script fitted typed r quiet made.nodes made.each on in
      record {
        nodes = made.nodes;
        are = spread_of P script x made.nodes made.layer;
        then_at = made.then_at;
        is = made.is;
        below = λ m t. let b = layer_below P script fitted r quiet made.nodes on made.then_at m t in omega (arith, b, w);
        less = round_less P script fitted typed r quiet;
      }

  pub along : (n most : ℕ) {from : Configuration} {moves : ℕ} (x : Whole P.body) (r : Reached P script from moves x) → Fits from.term
      → Below P script fitted (rank P) r most → (c : Configuration) → r.followed.to ≡ c → Fits c.term → Summed P script c x n most
  along zero most x r from_fit below c is fit = record {
    layers = [];
    are = tt;
    long = refl;
    passed = sym r.followed.passed ∙ ap (λ (d : Configuration). d.histories) is;
    few = λ m. omega arith;
  }
  along (suc n) most x r from_fit below c is fit =
      let s = calm P script fitted (rank P) (λ f. searches P f) (lowers P script fitted typed) most r from_fit below in
      let y = spread_behind P x s.layers in
      let done : RoundDone c y = subst (λ (d : Configuration). RoundDone d y) (s.stays ∙ is)
      (round_done s.then_at (leads_fit from_fit s.then_at.followed.leads) s.quiet) in
      let next = leads_fit fit (round_leads c fit) in
      let rest = along n (round_phase P c) (cells_after P y done.nodes) done.then_at next done.below (round c) done.is next in
      let more = done.nodes ∷ rest.layers in
      let a = length-append s.layers more in
      let b = s.long in
      let d = rest.long in
      record {
        layers = s.layers ++ more;
        are = are_append P script x s.layers more s.are (done.are, rest.are);
        long = omega (arith, a, b, d);
        passed = ap (λ (z : Whole P.body). z.histories) (spread_append P x s.layers more) ∙ rest.passed;
        few = λ m. let u = rest.few done.less in omega (arith, m, u);
      }
