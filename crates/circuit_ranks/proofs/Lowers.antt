-- Each silent move of a circuit enables silent moves of lower rank alone: so from its first state the circuit makes n rounds in n times `longest`
-- layers.
--
-- P: the program; r: how the state x is reached; n, m: nodes.
use Rattle.std.proofs.Common.{List, refl}
use Rattle.env_script.specs.Scripts.{OfferValue}
use Rattle.width_check.specs.Processes.{TypedProgram}
use Rattle.width_check.specs.Typing.{IsProcess}
use Rattle.circuit_places.specs.Whole.{own_node, go_node, rail_node, ack_node, bit_node, wrote_node, joint_node}
use Rattle.circuit_places.proofs.Trees.{TreesSettle}
use Rattle.circuit_places.proofs.Meets.{ExpressionsHold}
use Rattle.circuit_places.proofs.System.{Fitted}
use Rattle.circuit_time.proofs.Levels.{LowersRanks}
use Rattle.circuit_pace.proofs.OwnLowers.{own_lowers}
use Rattle.circuit_ranks.proofs.Ranks.{rank}
use Rattle.circuit_ranks.proofs.Claims.{of_spots}
use Rattle.circuit_ranks.proofs.OwnFar.{own_far}
use Rattle.circuit_ranks.proofs.FarAny.{far_any}
use Rattle.circuit_ranks.proofs.Layers.{RoundsInLayers, cells_in_layers}

module _ (P : TypedProgram) (script : List OfferValue) (fitted : Fitted P script) (typed : IsProcess P.channels P.vars P.body) where
  pub lowers : LowersRanks P script fitted (rank P)
  lowers from moves x r (own_node p) s (own_node q) t = of_spots P script fitted r p q (own_lowers P script fitted typed r p s.on s.still q t.on t.still)
  lowers from moves x r (own_node p) s go_node t = own_far P script fitted typed r p go_node refl s t
  lowers from moves x r (own_node p) s (rail_node k i one) t = own_far P script fitted typed r p (rail_node k i one) refl s t
  lowers from moves x r (own_node p) s (ack_node c) t = own_far P script fitted typed r p (ack_node c) refl s t
  lowers from moves x r (own_node p) s (bit_node v i one) t = own_far P script fitted typed r p (bit_node v i one) refl s t
  lowers from moves x r (own_node p) s (wrote_node v i) t = own_far P script fitted typed r p (wrote_node v i) refl s t
  lowers from moves x r (own_node p) s (joint_node v k) t = own_far P script fitted typed r p (joint_node v k) refl s t
  lowers from moves x r go_node s m t = far_any P script fitted typed r go_node m refl s t
  lowers from moves x r (rail_node k i one) s m t = far_any P script fitted typed r (rail_node k i one) m refl s t
  lowers from moves x r (ack_node c) s m t = far_any P script fitted typed r (ack_node c) m refl s t
  lowers from moves x r (bit_node v i one) s m t = far_any P script fitted typed r (bit_node v i one) m refl s t
  lowers from moves x r (wrote_node v i) s m t = far_any P script fitted typed r (wrote_node v i) m refl s t
  lowers from moves x r (joint_node v k) s m t = far_any P script fitted typed r (joint_node v k) m refl s t

-- From its first state the circuit of each covered program whose assignments don't read their own target makes n rounds in so many layers.
pub rounds_in_longest : TreesSettle → ExpressionsHold → RoundsInLayers
rounds_in_longest law hold = cells_in_layers law hold (λ P is script fitted. lowers P script fitted is.sized.body_is)
