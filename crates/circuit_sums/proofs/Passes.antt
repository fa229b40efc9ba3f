-- The phases of steps at channels and variables, by what ranks count of the falls of lines; and those of nodes.
--
-- P: the program; c: a channel; v: a variable; held: how many moves there are from a site's answer to the fall of its request; n: a node.
use Rattle.std.proofs.Common.{◌≡◌, ℕ, ◌+◌, ◌≤◌, ◌==◌, refl, sym, ap, arith}
use Rattle.std.specs.Prelude.{if◌then◌else◌, max}
use Rattle.std.proofs.Math.Nat.{le-max_left, le-max_right}
use Rattle.width_check.specs.Processes.{Process, skipping, assigning, sending, receiving, in_turn, side_by_side, choosing, repeating, TypedProgram}
use Rattle.width_check.specs.Typing.{kind_at}
use Rattle.circuit_places.specs.Whole.{Node, own_node, ack_node, wrote_node, joint_node}
use Rattle.round_time.specs.Longest.{depth, var_height}
use Rattle.round_time.specs.Phases.{over_program, acked, written, taken, pass_at as passes_at, put_at as puts_at}
pub use Rattle.round_time.specs.Phases.{passes, puts}
use Rattle.circuit_time.proofs.Trails.{rail_left}
use Rattle.circuit_pace.proofs.EverySite.{EverySite, site_map}
use Rattle.circuit_pace.proofs.Counts.{counts}
use Rattle.circuit_sums.proofs.OverStatements.{over_each, acked_is, written_is, taken_is, rails_is}
use Rattle.circuit_sums.proofs.Phases.{guarded_phase}

module _ (P : TypedProgram) where
  -- A site answers, its request falls, and then what stands behind that.
  abbrev pub pass_at : (chan : ℕ) → Process → (held : ℕ) → ℕ
  pass_at c (sending k at e) held =
      if k == c then 1 + (held + (depth e + rail_left (kind_at P.channels k) ((counts P).acked k) ((counts P).taken k))) else 0
  pass_at c (receiving k at x to) held = if k == c then 1 + (held + (3 + var_height P x + (counts P).written x)) else 0
  pass_at c p held = 0

  abbrev pub put_at : (var : ℕ) → Process → (held : ℕ) → ℕ
  put_at v (assigning y at e) held = if y == v then 1 + (held + (depth e + (2 + var_height P y + (counts P).written y))) else 0
  put_at v p held = 0

  -- of a step that is the move of the node
  abbrev pub node_phase : Node P.body → ℕ
  node_phase (own_node s) = guarded_phase P 0 P.body s
  node_phase (ack_node c) = passes P c
  node_phase (wrote_node v i) = puts P v
  node_phase (joint_node v k) = puts P v
  node_phase _ = 0

  pass_is : (c held down : ℕ) (q : Process) → pass_at c q held ≡ passes_at P c held down q
  pass_is c held down (sending k at e) =
      ap (λ n. if k == c then 1 + (held + (depth e + n)) else 0) (sym (rails_is P (kind_at P.channels k) k))
  pass_is c held down (receiving k at x to) = ap (λ n. if k == c then 1 + (held + (3 + var_height P x + n)) else 0) (sym (written_is P x))
  pass_is c held down skipping = refl
  pass_is c held down (assigning x at e) = refl
  pass_is c held down (in_turn ms) = refl
  pass_is c held down (side_by_side ms) = refl
  pass_is c held down (repeating p) = refl
  pass_is c held down (choosing again cs) = refl

  put_is : (v held down : ℕ) (q : Process) → put_at v q held ≡ puts_at P v held down q
  put_is v held down (assigning y at e) = ap (λ n. if y == v then 1 + (held + (depth e + (2 + var_height P y + n))) else 0) (sym (written_is P y))
  put_is v held down (sending k at e) = refl
  put_is v held down (receiving k at x to) = refl
  put_is v held down skipping = refl
  put_is v held down (in_turn ms) = refl
  put_is v held down (side_by_side ms) = refl
  put_is v held down (repeating p) = refl
  put_is v held down (choosing again cs) = refl

  -- each site's is below the greatest
  pub passes_each : (c : ℕ) → EverySite P (λ held down q. pass_at c q held ≤ passes P c) 2 1 P.body
  passes_each c = site_map P (λ held down q. passes_at P c held down q ≤ passes P c) (λ held down q. pass_at c q held ≤ passes P c)
      (λ held down q e. let s = pass_is c held down q in omega (arith, e, s)) 2 1 P.body
      (over_each P (passes_at P c) (passes P c) 2 1 P.body (le-max_right (max (2 + acked P c) (1 + taken P c)) (over_program P (passes_at P c))))

  pub puts_each : (v : ℕ) → EverySite P (λ held down q. put_at v q held ≤ puts P v) 2 1 P.body
  puts_each v = site_map P (λ held down q. puts_at P v held down q ≤ puts P v) (λ held down q. put_at v q held ≤ puts P v)
      (λ held down q e. let s = put_is v held down q in omega (arith, e, s)) 2 1 P.body
      (over_each P (puts_at P v) (puts P v) 2 1 P.body (le-max_right (2 + var_height P v + written P v) (over_program P (puts_at P v))))

  pub passes_some : (c : ℕ) → (2 + (counts P).acked c ≤ passes P c) × (1 + (counts P).taken c ≤ passes P c)
  passes_some c =
      let a = le-max_left (max (2 + acked P c) (1 + taken P c)) (over_program P (passes_at P c)) in
      let b = le-max_left (2 + acked P c) (1 + taken P c) in
      let d = le-max_right (2 + acked P c) (1 + taken P c) in
      let s = acked_is P c in
      let t = taken_is P c in
      (omega (arith, a, b, s), omega (arith, a, d, t))

  pub puts_written : (v : ℕ) → 2 + var_height P v + (counts P).written v ≤ puts P v
  puts_written v =
      let a = le-max_left (2 + var_height P v + written P v) (over_program P (puts_at P v)) in
      let s = written_is P v in
      omega (arith, a, s)
