-- Where each enabled move is a step, the steps of a round are made one after the other, in one layer: behind them each silent move has a rank below the
-- greatest of their phases.
--
-- P: the program; r: how the state x is reached; n, m: nodes; ns: the layer's; v, u: variables; c: a channel; i, j, k: bits, or nodes of a tree; t: the top of
-- a tree; l, w: values of its leaves and nodes.
use Rattle.std.proofs.Common.{◌≡◌, ◌≢◌, ℕ, ◌+◌, ◌-◌, ◌<◌, ◌≤◌, ◌==◌, Bool, true, false, List, [], ◌∷◌, refl, sym, ap, ◌∙◌, subst, inl, inr, arith}
use Rattle.std.specs.Prelude.{not, ◌&&◌, nat_lt, if◌then◌else◌, max}
use Rattle.std.specs.List.{range_with_len}
use Rattle.std.proofs.Math.Nat.{le-max_left, le-max_right}
use Rattle.std.proofs.lemmas.Bool.Decides.{nat_tests}
use Rattle.prs_core.specs.Parts.{turned}
use Rattle.cell_parallel.specs.Trees.{tree_top}
use Rattle.env_script.specs.Scripts.{OfferValue}
use Rattle.width_check.specs.Processes.{TypedProgram}
use Rattle.width_check.specs.Typing.{var_width}
use Rattle.chp_meaning.specs.Fitting.{In}
use Rattle.chp_meaning.specs.Steps.{Configuration}
use Rattle.circuit_places.specs.Lines.{of_var}
use Rattle.circuit_places.specs.Circuit.{QElementCells, Cells, GuardedSpot, tree_value, tree_answer}
use Rattle.circuit_places.specs.Whole.{Whole, wires_seen, line_ack, Node, go_node, own_node, rail_node, ack_node, bit_node, wrote_node, joint_node, wrote_turned, joint_turned, enabled, cells_moved}
use Rattle.circuit_places.proofs.LineNames.{self_number, same_number}
use Rattle.circuit_places.proofs.Flow.{cases, not_both}
use Rattle.circuit_places.proofs.Places.{guarded_shown}
use Rattle.circuit_places.proofs.StillSteps.{guarded_rises, guarded_value, guarded_is_step, guarded_was_low, guarded_keeps_value}
use Rattle.circuit_places.proofs.Stepping.{guarded_steps}
use Rattle.circuit_places.proofs.System.{Fitted}
use Rattle.circuit_places.proofs.Quiet.{is_step}
use Rattle.circuit_places.proofs.Carry.{Reached, may, next_reached, stable}
use Rattle.circuit_places.proofs.LayerRounds.{cells_after}
use Rattle.circuit_time.proofs.Levels.{Silent, Below}
use Rattle.circuit_ranks.proofs.Ranks.{rank}
use Rattle.circuit_ranks.proofs.Underway.{same_says}
use Rattle.circuit_ranks.proofs.FarStates.{wrote_ack, joint_ack}
use Rattle.circuit_sums.proofs.Passes.{node_phase}
use Rattle.circuit_sums.proofs.StepsWires.{Behind, ack_behind, wrote_behind, joint_behind, high_by, assigned}
use Rattle.circuit_sums.proofs.Stepped.{stepped}

-- ---- a node whose move raises the answer of its tree is the top

top_leaf : (n t i : ℕ) (l w : ℕ → Bool) → tree_value n l w t ≡ false → tree_value n (turned l i) w t ≡ true → (t < n) × (t ≡ i)
top_leaf n t i l w low high = by (nat_lt t n) refl (t == i) refl
  where
    by : (b : Bool) → nat_lt t n ≡ b → (d : Bool) → (t == i) ≡ d → (t < n) × (t ≡ i)
    by true hb true hd = ((let g : t < n = grind (arith, nat_tests) in g), same_number t i hd)
    by true hb false hd =
        let a : l t ≡ false = sym (ap (λ z. if z then l t else w (t - n)) hb) ∙ low in
        let h : turned l i t ≡ true = sym (ap (λ z. if z then turned l i t else w (t - n)) hb) ∙ high in
        let b : l t ≡ true = sym (ap (λ z. if z then not (l t) else l t) hd) ∙ h in
        absurd (cc (a, b))
    by false hb d hd =
        let a : w (t - n) ≡ false = sym (ap (λ z. if z then l t else w (t - n)) hb) ∙ low in
        let b : w (t - n) ≡ true = sym (ap (λ z. if z then turned l i t else w (t - n)) hb) ∙ high in
        absurd (cc (a, b))

top_joint : (n t i : ℕ) (l w : ℕ → Bool) → tree_value n l w t ≡ false → tree_value n l (turned w i) t ≡ true → t ≡ n + i
top_joint n t i l w low high = by (nat_lt t n) refl ((t - n) == i) refl
  where
    by : (b : Bool) → nat_lt t n ≡ b → (d : Bool) → ((t - n) == i) ≡ d → t ≡ n + i
    by false hb true hd =
        let e = same_number (t - n) i hd in
        let m : n ≤ t = grind (arith, nat_tests) in
        omega (arith, e, m)
    by false hb false hd =
        let a : w (t - n) ≡ false = sym (ap (λ z. if z then l t else w (t - n)) hb) ∙ low in
        let h : turned w i (t - n) ≡ true = sym (ap (λ z. if z then l t else turned w i (t - n)) hb) ∙ high in
        let b : w (t - n) ≡ true = sym (ap (λ z. if z then not (w (t - n)) else w (t - n)) hd) ∙ h in
        absurd (cc (a, b))
    by true hb d hd =
        let a : l t ≡ false = sym (ap (λ z. if z then l t else w (t - n)) hb) ∙ low in
        let b : l t ≡ true = sym (ap (λ z. if z then l t else turned w i (t - n)) hb) ∙ high in
        absurd (cc (a, b))

-- and the top's move turns it over
leaf_raises : (n t i : ℕ) (l w : ℕ → Bool) → t < n → t ≡ i → tree_value n l w t ≡ false → tree_value n (turned l i) w t ≡ true
leaf_raises n t i l w less same low =
    let hb : nat_lt t n ≡ true = grind (arith, nat_tests) in
    let hd : (t == i) ≡ true = ap (λ z. t == z) (sym same) ∙ self_number t in
    let a : l t ≡ false = sym (ap (λ z. if z then l t else w (t - n)) hb) ∙ low in
    ap (λ z. if z then turned l i t else w (t - n)) hb ∙ (ap (λ z. if z then not (l t) else l t) hd ∙ ap not a)

joint_raises : (n t i : ℕ) (l w : ℕ → Bool) → t ≡ n + i → tree_value n l w t ≡ false → tree_value n l (turned w i) t ≡ true
joint_raises n t i l w same low =
    let hb : nat_lt t n ≡ false = grind (arith, nat_tests, same) in
    let e : t - n ≡ i = omega (arith, same) in
    let hd : ((t - n) == i) ≡ true = ap (λ z. (t - n) == z) (sym e) ∙ self_number (t - n) in
    let a : w (t - n) ≡ false = sym (ap (λ z. if z then l t else w (t - n)) hb) ∙ low in
    ap (λ z. if z then l t else turned w i (t - n)) hb ∙ (ap (λ z. if z then not (w (t - n)) else w (t - n)) hd ∙ ap not a)

module _ (P : TypedProgram) where
  abbrev top : ℕ → ℕ
  top v = tree_top (range_with_len 0 (var_width P.vars v)) (var_width P.vars v)

  -- a node whose move is a step, whatever else moves before it
  abbrev pub Ready : Whole P.body → Node P.body → Type 0
  Ready x (own_node s) = (guarded_rises s ≡ true) × (guarded_value P.body x.root s ≡ false)
  Ready x (ack_node c) = x.wires.ack c ≡ false
  Ready x (wrote_node v i) = (line_ack P x.wires (of_var v) ≡ false) × (top v < var_width P.vars v) × (top v ≡ i)
  Ready x (joint_node v k) = (line_ack P x.wires (of_var v) ≡ false) × (top v ≡ var_width P.vars v + k)
  Ready x _ = ⊥

  -- the greatest phase of these steps
  abbrev pub worst : List (Node P.body) → ℕ
  worst [] = 0
  worst (n ∷ ns) = max (node_phase P n) (worst ns)

  module _ (x : Whole P.body) (m : Node P.body) (b : Ready x m) where
    ack_low : (c : ℕ) → ack_node c ≢ m → x.wires.ack c ≡ false → (cells_moved P x m).wires.ack c ≡ false
    ack_low c apart low = by m b apart
      where
        by : (m : Node P.body) → Ready x m → ack_node c ≢ m → (cells_moved P x m).wires.ack c ≡ false
        by (own_node s) b ne = low
        by (ack_node d) b ne = cases (c == d) (λ (h : (c == d) ≡ true). absurd (ne (ap (λ z. ack_node z) (same_number c d h))))
            (λ (h : (c == d) ≡ false). ap (λ z. if z then not (x.wires.ack d) else x.wires.ack c) h ∙ low)
        by (wrote_node v i) b ne = low
        by (joint_node v k) b ne = low
        by go_node b ne = absurd b
        by (rail_node k i one) b ne = absurd b
        by (bit_node v i one) b ne = absurd b

    own_low : (s : GuardedSpot P.body) → own_node s ≢ m → guarded_rises s ≡ true → guarded_value P.body x.root s ≡ false
        → guarded_value P.body (cells_moved P x m).root s ≡ false
    own_low s apart rises low = by m b apart
      where
        by : (m : Node P.body) → Ready x m → own_node s ≢ m → guarded_value P.body (cells_moved P x m).root s ≡ false
        by (own_node q) b ne = guarded_keeps_value P.body x.root s q (λ same. ne (ap (λ k. own_node k) same)) rises ∙ low
        by (ack_node d) b ne = low
        by (wrote_node v i) b ne = low
        by (joint_node v k) b ne = low
        by go_node b ne = absurd b
        by (rail_node k i one) b ne = absurd b
        by (bit_node v i one) b ne = absurd b

    -- of a variable whose top isn't the other node
    va_low : (v : ℕ) → ((i : ℕ) → m ≡ wrote_node v i → top v < var_width P.vars v → top v ≡ i → ⊥)
        → ((k : ℕ) → m ≡ joint_node v k → top v ≡ var_width P.vars v + k → ⊥) → line_ack P x.wires (of_var v) ≡ false
        → line_ack P (cells_moved P x m).wires (of_var v) ≡ false
    va_low v no_leaf no_joint low = by m b no_leaf no_joint
      where
        by : (m : Node P.body) → Ready x m → ((i : ℕ) → m ≡ wrote_node v i → top v < var_width P.vars v → top v ≡ i → ⊥)
            → ((k : ℕ) → m ≡ joint_node v k → top v ≡ var_width P.vars v + k → ⊥) → line_ack P (cells_moved P x m).wires (of_var v) ≡ false
        by (own_node s) b no_leaf no_joint = low
        by (ack_node c) b no_leaf no_joint = low
        by (wrote_node u i) b no_leaf no_joint = cases (v == u)
            (λ (h : (v == u) ≡ true). let same = same_number v u h in
            absurd (no_leaf i (ap (λ z. wrote_node z i) (sym same)) (subst (λ z. top z < var_width P.vars z) (sym same) b.1)
            (subst (λ z. top z ≡ i) (sym same) b.2)))
            (λ (h : (v == u) ≡ false). ap (λ (f : ℕ → Bool). tree_answer (var_width P.vars v) f (x.wires.joint v))
            (ap (λ z. if z then turned (x.wires.wrote u) i else x.wires.wrote v) h) ∙ low)
        by (joint_node u k) b no_leaf no_joint = cases (v == u)
            (λ (h : (v == u) ≡ true). let same = same_number v u h in
            absurd (no_joint k (ap (λ z. joint_node z k) (sym same)) (subst (λ z. top z ≡ var_width P.vars z + k) (sym same) b.1)))
            (λ (h : (v == u) ≡ false). ap (λ (f : ℕ → Bool). tree_answer (var_width P.vars v) (x.wires.wrote v) f)
            (ap (λ z. if z then turned (x.wires.joint u) k else x.wires.joint v) h) ∙ low)
        by go_node b no_leaf no_joint = absurd b
        by (rail_node k i one) b no_leaf no_joint = absurd b
        by (bit_node u i one) b no_leaf no_joint = absurd b

    pub ready_on : (n : Node P.body) → n ≢ m → Ready x n → Ready (cells_moved P x m) n
    ready_on (own_node s) ne a = (a.0, own_low s ne a.0 a.1)
    ready_on (ack_node c) ne a = ack_low c ne a
    ready_on (wrote_node v i) ne a = (
      va_low v (λ j e less is. ne (ap (λ z. wrote_node v z) (sym a.2 ∙ is) ∙ sym e)) (λ k e is. let l = a.1 in omega (arith, l, is)) a.0,
      a.1,
      a.2,
    )
    ready_on (joint_node v k) ne a = (
      va_low v (λ j e less is. let s = a.1 in omega (arith, less, s))
          (λ j e is. ne (ap (λ z. joint_node v z) (let s = a.1 in let g : k ≡ j = omega (arith, s, is) in g) ∙ sym e)) a.0,
      a.1,
    )
    ready_on go_node ne a = absurd a
    ready_on (rail_node k i one) ne a = absurd a
    ready_on (bit_node v i one) ne a = absurd a

module _ (P : TypedProgram) (script : List OfferValue) (fitted : Fitted P script) where
  -- a step is ready
  ready : {from : Configuration} {moves : ℕ} {x : Whole P.body} (r : Reached P script from moves x) (n : Node P.body) → is_step P r.place x.wires n ≡ true
      → Ready P x n
  ready r (own_node s) z =
      let k = guarded_was_low r.place s z in
      (k.0, ap (λ (q : QElementCells (Cells P.body)). guarded_value P.body q s) r.same ∙ k.1)
  ready {x = x} r (ack_node c) z = high_by (x.wires.ack c) z
  ready {x = x} r (wrote_node v i) z =
      let w = x.wires in
      let a = assigned (line_ack P w (of_var v)) ((guarded_shown r.place).says (of_var v)) (line_ack P (wrote_turned w v i) (of_var v)) z in
      let t = top_leaf (var_width P.vars v) (top P v) i (w.wrote v) (w.joint v) a.0 (sym (wrote_ack P script fitted r w v i) ∙ a.1) in
      (a.0, t.0, t.1)
  ready {x = x} r (joint_node v k) z =
      let w = x.wires in
      let a = assigned (line_ack P w (of_var v)) ((guarded_shown r.place).says (of_var v)) (line_ack P (joint_turned w v k) (of_var v)) z in
      (a.0, top_joint (var_width P.vars v) (top P v) k (w.wrote v) (w.joint v) a.0 (sym (joint_ack P script fitted r w v k) ∙ a.1))
  ready r go_node z = absurd (cc z)
  ready r (rail_node k i one) z = absurd (cc z)
  ready r (bit_node v i one) z = absurd (cc z)

  -- behind what is ready silent moves are below its phase
  leads : {from : Configuration} {moves : ℕ} {x : Whole P.body} (r : Reached P script from moves x) (n : Node P.body) (on : enabled P script x n ≡ true)
      → Ready P x n → (m : Node P.body) → Silent P script fitted (rank P) (next_reached P script fitted r n on) m → Behind P script fitted r n m
  leads {from = from} {moves = moves} {x = x} r (own_node s) on a m t = stepped P script fitted from moves x r (own_node s) on
      (guarded_is_step (wires_seen P x.wires) r.place s (may P script r (own_node s) on) a.0
      (ap (λ (q : QElementCells (Cells P.body)). guarded_value P.body q s) (sym r.same) ∙ a.1)) m t
  leads r (ack_node c) on a m t = ack_behind P script fitted r c on a m t
  leads {x = x} r (wrote_node v i) on a m t = wrote_behind P script fitted r v i on (wrote_ack P script fitted r x.wires v i
      ∙ leaf_raises (var_width P.vars v) (top P v) i (x.wires.wrote v) (x.wires.joint v) a.1 a.2 a.0) m t
  leads {x = x} r (joint_node v k) on a m t = joint_behind P script fitted r v k on (joint_ack P script fitted r x.wires v k
      ∙ joint_raises (var_width P.vars v) (top P v) k (x.wires.wrote v) (x.wires.joint v) a.1 a.0) m t
  leads r go_node on a m t = absurd a
  leads r (rail_node k i one) on a m t = absurd a
  leads r (bit_node v i one) on a m t = absurd a

  -- moves that are enabled, and ready, no node twice
  abbrev AllReady : Whole P.body → List (Node P.body) → Type 0
  AllReady x [] = Unit {0}
  AllReady x (n ∷ ns) = (enabled P script x n ≡ true) × Ready P x n × ((m : Node P.body) → In ns m → n ≢ m) × AllReady x ns

  all_on : {from : Configuration} {moves : ℕ} {x : Whole P.body} (r : Reached P script from moves x) (n : Node P.body) → enabled P script x n ≡ true
      → Ready P x n → (ns : List (Node P.body)) → ((m : Node P.body) → In ns m → n ≢ m) → AllReady x ns → AllReady (cells_moved P x n) ns
  all_on r n on a [] ne l = tt
  all_on {x = x} r n on a (m ∷ ns) ne l = (
    stable P script fitted x r m n (λ e. ne m (inl refl) (sym e)) l.0 on,
    ready_on P x n a m (λ e. ne m (inl refl) (sym e)) l.1,
    l.2,
    all_on r n on a ns (λ k i. ne k (inr i)) l.3,
  )

  -- all of them, one after the other
  record Made (from : Configuration) (x : Whole P.body) (ns : List (Node P.body)) (most : ℕ) : Type 0 where
    pub moves : ℕ
    pub then_at : Reached P script from moves (cells_after P x ns)
    pub below : Below P script fitted (rank P) then_at most

  make : (most : ℕ) {from : Configuration} {moves : ℕ} (ns : List (Node P.body)) (x : Whole P.body) (r : Reached P script from moves x) → AllReady x ns
      → worst P ns ≤ most → Below P script fitted (rank P) r most → Made from x ns most
  make most {moves = moves} [] x r l upto below = record { moves = moves; then_at = r; below = below }
  make most (n ∷ ns) x r l upto below =
      let a = le-max_left (node_phase P n) (worst P ns) in
      let b = le-max_right (node_phase P n) (worst P ns) in
      let z = make most ns (cells_moved P x n) (next_reached P script fitted r n l.0) (all_on r n l.0 l.1 ns l.2 l.3) (omega (arith, b, upto))
      (λ m t. by m (leads r n l.0 l.1 m t) (omega (arith, a, upto))) in
      record { moves = z.moves; then_at = z.then_at; below = z.below }
    where
      by : (m : Node P.body) → Behind P script fitted r n m → node_phase P n ≤ most → rank P (cells_moved P x n) m < most
      by m (inl less) upto = omega (arith, less, upto)
      by m (inr (ne, t, less)) upto = let c = below m t in omega (arith, c, less)

  -- where a state is tells nothing that its values don't
  silent_same : {from old : Configuration} {moves steps : ℕ} {x : Whole P.body} (r : Reached P script from moves x) (q : Reached P script old steps x)
      (n : Node P.body) → Silent P script fitted (rank P) q n → Silent P script fitted (rank P) r n
  silent_same {x = x} r q n t = record { on = t.on; still = by n t.on t.still }
    where
      by : (n : Node P.body) → enabled P script x n ≡ true → is_step P q.place x.wires n ≡ false → is_step P r.place x.wires n ≡ false
      by (own_node s) on z = cases (guarded_steps r.place s)
          (λ (h : guarded_steps r.place s ≡ true).
          let k = guarded_was_low r.place s h in
          absurd (not_both z (guarded_is_step (wires_seen P x.wires) q.place s (may P script q (own_node s) on) k.0
          (ap (λ (y : QElementCells (Cells P.body)). guarded_value P.body y s) (sym q.same ∙ r.same) ∙ k.1))))
          (λ (h : guarded_steps r.place s ≡ false). h)
      by (ack_node c) on z = z
      by (wrote_node v i) on z =
          ap (λ (b : Bool). not (line_ack P x.wires (of_var v)) && (b && line_ack P (wrote_turned x.wires v i) (of_var v)))
          (same_says v r.place q.place (sym r.same ∙ q.same)) ∙ z
      by (joint_node v k) on z =
          ap (λ (b : Bool). not (line_ack P x.wires (of_var v)) && (b && line_ack P (joint_turned x.wires v k) (of_var v)))
          (same_says v r.place q.place (sym r.same ∙ q.same)) ∙ z
      by go_node on z = refl
      by (rail_node k i one) on z = refl
      by (bit_node v i one) on z = refl

  -- So behind a layer of steps, in a state in which each enabled move is one.
  module _ {from : Configuration} {moves : ℕ} {x : Whole P.body} (r : Reached P script from moves x)
      (quiet : (n : Node P.body) → enabled P script x n ≡ true → is_step P r.place x.wires n ≡ true) where
    abbrev pub AreEnabled : List (Node P.body) → Type 0
    AreEnabled [] = Unit {0}
    AreEnabled (n ∷ ns) = (enabled P script x n ≡ true) × ((m : Node P.body) → In ns m → n ≢ m) × AreEnabled ns

    all_ready : (ns : List (Node P.body)) → AreEnabled ns → AllReady x ns
    all_ready [] l = tt
    all_ready (n ∷ ns) l = (l.0, ready r n (quiet n l.0), l.1, all_ready ns l.2)

    pub layer_below : (ns : List (Node P.body)) → AreEnabled ns → {old : Configuration} {steps : ℕ} (q : Reached P script old steps (cells_after P x ns))
        → Below P script fitted (rank P) q (worst P ns)
    layer_below ns l q n t =
        let z = make (worst P ns) ns x r (all_ready ns l) (omega arith) (λ m s. absurd (not_both s.still (quiet m s.on))) in
        z.below n (silent_same z.then_at q n t)
