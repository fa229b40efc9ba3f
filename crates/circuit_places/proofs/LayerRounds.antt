-- All steps of a round as one layer of moves.
use Rattle.std.proofs.Common.{◌≡◌, ◌≢◌, ℕ, ◌-◌, ◌==◌, Bool, true, false, List, [], ◌∷◌, refl, sym, ap, ◌∙◌, subst, inl, inr}
use Rattle.std.specs.Prelude.{not, ◌&&◌, nat_lt, if◌then◌else◌, fold, Some}
use Rattle.std.specs.List.{range_with_len}
use Rattle.chp_base.specs.declared.span.Span.{Span}
use Rattle.prs_core.specs.Parts.{turned}
use Rattle.cell_parallel.specs.Trees.{tree_top}
use Rattle.env_script.specs.Scripts.{OfferValue}
use Rattle.width_check.specs.Processes.{Formula, Process, assigning, sending, receiving, TypedProgram}
use Rattle.width_check.specs.Sharing.{writes_var, done_at}
use Rattle.width_check.specs.Typing.{var_width}
use Rattle.chp_meaning.specs.Fitting.{In}
use Rattle.chp_meaning.specs.Terms.{Term, Place, statement_at}
use Rattle.chp_meaning.specs.Steps.{Configuration, Step}
use Rattle.chp_meaning.specs.Rounds.{enabled_places, taken, round}
use Rattle.chp_meaning.proofs.Places.{Distinct}
use Rattle.chp_meaning.proofs.Fitting.{Fits, places_apart}
use Rattle.chp_meaning.proofs.Moves.{step_deals, undisturbed}
use Rattle.chp_meaning.proofs.Meeting.{step_fits, joined}
use Rattle.chp_meaning.proofs.RoundRuns.{Can, taken_is, can_each, listed_once}
use Rattle.circuit_places.specs.Lines.{of_var}
use Rattle.circuit_places.specs.Circuit.{QElementCells, Cells, GuardedSpot, tree_value, tree_answer}
use Rattle.circuit_places.specs.Whole.{Wires, line_ack, Whole, Node, own_node, ack_node, wrote_turned, joint_turned, is_node, enabled, cells_moved}
use Rattle.circuit_places.proofs.RailLemmas.{fst_true, snd_true}
use Rattle.circuit_places.proofs.LineNames.{self_number, same_number}
use Rattle.circuit_places.proofs.Flow.{cases}
use Rattle.circuit_places.proofs.Places.{guarded_shown}
use Rattle.circuit_places.proofs.StillSteps.{guarded_rises, guarded_value, guarded_was_low, guarded_keeps_value}
use Rattle.circuit_places.proofs.System.{Fitted}
use Rattle.circuit_places.proofs.Quiet.{is_step, Makes, by_own, by_sender, by_receiver, by_bit, by_joint, each_made}
use Rattle.circuit_places.proofs.KeptValues.{Rising}
use Rattle.circuit_places.proofs.Carry.{Reached, present, stable, enabled_is}
use Rattle.circuit_places.proofs.StepMoves.{restart}
use Rattle.circuit_places.proofs.Phases.{Armed, own_armed, sender_armed, receiver_armed, bit_armed, joint_armed, led, two_nodes}

-- moves that are enabled in the state, no node twice; of several nodes each has a value that no other changes
abbrev pub IsCellLayer : (P : TypedProgram) → List OfferValue → Whole P.body → List (Node P.body) → Type 0
IsCellLayer P script x [] = Unit {0}
IsCellLayer P script x (n ∷ ns) =
    (enabled P script x n ≡ true) × (is_node P n ≡ true) × ((m : Node P.body) → In ns m → (n ≢ m) × Rising n) × IsCellLayer P script x ns

-- the state after these moves
abbrev pub cells_after : (P : TypedProgram) → Whole P.body → List (Node P.body) → Whole P.body
cells_after P x [] = x
cells_after P x (n ∷ ns) = cells_after P (cells_moved P x n) ns

low_by : (b : Bool) → not b ≡ true → b ≡ false
low_by true e = absurd (cc e)
low_by false e = refl

-- A move that turns a tree's answer over is its top's.
leaf_top : (n t i : ℕ) (l k : ℕ → Bool) → tree_value n l k t ≡ false → tree_value n (turned l i) k t ≡ true → (m j : ℕ → Bool)
    → tree_value n (turned m i) j t ≡ not (tree_value n m j t)
leaf_top n t i l k low high m j = by (nat_lt t n) refl (t == i) refl
  where
    by : (b : Bool) → nat_lt t n ≡ b → (d : Bool) → (t == i) ≡ d → tree_value n (turned m i) j t ≡ not (tree_value n m j t)
    by true hb true hd = ap (λ z. if z then turned m i t else j (t - n)) hb
        ∙ (ap (λ z. if z then not (m t) else m t) hd ∙ sym (ap (λ z. not (if z then m t else j (t - n))) hb))
    by true hb false hd =
        let a : l t ≡ false = sym (ap (λ z. if z then l t else k (t - n)) hb) ∙ low in
        let h : turned l i t ≡ true = sym (ap (λ z. if z then turned l i t else k (t - n)) hb) ∙ high in
        let b : l t ≡ true = sym (ap (λ z. if z then not (l t) else l t) hd) ∙ h in
        absurd (cc (a, b))
    by false hb d hd =
        let a : k (t - n) ≡ false = sym (ap (λ z. if z then l t else k (t - n)) hb) ∙ low in
        let b : k (t - n) ≡ true = sym (ap (λ z. if z then turned l i t else k (t - n)) hb) ∙ high in
        absurd (cc (a, b))

node_top : (n t i : ℕ) (l k : ℕ → Bool) → tree_value n l k t ≡ false → tree_value n l (turned k i) t ≡ true → (m j : ℕ → Bool)
    → tree_value n m (turned j i) t ≡ not (tree_value n m j t)
node_top n t i l k low high m j = by (nat_lt t n) refl ((t - n) == i) refl
  where
    by : (b : Bool) → nat_lt t n ≡ b → (d : Bool) → ((t - n) == i) ≡ d → tree_value n m (turned j i) t ≡ not (tree_value n m j t)
    by false hb true hd = ap (λ z. if z then m t else turned j i (t - n)) hb
        ∙ (ap (λ z. if z then not (j (t - n)) else j (t - n)) hd ∙ sym (ap (λ z. not (if z then m t else j (t - n))) hb))
    by false hb false hd =
        let a : k (t - n) ≡ false = sym (ap (λ z. if z then l t else k (t - n)) hb) ∙ low in
        let h : turned k i (t - n) ≡ true = sym (ap (λ z. if z then l t else turned k i (t - n)) hb) ∙ high in
        let b : k (t - n) ≡ true = sym (ap (λ z. if z then not (k (t - n)) else k (t - n)) hd) ∙ h in
        absurd (cc (a, b))
    by true hb d hd =
        let a : l t ≡ false = sym (ap (λ z. if z then l t else k (t - n)) hb) ∙ low in
        let b : l t ≡ true = sym (ap (λ z. if z then l t else turned k i (t - n)) hb) ∙ high in
        absurd (cc (a, b))

module _ (P : TypedProgram) (v i : ℕ) (w : Wires) (low : line_ack P w (of_var v) ≡ false) where
  abbrev width : ℕ
  width = var_width P.vars v

  abbrev top : ℕ
  top = tree_top (range_with_len 0 width) width

  wrote_is : (u : Wires) → (wrote_turned u v i).wrote v ≡ turned (u.wrote v) i
  wrote_is u = ap (λ b. if b then turned (u.wrote v) i else u.wrote v) (self_number v)

  joint_is : (u : Wires) → (joint_turned u v i).joint v ≡ turned (u.joint v) i
  joint_is u = ap (λ b. if b then turned (u.joint v) i else u.joint v) (self_number v)

  wrote_tops : line_ack P (wrote_turned w v i) (of_var v) ≡ true → (u : Wires) → line_ack P (wrote_turned u v i) (of_var v) ≡ not (line_ack P u (of_var v))
  wrote_tops high u = ap (λ (l : ℕ → Bool). tree_answer width l (u.joint v)) (wrote_is u)
      ∙ leaf_top width top i (w.wrote v) (w.joint v) low (sym (ap (λ (l : ℕ → Bool). tree_answer width l (w.joint v)) (wrote_is w)) ∙ high) (u.wrote v)
      (u.joint v)

  joint_tops : line_ack P (joint_turned w v i) (of_var v) ≡ true → (u : Wires) → line_ack P (joint_turned u v i) (of_var v) ≡ not (line_ack P u (of_var v))
  joint_tops high u = ap (λ (l : ℕ → Bool). tree_answer width (u.wrote v) l) (joint_is u)
      ∙ node_top width top i (w.wrote v) (w.joint v) low (sym (ap (λ (l : ℕ → Bool). tree_answer width (w.wrote v) l) (joint_is w)) ∙ high) (u.wrote v)
      (u.joint v)

-- what makes a step is armed for its place
armed : (P : TypedProgram) (script : List OfferValue) {from : Configuration} {moves : ℕ} {x : Whole P.body} (r : Reached P script from moves x)
    {c : Configuration} {p : Place} (n : Node P.body) → is_step P r.place x.wires n ≡ true → Makes c.term p n → Armed P x c p n
armed P script r _ z (by_own s q h o is) =
    let k = guarded_was_low r.place s z in
    own_armed s is k.0 (ap (λ (q : QElementCells (Cells P.body)). guarded_value P.body q s) r.same ∙ k.1)
armed P script {x = x} r _ z (by_sender k s e h) = sender_armed k s e h (low_by (x.wires.ack k) z)
armed P script {x = x} r _ z (by_receiver k v s u h) = receiver_armed k v s u h (low_by (x.wires.ack k) z)
armed P script {x = x} r _ z (by_bit v s e i h) =
    let w = x.wires in
    let low = low_by (line_ack P w (of_var v)) (fst_true (not (line_ack P w (of_var v))) _ z) in
    let both = snd_true (not (line_ack P w (of_var v))) ((guarded_shown r.place).says (of_var v) && line_ack P (wrote_turned w v i) (of_var v)) z in
    bit_armed v i s e h low (wrote_tops P v i w low (snd_true ((guarded_shown r.place).says (of_var v)) (line_ack P (wrote_turned w v i) (of_var v)) both))
armed P script {x = x} r _ z (by_joint v s e i h) =
    let w = x.wires in
    let low = low_by (line_ack P w (of_var v)) (fst_true (not (line_ack P w (of_var v))) _ z) in
    let both = snd_true (not (line_ack P w (of_var v))) ((guarded_shown r.place).says (of_var v) && line_ack P (joint_turned w v i) (of_var v)) z in
    joint_armed v i s e h low (joint_tops P v i w low (snd_true ((guarded_shown r.place).says (of_var v)) (line_ack P (joint_turned w v i) (of_var v)) both))

-- What is armed stays so when another node makes its step.
module _ (P : TypedProgram) {x : Whole P.body} {c : Configuration} (fit : Fits c.term) {p q : Place} {d e : Configuration} (s : Step c q d) (u : Step c p e)
    (ne : q ≢ p) (m : Node P.body) (b : Armed P x c q m) where
  stands_on : (t : Process) → statement_at c.term p ≡ Some t → statement_at d.term p ≡ Some t
  stands_on t h = ap (λ (y : Configuration). statement_at y.term p) (sym (step_deals s)) ∙ (undisturbed s u fit ne).stays p t (inl refl) h

  ack_low : (k : ℕ) → ack_node k ≢ m → x.wires.ack k ≡ false → (cells_moved P x m).wires.ack k ≡ false
  ack_low k apart low = by m b apart
    where
      other : (j : ℕ) → ack_node {p = P.body} k ≢ ack_node j → (if k == j then not (x.wires.ack j) else x.wires.ack k) ≡ false
      other j ne = cases (k == j) (λ (h : (k == j) ≡ true). absurd (ne (ap (λ z. ack_node z) (same_number k j h))))
          (λ (h : (k == j) ≡ false). ap (λ z. if z then not (x.wires.ack j) else x.wires.ack k) h ∙ low)

      by : (m : Node P.body) → Armed P x c q m → ack_node k ≢ m → (cells_moved P x m).wires.ack k ≡ false
      by _ (own_armed z is rises l) ne = low
      by _ (sender_armed j at t h l) ne = other j ne
      by _ (receiver_armed j v at to h l) ne = other j ne
      by _ (bit_armed v i at t h l turns) ne = low
      by _ (joint_armed v i at t h l turns) ne = low

  va_low : (v : ℕ) → ((at : Span) (t : Formula) → statement_at c.term q ≡ Some (assigning v at t) → ⊥) → line_ack P x.wires (of_var v) ≡ false
      → line_ack P (cells_moved P x m).wires (of_var v) ≡ false
  va_low v none low = by m b
    where
      by : (m : Node P.body) → Armed P x c q m → line_ack P (cells_moved P x m).wires (of_var v) ≡ false
      by _ (own_armed z is rises l) = low
      by _ (sender_armed j at t h l) = low
      by _ (receiver_armed j y at to h l) = low
      by _ (bit_armed y i at t h l turns) = cases (v == y)
          (λ (k : (v == y) ≡ true). absurd (none at t (h ∙ ap (λ z. Some (assigning z at t)) (sym (same_number v y k)))))
          (λ (k : (v == y) ≡ false). ap (λ (f : ℕ → Bool). tree_answer (var_width P.vars v) f (x.wires.joint v))
          (ap (λ z. if z then turned (x.wires.wrote y) i else x.wires.wrote v) k) ∙ low)
      by _ (joint_armed y i at t h l turns) = cases (v == y)
          (λ (k : (v == y) ≡ true). absurd (none at t (h ∙ ap (λ z. Some (assigning z at t)) (sym (same_number v y k)))))
          (λ (k : (v == y) ≡ false). ap (λ (f : ℕ → Bool). tree_answer (var_width P.vars v) (x.wires.wrote v) f)
          (ap (λ z. if z then turned (x.wires.joint y) i else x.wires.joint v) k) ∙ low)

  own_low : (z : GuardedSpot P.body) → own_node z ≢ m → guarded_rises z ≡ true → guarded_value P.body x.root z ≡ false
      → guarded_value P.body (cells_moved P x m).root z ≡ false
  own_low z apart rises low = by m b apart
    where
      by : (m : Node P.body) → Armed P x c q m → own_node z ≢ m → guarded_value P.body (cells_moved P x m).root z ≡ false
      by _ (own_armed y is up l) ne = guarded_keeps_value P.body x.root z y (λ same. ne (ap (λ k. own_node k) same)) rises ∙ low
      by _ (sender_armed j at t h l) ne = low
      by _ (receiver_armed j v at to h l) ne = low
      by _ (bit_armed v i at t h l turns) ne = low
      by _ (joint_armed v i at t h l turns) ne = low

  two_assign : (v : ℕ) (at to : Span) (t f : Formula) → statement_at c.term p ≡ Some (assigning v at t) → statement_at c.term q ≡ Some (assigning v to f) → ⊥
  two_assign v at to t f h k = places_apart c.term q p (assigning v to f) (assigning v at t) fit ne k h (done_at (writes_var v) to) (done_at (writes_var v) at)
      (inl refl) (inl refl) refl

  armed_on : (n : Node P.body) → n ≢ m → Armed P x c p n → Armed P (cells_moved P x m) d p n
  armed_on _ apart (own_armed z is rises low) = own_armed z is rises (own_low z apart rises low)
  armed_on _ apart (sender_armed k at t h low) = sender_armed k at t (stands_on (sending k at t) h) (ack_low k apart low)
  armed_on _ apart (receiver_armed k v at to h low) = receiver_armed k v at to (stands_on (receiving k at v to) h) (ack_low k apart low)
  armed_on _ apart (bit_armed v i at t h low turns) =
      bit_armed v i at t (stands_on (assigning v at t) h) (va_low v (λ to f k. two_assign v at to t f h k) low) turns
  armed_on _ apart (joint_armed v i at t h low turns) =
      joint_armed v i at t (stands_on (assigning v at t) h) (va_low v (λ to f k. two_assign v at to t f h k) low) turns

-- the node's move is the step at one of these places
pub record StepAt {p : Process} (t : Term) (ps : List Place) (n : Node p) : Type 0 where
  pub place : Place
  pub among : In ps place
  pub makes : Makes t place n

-- for each of these places a node is enabled and armed
abbrev Loaded : (P : TypedProgram) → List OfferValue → Whole P.body → Configuration → List Place → List (Node P.body) → Type 0
Loaded P script x c [] [] = Unit {0}
Loaded P script x c (p ∷ ps) (n ∷ ns) = (enabled P script x n ≡ true) × Armed P x c p n × Can c p × Loaded P script x c ps ns
Loaded P script x c [] (n ∷ ns) = ⊥
Loaded P script x c (p ∷ ps) [] = ⊥

-- a node of the list, with its place
record LoadedNode (P : TypedProgram) (x : Whole P.body) (c : Configuration) (ps : List Place) (n : Node P.body) : Type 0 where
  place : Place
  among : In ps place
  is : Armed P x c place n
  can : Can c place

loaded_node : (P : TypedProgram) (script : List OfferValue) (x : Whole P.body) (c : Configuration) (ps : List Place) (ns : List (Node P.body))
    → Loaded P script x c ps ns → (n : Node P.body) → In ns n → LoadedNode P x c ps n
loaded_node P script x c [] [] l n i = absurd i
loaded_node P script x c [] (m ∷ ns) l n i = absurd l
loaded_node P script x c (p ∷ ps) [] l n i = absurd l
loaded_node P script x c (p ∷ ps) (m ∷ ns) l n (inl same) =
    record { place = p; among = inl refl; is = subst (λ z. Armed P x c p z) same l.1; can = l.2 }
loaded_node P script x c (p ∷ ps) (m ∷ ns) l n (inr i) =
    let k = loaded_node P script x c ps ns l.3 n i in record { place = k.place; among = inr k.among; is = k.is; can = k.can }

armed_rises : (P : TypedProgram) (x : Whole P.body) (c : Configuration) (p : Place) (n : Node P.body) → Armed P x c p n → Rising n
armed_rises P x c p _ (own_armed s is rises low) = rises
armed_rises P x c p _ (sender_armed k at e h low) = tt
armed_rises P x c p _ (receiver_armed k v at to h low) = tt
armed_rises P x c p _ (bit_armed v i at e h low turns) = tt
armed_rises P x c p _ (joint_armed v i at e h low turns) = tt

loaded_layer : (P : TypedProgram) (script : List OfferValue) (x : Whole P.body) (c : Configuration) → Fits c.term
    → ((n : Node P.body) → enabled P script x n ≡ true → is_node P n ≡ true) → (ps : List Place) (ns : List (Node P.body)) → Distinct ps
    → Loaded P script x c ps ns → IsCellLayer P script x ns
loaded_layer P script x c fit there [] [] d l = tt
loaded_layer P script x c fit there [] (m ∷ ns) d l = absurd l
loaded_layer P script x c fit there (p ∷ ps) [] d l = absurd l
loaded_layer P script x c fit there (p ∷ ps) (m ∷ ns) d l =
    (l.0, there m l.0, λ n i. (apart n i, armed_rises P x c p m l.1), loaded_layer P script x c fit there ps ns d.1 l.3)
  where
    apart : (n : Node P.body) → In ns n → m ≢ n
    apart n i same =
        let k = loaded_node P script x c ps ns l.3 n i in
        two_nodes P fit n l.2.1 k.can.1 (d.0 k.place k.among) (subst (λ z. Armed P x c p z) same l.1) k.is

module _ (P : TypedProgram) (script : List OfferValue) (fitted : Fitted P script) where
  loaded_on : {x : Whole P.body} {c : Configuration} (r : Reached P script c 0 x) → Fits c.term → {q : Place} {d : Configuration} (s : Step c q d)
      (m : Node P.body) → enabled P script x m ≡ true → Armed P x c q m → (ps : List Place) (ns : List (Node P.body)) → ((p : Place) → In ps p → q ≢ p)
      → Loaded P script x c ps ns → Loaded P script (cells_moved P x m) d ps ns
  loaded_on r fit s m e b [] [] ne l = tt
  loaded_on r fit s m e b [] (n ∷ ns) ne l = absurd l
  loaded_on r fit s m e b (p ∷ ps) [] ne l = absurd l
  loaded_on {x = x} {c = c} r fit {q = q} s m e b (p ∷ ps) (n ∷ ns) ne l =
      let u = l.2.1 in
      let apart : n ≢ m = λ same. two_nodes P fit m s u (ne p (inl refl)) b (subst (λ z. Armed P x c p z) same l.1) in
      let j = joined s u fit (ne p (inl refl)) in (
        stable P script fitted x r n m apart l.0 e,
        armed_on P fit s u (ne p (inl refl)) m b n apart l.1,
        (j.0, j.1),
        loaded_on r fit s m e b ps ns (λ z i. ne z (inr i)) l.3,
      )

  -- all of them, one after the other
  run_layer : (ps : List Place) (ns : List (Node P.body)) (x : Whole P.body) (c : Configuration) (r : Reached P script c 0 x) → r.followed.to ≡ c
      → Fits c.term → Distinct ps → Loaded P script x c ps ns
      → (z : Reached P script (fold taken c ps) 0 (cells_after P x ns)) × (z.followed.to ≡ fold taken c ps)
  run_layer [] [] x c r begins fit distinct l = (r, begins)
  run_layer [] (n ∷ ns) x c r begins fit distinct l = absurd l
  run_layer (p ∷ ps) [] x c r begins fit distinct l = absurd l
  run_layer (p ∷ ps) (n ∷ ns) x c r begins fit distinct l =
      let s = l.2.1 in
      let y = led P script fitted r begins fit s n l.0 l.1 in
      let again = subst (λ (q : Configuration). (z : Reached P script q 0 (cells_moved P x n)) × (z.followed.to ≡ q)) y.1 (restart P script y.0, refl) in
      let rest = run_layer ps ns (cells_moved P x n) l.2.0 again.0 again.1 (step_fits fit s) distinct.1
      (loaded_on r fit s n l.0 l.1 ps ns distinct.0 l.3) in
      subst (λ (q : Configuration). (z : Reached P script (fold taken q ps) 0 (cells_after P (cells_moved P x n) ns)) × (z.followed.to ≡ fold taken q ps))
      (sym (taken_is fit s)) rest

  -- the nodes of a round
  record Round (x : Whole P.body) (c : Configuration) (ps : List Place) : Type 0 where
    pub nodes : List (Node P.body)
    pub loaded : Loaded P script x c ps nodes
    pub each : (n : Node P.body) → In nodes n → StepAt c.term ps n

  with_more : {t : Term} {p : Place} {ps : List Place} (n : Node P.body) (ns : List (Node P.body)) → Makes t p n
      → ((m : Node P.body) → In ns m → StepAt t ps m) → (m : Node P.body) → In (n ∷ ns) m → StepAt t (p ∷ ps) m
  with_more {t} {p} n ns makes each m (inl same) = record { place = p; among = inl refl; makes = subst (λ z. Makes t p z) same makes }
  with_more n ns makes each m (inr i) = let s = each m i in record { place = s.place; among = inr s.among; makes = s.makes }

  load : {from : Configuration} {moves : ℕ} {x : Whole P.body} (r : Reached P script from moves x)
      → ((n : Node P.body) → enabled P script x n ≡ true → is_step P r.place x.wires n ≡ true) → (ps : List Place)
      → ((p : Place) → In ps p → Can r.followed.to p) → Round x r.followed.to ps
  load r quiet [] can = record { nodes = []; loaded = tt; each = λ n i. absurd i }
  load {x = x} r quiet (p ∷ ps) can =
      let s = can p (inl refl) in
      let n = each_made P fitted x.wires x.histories r.place r.good (λ m e. quiet m (enabled_is P script r m ∙ e)) r.root r.followed s.1 in
      let on : enabled P script x n.0 ≡ true = enabled_is P script r n.0 ∙ n.1 in
      let more = load r quiet ps (λ q i. can q (inr i)) in
      record {
        nodes = n.0 ∷ more.nodes;
        loaded = (on, armed P script r n.0 (quiet n.0 on) n.2, s, more.loaded);
        each = with_more n.0 more.nodes n.2 more.each;
      }

  -- Where each enabled move is a step, one layer of moves leads to the configuration after a round.
  pub record RoundMade {from : Configuration} {moves : ℕ} {x : Whole P.body} (r : Reached P script from moves x) : Type 0 where
    pub nodes : List (Node P.body)
    pub each : (n : Node P.body) → In nodes n → StepAt r.followed.to.term (enabled_places r.followed.to) n
    pub layer : IsCellLayer P script x nodes
    pub then_at : Reached P script (round r.followed.to) 0 (cells_after P x nodes)
    pub is : then_at.followed.to ≡ round r.followed.to

  pub round_made : {from : Configuration} {moves : ℕ} {x : Whole P.body} (r : Reached P script from moves x) → Fits r.followed.to.term
      → ((n : Node P.body) → enabled P script x n ≡ true → is_step P r.place x.wires n ≡ true) → RoundMade r
  round_made {x = x} r fit quiet =
      let c = r.followed.to in
      let ps = enabled_places c in
      let l = load r quiet ps (can_each c) in
      let z = run_layer ps l.nodes x c (restart P script r) refl fit (listed_once c) l.loaded in
      record {
        nodes = l.nodes;
        each = l.each;
        layer = loaded_layer P script x c fit (present P script fitted r) ps l.nodes (listed_once c) l.loaded;
        then_at = z.0;
        is = z.1;
      }
