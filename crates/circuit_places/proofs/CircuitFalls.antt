-- What is due of a circuit falls with each move that is no step of the program.
--
-- P: the program; g: where its body is, guarded by the root; w: what its wires show; hs: what has passed; c, x: a channel, a variable; i, k: a bit,
-- a joint of a completion tree; o, p: of which variables nothing is under way; e: that the node may move.
use Rattle.std.proofs.Common.{◌≡◌, ◌≢◌, ◌⊎◌, ℕ, zero, suc, ◌+◌, ◌<◌, ◌≤◌, ◌==◌, Bool, true, false, List, ◌∷◌, [], length, refl, sym, ap, ◌∙◌, subst, inl, inr, arith}
use Rattle.std.specs.Prelude.{not, ◌&&◌, ◌||◌, nat_lt, if◌then◌else◌}
use Rattle.std.proofs.lemmas.Bool.Decides.{nat_tests}
use Rattle.chp_base.specs.declared.channel.Channel.{Channel}
use Rattle.width_check.specs.declared.typed.Var.{Var}
use Rattle.prs_core.specs.Parts.{turned}
use Rattle.env_script.specs.Scripts.{OfferValue}
use Rattle.width_check.specs.Processes.{TypedProgram}
use Rattle.width_check.specs.Typing.{channel_width, var_width}
use Rattle.circuit_places.specs.Lines.{of_channel, of_var, Rails}
use Rattle.circuit_places.specs.Circuit.{QElementCells, Cells, GuardedSpot, rails_turned, turned_guarded, one_rule_fires, turns}
use Rattle.circuit_places.specs.Whole.{Wires, wires_seen, line_ack, is_node, Node, go_node, own_node, rail_node, ack_node, bit_node, wrote_node, joint_node, rail_turned, ack_turned, bit_turned, wrote_turned, joint_turned, wires_after, root_after, go_after, bit_rule, wrote_rule}
use Rattle.circuit_places.proofs.RailLemmas.{fst_true, snd_true, not_true}
use Rattle.circuit_places.proofs.LineNames.{same_number, self_number}
use Rattle.circuit_places.proofs.Flow.{cases, not_both}
use Rattle.circuit_places.proofs.Places.{is_idle, Mode, idle, running, answered, returning, asks, GuardedAt, guarded_cells, guarded_shown, guarded_writing, guarded_moves}
use Rattle.circuit_places.proofs.Begin.{guarded_idle_moves}
use Rattle.circuit_places.proofs.Trees.{node_moves, joint_below}
use Rattle.circuit_places.proofs.BitTable.{may, written}
use Rattle.circuit_places.proofs.Blocks.{Block, now_at, rail_role, write_role, rail_touch, write_touch, wrote_touch, bit_can, wrote_can, moves_written}
use Rattle.circuit_places.proofs.Stepping.{guarded_steps}
use Rattle.circuit_places.specs.Bounds.{moves_most}
use Rattle.circuit_places.proofs.Dues.{bits_below, guarded_of_due, due}
use Rattle.circuit_places.proofs.DuesBound.{guarded_most, due_within}
use Rattle.circuit_places.proofs.DuesFall.{guarded_falls}
use Rattle.circuit_places.proofs.LeafDues.{rails_fall}
use Rattle.circuit_places.proofs.Stored.{guarded_stored}
use Rattle.circuit_places.proofs.BlockDues.{sum_below, sum_falls, phase, phase_falls, phase_eases, var_due, var_eases, touch_falls, tree_falls, held_still, some_leaves}
use Rattle.circuit_places.proofs.System.{Others, Good, clean_of, can, sent_turns, node_steps, Next, Rises, Arrival, up_low, down_high}
use Rattle.circuit_places.proofs.LineMoves.{other_low, phase_up, phase_down, write_rises, write_falls}
use Rattle.circuit_places.proofs.CircuitDue.{over, root_due, channel_due, vars_due, channels_due, circuit_due}
use Rattle.circuit_places.proofs.Unrisen.{Unrisen, Stays}

-- what has a bit is there
pub channel_there : (cs : List Channel) (c i : ℕ) → i < channel_width cs c → c < length cs
channel_there [] c i h = absurd (omega (arith, h))
channel_there (x ∷ xs) zero i h = omega arith
channel_there (x ∷ xs) (suc c) i h = let e = channel_there xs c i h in omega (arith, e)

pub var_there : (vs : List Var) (x i : ℕ) → i < var_width vs x → x < length vs
var_there [] x i h = absurd (omega (arith, h))
var_there (v ∷ vs) zero i h = omega arith
var_there (v ∷ vs) (suc x) i h = let e = var_there vs x i h in omega (arith, e)

below_by : (i n : ℕ) → nat_lt i n ≡ true → i < n
below_by i n h = grind (arith, nat_tests)

or_false : (b : Bool) → (b || false) ≡ b
or_false true = refl
or_false false = refl

root_asks : (P : TypedProgram) (m : Mode) (x : QElementCells (Cells P.body)) → asks m ≡ true → root_due P m x ≡ guarded_of_due P P.body true x
root_asks P running x h = refl
root_asks P answered x h = refl
root_asks P idle x h = absurd (cc h)
root_asks P returning x h = absurd (cc h)

-- what is over less than before is due less
vars_ease : (P : TypedProgram) (o p : ℕ → Bool) (w : Wires) → ((x : ℕ) → p x ≡ true → o x ≡ true) → vars_due P p w ≤ vars_due P o w
vars_ease P o p w h = sum_below (length P.vars)
    (λ x. var_due (var_width P.vars x) (o x) (w.bit x) (w.rail (of_var x)) (w.wrote x) (w.joint x))
    (λ x. var_due (var_width P.vars x) (p x) (w.bit x) (w.rail (of_var x)) (w.wrote x) (w.joint x))
    (λ x less. by x (p x) (o x) (h x))
  where
    by : (x : ℕ) (b a : Bool) → (b ≡ true → a ≡ true)
        → var_due (var_width P.vars x) b (w.bit x) (w.rail (of_var x)) (w.wrote x) (w.joint x)
        ≤ var_due (var_width P.vars x) a (w.bit x) (w.rail (of_var x)) (w.wrote x) (w.joint x)
    by x true true f = omega arith
    by x true false f = absurd (cc (f refl))
    by x false true f = var_eases (var_width P.vars x) (w.bit x) (w.rail (of_var x)) (w.wrote x) (w.joint x)
    by x false false f = omega arith

module _ (P : TypedProgram) (script : List OfferValue) {m : Mode} (g : GuardedAt P.body m) (w : Wires) (hs : List (List ℕ)) (good : Good P m g w) where
  abbrev va : ℕ → Bool
  va x = line_ack P w (of_var x)

  abbrev busy : ℕ → Bool
  busy x = guarded_writing (line_ack P w) g x

  abbrev width : ℕ → ℕ
  width x = var_width P.vars x

  -- under a receive that has stored nothing of the variable's block moves
  held : (x : ℕ) → va x ≡ true → busy x ≡ true → (i : ℕ) → i < width x → (side : Bool) × ((guarded_shown g).offer (of_var x) i side ≡ true)
  held x high b i less = guarded_stored (wires_seen P w) g good.fits x high b i less

  held_high : (x : ℕ) → va x ≡ true → busy x ≡ true → (i : ℕ) → i < width x → (w.rail (of_var x) i true || w.rail (of_var x) i false) ≡ true
  held_high x high b i less = by (held x high b i less)
    where
      by : (side : Bool) × ((guarded_shown g).offer (of_var x) i side ≡ true) → (w.rail (of_var x) i true || w.rail (of_var x) i false) ≡ true
      by (true, o) = ap (λ z. z || w.rail (of_var x) i false) (good.falling (of_var x) i true high o)
      by (false, o) = ap (λ z. w.rail (of_var x) i true || z) (good.falling (of_var x) i false high o) ∙ or_true (w.rail (of_var x) i true)
        where
          or_true : (b : Bool) → (b || true) ≡ true
          or_true true = refl
          or_true false = refl

  -- else it is over where it is acknowledged
  as_acked : (x : ℕ) {A : Type 0} → (over P g w x ≡ va x → A) → (va x ≡ true → busy x ≡ true → A) → A
  as_acked x {A = A} f h = by (va x) (busy x) refl refl
    where
      by : (a b : Bool) → va x ≡ a → busy x ≡ b → A
      by false b ha hb = f (ap (λ z. z && not (busy x)) ha ∙ sym ha)
      by true false ha hb = f (ap (λ z. va x && not z) hb ∙ (ap (λ z. z && true) ha ∙ sym ha))
      by true true ha hb = h ha hb

  -- one variable's block moves
  abbrev var_at : (ℕ → Bool) → Wires → ℕ → ℕ
  var_at o v x = var_due (width x) (o x) (v.bit x) (v.rail (of_var x)) (v.wrote x) (v.joint x)

  block_of : (x i : ℕ) → i < width x → Block (width x) (w.bit x) (w.rail (of_var x)) (w.wrote x) (w.joint x)
  block_of x i less = good.block x (let z : 1 ≤ var_width P.vars x = omega (arith, less) in z)

  one_var : (now : Wires) (x : ℕ) → x < length P.vars → suc (var_at (over P g w) now x) ≤ var_at (over P g w) w x
      → ((y : ℕ) → y ≢ x → var_at (over P g w) now y ≡ var_at (over P g w) w y) → suc (vars_due P (over P g w) now) ≤ vars_due P (over P g w) w
  one_var now x less h same = sum_falls (length P.vars) (var_at (over P g w) w) (var_at (over P g w) now) x less h same

  apart_by : (x y : ℕ) → y ≢ x → (y == x) ≡ false
  apart_by x y ne = cases (y == x) (λ (z : (y == x) ≡ true). absurd (ne (same_number y x z))) (λ (z : (y == x) ≡ false). z)

  -- a bit of a value
  bit_moves : (x i : ℕ) (one : Bool) → i < width x → one_rule_fires (bit_rule (w.rail (of_var x)) (w.bit x) i one) ≡ true
      → suc (vars_due P (over P g w) (bit_turned w x i one)) ≤ vars_due P (over P g w) w
  bit_moves x i one less e =
      let b = block_of x i less in
      let m : may (rail_role one) (now_at (w.bit x) (w.rail (of_var x)) (w.wrote x) (va x) i) ≡ true =
      sym (bit_can (w.bit x) (w.rail (of_var x)) (w.wrote x) (va x) i one) ∙ e in
      let low : va x ≡ false = not_true (va x) (fst_true (not (va x)) _
      (moves_written one (now_at (w.bit x) (w.rail (of_var x)) (w.wrote x) (va x) i) (b.bits i less) m)) in
      let same : over P g w x ≡ va x = ap (λ z. z && not (busy x)) low ∙ sym low in
      let r = rail_touch (w.bit x) (w.rail (of_var x)) (w.wrote x) (va x) i one in
      let z = touch_falls (width x) (va x) (rail_role one) i (now_at (w.bit x) (w.rail (of_var x)) (w.wrote x) (va x))
      (now_at (rails_turned (w.bit x) i one) (w.rail (of_var x)) (w.wrote x) (va x)) r less refl (b.bits i less) m in
      one_var (bit_turned w x i one) x (var_there P.vars x i less)
      (subst (λ (q : Rails). suc (var_due (width x) (over P g w x) q (w.rail (of_var x)) (w.wrote x) (w.joint x)) ≤ var_at (over P g w) w x)
      (sym (ap (λ (c : Bool). if c then rails_turned (w.bit x) i one else w.bit x) (self_number x)))
      (subst (λ (o : Bool). suc (var_due (width x) o (rails_turned (w.bit x) i one) (w.rail (of_var x)) (w.wrote x) (w.joint x))
      ≤ var_due (width x) o (w.bit x) (w.rail (of_var x)) (w.wrote x) (w.joint x)) (sym same) (omega (arith, z))))
      (λ y ne. ap (λ (q : Rails). var_due (width y) (over P g w y) q (w.rail (of_var y)) (w.wrote y) (w.joint y))
      (ap (λ (c : Bool). if c then rails_turned (w.bit x) i one else w.bit y) (apart_by x y ne)))

  -- a rail by which it is written
  write_block : (x i : ℕ) (one : Bool) → i < width x → over P g w x ≡ va x
      → may (write_role one) (now_at (w.bit x) (w.rail (of_var x)) (w.wrote x) (va x) i) ≡ true
      → suc (vars_due P (over P g w) (rail_turned w (of_var x) i one)) ≤ vars_due P (over P g w) w
  write_block x i one less same m =
      let b = block_of x i less in
      let z = touch_falls (width x) (va x) (write_role one) i (now_at (w.bit x) (w.rail (of_var x)) (w.wrote x) (va x))
      (now_at (w.bit x) (rails_turned (w.rail (of_var x)) i one) (w.wrote x) (va x)) (write_touch (w.bit x) (w.rail (of_var x)) (w.wrote x) (va x) i one)
      less refl (b.bits i less) m in
      one_var (rail_turned w (of_var x) i one) x (var_there P.vars x i less)
      (subst (λ (q : Rails). suc (var_due (width x) (over P g w x) (w.bit x) q (w.wrote x) (w.joint x)) ≤ var_at (over P g w) w x)
      (sym (ap (λ (c : Bool). if c then rails_turned (w.rail (of_var x)) i one else w.rail (of_var x)) (self_number x)))
      (subst (λ (o : Bool). suc (var_due (width x) o (w.bit x) (rails_turned (w.rail (of_var x)) i one) (w.wrote x) (w.joint x))
      ≤ var_due (width x) o (w.bit x) (w.rail (of_var x)) (w.wrote x) (w.joint x)) (sym same) (omega (arith, z))))
      (λ y ne. ap (λ (q : Rails). var_due (width y) (over P g w y) (w.bit y) q (w.wrote y) (w.joint y))
      (ap (λ (c : Bool). if c then rails_turned (w.rail (of_var x)) i one else w.rail (of_var y)) (apart_by x y ne)))

  rail_moves : (x i : ℕ) (one : Bool) → i < width x → sent_turns P w (of_var x) i one ((guarded_shown g).offer (of_var x) i one) ≡ true
      → suc (vars_due P (over P g w) (rail_turned w (of_var x) i one)) ≤ vars_due P (over P g w) w
  rail_moves x i one less e = by (w.rail (of_var x) i one) ((guarded_shown g).offer (of_var x) i one) refl refl e
    where
      both : (b : Bool) → b ≡ one → w.rail (of_var x) i one ≡ true → (guarded_shown g).offer (of_var x) i one ≡ false
          → (guarded_shown g).offer (of_var x) i b ≡ true → ⊥
      both b same r o h = cc (same, o, h)

      lone : (a b : Bool) → w.rail (of_var x) i a ≡ true → w.rail (of_var x) i b ≡ true → (a ≡ b → ⊥) → ⊥
      lone true true p q ne = ne refl
      lone false false p q ne = ne refl
      lone true false p q ne = single p q
        where
          single : w.rail (of_var x) i true ≡ true → w.rail (of_var x) i false ≡ true → ⊥
          single p q =
              let l = (block_of x i less).bits i less in
              let k : not (w.rail (of_var x) i true && w.rail (of_var x) i false) ≡ true =
              fst_true _ _ (snd_true (not (w.bit x i true && w.bit x i false)) _ l) in
              cc (ap (λ b. not (b && w.rail (of_var x) i false)) p, ap (λ b. not (true && b)) q, k)
      lone false true p q ne = single q p
        where
          single : w.rail (of_var x) i true ≡ true → w.rail (of_var x) i false ≡ true → ⊥
          single p q =
              let l = (block_of x i less).bits i less in
              let k : not (w.rail (of_var x) i true && w.rail (of_var x) i false) ≡ true =
              fst_true _ _ (snd_true (not (w.bit x i true && w.bit x i false)) _ l) in
              cc (ap (λ b. not (b && w.rail (of_var x) i false)) p, ap (λ b. not (true && b)) q, k)

      by : (r o : Bool) → w.rail (of_var x) i one ≡ r → (guarded_shown g).offer (of_var x) i one ≡ o
          → sent_turns P w (of_var x) i one ((guarded_shown g).offer (of_var x) i one) ≡ true
          → suc (vars_due P (over P g w) (rail_turned w (of_var x) i one)) ≤ vars_due P (over P g w) w
      by false true hr ho e =
          let low = up_low P script hs good (of_var x) i one hr ho in
          write_block x i one less (ap (λ z. z && not (busy x)) low ∙ sym low)
          (write_rises (w.bit x) (w.rail (of_var x)) (w.wrote x) (va x) i one hr (other_low P script hs good (of_var x) i one refl low ho) low)
      by true false hr ho e =
          let high = down_high P script hs good (of_var x) i one refl hr ho in
          as_acked x (λ same. write_block x i one less same (write_falls (w.bit x) (w.rail (of_var x)) (w.wrote x) (va x) i one hr high))
          (λ h b. let o = held x h b i less in
          absurd (lone o.0 one (good.falling (of_var x) i o.0 h o.1) hr (λ same. both o.0 same hr ho o.1)))
      by true true hr ho e = absurd (not_both (ap (λ r. turns r ((guarded_shown g).offer (of_var x) i one) (not ((guarded_shown g).offer (of_var x) i one))) hr
          ∙ ap not ho) e)
      by false false hr ho e = absurd (not_both (ap (λ r. turns r ((guarded_shown g).offer (of_var x) i one) (not ((guarded_shown g).offer (of_var x) i one)))
          hr ∙ ho) e)

  -- a node that says that a bit is written
  wrote_moves : (x i : ℕ) → i < width x → one_rule_fires (wrote_rule (w.rail (of_var x)) (w.bit x) (w.wrote x) i) ≡ true
      → suc (vars_due P (over P g w) (wrote_turned w x i)) ≤ vars_due P (over P g w) w
  wrote_moves x i less e =
      let b = block_of x i less in
      let m : may written (now_at (w.bit x) (w.rail (of_var x)) (w.wrote x) (va x) i) ≡ true =
      sym (wrote_can (w.bit x) (w.rail (of_var x)) (w.wrote x) (va x) i) ∙ e in
      as_acked x
      (λ same.
      let z = touch_falls (width x) (va x) written i (now_at (w.bit x) (w.rail (of_var x)) (w.wrote x) (va x))
      (now_at (w.bit x) (w.rail (of_var x)) (turned (w.wrote x) i) (va x)) (wrote_touch (w.bit x) (w.rail (of_var x)) (w.wrote x) (va x) i)
      less refl (b.bits i less) m in
      one_var (wrote_turned w x i) x (var_there P.vars x i less)
      (subst (λ (q : ℕ → Bool). suc (var_due (width x) (over P g w x) (w.bit x) (w.rail (of_var x)) q (w.joint x)) ≤ var_at (over P g w) w x)
      (sym (ap (λ (c : Bool). if c then turned (w.wrote x) i else w.wrote x) (self_number x)))
      (subst (λ (o : Bool). suc (var_due (width x) o (w.bit x) (w.rail (of_var x)) (turned (w.wrote x) i) (w.joint x))
      ≤ var_due (width x) o (w.bit x) (w.rail (of_var x)) (w.wrote x) (w.joint x)) (sym same) (omega (arith, z))))
      (λ y ne. ap (λ (q : ℕ → Bool). var_due (width y) (over P g w y) (w.bit y) (w.rail (of_var y)) q (w.joint y))
      (ap (λ (c : Bool). if c then turned (w.wrote x) i else w.wrote y) (apart_by x y ne))))
      (λ h k. absurd (not_both ((held_still (width x) (w.bit x) (w.rail (of_var x)) (w.wrote x) (w.joint x) b h (held_high x h k)).0 i less) m))

  -- a node of its tree
  joint_moves : (x k : ℕ) → node_moves (width x) (w.wrote x) (w.joint x) k ≡ true
      → suc (vars_due P (over P g w) (joint_turned w x k)) ≤ vars_due P (over P g w) w
  joint_moves x k e =
      let two : 2 ≤ width x = some_leaves (width x) k (joint_below (width x) (w.wrote x) (w.joint x) k e) in
      let less : 0 < width x = omega (arith, two) in
      let b = block_of x 0 less in
      as_acked x
      (λ same.
      let z = tree_falls (width x) b.known (w.wrote x) (w.joint x) k b.tree e (va x) refl in
      one_var (joint_turned w x k) x (var_there P.vars x 0 less)
      (subst (λ (q : ℕ → Bool). suc (var_due (width x) (over P g w x) (w.bit x) (w.rail (of_var x)) (w.wrote x) q) ≤ var_at (over P g w) w x)
      (sym (ap (λ (c : Bool). if c then turned (w.joint x) k else w.joint x) (self_number x)))
      (subst (λ (o : Bool). suc (var_due (width x) o (w.bit x) (w.rail (of_var x)) (w.wrote x) (turned (w.joint x) k))
      ≤ var_due (width x) o (w.bit x) (w.rail (of_var x)) (w.wrote x) (w.joint x)) (sym same) (omega (arith, z))))
      (λ y ne. ap (λ (q : ℕ → Bool). var_due (width y) (over P g w y) (w.bit y) (w.rail (of_var y)) (w.wrote y) q)
      (ap (λ (c : Bool). if c then turned (w.joint x) k else w.joint y) (apart_by x y ne))))
      (λ h c. absurd (not_both ((held_still (width x) (w.bit x) (w.rail (of_var x)) (w.wrote x) (w.joint x) b h (held_high x h c)).1 k) e))

  -- the wires of channels
  abbrev channel_at : Wires → ℕ → ℕ
  channel_at v c = channel_due (channel_width P.channels c) (v.ack c) (v.rail (of_channel c))

  channel_rails : (c i : ℕ) (one : Bool) → i < channel_width P.channels c → can P script g w hs (rail_node (of_channel c) i one) ≡ true
      → suc (channels_due P (rail_turned w (of_channel c) i one)) ≤ channels_due P w
  channel_rails c i one less e =
      let z = rails_fall (phase (w.ack c)) (channel_width P.channels c) (w.rail (of_channel c)) i one less (by (w.rail (of_channel c) i one) refl) in
      sum_falls (length P.channels) (channel_at w) (channel_at (rail_turned w (of_channel c) i one)) c (channel_there P.channels c i less)
      (subst (λ (q : Rails). suc (channel_due (channel_width P.channels c) (w.ack c) q) ≤ channel_at w c)
      (sym (ap (λ (b : Bool). if b then rails_turned (w.rail (of_channel c)) i one else w.rail (of_channel c)) (self_number c))) (omega (arith, z)))
      (λ y ne. ap (λ (q : Rails). channel_due (channel_width P.channels y) (w.ack y) q)
      (ap (λ (b : Bool). if b then rails_turned (w.rail (of_channel c)) i one else w.rail (of_channel y)) (apart_by c y ne)))
    where
      by : (b : Bool) → w.rail (of_channel c) i one ≡ b
          → suc (phase (w.ack c) (not (w.rail (of_channel c) i one))) ≡ phase (w.ack c) (w.rail (of_channel c) i one)
      by true h = phase_falls (w.ack c) (w.rail (of_channel c) i one) (h ∙ sym (phase_down P script hs good c i one h e))
      by false h = phase_falls (w.ack c) (w.rail (of_channel c) i one) (h ∙ sym (phase_up P script hs good c i one h e).0)

  channel_acks : (c : ℕ) → c < length P.channels → w.ack c ≡ true → suc (channels_due P (ack_turned w c)) ≤ channels_due P w
  channel_acks c less high =
      sum_falls (length P.channels) (channel_at w) (channel_at (ack_turned w c)) c less
      (subst (λ (a : Bool). suc (channel_due (channel_width P.channels c) a (w.rail (of_channel c))) ≤ channel_at w c)
      (sym (ap (λ (b : Bool). if b then not (w.ack c) else w.ack c) (self_number c) ∙ ap not high))
      (subst (λ (a : Bool). suc (channel_due (channel_width P.channels c) false (w.rail (of_channel c))) ≤ channel_due (channel_width P.channels c) a
      (w.rail (of_channel c))) (sym high)
      (omega (
        arith,
        bits_below (phase false) (phase true) phase_eases (channel_width P.channels c) (λ i. w.rail (of_channel c) i true),
        bits_below (phase false) (phase true) phase_eases (channel_width P.channels c) (λ i. w.rail (of_channel c) i false),
      ))))
      (λ y ne. ap (λ (a : Bool). channel_due (channel_width P.channels y) a (w.rail (of_channel y)))
      (ap (λ (b : Bool). if b then not (w.ack c) else w.ack y) (apart_by c y ne)))

  -- no more is over than before
  no_arrival : (n : Node P.body) (after : ℕ → Bool) (step : Bool) → Stays P w after step n → Arrival P w n → ⊥
  no_arrival (ack_node k) after step s a = cc (s, a.1)
  no_arrival go_node after step s a = a
  no_arrival (own_node q) after step s a = a
  no_arrival (rail_node k i one) after step s a = a
  no_arrival (bit_node x i one) after step s a = a
  no_arrival (wrote_node x i) after step s a = a
  no_arrival (joint_node x k) after step s a = a

  unrisen : (now : Wires) (x0 : ℕ) (after : ℕ → Bool) → Others P x0 w now → Unrisen P x0 w now after → (x : ℕ) → line_ack P now (of_var x) ≡ true
      → after x ≡ false → va x ≡ true
  unrisen now x0 after others u x high off = cases (x == x0)
      (λ (e : (x == x0) ≡ true). by u (same_number x x0 e))
      (λ (e : (x == x0) ≡ false). sym (others x e) ∙ high)
    where
      by : Unrisen P x0 w now after → x ≡ x0 → va x ≡ true
      by (inl same) e = ap (λ z. line_ack P w (of_var z)) e ∙ (sym same ∙ (ap (λ z. line_ack P now (of_var z)) (sym e) ∙ high))
      by (inr (inl low)) e = absurd (cc (low, ap (λ z. line_ack P now (of_var z)) e, high))
      by (inr (inr under)) e = absurd (cc (under, ap after e, off))

  module _ (n : Node P.body) (ne : m ≢ returning) (y : Next P script m g w hs n)
      (stays : Stays P w (guarded_writing (line_ack P (wires_after w n)) y.to) (node_steps g n) n) where
    abbrev now : Wires
    now = wires_after w n

    acked_before : (x : ℕ) → line_ack P now (of_var x) ≡ true → guarded_writing (line_ack P now) y.to x ≡ false → va x ≡ true
    acked_before x high off = by n y stays high off
      where
        by : (n : Node P.body) (y : Next P script m g w hs n) → Stays P w (guarded_writing (line_ack P (wires_after w n)) y.to) (node_steps g n) n
            → line_ack P (wires_after w n) (of_var x) ≡ true → guarded_writing (line_ack P (wires_after w n)) y.to x ≡ false → va x ≡ true
        by go_node y s high off = high
        by (own_node q) y s high off = high
        by (rail_node k i one) y s high off = high
        by (ack_node k) y s high off = high
        by (bit_node v i one) y s high off = high
        by (wrote_node v i) y s high off = unrisen (wrote_turned w v i) v (guarded_writing (line_ack P (wrote_turned w v i)) y.to) (y.term ne).0 s x high off
        by (joint_node v k) y s high off = unrisen (joint_turned w v k) v (guarded_writing (line_ack P (joint_turned w v k)) y.to) (y.term ne).0 s x high off

    over_stays : (x : ℕ) → over P y.to now x ≡ true → over P g w x ≡ true
    over_stays x h =
        let high = fst_true (line_ack P now (of_var x)) _ h in
        let off = not_true _ (snd_true (line_ack P now (of_var x)) _ h) in
        let was = acked_before x high off in
        ap (λ a. a && not (busy x)) was ∙ ap not (by was ((y.frees x off).1))
      where
        by : va x ≡ true → (busy x ≡ false) ⊎ (Rises P w now x ⊎ Arrival P w n) → busy x ≡ false
        by was (inl b) = b
        by was (inr (inl r)) = absurd (not_both r.low was)
        by was (inr (inr a)) = absurd (no_arrival n (guarded_writing (line_ack P now) y.to) (node_steps g n) stays a)

    root_stays : root_after P.body (guarded_cells g) n ≡ guarded_cells g → go_after (asks m) n ≡ asks m
        → root_due P y.mode (guarded_cells y.to) ≡ root_due P m (guarded_cells g)
    root_stays cells go = ap (root_due P y.mode) (y.same ∙ cells) ∙ by m y.mode ne (y.way ne) (y.go ∙ go)
      where
        by : (m d : Mode) → m ≢ returning → d ≢ returning → asks d ≡ asks m → root_due P d (guarded_cells g) ≡ root_due P m (guarded_cells g)
        by idle idle a b e = refl
        by running running a b e = refl
        by running answered a b e = refl
        by answered running a b e = refl
        by answered answered a b e = refl
        by returning d a b e = absurd (a refl)
        by m returning a b e = absurd (b refl)
        by idle running a b e = absurd (cc e)
        by idle answered a b e = absurd (cc e)
        by running idle a b e = absurd (cc e)
        by answered idle a b e = absurd (cc e)

    abbrev Falls : Type 0
    Falls = suc (circuit_due P y.to now) ≤ circuit_due P g w

    eases : vars_due P (over P y.to now) now ≤ vars_due P (over P g w) now
    eases = vars_ease P (over P g w) (over P y.to now) now over_stays

    by_vars : root_after P.body (guarded_cells g) n ≡ guarded_cells g → go_after (asks m) n ≡ asks m
        → suc (vars_due P (over P g w) now) ≤ vars_due P (over P g w) w → channels_due P now ≡ channels_due P w → Falls
    by_vars cells go v c = let r = root_stays cells go in let z = eases in omega (arith, r, z, v, c)

    by_channels : root_after P.body (guarded_cells g) n ≡ guarded_cells g → go_after (asks m) n ≡ asks m
        → vars_due P (over P g w) now ≡ vars_due P (over P g w) w → suc (channels_due P now) ≤ channels_due P w → Falls
    by_channels cells go v c = let r = root_stays cells go in let z = eases in omega (arith, r, z, v, c)

    by_root : suc (root_due P y.mode (guarded_cells y.to)) ≤ root_due P m (guarded_cells g)
        → vars_due P (over P g w) now ≡ vars_due P (over P g w) w → channels_due P now ≡ channels_due P w → Falls
    by_root r v c = let z = eases in omega (arith, r, z, v, c)

  -- go rises
  go_falls : (y : Next P script m g w hs go_node) → is_idle m ≡ true → suc (root_due P y.mode (guarded_cells y.to)) ≤ root_due P m (guarded_cells g)
  go_falls y z =
      let c = guarded_cells y.to in
      let d = root_asks P y.mode c (y.go ∙ raised m z) in
      let r = guarded_most true c.child c.latch c.next (moves_most P P.body) (due P P.body c.child c.inner) (due_within P P.body c.child c.inner) in
      let e = all_due m z in
      omega (arith, d, r, e)
    where
      raised : (m : Mode) → is_idle m ≡ true → not (asks m) ≡ true
      raised idle z = refl
      raised running z = absurd (cc z)
      raised answered z = absurd (cc z)
      raised returning z = absurd (cc z)

      all_due : (m : Mode) → is_idle m ≡ true → root_due P m (guarded_cells g) ≡ 7 + moves_most P P.body
      all_due idle z = refl
      all_due running z = absurd (cc z)
      all_due answered z = absurd (cc z)
      all_due returning z = absurd (cc z)

  -- a node of the body
  own_falls : (s : GuardedSpot P.body) (y : Next P script m g w hs (own_node s)) → m ≢ returning → guarded_moves (wires_seen P w) g s ≡ true
      → guarded_steps g s ≡ false → suc (root_due P y.mode (guarded_cells y.to)) ≤ root_due P m (guarded_cells g)
  own_falls s y ne e still =
      let a = asked m g ne e in
      let z : suc (guarded_of_due P P.body true (turned_guarded P.body (guarded_cells g) s)) ≤ guarded_of_due P P.body true (guarded_cells g) =
      subst (λ (c : Bool). suc (guarded_of_due P P.body c (turned_guarded P.body (guarded_cells g) s)) ≤ guarded_of_due P P.body c (guarded_cells g)) a
      (guarded_falls P (wires_seen P w) (clean_of good) good.meets g s good.fits e still) in
      let d = root_asks P y.mode (guarded_cells y.to) (y.go ∙ a) in
      let f : guarded_of_due P P.body true (guarded_cells y.to) ≡ guarded_of_due P P.body true (turned_guarded P.body (guarded_cells g) s) =
      ap (guarded_of_due P P.body true) y.same in
      let r = root_asks P m (guarded_cells g) a in
      omega (arith, z, d, f, r)
    where
      asked : (m : Mode) (g : GuardedAt P.body m) → m ≢ returning → guarded_moves (wires_seen P w) g s ≡ true → asks m ≡ true
      asked idle g ne e = absurd (not_both (guarded_idle_moves (wires_seen P w) g s) e)
      asked running g ne e = refl
      asked answered g ne e = refl
      asked returning g ne e = absurd (ne refl)

pub circuit_falls : (P : TypedProgram) (script : List OfferValue) {m : Mode} (g : GuardedAt P.body m) (w : Wires) (hs : List (List ℕ)) → Good P m g w
    → (n : Node P.body) → m ≢ returning → is_node P n ≡ true → can P script g w hs n ≡ true → (y : Next P script m g w hs n)
    → Stays P w (guarded_writing (line_ack P (wires_after w n)) y.to) (node_steps g n) n → suc (circuit_due P y.to (wires_after w n)) ≤ circuit_due P g w
circuit_falls P script g w hs good go_node ne there z y stays =
    by_root P script g w hs good go_node ne y stays (go_falls P script g w hs good y z) refl refl
circuit_falls P script g w hs good (own_node s) ne there z y stays =
    by_root P script g w hs good (own_node s) ne y stays (own_falls P script g w hs good s y ne z stays) refl refl
circuit_falls P script g w hs good (rail_node (of_channel c) i one) ne there z y stays =
    by_channels P script g w hs good (rail_node (of_channel c) i one) ne y stays refl refl refl
    (channel_rails P script g w hs good c i one (below_by i (channel_width P.channels c) there) z)
circuit_falls P script g w hs good (rail_node (of_var x) i one) ne there z y stays =
    by_vars P script g w hs good (rail_node (of_var x) i one) ne y stays refl refl
    (rail_moves P script g w hs good x i one (below_by i (var_width P.vars x) there) (sym (or_false _) ∙ z)) refl
circuit_falls P script g w hs good (ack_node k) ne there z y stays =
    by_channels P script g w hs good (ack_node k) ne y stays refl refl refl (channel_acks P script g w hs good k (below_by k (length P.channels) there) stays)
circuit_falls P script g w hs good (bit_node x i one) ne there z y stays =
    by_vars P script g w hs good (bit_node x i one) ne y stays refl refl (bit_moves P script g w hs good x i one (below_by i (var_width P.vars x) there) z) refl
circuit_falls P script g w hs good (wrote_node x i) ne there z y stays =
    by_vars P script g w hs good (wrote_node x i) ne y stays refl refl (wrote_moves P script g w hs good x i (below_by i (var_width P.vars x) there) z) refl
circuit_falls P script g w hs good (joint_node x k) ne there z y stays =
    by_vars P script g w hs good (joint_node x k) ne y stays refl refl (joint_moves P script g w hs good x k z) refl
