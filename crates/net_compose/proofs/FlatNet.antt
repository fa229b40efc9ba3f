-- The net of a covered program, read at its numbers, moves as its circuit of cells does.
use Rattle.std.proofs.Common.{◌≡◌, ◌≢◌, ℕ, zero, suc, ◌+◌, ◌-◌, ◌*◌, ◌<◌, ◌≤◌, ◌==◌, Bool, true, false, List, [], ◌∷◌, ◌++◌, map, length, get_or, set, Option, Some, None, ◌⊎◌, inl, inr, refl, sym, ap, ◌∙◌, subst, arith, length-append, length-set, get_or-append-add, get_or-set_same, get_or-set_other, ⊎_elim}
use Rattle.std.specs.Prelude.{not, ◌&&◌, ◌||◌, if◌then◌else◌, slice_get, is_some}
use Rattle.std.specs.List.{list_any}
use Rattle.std.proofs.lemmas.Bool.{cases_lt, cases_eq, eqb-true, eq-eqb, ne_eqb}
use Rattle.std.proofs.lemmas.List.{get_or_past}
use Rattle.prs_core.specs.Nets.{NodeRules, up_of, down_of}
use Rattle.prs_core.specs.Pairs.{pair_of, rails_of, no_rules, or_of}
use Rattle.function_blocks.specs.Listed.{node_of}
use Rattle.prs_core.specs.Moves.{high, guard_holds, rule_enabled, both_ways, fired, rail_value_of, neutral}
use Rattle.env_script.specs.Scripts.{OfferValue, gives, takes, nothing, offer_at, is_over}
use Rattle.env_script.specs.Environment.{env_enabled, channels_move, offer_moves, lowers, raises_next, valid}
use Rattle.env_script.specs.Runs.{RunState, history_at, completed, move_enabled, moved as moved_flat}
use Rattle.width_check.specs.Processes.{TypedProgram}
use Rattle.chp_base.specs.declared.channel.Channel.{Channel}
use Rattle.chp_base.specs.declared.channel.Kind.{Kind}
use Rattle.chp_base.specs.declared.channel.Kind.TheVariants.{In, Out, Chan}
use Rattle.width_check.specs.Typing.{IsProcess, channel_width, kind_at, var_width}
use Rattle.circuit_places.specs.Lines.{of_channel, of_var, Rails}
use Rattle.prs_core.specs.Turning.{turned_here, turned_apart}
use Rattle.cell_variable.specs.Variables.{variable_rules}
use Rattle.net_compose.proofs.FlatBlocks.{Part, a_bit, a_put, a_mark, a_joint, offset, IsPart, offset_lt, part_same, PartAt, part_of, BlockIs, Says, bit_says, put_says, mark_says, joint_says, written_is, bit_number, blocks_below, blocks_apart, Owner, owner, length-vars_rules, vars_rule}
use Rattle.handshake_expand.specs.Layout.{block_size, var_from, wires_before, channel_from, blocks_before, root_request, root_latch, body_from, nodes_of, go_node as go_number}
use Rattle.cell_sequence.specs.Sequence.{q_child, q_latch, q_next}
use Rattle.chp_meaning.specs.Halves.{ReadsNoTarget}
use Rattle.circuit_places.specs.Circuit.{joint_count, tree_rule, answer, GuardedSpot, child, latch, next, inner, Rule, no_rule, one_rule_fires, is_apart, same_bit, guarded_rule, rule, site_rails, rails_turned, takers}
use Rattle.circuit_places.specs.Whole.{Wires, line_ack, bit_rule, wrote_rule, bit_turned, wrote_turned, joint_turned, ack_turned, wires_seen, is_sent, is_heard, rail_turned, Whole, Node, go_node, own_node, rail_node, ack_node, bit_node, wrote_node, joint_node, merged, lows_only, rule_in, answers, offers, brings, number_rail, env_moves, enabled, cells_moved, cells_passed, value_on, neutral_on}
use Rattle.handshake_expand.specs.Sites.{in_body}
use Rattle.net_compose.specs.Translation.{translation, all_rules, channels_rules, vars_rules, rules_of, write_site, bits_at, written_at, send_site, receive_site, rails_at, ack_at, wires_from, body_answer}
use Rattle.net_compose.proofs.FlatCells.{bits, place, IsFine, length-bits, place_lt, turned_is, spot_of, rail_place}
use Rattle.net_compose.proofs.FlatRules.{Stands, one_high, one_low, high_and_low, or_up, or_down, length-rules, answer_is, rule_is}
use Rattle.net_compose.proofs.FlatSites.{at_site, sites_are, takers_are}
use Rattle.net_compose.proofs.FlatWires.{Wire, a_rail, an_ack, wire_of, rail_same, ack_same, rail_no_ack, rail_bounds, ack_bounds, length-channels_rules, rail_guards, ack_guards, rail_rules_at, ack_rules_at, value_is, neutral_is, not_listed, is_listed, not_raised, raised_is, wires_at, moves_none, moves_some, quiet_offer, values_none, values_some}
use Rattle.prs_core.specs.Parts.{turned as turned_value}

-- the two guards of a node of the net are those of its rules
pub up_told : (xs : List NodeRules) (n : ℕ) → get_or (map (λ (r : NodeRules). r.up) xs) n [] ≡ (get_or xs n no_rules).up
up_told [] n = refl
up_told (x ∷ xs) zero = refl
up_told (x ∷ xs) (suc n) = up_told xs n

pub down_told : (xs : List NodeRules) (n : ℕ) → get_or (map (λ (r : NodeRules). r.down) xs) n [] ≡ (get_or xs n no_rules).down
down_told [] n = refl
down_told (x ∷ xs) zero = refl
down_told (x ∷ xs) (suc n) = down_told xs n

-- what is assumed of the program
pub record Given (P : TypedProgram) : Type 0 where
  pub typed : IsProcess P.channels P.vars P.body
  pub covered : ReadsNoTarget P.body
  pub some : (y : ℕ) → y < length P.vars → 1 ≤ var_width P.vars y

module _ (P : TypedProgram) (given : Given P) where
  root_is : 2 + wires_before P.channels (length P.channels) ≤ root_request P
  root_is = omega arith

  abbrev behind_wires : List NodeRules
  behind_wires = vars_rules P 0 P.vars ++ (q_child go_number (root_latch P) ∷ q_latch go_number (body_answer P) ∷ rules_of P P.body (root_request P)
      (body_from P))

  root_told : (n m : ℕ) → n ≡ root_request P + m → get_or (all_rules P) n no_rules ≡ get_or
      (q_child go_number (root_latch P) ∷ q_latch go_number (body_answer P) ∷ rules_of P P.body (root_request P) (body_from P)) m no_rules
  root_told n m e =
      let i : n ≡ suc (suc (length (channels_rules P 0 P.channels) + (length (vars_rules P 0 P.vars) + m))) = omega
      (arith, e, length-channels_rules P 0 P.channels, length-vars_rules P 0 P.vars) in
      ap (λ k. get_or (all_rules P) k no_rules) i
      ∙ (get_or-append-add (channels_rules P 0 P.channels) behind_wires (length (vars_rules P 0 P.vars) + m) no_rules
      ∙ get_or-append-add (vars_rules P 0 P.vars) (q_child go_number (root_latch P) ∷ q_latch go_number (body_answer P) ∷ rules_of P P.body (root_request P)
      (body_from P)) m no_rules)

  block_told : (y m : ℕ) → y < length P.vars → m < block_size (var_width P.vars y)
      → get_or (all_rules P) (var_from P y + m) no_rules ≡ get_or (variable_rules (var_width P.vars y) (var_from P y) (in_body P (write_site P y))) m no_rules
  block_told y m hy hm =
      let i : var_from P y + m ≡ suc (suc (length (channels_rules P 0 P.channels) + (blocks_before P.vars y + m))) = omega
      (arith, length-channels_rules P 0 P.channels) in
      ap (λ k. get_or (all_rules P) k no_rules) i
      ∙ (get_or-append-add (channels_rules P 0 P.channels) behind_wires (blocks_before P.vars y + m) no_rules
      ∙ vars_rule P 0 P.vars (q_child go_number (root_latch P) ∷ q_latch go_number (body_answer P) ∷ rules_of P P.body (root_request P) (body_from P)) y m hy hm
      ∙ ap (λ i. get_or (variable_rules (var_width P.vars y) (var_from P i) (in_body P (write_site P i))) m no_rules) (let z : 0 + y ≡ y = omega arith in z))

  -- the number of a node
  abbrev pub own_number : GuardedSpot P.body → ℕ
  own_number next = 1
  own_number child = root_request P
  own_number latch = root_latch P
  own_number (inner s) = body_from P + place P P.body s

  abbrev pub number_of : Node P.body → ℕ
  number_of go_node = 0
  number_of (own_node s) = own_number s
  number_of (rail_node (of_channel k) i one) = channel_from P k + rail_place i one
  number_of (ack_node k) = ack_at P k
  number_of (rail_node (of_var y) i one) = var_from P y + offset (var_width P.vars y) (a_put i one)
  number_of (bit_node y i one) = var_from P y + offset (var_width P.vars y) (a_bit i one)
  number_of (wrote_node y i) = var_from P y + offset (var_width P.vars y) (a_mark i)
  number_of (joint_node y k) = var_from P y + offset (var_width P.vars y) (a_joint k)

  abbrev own_fine : GuardedSpot P.body → Type 0
  own_fine (inner s) = IsFine P P.body s
  own_fine _ = Unit {0}

  -- it is one of the net's nodes
  abbrev pub Fine : Node P.body → Type 0
  Fine go_node = Unit {0}
  Fine (own_node s) = own_fine s
  Fine (rail_node (of_channel k) i one) = (k < length P.channels) × (i < channel_width P.channels k)
  Fine (ack_node k) = k < length P.channels
  Fine (rail_node (of_var y) i one) = (y < length P.vars) × (i < var_width P.vars y)
  Fine (bit_node y i one) = (y < length P.vars) × (i < var_width P.vars y)
  Fine (wrote_node y i) = (y < length P.vars) × (i < var_width P.vars y)
  Fine (joint_node y k) = (y < length P.vars) × (k < joint_count (var_width P.vars y))

  -- the numbers of blocks
  pub part_bounds : (y : ℕ) (b : Part) → y < length P.vars → IsPart (var_width P.vars y) b
      → (2 + wires_before P.channels (length P.channels) ≤ var_from P y + offset (var_width P.vars y) b) ×
      (var_from P y + offset (var_width P.vars y) b < root_request P)
  part_bounds y b hy hb =
      let e = offset_lt (var_width P.vars y) b hb in
      let w = blocks_below P.vars y hy in
      (omega arith, omega (arith, e, w))

  pub same_var : (y z : ℕ) (b c : Part) → y < length P.vars → z < length P.vars → IsPart (var_width P.vars y) b → IsPart (var_width P.vars z) c
      → var_from P y + offset (var_width P.vars y) b ≡ var_from P z + offset (var_width P.vars z) c → y ≡ z
  same_var y z b c hy hz hb hc e =
      let f = offset_lt (var_width P.vars y) b hb in
      let g = offset_lt (var_width P.vars z) c hc in
      ⊎_elim
      (λ (lt : y < z). let w = blocks_apart P.vars y z lt (omega (arith, hz)) in absurd (let g : ⊥ = omega (arith, e, w, f) in g))
      (λ (le : z ≤ y).
      ⊎_elim
      (λ (lt : z < y). let w = blocks_apart P.vars z y lt (omega (arith, hy)) in absurd (let h : ⊥ = omega (arith, e, w, g) in h))
      (λ (ge : y ≤ z). let here : y ≡ z = omega (arith, le, ge) in here)
      (cases_lt z y))
      (cases_lt y z)

  pub same_part : (y : ℕ) (b c : Part) → IsPart (var_width P.vars y) b → IsPart (var_width P.vars y) c
      → var_from P y + offset (var_width P.vars y) b ≡ var_from P y + offset (var_width P.vars y) c → b ≡ c
  same_part y b c hb hc e = part_same (var_width P.vars y) b c hb hc (omega (arith, e))

  -- the value of a node of a block
  abbrev pub part_value : Wires → ℕ → Part → Bool
  part_value w y (a_bit i one) = w.bit y i one
  part_value w y (a_put i one) = w.rail (of_var y) i one
  part_value w y (a_mark i) = w.wrote y i
  part_value w y (a_joint k) = w.joint y k

  -- the state of the net is that of the cells
  pub record Shows (st : RunState) (x : Whole P.body) : Type 0 where
    pub count : length st.values ≡ nodes_of P
    pub go : high st.values 0 ≡ x.go
    pub done : high st.values 1 ≡ x.root.next
    pub child : high st.values (root_request P) ≡ x.root.child
    pub latch : high st.values (root_latch P) ≡ x.root.latch
    pub body : Stands (high st.values) (body_from P) (bits P P.body x.root.inner)
    pub rail : (k i : ℕ) (one : Bool) → k < length P.channels → i < channel_width P.channels k
        → high st.values (channel_from P k + rail_place i one) ≡ x.wires.rail (of_channel k) i one
    pub ack : (k : ℕ) → k < length P.channels → high st.values (ack_at P k) ≡ x.wires.ack k
    pub block : (y : ℕ) (b : Part) → y < length P.vars → IsPart (var_width P.vars y) b
        → high st.values (var_from P y + offset (var_width P.vars y) b) ≡ part_value x.wires y b
    pub histories : st.histories ≡ x.histories
    pub channels : length x.histories ≡ length P.channels

  -- a node of the net, its value and its guards
  pub record Tells (v : ℕ → Bool) (n : ℕ) (r : Rule) : Type 0 where
    pub now : v n ≡ r.now
    pub up : guard_holds v (up_of (translation P) n) ≡ r.up
    pub down : guard_holds v (down_of (translation P) n) ≡ r.down

  tells_from : (v : ℕ → Bool) (n : ℕ) (r : Rule) (g : NodeRules) → get_or (all_rules P) n no_rules ≡ g → v n ≡ r.now → guard_holds v g.up ≡ r.up
      → guard_holds v g.down ≡ r.down → Tells v n r
  tells_from v n r g e now up down = record {
    now = now;
    up = ap (guard_holds v) (up_told (all_rules P) n) ∙ (ap (λ (z : NodeRules). guard_holds v z.up) e ∙ up);
    down = ap (guard_holds v) (down_told (all_rules P) n) ∙ (ap (λ (z : NodeRules). guard_holds v z.down) e ∙ down);
  }

  module _ (st : RunState) (x : Whole P.body) (s : Shows st x) where
    abbrev value : ℕ → Bool
    value = high st.values

    block_is : (y : ℕ) → y < length P.vars → BlockIs (high st.values) (var_width P.vars y) (var_from P y) (x.wires.bit y) (x.wires.rail (of_var y))
        (x.wires.wrote y) (x.wires.joint y)
    block_is y h = record {
      bits = λ i one l. s.block y (a_bit i one) h l;
      puts = λ i one l. s.block y (a_put i one) h l;
      marks = λ i l. s.block y
          (a_mark i) h l;
      joints = λ k l. s.block y (a_joint k) h l;
    }

    written_told : (y : ℕ) → y < length P.vars → high st.values (written_at P y) ≡ line_ack P x.wires (of_var y)
    written_told y h = written_is (high st.values) (var_width P.vars y) (var_from P y) (x.wires.bit y) (x.wires.rail (of_var y)) (x.wires.wrote y)
        (x.wires.joint y) (block_is y h) (in_body P (write_site P y)) (given.some y h)

    bits_told : (y i : ℕ) (one : Bool) → y < length P.vars → i < var_width P.vars y
        → high st.values (node_of (pair_of (bits_at P y) i) one) ≡ x.wires.bit y i one
    bits_told y i one h l = ap (high st.values) (bit_number (var_width P.vars y) (var_from P y) i one l) ∙ s.block y (a_bit i one) h l

    part_tells : (y : ℕ) (b : Part) (h : y < length P.vars) → IsPart (var_width P.vars y) b → (r : Rule)
        → Says (high st.values) (var_width P.vars y) (var_from P y) (x.wires.bit y) (x.wires.rail (of_var y)) (x.wires.wrote y) (x.wires.joint y) (block_is y h)
        (in_body P (write_site P y)) (offset (var_width P.vars y) b) r
        → Tells (high st.values) (var_from P y + offset (var_width P.vars y) b) r
    part_tells y b h l r z = tells_from (high st.values) (var_from P y + offset (var_width P.vars y) b) r
        (get_or (variable_rules (var_width P.vars y) (var_from P y) (in_body P (write_site P y))) (offset (var_width P.vars y) b) no_rules)
        (block_told y (offset (var_width P.vars y) b) h (offset_lt (var_width P.vars y) b l)) z.now z.up z.down

    body_answer_is : high st.values (body_answer P) ≡ answer P.body x.root.inner
    body_answer_is = answer_is P (high st.values) P.body given.covered given.typed (body_from P) x.root.inner s.body

    own_tells : (p : GuardedSpot P.body) → own_fine p → Tells (high st.values) (own_number p) (guarded_rule P.body (wires_seen P x.wires) x.go x.root p)
    own_tells next f =
        tells_from (high st.values) 1 (guarded_rule P.body (wires_seen P x.wires) x.go x.root next) (q_next (root_latch P) (body_answer P)) refl s.done
        (high_and_low (high st.values) (root_latch P) (body_answer P) ∙ (ap (λ b. b && not (high st.values (body_answer P))) s.latch
        ∙ ap (λ b. x.root.latch && not b) body_answer_is))
        (one_low (high st.values) (root_latch P) ∙ ap not s.latch)
    own_tells child f =
        tells_from (high st.values) (root_request P) (guarded_rule P.body (wires_seen P x.wires) x.go x.root child) (q_child go_number (root_latch P))
        (root_told (root_request P) 0 (omega arith)) s.child
        (high_and_low (high st.values) 0 (root_latch P) ∙ (ap (λ b. b && not (high st.values (root_latch P))) s.go ∙ ap (λ b. x.go && not b) s.latch))
        (one_high (high st.values) (root_latch P) ∙ s.latch)
    own_tells latch f =
        tells_from (high st.values) (root_latch P) (guarded_rule P.body (wires_seen P x.wires) x.go x.root latch) (q_latch go_number (body_answer P))
        (root_told (root_latch P) 1 refl) s.latch
        (one_high (high st.values) (body_answer P) ∙ body_answer_is)
        (one_low (high st.values) 0 ∙ ap not s.go)
    own_tells (inner p) f =
        let t = rule_is P (high st.values) (wires_seen P x.wires) s.ack written_told bits_told s.rail P.body given.covered given.typed (root_request P)
        (body_from P) x.root.inner p f s.body in
        let r = rule P.body (wires_seen P x.wires) (high st.values (root_request P)) x.root.inner p in
        let e : r ≡ rule P.body (wires_seen P x.wires) x.root.child x.root.inner p = ap (λ b. rule P.body (wires_seen P x.wires) b x.root.inner p) s.child in
        tells_from (high st.values) (body_from P + place P P.body p) (rule P.body (wires_seen P x.wires) x.root.child x.root.inner p)
        (get_or (rules_of P P.body (root_request P) (body_from P)) (place P P.body p) no_rules)
        (root_told (body_from P + place P P.body p) (suc (suc (place P P.body p))) (omega arith))
        (t.now ∙ ap (λ (z : Rule). z.now) e) (t.up ∙ ap (λ (z : Rule). z.up) e) (t.down ∙ ap (λ (z : Rule). z.down) e)

    -- a rail of a channel, by the channel's kind
    rail_tells : (k i : ℕ) (one : Bool) → k < length P.channels → i < channel_width P.channels k → (kind : Kind) → kind_at P.channels k ≡ kind
        → Tells (high st.values) (channel_from P k + rail_place i one) (if is_sent kind then merged (x.wires.rail (of_channel k) i one)
        (site_rails P.body x.root.inner (of_channel k) i one) else no_rule (x.wires.rail (of_channel k) i one))
    rail_tells k i one hk hi kind is = by kind (place_is ∙ ap (λ z. rail_guards P z k i one) is)
      where
        place_is : get_or (all_rules P) (channel_from P k + rail_place i one) no_rules ≡ rail_guards P (kind_at P.channels k) k i one
        place_is =
            let n : channel_from P k + rail_place i one ≡ suc (suc (wires_before P.channels k + rail_place i one)) = omega arith in
            ap (λ m. get_or (all_rules P) m no_rules) n ∙ rail_rules_at P behind_wires k i one hk hi

        merges : get_or (all_rules P) (channel_from P k + rail_place i one) no_rules ≡ or_of (map (at_site i one) (in_body P (send_site k)))
            → Tells (high st.values) (channel_from P k + rail_place i one)
            (merged (x.wires.rail (of_channel k) i one) (site_rails P.body x.root.inner (of_channel k) i one))
        merges told =
            let sites = in_body P (send_site k) in
            let e = sites_are (high st.values) P (of_channel k) i one hi P.body given.covered given.typed (body_from P) x.root.inner s.body in
            tells_from (high st.values) (channel_from P k + rail_place i one)
            (merged (x.wires.rail (of_channel k) i one) (site_rails P.body x.root.inner (of_channel k) i one)) (or_of (map (at_site i one) sites)) told
            (s.rail k i one hk hi)
            (or_up (high st.values) (map (at_site i one) sites) ∙ ap (list_any (λ b. b)) e)
            (or_down (high st.values) (map (at_site i one) sites) ∙ ap lows_only e)

        by : (kind : Kind) → get_or (all_rules P) (channel_from P k + rail_place i one) no_rules ≡ rail_guards P kind k i one
            → Tells (high st.values) (channel_from P k + rail_place i one)
            (if is_sent kind then merged (x.wires.rail (of_channel k) i one) (site_rails P.body x.root.inner (of_channel k) i one) else no_rule
            (x.wires.rail (of_channel k) i one))
        by Out told = merges told
        by Chan told = merges told
        by In told = tells_from (high st.values) (channel_from P k + rail_place i one) (no_rule (x.wires.rail (of_channel k) i one)) no_rules told
            (s.rail k i one hk hi) refl refl

    ack_tells : (k : ℕ) → k < length P.channels → (kind : Kind) → kind_at P.channels k ≡ kind
        → Tells (high st.values) (ack_at P k) (if is_heard kind then merged (x.wires.ack k) (takers P.body x.root.inner k) else no_rule (x.wires.ack k))
    ack_tells k hk kind is = by kind (place_is ∙ ap (λ z. ack_guards P z k) is)
      where
        place_is : get_or (all_rules P) (ack_at P k) no_rules ≡ ack_guards P (kind_at P.channels k) k
        place_is =
            let n : ack_at P k ≡ suc (suc (wires_before P.channels k + 2 * channel_width P.channels k)) = omega arith in
            ap (λ m. get_or (all_rules P) m no_rules) n ∙ ack_rules_at P behind_wires k hk

        merges : get_or (all_rules P) (ack_at P k) no_rules ≡ or_of (in_body P (receive_site k))
            → Tells (high st.values) (ack_at P k) (merged (x.wires.ack k) (takers P.body x.root.inner k))
        merges told =
            let e = takers_are (high st.values) P k P.body given.covered given.typed (body_from P) x.root.inner s.body in
            tells_from (high st.values) (ack_at P k) (merged (x.wires.ack k) (takers P.body x.root.inner k)) (or_of (in_body P (receive_site k))) told
            (s.ack k hk)
            (or_up (high st.values) (in_body P (receive_site k)) ∙ ap (list_any (λ b. b)) e)
            (or_down (high st.values) (in_body P (receive_site k)) ∙ ap lows_only e)

        by : (kind : Kind) → get_or (all_rules P) (ack_at P k) no_rules ≡ ack_guards P kind k
            → Tells (high st.values) (ack_at P k) (if is_heard kind then merged (x.wires.ack k) (takers P.body x.root.inner k) else no_rule (x.wires.ack k))
        by Out told = tells_from (high st.values) (ack_at P k) (no_rule (x.wires.ack k)) no_rules told (s.ack k hk) refl refl
        by Chan told = merges told
        by In told = merges told

    pub node_tells : (n : Node P.body) → Fine n → Tells (high st.values) (number_of n) (rule_in P x n)
    node_tells go_node f = tells_from (high st.values) 0 (no_rule x.go) no_rules refl s.go refl refl
    node_tells (own_node p) f = own_tells p f
    node_tells (rail_node (of_channel k) i one) f = rail_tells k i one f.0 f.1 (kind_at P.channels k) refl
    node_tells (ack_node k) f = ack_tells k f (kind_at P.channels k) refl
    node_tells (rail_node (of_var y) i one) f = part_tells y (a_put i one) f.0 f.1
        (merged (x.wires.rail (of_var y) i one) (site_rails P.body x.root.inner (of_var y) i one))
        (put_says (high st.values) (var_width P.vars y) (var_from P y) (x.wires.bit y) (x.wires.rail (of_var y)) (x.wires.wrote y) (x.wires.joint y)
        (block_is y f.0) (in_body P (write_site P y)) i one (site_rails P.body x.root.inner (of_var y) i one) f.1
        (sites_are (high st.values) P (of_var y) i one f.1 P.body given.covered given.typed (body_from P) x.root.inner s.body))
    node_tells (bit_node y i one) f = part_tells y (a_bit i one) f.0 f.1 (bit_rule (x.wires.rail (of_var y)) (x.wires.bit y) i one)
        (bit_says (high st.values) (var_width P.vars y) (var_from P y) (x.wires.bit y) (x.wires.rail (of_var y)) (x.wires.wrote y) (x.wires.joint y)
        (block_is y f.0) (in_body P (write_site P y)) i one f.1)
    node_tells (wrote_node y i) f = part_tells y (a_mark i) f.0 f.1 (wrote_rule (x.wires.rail (of_var y)) (x.wires.bit y) (x.wires.wrote y) i)
        (mark_says (high st.values) (var_width P.vars y) (var_from P y) (x.wires.bit y) (x.wires.rail (of_var y)) (x.wires.wrote y) (x.wires.joint y)
        (block_is y f.0) (in_body P (write_site P y)) i f.1)
    node_tells (joint_node y k) f = part_tells y (a_joint k) f.0 f.1 (tree_rule (var_width P.vars y) (x.wires.wrote y) (x.wires.joint y) k)
        (joint_says (high st.values) (var_width P.vars y) (var_from P y) (x.wires.bit y) (x.wires.rail (of_var y)) (x.wires.wrote y) (x.wires.joint y)
        (block_is y f.0) (in_body P (write_site P y)) k f.1)

    -- the environment's moves

    -- the node is none of a channel's wires
    abbrev Beyond : ℕ → ℕ → Type 0
    Beyond n j = (n ≢ ack_at P j) × ((i : ℕ) (one : Bool) → i < channel_width P.channels j → n ≢ channel_from P j + rail_place i one)

    quiet_channels : (script : List OfferValue) (n : ℕ) → ((j : ℕ) → j < length P.channels → Beyond n j)
        → channels_move (high st.values) (offer_at script) (completed st.histories) 0 (wires_from P 0 P.channels) n ≡ false
    quiet_channels script n far = moves_none P script (completed st.histories) (high st.values) 0 P.channels n
        (λ j low up c. let z = far j (omega (arith, up)) in quiet_offer P script (completed st.histories) (high st.values) j n z.0 z.1 (offer_at script j) c)

    -- no channel moves a node that isn't one of the wires
    below_wires : (n : ℕ) → n < 2 → (j : ℕ) → j < length P.channels → n ≢ ack_at P j
    below_wires n h j lt e = let b = ack_bounds P j lt in absurd (omega (arith, h, e, b.0))

    above_wires : (n : ℕ) → 2 + wires_before P.channels (length P.channels) ≤ n → (j : ℕ) → j < length P.channels → n ≢ ack_at P j
    above_wires n h j lt e = let b = ack_bounds P j lt in absurd (omega (arith, h, e, b.1))

    below_all : (n : ℕ) → n < 2 → (j : ℕ) → j < length P.channels → Beyond n j
    below_all n h j lt = (below_wires n h j lt, λ i one l e. let b = rail_bounds P j i one lt l in absurd (omega (arith, h, e, b.0)))

    above_all : (n : ℕ) → 2 + wires_before P.channels (length P.channels) ≤ n → (j : ℕ) → j < length P.channels → Beyond n j
    above_all n h j lt = (above_wires n h j lt, λ i one l e. let b = rail_bounds P j i one lt l in absurd (omega (arith, h, e, b.1)))

    quiet_environment : (script : List OfferValue) (n : ℕ) → 1 ≤ n → ((j : ℕ) → j < length P.channels → Beyond n j)
        → env_enabled (translation P) script (completed st.histories) (high st.values) n ≡ false
    quiet_environment script n h far =
        ap (λ b. (b && not (high st.values 0)) || channels_move (high st.values) (offer_at script) (completed st.histories) 0 (wires_from P 0 P.channels) n)
        (ne_eqb n 0 (λ e. absurd (omega (arith, e, h))))
        ∙ quiet_channels script n far

    or_nothing : (b : Bool) → (b || false) ≡ b
    or_nothing true = refl
    or_nothing false = refl

    done_is : (k : ℕ) → completed st.histories k ≡ completed x.histories k
    done_is k = ap (λ h. completed h k) s.histories

    -- at the wires of one channel the others' environments don't move
    one_channel : (script : List OfferValue) (n k : ℕ) (b : Bool) → 1 ≤ n → k < length P.channels → ((j : ℕ) → j < length P.channels → j ≢ k → Beyond n j)
        → ((c : Channel) → offer_moves (high st.values) (wires_at P script (completed st.histories) (high st.values) k c) (offer_at script k)
        (completed st.histories k) n ≡ b) → env_enabled (translation P) script (completed st.histories) (high st.values) n ≡ b
    one_channel script n k b h hk far here =
        ap (λ b. (b && not (high st.values 0)) || channels_move (high st.values) (offer_at script) (completed st.histories) 0 (wires_from P 0 P.channels) n)
        (ne_eqb n 0 (λ e. absurd (omega (arith, e, h))))
        ∙ moves_some P script (completed st.histories) (high st.values) 0 P.channels n k b (omega arith) (omega (arith, hk))
        (λ j low up ne c. let z = far j (omega (arith, up)) ne in quiet_offer P script (completed st.histories) (high st.values) j n z.0 z.1
        (offer_at script j) c) here

    ack_moves : (script : List OfferValue) (k : ℕ) → k < length P.channels
        → env_enabled (translation P) script (completed st.histories) (high st.values) (ack_at P k) ≡ answers (channel_width P.channels k) x.wires k
        (completed x.histories k) (offer_at script k)
    ack_moves script k hk = one_channel script (ack_at P k) k (answers (channel_width P.channels k) x.wires k (completed x.histories k) (offer_at script k))
        (let b = ack_bounds P k hk in omega (arith, b.0)) hk
        (λ j lt ne. (λ e. ne (sym (ack_same P k j hk lt e)), λ i one l e. rail_no_ack P j k i one lt hk l (sym e)))
        (λ c. here c (offer_at script k))
      where
        width : ℕ
        width = channel_width P.channels k

        rails : (i : ℕ) (one : Bool) → i < channel_width P.channels k → high st.values (channel_from P k + rail_place i one) ≡ x.wires.rail (of_channel k) i one
        rails i one lt = s.rail k i one hk lt

        far : (i : ℕ) (one : Bool) → i < channel_width P.channels k → ack_at P k ≢ channel_from P k + rail_place i one
        far i one l e = rail_no_ack P k k i one hk hk l (sym e)

        here : (c : Channel) (offer : OfferValue) → offer_moves (high st.values) (wires_at P script (completed st.histories) (high st.values) k c) offer
            (completed st.histories k) (ack_at P k) ≡ answers (channel_width P.channels k) x.wires k (completed x.histories k) offer
        here c nothing = refl
        here c (gives values) = by (high st.values (ack_at P k)) (slice_get values (completed st.histories k))
          where
            never : (b : Bool) → (b && false) ≡ false
            never true = refl
            never false = refl

            by : (a : Bool) (value : Option ℕ) → (if a then lowers (high st.values) (rails_of (rails_at P k)) (ack_at P k) else raises_next
                (high st.values) value (rails_of (rails_at P k)) (ack_at P k)) ≡ false
            by true value = ap (λ b. high st.values (ack_at P k) && b) (not_listed (high st.values) (channel_width P.channels k) (channel_from P k)
                (ack_at P k) far) ∙ never (high st.values (ack_at P k))
            by false None = refl
            by false (Some value) = not_raised (high st.values) (channel_width P.channels k) (channel_from P k) (ack_at P k) value far
        here c (takes count) =
            let w = channel_width P.channels k in
            let value = value_is (high st.values) w (channel_from P k) (x.wires.rail (of_channel k)) rails in
            let none = neutral_is (high st.values) w (channel_from P k) (x.wires.rail (of_channel k)) rails in
            ap (λ b. b && (if high st.values (ack_at P k) then neutral (high st.values) (rails_of (rails_at P k)) else valid (high st.values)
            (rails_of (rails_at P k)) && is_over count (completed st.histories k))) (eq-eqb (ack_at P k) (ack_at P k) refl)
            ∙ (ap (λ b. if b then neutral (high st.values) (rails_of (rails_at P k)) else valid (high st.values) (rails_of (rails_at P k)) && is_over count
            (completed st.histories k)) (s.ack k hk)
            ∙ (ap (λ b. if x.wires.ack k then b else valid (high st.values) (rails_of (rails_at P k)) && is_over count (completed st.histories k)) none
            ∙ (ap (λ o. if x.wires.ack k then neutral_on w (x.wires.rail (of_channel k)) else is_some o && is_over count (completed st.histories k)) value
            ∙ ap (λ m. if x.wires.ack k then neutral_on w (x.wires.rail (of_channel k)) else is_some
            (value_on w (x.wires.rail (of_channel k))) && is_over count m) (done_is k))))

    -- the rails of an `in` channel
    rail_moves : (script : List OfferValue) (k i : ℕ) (one : Bool) → k < length P.channels → i < channel_width P.channels k
        → env_enabled (translation P) script (completed st.histories) (high st.values) (channel_from P k + rail_place i one) ≡ offers
        (channel_width P.channels k) x.wires k (completed x.histories k) (offer_at script k) i one
    rail_moves script k i one hk hi = one_channel script (channel_from P k + rail_place i one) k
        (offers (channel_width P.channels k) x.wires k (completed x.histories k) (offer_at script k) i one)
        (let b = rail_bounds P k i one hk hi in omega (arith, b.0)) hk
        (λ j lt ne. (rail_no_ack P k j i one hk lt hi, λ l side hl e. ne (sym (rail_same P k j i l one side hk lt hi hl e).0)))
        (λ c. here c (offer_at script k))
      where
        here : (c : Channel) (offer : OfferValue) → offer_moves (high st.values) (wires_at P script (completed st.histories) (high st.values) k c) offer
            (completed st.histories k) (channel_from P k + rail_place i one) ≡ offers (channel_width P.channels k) x.wires k
            (completed x.histories k) offer i one
        here c nothing = refl
        here c (takes count) =
            ap (λ b. b && (if high st.values (ack_at P k) then neutral (high st.values) (rails_of (rails_at P k)) else valid (high st.values)
            (rails_of (rails_at P k)) && is_over count (completed st.histories k)))
            (ne_eqb (channel_from P k + rail_place i one) (ack_at P k) (rail_no_ack P k k i one hk hk hi))
        here c (gives values) =
            ap (λ m. if high st.values (ack_at P k) then lowers (high st.values) (rails_of (rails_at P k))
            (channel_from P k + rail_place i one) else raises_next (high st.values) (slice_get values m) (rails_of (rails_at P k))
            (channel_from P k + rail_place i one)) (done_is k)
            ∙ (ap (λ b. if b then lowers (high st.values) (rails_of (rails_at P k)) (channel_from P k + rail_place i one) else raises_next (high st.values)
            (slice_get values (completed x.histories k)) (rails_of (rails_at P k)) (channel_from P k + rail_place i one)) (s.ack k hk)
            ∙ (ap (λ b. if x.wires.ack k then b else raises_next (high st.values) (slice_get values (completed x.histories k)) (rails_of (rails_at P k))
            (channel_from P k + rail_place i one)) falls
            ∙ ap (λ b. if x.wires.ack k then x.wires.rail (of_channel k) i one else b) (rises (slice_get values (completed x.histories k)))))
          where
            always : (b : Bool) → (b && true) ≡ b
            always true = refl
            always false = refl

            falls : lowers (high st.values) (rails_of (rails_at P k)) (channel_from P k + rail_place i one) ≡ x.wires.rail (of_channel k) i one
            falls =
                ap (λ b. high st.values (channel_from P k + rail_place i one) && b)
                (is_listed (high st.values) (channel_width P.channels k) (channel_from P k) i one hi)
                ∙ (always (high st.values (channel_from P k + rail_place i one)) ∙ s.rail k i one hk hi)

            rises : (value : Option ℕ) → raises_next (high st.values) value (rails_of (rails_at P k)) (channel_from P k + rail_place i one) ≡
                (brings (channel_width P.channels k) value i one && (not (x.wires.rail (of_channel k) i true) && not (x.wires.rail (of_channel k) i false)))
            rises None = refl
            rises (Some value) =
                raised_is (high st.values) (channel_width P.channels k) (channel_from P k) value i one hi
                ∙ (ap (λ b. number_rail (channel_width P.channels k) value i one && (not b && not (high st.values (channel_from P k + rail_place i false))))
                (s.rail k i true hk hi)
                ∙ ap (λ b. number_rail (channel_width P.channels k) value i one && (not (x.wires.rail (of_channel k) i true) && not b))
                (s.rail k i false hk hi))

    rule_fires : (n : ℕ) (r : Rule) → Tells (high st.values) n r → rule_enabled (translation P) (high st.values) n ≡ one_rule_fires r
    rule_fires n r t =
        ap (λ b. if b then guard_holds (high st.values) (down_of (translation P) n) else guard_holds (high st.values) (up_of (translation P) n)) t.now
        ∙ (ap (λ b. if r.now then b else guard_holds (high st.values) (up_of (translation P) n)) t.down ∙ ap (λ b. if r.now then r.down else b) t.up)

    env_is : (script : List OfferValue) (n : Node P.body) → Fine n → env_enabled (translation P) script (completed st.histories) (high st.values)
        (number_of n) ≡ env_moves P script x n
    env_is script go_node f =
        ap (λ b. not b || channels_move (high st.values) (offer_at script) (completed st.histories) 0 (wires_from P 0 P.channels) 0) s.go
        ∙ (ap (λ b. not x.go || b) (quiet_channels script 0 (below_all 0 (omega arith))) ∙ or_nothing (not x.go))
    env_is script (own_node next) f = quiet_environment script 1 (omega arith) (below_all 1 (omega arith))
    env_is script (own_node child) f = quiet_environment script (root_request P) (omega (arith, root_is)) (above_all (root_request P) (omega arith))
    env_is script (own_node latch) f = quiet_environment script (root_latch P) (omega (arith, root_is)) (above_all (root_latch P) (omega arith))
    env_is script (own_node (inner p)) f = quiet_environment script (body_from P + place P P.body p) (omega (arith, root_is))
        (above_all (body_from P + place P P.body p) (omega arith))
    env_is script (rail_node (of_channel k) i one) f = rail_moves script k i one f.0 f.1
    env_is script (ack_node k) f = ack_moves script k f
    env_is script (rail_node (of_var y) i one) f = let e = part_bounds y (a_put i one) f.0 f.1 in quiet_environment script
        (var_from P y + offset (var_width P.vars y) (a_put i one)) (omega arith) (above_all (var_from P y + offset (var_width P.vars y) (a_put i one)) e.0)
    env_is script (bit_node y i one) f = let e = part_bounds y (a_bit i one) f.0 f.1 in quiet_environment script
        (var_from P y + offset (var_width P.vars y) (a_bit i one)) (omega arith) (above_all (var_from P y + offset (var_width P.vars y) (a_bit i one)) e.0)
    env_is script (wrote_node y i) f = let e = part_bounds y (a_mark i) f.0 f.1 in quiet_environment script
        (var_from P y + offset (var_width P.vars y) (a_mark i)) (omega arith) (above_all (var_from P y + offset (var_width P.vars y) (a_mark i)) e.0)
    env_is script (joint_node y k) f = let e = part_bounds y (a_joint k) f.0 f.1 in quiet_environment script
        (var_from P y + offset (var_width P.vars y) (a_joint k)) (omega arith) (above_all (var_from P y + offset (var_width P.vars y) (a_joint k)) e.0)

    -- a node of the net may move exactly where its node of the cells may
    pub enabled_is : (script : List OfferValue) (n : Node P.body) → Fine n → move_enabled (translation P) script st (number_of n) ≡ enabled P script x n
    enabled_is script n f =
        ap (λ b. b || env_enabled (translation P) script (completed st.histories) (high st.values) (number_of n))
        (rule_fires (number_of n) (rule_in P x n) (node_tells n f))
        ∙ ap (λ b. one_rule_fires (rule_in P x n) || b) (env_is script n f)

    -- its guards hold as those of the cells do
    pub apart_is : (n : Node P.body) → Fine n → is_apart (rule_in P x n) ≡ true → both_ways (translation P) (high st.values) (number_of n) ≡ false
    apart_is n f h =
        let t = node_tells n f in
        ap (λ b. b && guard_holds (high st.values) (down_of (translation P) (number_of n))) t.up
        ∙ (ap (λ b. (rule_in P x n).up && b) t.down ∙ not_both ((rule_in P x n).up && (rule_in P x n).down) h)
      where
        not_both : (b : Bool) → not b ≡ true → b ≡ false
        not_both true e = absurd (cc e)
        not_both false e = refl

  -- each number below the count is that of a node
  pub record Numbered (n : ℕ) : Type 0 where
    pub node : Node P.body
    pub fine : Fine node
    pub is : number_of node ≡ n

  pub node_at : (n : ℕ) → n < nodes_of P → Numbered n
  node_at zero h = record { node = go_node; fine = tt; is = refl }
  node_at (suc zero) h = record { node = own_node next; fine = tt; is = refl }
  node_at (suc (suc n)) h =
      ⊎_elim
      (λ (lt : n < wires_before P.channels (length P.channels)). by_wire (wire_of P n lt))
      (λ (le : wires_before P.channels (length P.channels) ≤ n).
      ⊎_elim
      (λ (lt : suc (suc n) < root_request P). by_block (owner P.vars (n - wires_before P.channels (length P.channels)) (omega (arith, lt, le))) le)
      (λ (ge : root_request P ≤ suc (suc n)). by_root (suc (suc n) - root_request P) (omega (arith, ge)))
      (cases_lt (suc (suc n)) (root_request P)))
      (cases_lt n (wires_before P.channels (length P.channels)))
    where
      by_wire : Wire P (2 + n) → Numbered (suc (suc n))
      by_wire (a_rail k i one hk hi e) = record { node = rail_node (of_channel k) i one; fine = (hk, hi); is = e ∙ omega arith }
      by_wire (an_ack k hk e) = record { node = ack_node k; fine = hk; is = e ∙ omega arith }

      by_block : Owner P.vars (n - wires_before P.channels (length P.channels)) → wires_before P.channels (length P.channels) ≤ n → Numbered (suc (suc n))
      by_block o le = by_part (part_of (var_width P.vars o.var) o.place o.below)
        where
          at : (b : Part) → offset (var_width P.vars o.var) b ≡ o.place → var_from P o.var + offset (var_width P.vars o.var) b ≡ suc (suc n)
          at b e = let z = o.is in omega (arith, e, z, le)

          with_part : (b : Part) → IsPart (var_width P.vars o.var) b → offset (var_width P.vars o.var) b ≡ o.place → Numbered (suc (suc n))
          with_part (a_bit i one) h e = record { node = bit_node o.var i one; fine = (o.some, h); is = at (a_bit i one) e }
          with_part (a_put i one) h e = record { node = rail_node (of_var o.var) i one; fine = (o.some, h); is = at (a_put i one) e }
          with_part (a_mark i) h e = record { node = wrote_node o.var i; fine = (o.some, h); is = at (a_mark i) e }
          with_part (a_joint k) h e = record { node = joint_node o.var k; fine = (o.some, h); is = at (a_joint k) e }

          by_part : PartAt (var_width P.vars o.var) o.place → Numbered (suc (suc n))
          by_part r = with_part r.part r.fine r.is

      by_root : (m : ℕ) → root_request P + m ≡ suc (suc n) → Numbered (suc (suc n))
      by_root zero e = record { node = own_node child; fine = tt; is = omega (arith, e) }
      by_root (suc zero) e = record { node = own_node latch; fine = tt; is = omega (arith, e) }
      by_root (suc (suc m)) e =
          let r = spot_of P P.body given.covered m (omega (arith, e, h)) in
          record { node = own_node (inner r.spot); fine = r.fine; is = omega (arith, e, r.is) }

  length-all : length (all_rules P) ≡ nodes_of P
  length-all =
      omega (
        arith,
        length-append (channels_rules P 0 P.channels) behind_wires,
        length-append (vars_rules P 0 P.vars) (q_child go_number (root_latch P) ∷ q_latch go_number (body_answer P) ∷ rules_of P P.body (root_request P)
            (body_from P)),
        length-channels_rules P 0 P.channels,
        length-vars_rules P 0 P.vars,
        length-rules P P.body given.covered given.typed (root_request P) (body_from P),
      )

  -- beyond the last node there is no rule
  past_up : (n : ℕ) → nodes_of P ≤ n → up_of (translation P) n ≡ []
  past_up n h = up_told (all_rules P) n ∙ ap (λ (r : NodeRules). r.up) (get_or_past (all_rules P) n no_rules (omega (arith, h, length-all)))

  past_down : (n : ℕ) → nodes_of P ≤ n → down_of (translation P) n ≡ []
  past_down n h = down_told (all_rules P) n ∙ ap (λ (r : NodeRules). r.down) (get_or_past (all_rules P) n no_rules (omega (arith, h, length-all)))

  pub past_apart : (st : RunState) (n : ℕ) → nodes_of P ≤ n → both_ways (translation P) (high st.values) n ≡ false
  past_apart st n h = ap (λ g. guard_holds (high st.values) g && guard_holds (high st.values) (down_of (translation P) n)) (past_up n h)

  pub past_end : (st : RunState) (x : Whole P.body) → Shows st x → (script : List OfferValue) (n : ℕ) → nodes_of P ≤ n
      → move_enabled (translation P) script st n ≡ false
  past_end st x s script n h =
      let env = quiet_environment st x s script n (omega (arith, h, root_is)) (above_all st x s n (omega (arith, h))) in
      ap (λ b. rule_enabled (translation P) (high st.values) n || b) env
      ∙ (ap (λ g. (if high st.values n then guard_holds (high st.values) (down_of (translation P) n) else guard_holds (high st.values) g) || false)
      (past_up n h)
      ∙ (ap (λ g. (if high st.values n then guard_holds (high st.values) g else false) || false) (past_down n h) ∙ both_none (high st.values n)))
    where
      both_none : (b : Bool) → ((if b then false else false) || false) ≡ false
      both_none true = refl
      both_none false = refl

  -- the state of the net after a move is that of the cells after it

  module _ (st : RunState) (x : Whole P.body) (s : Shows st x) (m : ℕ) (lt : m < nodes_of P) where
    fired_here : (n : ℕ) → n ≡ m → high (fired st.values m) n ≡ not (high st.values n)
    fired_here n e = ap (λ i. high (fired st.values m) i) e ∙ (get_or-set_same st.values m (not (high st.values m)) false (omega (arith, lt, s.count))
        ∙ ap (λ i. not (high st.values i)) (sym e))

    fired_far : (n : ℕ) → n ≢ m → high (fired st.values m) n ≡ high st.values n
    fired_far n ne = get_or-set_other st.values m n (not (high st.values m)) false ne

    fired_count : length (fired st.values m) ≡ nodes_of P
    fired_count = length-set st.values m (not (high st.values m)) ∙ s.count

    -- nothing passes where no acknowledge moves
    still_histories : ((j : ℕ) → j < length P.channels → m ≢ ack_at P j) → (moved_flat (translation P) st m).histories ≡ x.histories
    still_histories far = values_none P (high st.values) 0 P.channels st.histories m (ap length s.histories ∙ s.channels)
        (λ j low up. far j (omega (arith, up))) ∙ s.histories

    go_far : 0 ≢ m → high (fired st.values m) 0 ≡ x.go
    go_far ne = fired_far 0 ne ∙ s.go

    done_far : 1 ≢ m → high (fired st.values m) 1 ≡ x.root.next
    done_far ne = fired_far 1 ne ∙ s.done

    child_far : root_request P ≢ m → high (fired st.values m) (root_request P) ≡ x.root.child
    child_far ne = fired_far (root_request P) ne ∙ s.child

    latch_far : root_latch P ≢ m → high (fired st.values m) (root_latch P) ≡ x.root.latch
    latch_far ne = fired_far (root_latch P) ne ∙ s.latch

    body_far : m < body_from P → Stands (high (fired st.values m)) (body_from P) (bits P P.body x.root.inner)
    body_far below = record { at = λ i h. fired_far (body_from P + i) (λ e. absurd (omega (arith, e, below))) ∙ s.body.at i h }

    -- where the node isn't a wire
    rail_outside : (m < 2) ⊎ (root_request P ≤ m) → (k i : ℕ) (one : Bool) → k < length P.channels → i < channel_width P.channels k
        → high (fired st.values m) (channel_from P k + rail_place i one) ≡ x.wires.rail (of_channel k) i one
    rail_outside where_m k i one hk hi =
        let b = rail_bounds P k i one hk hi in
        fired_far (channel_from P k + rail_place i one) (λ e. no_wire where_m e b.0 b.1) ∙ s.rail k i one hk hi
      where
        no_wire : {n : ℕ} → (m < 2) ⊎ (root_request P ≤ m) → n ≡ m → 2 ≤ n → n < 2 + wires_before P.channels (length P.channels) → ⊥
        no_wire (inl below) e low up = absurd (omega (arith, below, e, low))
        no_wire (inr above) e low up = absurd (omega (arith, above, e, up, root_is))

    block_outside : (m < 2 + wires_before P.channels (length P.channels)) ⊎ (root_request P ≤ m) → (y : ℕ) (b : Part) → y < length P.vars
        → IsPart (var_width P.vars y) b → high (fired st.values m) (var_from P y + offset (var_width P.vars y) b) ≡ part_value x.wires y b
    block_outside where_m y b hy hb = fired_far (var_from P y + offset (var_width P.vars y) b) (λ e. apart where_m e) ∙ s.block y b hy hb
      where
        apart : (m < 2 + wires_before P.channels (length P.channels)) ⊎ (root_request P ≤ m) → var_from P y + offset (var_width P.vars y) b ≡ m → ⊥
        apart (inl below) e = let z = part_bounds y b hy hb in omega (arith, below, e, z.0)
        apart (inr above) e = let z = part_bounds y b hy hb in omega (arith, above, e, z.1)

    ack_outside : (m < 2) ⊎ (root_request P ≤ m) → (k : ℕ) → k < length P.channels → high (fired st.values m) (ack_at P k) ≡ x.wires.ack k
    ack_outside (inl below) k hk = fired_far (ack_at P k) (λ e. below_wires st x s m below k hk (sym e)) ∙ s.ack k hk
    ack_outside (inr above) k hk = fired_far (ack_at P k) (λ e. above_wires st x s m (omega (arith, above)) k hk (sym e)) ∙ s.ack k hk

    histories_outside : (m < 2) ⊎ (root_request P ≤ m) → (moved_flat (translation P) st m).histories ≡ x.histories
    histories_outside (inl below) = still_histories (below_wires st x s m below)
    histories_outside (inr above) = still_histories (above_wires st x s m (omega (arith, above)))

  -- a Q-element's own node, or one inside of the body
  own_after : (st : RunState) (x : Whole P.body) (s : Shows st x) (p : GuardedSpot P.body) → own_fine p
      → Shows (moved_flat (translation P) st (own_number p)) (cells_moved P x (own_node p))
  own_after st x s next f =
      let lt : 1 < nodes_of P = omega (arith, root_is) in
      record {
        count = fired_count st x s 1 lt;
        go = go_far st x s 1 lt (λ e. absurd (cc e));
        done = fired_here st x s 1 lt 1 refl ∙ ap not s.done;
        child = child_far st x s 1 lt (λ e. absurd (omega (arith, e, root_is)));
        latch = latch_far st x s 1 lt (λ e. absurd (omega (arith, e, root_is)));
        body = body_far st x s 1 lt (omega (arith, root_is));
        rail = rail_outside st x s 1 lt (inl (omega arith));
        ack = ack_outside st x s 1 lt (inl (omega arith));
        block = block_outside st x s 1 lt (inl (omega arith));
        histories = histories_outside st x s 1 lt (inl (omega arith));
        channels = s.channels;
      }
  own_after st x s child f =
      let m = root_request P in
      let lt : root_request P < nodes_of P = omega (arith, root_is) in
      record {
        count = fired_count st x s (root_request P) lt;
        go = go_far st x s (root_request P) lt (λ e. absurd (omega (arith, e, root_is)));
        done = done_far st x s (root_request P) lt (λ e. absurd (omega (arith, e, root_is)));
        child = fired_here st x s (root_request P) lt (root_request P) refl ∙ ap not s.child;
        latch = latch_far st x s (root_request P) lt (λ e. absurd (omega (arith, e)));
        body = body_far st x s (root_request P) lt (omega arith);
        rail = rail_outside st x s (root_request P) lt (inr (omega arith));
        ack = ack_outside st x s (root_request P) lt (inr (omega arith));
        block = block_outside st x s (root_request P) lt (inr (omega arith));
        histories = histories_outside st x s (root_request P) lt (inr (omega arith));
        channels = s.channels;
      }
  own_after st x s latch f =
      let lt : root_latch P < nodes_of P = omega (arith, root_is) in
      record {
        count = fired_count st x s (root_latch P) lt;
        go = go_far st x s (root_latch P) lt (λ e. absurd (omega (arith, e, root_is)));
        done = done_far st x s (root_latch P) lt (λ e. absurd (omega (arith, e, root_is)));
        child = child_far st x s (root_latch P) lt (λ e. absurd (omega (arith, e)));
        latch = fired_here st x s (root_latch P) lt (root_latch P) refl ∙ ap not s.latch;
        body = body_far st x s (root_latch P) lt (omega arith);
        rail = rail_outside st x s (root_latch P) lt (inr (omega arith));
        ack = ack_outside st x s (root_latch P) lt (inr (omega arith));
        block = block_outside st x s (root_latch P) lt (inr (omega arith));
        histories = histories_outside st x s (root_latch P) lt (inr (omega arith));
        channels = s.channels;
      }
  own_after st x s (inner p) f =
      let m = body_from P + place P P.body p in
      let k = place_lt P P.body given.covered p f in
      let lt : body_from P + place P P.body p < nodes_of P = omega (arith, k) in
      let xs = bits P P.body x.root.inner in
      let long = length-bits P P.body given.covered x.root.inner in
      record {
        count = fired_count st x s (body_from P + place P P.body p) lt;
        go = go_far st x s (body_from P + place P P.body p) lt (λ e. absurd (omega (arith, e, root_is)));
        done = done_far st x s (body_from P + place P P.body p) lt (λ e. absurd (omega (arith, e, root_is)));
        child = child_far st x s (body_from P + place P P.body p) lt (λ e. absurd (omega (arith, e)));
        latch = latch_far st x s (body_from P + place P P.body p) lt (λ e. absurd (omega (arith, e)));
        body = subst (λ l. Stands (high (fired st.values (body_from P + place P P.body p))) (body_from P) l) (turned_is P P.body given.covered x.root.inner p f)
            (record {
              at = λ i h.
                  let below : i < length xs = omega (arith, h, length-set xs (place P P.body p) (not (get_or xs (place P P.body p) false))) in
                  ⊎_elim
                  (λ (e : i ≡ place P P.body p).
                  let n : body_from P + i ≡ body_from P + place P P.body p = ap (λ j. body_from P + j) e in
                  fired_here st x s (body_from P + place P P.body p) lt (body_from P + i) n
                  ∙ (ap not (s.body.at i below ∙ ap (λ j. get_or xs j false) e)
                  ∙ (sym (get_or-set_same xs (place P P.body p) (not (get_or xs (place P P.body p) false)) false (omega (arith, k, long)))
                  ∙ ap (λ j. get_or (set xs (place P P.body p) (not (get_or xs (place P P.body p) false))) j false) (sym e))))
                  (λ (ne : i ≢ place P P.body p).
                  fired_far st x s (body_from P + place P P.body p) lt (body_from P + i) (λ e. ne (omega (arith, e)))
                  ∙ (s.body.at i below ∙ sym (get_or-set_other xs (place P P.body p) i (not (get_or xs (place P P.body p) false)) false ne)))
                  (cases_eq i (place P P.body p));
            });
        rail = rail_outside st x s (body_from P + place P P.body p) lt (inr (omega arith));
        ack = ack_outside st x s (body_from P + place P P.body p) lt (inr (omega arith));
        block = block_outside st x s (body_from P + place P P.body p) lt (inr (omega arith));
        histories = histories_outside st x s (body_from P + place P P.body p) lt (inr (omega arith));
        channels = s.channels;
      }

  go_after_is : (st : RunState) (x : Whole P.body) → Shows st x → Shows (moved_flat (translation P) st 0) (cells_moved P x go_node)
  go_after_is st x s =
      let lt : 0 < nodes_of P = omega (arith, root_is) in
      record {
        count = fired_count st x s 0 lt;
        go = fired_here st x s 0 lt 0 refl ∙ ap not s.go;
        done = done_far st x s 0 lt (λ e. absurd (cc e));
        child = child_far st x s 0 lt (λ e. absurd (omega (arith, e, root_is)));
        latch = latch_far st x s 0 lt (λ e. absurd (omega (arith, e, root_is)));
        body = body_far st x s 0 lt (omega (arith, root_is));
        rail = rail_outside st x s 0 lt (inl (omega arith));
        ack = ack_outside st x s 0 lt (inl (omega arith));
        block = block_outside st x s 0 lt (inl (omega arith));
        histories = histories_outside st x s 0 lt (inl (omega arith));
        channels = s.channels;
      }

  -- the test by which a rail is found
  same_rail : (c k j i : ℕ) (side one : Bool) → ((c == k) && ((j == i) && same_bit side one)) ≡ true → (c ≡ k) × (j ≡ i) × (side ≡ one)
  same_rail c k j i side one h = by_tests (c == k) (j == i) side one refl refl h
    where
      by_tests : (a b side one : Bool) → (c == k) ≡ a → (j == i) ≡ b → (a && (b && same_bit side one)) ≡ true → (c ≡ k) × (j ≡ i) × (side ≡ one)
      by_tests true true true true ea eb t = (eqb-true c k ea, eqb-true j i eb, refl)
      by_tests true true true false ea eb t = absurd (cc t)
      by_tests true true false true ea eb t = absurd (cc t)
      by_tests true true false false ea eb t = (eqb-true c k ea, eqb-true j i eb, refl)
      by_tests true false side one ea eb t = absurd (cc t)
      by_tests false b side one ea eb t = absurd (cc t)

  same_rail_back : (c k j i : ℕ) (side one : Bool) → c ≡ k → j ≡ i → side ≡ one → ((c == k) && ((j == i) && same_bit side one)) ≡ true
  same_rail_back c k j i side one ec ej es =
      ap (λ b. b && ((j == i) && same_bit side one)) (eq-eqb c k ec) ∙ (ap (λ b. b && same_bit side one) (eq-eqb j i ej)
      ∙ (ap (λ b. same_bit b one) es ∙ itself one))
    where
      itself : (b : Bool) → same_bit b b ≡ true
      itself true = refl
      itself false = refl

  rail_parts : (w : Wires) (k i : ℕ) (one : Bool) (y : ℕ) (c : Part) → part_value (rail_turned w (of_channel k) i one) y c ≡ part_value w y c
  rail_parts w k i one y (a_bit j s) = refl
  rail_parts w k i one y (a_put j s) = refl
  rail_parts w k i one y (a_mark j) = refl
  rail_parts w k i one y (a_joint j) = refl

  ack_parts : (w : Wires) (k y : ℕ) (c : Part) → part_value (ack_turned w k) y c ≡ part_value w y c
  ack_parts w k y (a_bit j s) = refl
  ack_parts w k y (a_put j s) = refl
  ack_parts w k y (a_mark j) = refl
  ack_parts w k y (a_joint j) = refl

  -- a node of a block
  part_after : (st : RunState) (x : Whole P.body) → Shows st x → (y : ℕ) (b : Part) → y < length P.vars → IsPart (var_width P.vars y) b → (now : Wires)
      → ((k i : ℕ) (one : Bool) → now.rail (of_channel k) i one ≡ x.wires.rail (of_channel k) i one) → ((k : ℕ) → now.ack k ≡ x.wires.ack k)
      → part_value now y b ≡ not (part_value x.wires y b) → ((z : ℕ) (c : Part) → (z ≡ y → c ≡ b → ⊥) → part_value now z c ≡ part_value x.wires z c)
      → Shows (moved_flat (translation P) st (var_from P y + offset (var_width P.vars y) b)) (record x { wires = now })
  part_after st x s y b hy hb now rails acks here far =
      let e = part_bounds y b hy hb in
      let m = var_from P y + offset (var_width P.vars y) b in
      let lt : m < nodes_of P = omega (arith, e.1) in
      record {
        count = fired_count st x s m lt;
        go = go_far st x s m lt (λ z. absurd (omega (arith, z, e.0)));
        done = done_far st x s m lt (λ z. absurd (omega (arith, z, e.0)));
        child = child_far st x s m lt (λ z. absurd (omega (arith, z, e.1)));
        latch = latch_far st x s m lt (λ z. absurd (omega (arith, z, e.1)));
        body = body_far st x s m lt (omega (arith, e.1));
        rail = λ k i one hk hi. let r = rail_bounds P k i one hk hi in fired_far st x s m lt (channel_from P k + rail_place i one)
            (λ z. absurd (let g : ⊥ = omega (arith, z, r.1, e.0) in g)) ∙ (s.rail k i one hk hi ∙ sym (rails k i one));
        ack = λ k hk. let r = ack_bounds P k hk in fired_far st x s m lt (ack_at P k) (λ z. absurd (let g : ⊥ = omega (arith, z, r.1, e.0) in g))
            ∙ (s.ack k hk ∙ sym (acks k));
        block = λ z c hz hc. ⊎_elim (λ (same : var_from P z + offset (var_width P.vars z) c ≡ m). one_part lt z c hz hc same)
            (λ (ne : var_from P z + offset (var_width P.vars z) c ≢ m).
            fired_far st x s m lt (var_from P z + offset (var_width P.vars z) c) ne
            ∙ (s.block z c hz hc ∙ sym (far z c (λ u q. ne (ap (λ n. var_from P n + offset (var_width P.vars n) c) u
            ∙ ap (λ d. var_from P y + offset (var_width P.vars y) d) q)))))
            (cases_eq (var_from P z + offset (var_width P.vars z) c) m);
        histories = still_histories st x s m lt (above_wires st x s m e.0);
        channels = s.channels;
      }
    where
      one_part : var_from P y + offset (var_width P.vars y) b < nodes_of P → (z : ℕ) (c : Part) → z < length P.vars → IsPart (var_width P.vars z) c
          → var_from P z + offset (var_width P.vars z) c ≡ var_from P y + offset (var_width P.vars y) b
          → high (fired st.values (var_from P y + offset (var_width P.vars y) b)) (var_from P z + offset (var_width P.vars z) c) ≡ part_value now z c
      one_part lt z c hz hc same =
          let u = same_var z y c b hz hy hc hb same in
          let q = same_part y c b (subst (λ (n : ℕ). IsPart (var_width P.vars n) c) u hc) hb
          (sym (ap (λ n. var_from P n + offset (var_width P.vars n) c) u) ∙ same) in
          fired_here st x s (var_from P y + offset (var_width P.vars y) b) lt (var_from P z + offset (var_width P.vars z) c) same
          ∙ (ap (λ n. not (high st.values n)) same ∙ (ap not (s.block y b hy hb)
          ∙ (sym here ∙ (ap (λ d. part_value now y d) (sym q) ∙ ap (λ n. part_value now n c) (sym u)))))

  rails_far : (r : Rails) (i : ℕ) (one : Bool) (j : ℕ) (t : Bool) → (j ≡ i → t ≡ one → ⊥) → rails_turned r i one j t ≡ r j t
  rails_far r i one j t ne = by ((j == i) && same_bit t one) refl
    where
      by : (b : Bool) → ((j == i) && same_bit t one) ≡ b → (if b then not (r i one) else r j t) ≡ r j t
      by true e = absurd (let z = same_rail 0 0 j i t one e in ne z.1 z.2)
      by false e = refl

  rails_here : (r : Rails) (i : ℕ) (one : Bool) → rails_turned r i one i one ≡ not (r i one)
  rails_here r i one = ap (λ b. if b then not (r i one) else r i one) (same_rail_back 0 0 i i one one refl refl refl)

  of_one : {A : Type 0} (y z : ℕ) (f g : A) → (z ≡ y → ⊥) → (if z == y then f else g) ≡ g
  of_one y z f g ne = ap (λ (b : Bool). if b then f else g) (ne_eqb z y ne)

  of_same : {A : Type 0} (y z : ℕ) (f g : A) → z ≡ y → (if z == y then f else g) ≡ f
  of_same y z f g e = ap (λ (b : Bool). if b then f else g) (eq-eqb z y e)

  -- rails of variables, and other nodes, of which one is turned over
  rails_by : (rs : ℕ → Rails) (y i : ℕ) (one : Bool) (z j : ℕ) (t : Bool) → (z ≡ y → j ≡ i → t ≡ one → ⊥)
      → (if z == y then rails_turned (rs y) i one else rs z) j t ≡ rs z j t
  rails_by rs y i one z j t ne = ⊎_elim
      (λ (e : z ≡ y). ap (λ (r : Rails). r j t) (of_same y z (rails_turned (rs y) i one) (rs z) e)
      ∙ (rails_far (rs y) i one j t (ne e) ∙ ap (λ n. rs n j t) (sym e)))
      (λ (n : z ≢ y). ap (λ (r : Rails). r j t) (of_one y z (rails_turned (rs y) i one) (rs z) n))
      (cases_eq z y)

  marks_by : (rs : ℕ → ℕ → Bool) (y i z j : ℕ) → (z ≡ y → j ≡ i → ⊥) → (if z == y then turned_value (rs y) i else rs z) j ≡ rs z j
  marks_by rs y i z j ne = ⊎_elim
      (λ (e : z ≡ y). ap (λ (r : ℕ → Bool). r j) (of_same y z (turned_value (rs y) i) (rs z) e) ∙ (turned_apart (rs y) i j (ne e) ∙ ap (λ n. rs n j) (sym e)))
      (λ (n : z ≢ y). ap (λ (r : ℕ → Bool). r j) (of_one y z (turned_value (rs y) i) (rs z) n))
      (cases_eq z y)

  turned_rail : (x : Whole P.body) (k i : ℕ) (one : Bool) (c j : ℕ) (side : Bool)
      → (rail_turned x.wires (of_channel k) i one).rail (of_channel c) j side ≡
      (if (c == k) && ((j == i) && same_bit side one) then not (x.wires.rail (of_channel k) i one) else x.wires.rail (of_channel c) j side)
  turned_rail x k i one c j side = by (c == k) refl
    where
      by : (b : Bool) → (c == k) ≡ b → (if b then rails_turned (x.wires.rail (of_channel k)) i one else x.wires.rail (of_channel c)) j side ≡
          (if b && ((j == i) && same_bit side one) then not (x.wires.rail (of_channel k) i one) else x.wires.rail (of_channel c) j side)
      by true e = ap (λ n. if (j == i) && same_bit side one then not (x.wires.rail (of_channel k) i one) else x.wires.rail (of_channel n) j side)
          (sym (eqb-true c k e))
      by false e = refl

  rail_after : (st : RunState) (x : Whole P.body) → Shows st x → (k i : ℕ) (one : Bool) → k < length P.channels → i < channel_width P.channels k
      → Shows (moved_flat (translation P) st (channel_from P k + rail_place i one)) (cells_moved P x (rail_node (of_channel k) i one))
  rail_after st x s k i one hk hi =
      let b = rail_bounds P k i one hk hi in
      let lt : channel_from P k + rail_place i one < nodes_of P = omega (arith, b.1, root_is) in
      record {
        count = fired_count st x s (channel_from P k + rail_place i one) lt;
        go = go_far st x s (channel_from P k + rail_place i one) lt (λ e. absurd (omega (arith, e, b.0)));
        done = done_far st x s (channel_from P k + rail_place i one) lt (λ e. absurd (omega (arith, e, b.0)));
        child = child_far st x s (channel_from P k + rail_place i one) lt (λ e. absurd (omega (arith, e, b.1, root_is)));
        latch = latch_far st x s (channel_from P k + rail_place i one) lt (λ e. absurd (omega (arith, e, b.1, root_is)));
        body = body_far st x s (channel_from P k + rail_place i one) lt (omega (arith, b.1, root_is));
        rail = λ c j side hc hj. by_test lt c j side hc hj ((c == k) && ((j == i) && same_bit side one)) refl ∙ sym (turned_rail x k i one c j side);
        ack = λ c hc. fired_far st x s (channel_from P k + rail_place i one) lt (ack_at P c) (λ e. rail_no_ack P k c i one hk hc hi (sym e)) ∙ s.ack c hc;
        block = λ y c hy hc. block_outside st x s (channel_from P k + rail_place i one) lt (inl b.1) y c hy hc ∙ sym (rail_parts x.wires k i one y c);
        histories = still_histories st x s (channel_from P k + rail_place i one) lt (λ j hj. rail_no_ack P k j i one hk hj hi);
        channels = s.channels;
      }
    where
      by_test : channel_from P k + rail_place i one < nodes_of P → (c j : ℕ) (side : Bool) → c < length P.channels → j < channel_width P.channels c → (t : Bool)
          → ((c == k) && ((j == i) && same_bit side one)) ≡ t
          → high (fired st.values (channel_from P k + rail_place i one)) (channel_from P c + rail_place j side) ≡
          (if t then not (x.wires.rail (of_channel k) i one) else x.wires.rail (of_channel c) j side)
      by_test lt c j side hc hj true e =
          let q = same_rail c k j i side one e in
          let n : channel_from P c + rail_place j side ≡ channel_from P k + rail_place i one = cc (q.0, q.1, q.2) in
          fired_here st x s (channel_from P k + rail_place i one) lt (channel_from P c + rail_place j side) n
          ∙ (ap (λ m. not (high st.values m)) n ∙ ap not (s.rail k i one hk hi))
      by_test lt c j side hc hj false e =
          fired_far st x s (channel_from P k + rail_place i one) lt (channel_from P c + rail_place j side)
          (λ z. let q = rail_same P c k j i side one hc hk hj hi z in absurd (cc (same_rail_back c k j i side one q.0 q.1 q.2, e)))
          ∙ s.rail c j side hc hj

  ack_after : (st : RunState) (x : Whole P.body) → Shows st x → (k : ℕ) → k < length P.channels
      → Shows (moved_flat (translation P) st (ack_at P k)) (cells_moved P x (ack_node k))
  ack_after st x s k hk =
      let b = ack_bounds P k hk in
      let lt : ack_at P k < nodes_of P = omega (arith, b.1, root_is) in
      record {
        count = fired_count st x s (ack_at P k) lt;
        go = go_far st x s (ack_at P k) lt (λ e. absurd (omega (arith, e, b.0)));
        done = done_far st x s (ack_at P k) lt (λ e. absurd (omega (arith, e, b.0)));
        child = child_far st x s (ack_at P k) lt (λ e. absurd (omega (arith, e, b.1, root_is)));
        latch = latch_far st x s (ack_at P k) lt (λ e. absurd (omega (arith, e, b.1, root_is)));
        body = body_far st x s (ack_at P k) lt (omega (arith, b.1, root_is));
        rail = λ c j side hc hj. fired_far st x s (ack_at P k) lt (channel_from P c + rail_place j side) (rail_no_ack P c k j side hc hk hj)
            ∙ s.rail c j side hc hj;
        ack = λ c hc. by_test lt c hc (c == k) refl;
        block = λ y c hy hc. block_outside st x s (ack_at P k) lt (inl b.1) y c hy hc ∙ sym (ack_parts x.wires k y c);
        histories = values_here ∙ by_ack (x.wires.ack k) refl;
        channels = lengths (x.wires.ack k);
      }
    where
      by_test : ack_at P k < nodes_of P → (c : ℕ) → c < length P.channels → (t : Bool) → (c == k) ≡ t
          → high (fired st.values (ack_at P k)) (ack_at P c) ≡ (if t then not (x.wires.ack k) else x.wires.ack c)
      by_test lt c hc true e =
          let n : ack_at P c ≡ ack_at P k = ap (ack_at P) (eqb-true c k e) in
          fired_here st x s (ack_at P k) lt (ack_at P c) n ∙ (ap (λ m. not (high st.values m)) n ∙ ap not (s.ack k hk))
      by_test lt c hc false e =
          fired_far st x s (ack_at P k) lt (ack_at P c) (λ z. absurd (cc (eq-eqb c k (ack_same P c k hc hk z), e))) ∙ s.ack c hc

      value_here : rail_value_of (high st.values) (rails_of (rails_at P k)) ≡ value_on (channel_width P.channels k) (x.wires.rail (of_channel k))
      value_here = value_is (high st.values) (channel_width P.channels k) (channel_from P k) (x.wires.rail (of_channel k)) (λ i one lt. s.rail k i one hk lt)

      values_here : (moved_flat (translation P) st (ack_at P k)).histories ≡ cells_passed x.histories k
          (if not (x.wires.ack k) then value_on (channel_width P.channels k) (x.wires.rail (of_channel k)) else None)
      values_here =
          let e : 0 + k ≡ k = omega arith in
          values_some P (high st.values) 0 P.channels st.histories (ack_at P k) k (ap length s.histories ∙ s.channels) hk (ap (ack_at P) (sym e))
          (λ i low up ne z. ne (sym (ack_same P k i hk (omega (arith, up)) z) ∙ sym e))
          ∙ (ap (λ h. cells_passed h k (if not (high st.values (ack_at P k)) then rail_value_of (high st.values)
          (rails_of (rails_at P (0 + k))) else None)) s.histories
          ∙ (ap (λ b. cells_passed x.histories k (if not b then rail_value_of (high st.values) (rails_of (rails_at P (0 + k))) else None)) (s.ack k hk)
          ∙ (ap (λ j. cells_passed x.histories k (if not (x.wires.ack k) then rail_value_of (high st.values) (rails_of (rails_at P j)) else None)) e
          ∙ ap (λ o. cells_passed x.histories k (if not (x.wires.ack k) then o else None)) value_here)))

      by_ack : (a : Bool) → x.wires.ack k ≡ a → cells_passed x.histories k (if not a then value_on (channel_width P.channels k)
          (x.wires.rail (of_channel k)) else None) ≡ (if a then x.histories else cells_passed x.histories k
          (value_on (channel_width P.channels k) (x.wires.rail (of_channel k))))
      by_ack true e = refl
      by_ack false e = refl

      length-passed : (o : Option ℕ) → length (cells_passed x.histories k o) ≡ length P.channels
      length-passed None = s.channels
      length-passed (Some y) = length-set x.histories k (history_at x.histories k ++ y ∷ []) ∙ s.channels

      lengths : (a : Bool) → length (if a then x.histories else cells_passed x.histories k
          (value_on (channel_width P.channels k) (x.wires.rail (of_channel k)))) ≡ length P.channels
      lengths true = s.channels
      lengths false = length-passed (value_on (channel_width P.channels k) (x.wires.rail (of_channel k)))

  pub after_move : (st : RunState) (x : Whole P.body) → Shows st x → (n : Node P.body) → Fine n
      → Shows (moved_flat (translation P) st (number_of n)) (cells_moved P x n)
  after_move st x s go_node f = go_after_is st x s
  after_move st x s (own_node p) f = own_after st x s p f
  after_move st x s (rail_node (of_channel k) i one) f = rail_after st x s k i one f.0 f.1
  after_move st x s (ack_node k) f = ack_after st x s k f
  after_move st x s (rail_node (of_var y) i one) f = part_after st x s y (a_put i one) f.0 f.1 (rail_turned x.wires (of_var y) i one) (λ k j t. refl)
      (λ k. refl)
      (ap (λ (r : Rails). r i one) (of_same y y (rails_turned (x.wires.rail (of_var y)) i one) (x.wires.rail (of_var y)) refl)
      ∙ rails_here (x.wires.rail (of_var y)) i one) far
    where
      far : (z : ℕ) (c : Part) → (z ≡ y → c ≡ a_put i one → ⊥) → part_value (rail_turned x.wires (of_var y) i one) z c ≡ part_value x.wires z c
      far z (a_put j t) ne = rails_by (λ n. x.wires.rail (of_var n)) y i one z j t (λ u v q. ne u (ap (λ n. a_put n t) v ∙ ap (λ n. a_put i n) q))
      far z (a_bit j t) ne = refl
      far z (a_mark j) ne = refl
      far z (a_joint j) ne = refl
  after_move st x s (bit_node y i one) f = part_after st x s y (a_bit i one) f.0 f.1 (bit_turned x.wires y i one) (λ k j t. refl) (λ k. refl)
      (ap (λ (r : Rails). r i one) (of_same y y (rails_turned (x.wires.bit y) i one) (x.wires.bit y) refl) ∙ rails_here (x.wires.bit y) i one) far
    where
      far : (z : ℕ) (c : Part) → (z ≡ y → c ≡ a_bit i one → ⊥) → part_value (bit_turned x.wires y i one) z c ≡ part_value x.wires z c
      far z (a_bit j t) ne = rails_by x.wires.bit y i one z j t (λ u v q. ne u (ap (λ n. a_bit n t) v ∙ ap (λ n. a_bit i n) q))
      far z (a_put j t) ne = refl
      far z (a_mark j) ne = refl
      far z (a_joint j) ne = refl
  after_move st x s (wrote_node y i) f = part_after st x s y (a_mark i) f.0 f.1 (wrote_turned x.wires y i) (λ k j t. refl) (λ k. refl)
      (ap (λ (r : ℕ → Bool). r i) (of_same y y (turned_value (x.wires.wrote y) i) (x.wires.wrote y) refl) ∙ turned_here (x.wires.wrote y) i) far
    where
      far : (z : ℕ) (c : Part) → (z ≡ y → c ≡ a_mark i → ⊥) → part_value (wrote_turned x.wires y i) z c ≡ part_value x.wires z c
      far z (a_mark j) ne = marks_by x.wires.wrote y i z j (λ u v. ne u (ap (λ n. a_mark n) v))
      far z (a_put j t) ne = refl
      far z (a_bit j t) ne = refl
      far z (a_joint j) ne = refl
  after_move st x s (joint_node y k) f = part_after st x s y (a_joint k) f.0 f.1 (joint_turned x.wires y k) (λ k j t. refl) (λ k. refl)
      (ap (λ (r : ℕ → Bool). r k) (of_same y y (turned_value (x.wires.joint y) k) (x.wires.joint y) refl) ∙ turned_here (x.wires.joint y) k) far
    where
      far : (z : ℕ) (c : Part) → (z ≡ y → c ≡ a_joint k → ⊥) → part_value (joint_turned x.wires y k) z c ≡ part_value x.wires z c
      far z (a_joint j) ne = marks_by x.wires.joint y k z j (λ u v. ne u (ap (λ n. a_joint n) v))
      far z (a_put j t) ne = refl
      far z (a_bit j t) ne = refl
      far z (a_mark j) ne = refl
