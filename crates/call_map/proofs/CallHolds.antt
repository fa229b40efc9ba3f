-- The net with shared bodies is a net of a rule file.
--
-- C: the program with calls; P: that with copies; ps: the bodies of the procedures; is, t: what is asked of C, and of P.
use Rattle.std.proofs.Common.{◌≡◌, ℕ, zero, suc, ◌+◌, ◌*◌, ◌≤◌, ◌<◌, true, false, List, [], ◌∷◌, ◌++◌, map, length, get_or, refl, ap, ◌∙◌, arith, append_assoc, get_or-append-add, length-append}
use Rattle.std.specs.Prelude.{◌||◌, replicate, All}
use Rattle.std.proofs.lemmas.List.{length-map, length-replicate, get_or_append_left, get_or-map}
use Rattle.std.proofs.lemmas.List.Elements.{All-nil, All-cons}
use Rattle.chp_base.specs.declared.channel.Channel.{Channel}
use Rattle.chp_base.specs.declared.channel.Kind.{Kind}
use Rattle.chp_base.specs.declared.channel.Kind.TheVariants.{In, Out, Chan}
use Rattle.prs_core.specs.Nets.{NetValue, NodeRules, IsUndriven, IsNet, wires_from_outside}
use Rattle.prs_core.specs.Pairs.{no_rules, or_of, rails_of}
use Rattle.width_check.specs.Processes.{Process, TypedProgram}
use Rattle.width_check.specs.Typing.{kind_at, channel_width}
use Rattle.handshake_expand.specs.Layout.{wires_size, wires_before, channel_from, vars_from, size_of}
use Rattle.handshake_expand.specs.Answers.{bodies_from, select_own, again_own}
use Rattle.handshake_expand.specs.Sites.{sites_in}
use Rattle.net_compose.specs.Translation.{rails_at, ack_at, hidden_high, send_site, receive_site, rail_rules, vars_high}
use Rattle.net_compose.specs.Points.{IsTranslated}
use Rattle.net_compose.specs.Sized.{IsOfSize}
use Rattle.net_compose.proofs.Sizes.{rails_length}
use Rattle.net_compose.proofs.NetNames.{count_of_names}
use Rattle.net_compose.proofs.FlatCells.{rail_place, rail_place_lt}
use Rattle.net_compose.proofs.FlatFirst.{member}
use Rattle.net_compose.proofs.FlatWires.{wires_below}
use Rattle.net_compose.proofs.GuardCosts.{net_cost}
use Rattle.net_compose.proofs.NetFilled.{ups_filled, downs_filled}
use Rattle.net_compose.proofs.NetHolds.{AllFrom, not_among, from_append, from_lower, vars_high_from, hidden_from, silent_at, rails_all, net_is}
use Rattle.call_map.specs.Calling.{Called, calling, atom, turned, abreast, chosen, looped, Calleds, no_calleds, and_called, CalledChoices, no_called, or_called, inlined_choices, called_size, called_sites, called_turn_sites, called_branch_sites, called_body_sites}
use Rattle.call_map.specs.CallNet.{CallProgram, inlined_program, procs_from, procs_size, body_sites, call_root, call_count, all_sites, call_channel_rules, call_channels_rules, call_rules, call_firsts, call_composed, call_names, call_net, IsCallProgram}
use Rattle.call_map.proofs.CallListed.{call_facts}
use Rattle.call_map.proofs.CallFirsts.{rules_long, first_here, firsts_fit}
use Rattle.call_map.proofs.CallFilled.{all_full}
use Rattle.call_map.proofs.CallLiterals.{few_literals}
use Rattle.call_map.proofs.CallWithin.{call_rules_hold}

-- the hidden rails that are high have higher numbers than the variables
module _ (P : TypedProgram) (ps : List Process) where
  mutual
    called_from : (x : Called) (from : ℕ) → AllFrom from (called_sites ps P (hidden_high P) x from)
    called_from (calling q) from = tt
    called_from (atom s) from = hidden_from P s from
    called_from (turned members) from = turn_from members from
    called_from (abreast members) from = branches_from members from
    called_from (chosen false choices) from =
        let to = bodies_from (inlined_choices ps choices) select_own from in
        from_lower from (bodies_from (inlined_choices ps choices) select_own from) (called_body_sites ps P (hidden_high P) choices to) (omega arith)
        (arms_from choices (bodies_from (inlined_choices ps choices) select_own from))
    called_from (chosen true choices) from =
        let to = bodies_from (inlined_choices ps choices) again_own from in
        from_lower from (bodies_from (inlined_choices ps choices) again_own from) (called_body_sites ps P (hidden_high P) choices to) (omega arith)
        (arms_from choices (bodies_from (inlined_choices ps choices) again_own from))
    called_from (looped x) from = from_lower from (from + 2) (called_sites ps P (hidden_high P) x (from + 2)) (omega arith) (called_from x (from + 2))

    turn_from : (members : Calleds) (from : ℕ) → AllFrom from (called_turn_sites ps P (hidden_high P) members from)
    turn_from no_calleds from = tt
    turn_from (and_called x no_calleds) from = called_from x from
    turn_from (and_called x (and_called y more)) from =
        let to = from + 3 + called_size ps P x in
        from_append from (called_sites ps P (hidden_high P) x (from + 3)) (called_turn_sites ps P (hidden_high P) (and_called y more) to)
        (from_lower from (from + 3) (called_sites ps P (hidden_high P) x (from + 3)) (omega arith) (called_from x (from + 3)))
        (from_lower from to (called_turn_sites ps P (hidden_high P) (and_called y more) to) (omega arith)
        (turn_from (and_called y more) (from + 3 + called_size ps P x)))

    branches_from : (members : Calleds) (from : ℕ) → AllFrom from (called_branch_sites ps P (hidden_high P) members from)
    branches_from no_calleds from = tt
    branches_from (and_called x more) from =
        let to = from + 3 + called_size ps P x in
        from_append from (called_sites ps P (hidden_high P) x (from + 3)) (called_branch_sites ps P (hidden_high P) more to)
        (from_lower from (from + 3) (called_sites ps P (hidden_high P) x (from + 3)) (omega arith) (called_from x (from + 3)))
        (from_lower from to (called_branch_sites ps P (hidden_high P) more to) (omega arith) (branches_from more (from + 3 + called_size ps P x)))

    arms_from : (choices : CalledChoices) (from : ℕ) → AllFrom from (called_body_sites ps P (hidden_high P) choices from)
    arms_from no_called from = tt
    arms_from (or_called g x more) from =
        let to = from + called_size ps P x in
        from_append from (called_sites ps P (hidden_high P) x from) (called_body_sites ps P (hidden_high P) more to) (called_from x from)
        (from_lower from to (called_body_sites ps P (hidden_high P) more to) (omega arith) (arms_from more (from + called_size ps P x)))

  procs_after : (bs : List Process) (from : ℕ) → AllFrom from (body_sites P (hidden_high P) bs from)
  procs_after [] from = tt
  procs_after (b ∷ bs) from =
      let to = from + 1 + size_of P b in
      from_append from (sites_in P (hidden_high P) b (from + 1)) (body_sites P (hidden_high P) bs to)
      (from_lower from (from + 1) (sites_in P (hidden_high P) b (from + 1)) (omega arith) (hidden_from P b (from + 1)))
      (from_lower from to (body_sites P (hidden_high P) bs to) (omega arith) (procs_after bs (from + 1 + size_of P b)))

-- the rules of wires
module _ (C : CallProgram) where
  wires_long : (k width : ℕ) (kind : Kind) → length (call_channel_rules C k width kind) ≡ wires_size width
  wires_long k width In =
      let e = length-append (replicate (2 * width) no_rules) (or_of (all_sites C (receive_site k)) ∷ []) in
      let f : length (replicate (2 * width) no_rules) ≡ 2 * width = length-replicate (2 * width) no_rules in
      omega (arith, e, f)
  wires_long k width Out =
      let e = length-append (rail_rules (all_sites C (send_site k)) 0 width) (no_rules ∷ []) in
      let f = rails_length (all_sites C (send_site k)) 0 width in
      omega (arith, e, f)
  wires_long k width Chan =
      let e = length-append (rail_rules (all_sites C (send_site k)) 0 width) (or_of (all_sites C (receive_site k)) ∷ []) in
      let f = rails_length (all_sites C (send_site k)) 0 width in
      omega (arith, e, f)

  wires_at : (k : ℕ) (cs : List Channel) (tail : List NodeRules) (j m : ℕ) → j < length cs → m < wires_size (channel_width cs j)
      → get_or (call_channels_rules C k cs ++ tail) (wires_before cs j + m) no_rules
      ≡ get_or (call_channel_rules C (k + j) (channel_width cs j) (kind_at cs j)) m no_rules
  wires_at k [] tail j m h lt = absurd (omega (arith, h))
  wires_at k (c ∷ cs) tail zero m h lt =
      let own = call_channel_rules C k c.width c.kind in
      let n = wires_long k c.width c.kind in
      ap (λ xs. get_or xs (0 + m) no_rules) (append_assoc own (call_channels_rules C (suc k) cs) tail)
      ∙ (ap (λ i. get_or (own ++ (call_channels_rules C (suc k) cs ++ tail)) i no_rules) (let e : 0 + m ≡ m = omega arith in e)
      ∙ (get_or_append_left own (call_channels_rules C (suc k) cs ++ tail) no_rules m (omega (arith, n, lt))
      ∙ ap (λ i. get_or (call_channel_rules C i c.width c.kind) m no_rules) (let e : k ≡ k + 0 = omega arith in e)))
  wires_at k (c ∷ cs) tail (suc j) m h lt =
      let own = call_channel_rules C k c.width c.kind in
      let n = wires_long k c.width c.kind in
      ap (λ xs. get_or xs (wires_size c.width + wires_before cs j + m) no_rules) (append_assoc own (call_channels_rules C (suc k) cs) tail)
      ∙ (ap (λ i. get_or (own ++ (call_channels_rules C (suc k) cs ++ tail)) i no_rules)
      (let e : wires_size c.width + wires_before cs j + m ≡ length own + (wires_before cs j + m) = omega (arith, n) in e)
      ∙ (get_or-append-add own (call_channels_rules C (suc k) cs ++ tail) (wires_before cs j + m) no_rules
      ∙ (wires_at (suc k) cs tail j m (omega (arith, h)) lt
      ∙ ap (λ i. get_or (call_channel_rules C i (channel_width cs j) (kind_at cs j)) m no_rules) (let e : suc k + j ≡ k + suc j = omega arith in e))))

  in_rail : (k w m : ℕ) → m < 2 * w → get_or (call_channel_rules C k w In) m no_rules ≡ no_rules
  in_rail k w m lt =
      let n : length (replicate (2 * w) no_rules) ≡ 2 * w = length-replicate (2 * w) no_rules in
      get_or_append_left (replicate (2 * w) no_rules) _ no_rules m (omega (arith, n, lt)) ∙ silent_at (inlined_program C) (2 * w) m

  out_ack : (k w : ℕ) → get_or (call_channel_rules C k w Out) (2 * w) no_rules ≡ no_rules
  out_ack k w =
      let sites = all_sites C (send_site k) in
      let n = rails_length sites 0 w in
      ap (λ m. get_or (call_channel_rules C k w Out) m no_rules) (let e : 2 * w ≡ length (rail_rules sites 0 w) + 0 = omega (arith, n) in e)
      ∙ get_or-append-add (rail_rules sites 0 w) (no_rules ∷ []) 0 no_rules

module _ (C : CallProgram) (is : IsCallProgram C) (t : IsTranslated (inlined_program C)) where
  long : length (call_rules C) ≡ call_count C
  long = rules_long C (call_facts C is t) is.unread

  pub firsts_long : length (call_firsts C) ≡ call_count C
  firsts_long = (firsts_fit C (call_facts C is t) is.unread).long ∙ long

  pub call_counted : IsOfSize (call_net C (call_names C)) (call_count C)
  call_counted =
      let P = inlined_program C in
      let n = count_of_names P (procs_size P C.procs + (2 + called_size C.procs P C.body)) in
      record {
        names = omega (arith, n);
        first = firsts_long;
        up = length-map (call_rules C) (λ (r : NodeRules). r.up) ∙ long;
        down = length-map (call_rules C) (λ (r : NodeRules). r.down) ∙ long;
      }

module _ (C : CallProgram) (is : IsCallProgram C) (t : IsTranslated (inlined_program C)) (small : call_count C ≤ 65536) where
  abbrev P : TypedProgram
  P = inlined_program C

  abbrev the_net : NetValue
  the_net = call_net C (call_names C)

  counted_rules : length (call_rules C) ≡ call_count C
  counted_rules = long C is t

  low_before : (m : ℕ) → m < vars_from P → get_or (call_firsts C) m false ≡ false
  low_before m lt =
      let vars = vars_high P 0 C.vars in
      let hidden = all_sites C (hidden_high P) in
      let procs = body_sites P (hidden_high P) C.procs (procs_from C) in
      let own = called_sites C.procs P (hidden_high P) C.body (call_root C + 2) in
      let few = counted_rules in
      let a : member m vars ≡ false = not_among (vars_from P) m vars (vars_high_from P 0 C.vars) lt in
      let b : member m hidden ≡ false = not_among (vars_from P) m hidden
      (from_append (vars_from P) procs own (from_lower (vars_from P) (procs_from C) procs (omega arith) (procs_after P C.procs C.procs (procs_from C)))
      (from_lower (vars_from P) (call_root C + 2) own (omega arith) (called_from P C.procs C.body (call_root C + 2)))) lt in
      first_here C (call_facts C is t) is.unread m (omega (arith, few, lt)) ∙ (ap (λ c. c || member m hidden) a ∙ b)

  wire_within : (k m : ℕ) → k < length C.channels → m < wires_size (channel_width C.channels k) → channel_from P k + m < vars_from P
  wire_within k m h lt = let e = wires_below C.channels k h in omega (arith, e, lt)

  rule_at : (k m : ℕ) → k < length C.channels → m < wires_size (channel_width C.channels k)
      → get_or (call_rules C) (channel_from P k + m) no_rules ≡ get_or (call_channel_rules C k (channel_width C.channels k) (kind_at C.channels k)) m no_rules
  rule_at k m h lt =
      ap (λ i. get_or (call_rules C) i no_rules) (let e : channel_from P k + m ≡ suc (suc (wires_before C.channels k + m)) = omega arith in e)
      ∙ (wires_at C 0 C.channels _ k m h lt ∙ ap (λ i. get_or (call_channel_rules C i (channel_width C.channels k) (kind_at C.channels k)) m no_rules)
      (let e : 0 + k ≡ k = omega arith in e))

  silent : (n : ℕ) → n < length (call_rules C) → get_or (call_rules C) n no_rules ≡ no_rules → IsUndriven the_net n
  silent n lt e = record {
    up = get_or-map (λ (r : NodeRules). r.up) (call_rules C) n no_rules [] lt ∙ ap (λ (r : NodeRules). r.up) e;
    down = get_or-map (λ (r : NodeRules). r.down) (call_rules C) n no_rules [] lt ∙ ap (λ (r : NodeRules). r.down) e;
  }

  outside_of : (k : ℕ) → k < length C.channels → (kind : Kind) → kind_at C.channels k ≡ kind
      → All (IsUndriven the_net) (wires_from_outside kind (rails_of (rails_at P k)) (ack_at P k))
  outside_of k h In is =
      rails_all (IsUndriven the_net) (channel_from P k) (channel_width C.channels k) (λ i one lt.
      let below = rail_place_lt i (channel_width C.channels k) one lt in
      let inside = wire_within k (rail_place i one) h (omega (arith, below)) in
      let n = counted_rules in
      silent (channel_from P k + rail_place i one) (omega (arith, inside, n))
      (rule_at k (rail_place i one) h (omega (arith, below))
      ∙ (ap (λ x. get_or (call_channel_rules C k (channel_width C.channels k) x) (rail_place i one) no_rules) is
      ∙ in_rail C k (channel_width C.channels k) (rail_place i one) below)))
  outside_of k h Out is =
      let inside = wire_within k (2 * channel_width C.channels k) h (omega arith) in
      let n = counted_rules in
      All-cons (IsUndriven the_net) (ack_at P k) []
      (silent (ack_at P k) (omega (arith, inside, n)) (rule_at k (2 * channel_width C.channels k) h (omega arith)
      ∙ (ap (λ x. get_or (call_channel_rules C k (channel_width C.channels k) x) (2 * channel_width C.channels k) no_rules) is
      ∙ out_ack C k (channel_width C.channels k))))
      (All-nil (IsUndriven the_net))
  outside_of k h Chan is = All-nil (IsUndriven the_net)

  pub call_net_is : IsNet (call_net C (call_names C))
  call_net_is =
      let facts = call_facts C is t in
      let full = all_full C facts.typed facts.bodies in
      let few = few_literals C facts.typed facts.bodies in
      let cost = net_cost (call_rules C) in
      let first = firsts_long C is t in
      let own = counted_rules in
      let ups : length (map (λ (r : NodeRules). r.up) (call_rules C)) ≡ length (call_rules C) = length-map (call_rules C) (λ (r : NodeRules). r.up) in
      net_is P t.typed (procs_size P C.procs + (2 + called_size C.procs P C.body)) (omega (arith, small)) (call_firsts C) (call_composed C)
      (omega (arith, first)) low_before
      (λ k h. outside_of k h (kind_at C.channels k) refl) (omega (arith, first, ups, own)) (call_rules_hold C is t small) (ups_filled (call_rules C) full)
      (downs_filled (call_rules C) full)
      (omega (arith, few, first, cost)) (record { up = refl; down = refl })
