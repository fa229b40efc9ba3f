-- The net in which all calls of a procedure share one body; and its wires and variables, whose merges join the nodes of a body
-- once.
--
-- C: the program with calls; P: that with copies; v, u: values of the nodes of the net with shared bodies and of that with
-- copies. In the block of a variable: n: its bits; from, to: its first node in either net; x, w: the rails of bits, and those
-- that write them.
use Rattle.std.proofs.Common.{◌≡◌, ℕ, zero, suc, ◌+◌, ◌*◌, ◌<◌, ◌≤◌, ◌==◌, Bool, true, false, List, [], ◌∷◌, ◌++◌, map, length, get_or, refl, sym, ap, ◌∙◌, subst, arith}
use Rattle.std.specs.Prelude.{◌⊎◌, filter, replicate}
use Rattle.std.proofs.lemmas.List.{map-append}
use Rattle.chp_base.specs.declared.channel.Channel.{Channel}
use Rattle.chp_base.specs.declared.channel.Kind.{Kind}
use Rattle.chp_base.specs.declared.channel.Kind.TheVariants.{In, Out, Chan}
use Rattle.prs_core.specs.Pairs.{Pair, no_rules, or_of}
use Rattle.prs_core.specs.Moves.{guard_holds}
use Rattle.width_check.specs.declared.typed.Var.{Var}
use Rattle.width_check.specs.Processes.{Process, TypedProgram}
use Rattle.width_check.specs.Typing.{channel_width, var_width, IsProcess}
use Rattle.handshake_expand.specs.Layout.{block_size, size_of, var_from}
use Rattle.handshake_expand.specs.Sites.{Sites, sites_in, in_body}
use Rattle.cell_variable.specs.Variables.{variable_rules}
use Rattle.circuit_places.specs.Lines.{Rails}
use Rattle.net_compose.specs.Translation.{send_site, receive_site, write_site, rail_rules, channel_rules, channels_rules, vars_rules}
use Rattle.net_compose.proofs.FlatTrees.{RulesAlike, rules_append}
use Rattle.net_compose.proofs.FlatRules.{or_up, or_down}
use Rattle.net_compose.proofs.FlatSites.{at_site}
use Rattle.net_compose.proofs.FlatBlocks.{Part, a_bit, a_put, a_mark, a_joint, offset, IsPart, offset_lt, PartAt, part_of, BlockIs, bit_says, put_says, mark_says, joint_says, length-variable_rules, blocks_below}
use Rattle.net_compose.proofs.SameValues.{SameAt, alike_by_places}
use Rattle.call_map.specs.Calling.{OfAtoms, inlined, called_sites}
use Rattle.call_map.specs.CallNet.{CallProgram, inlined_program, procs_from, call_root, body_at, proc_answer, all_sites, call_channel_rules, call_channels_rules, call_vars_rules, body_sites}
use Rattle.call_map.proofs.Items.{Each, Same, CallPoint, items, calls}
use Rattle.call_map.proofs.Picks.{IsPick}
use Rattle.call_map.proofs.PickSites.{sends, receives, writes, map_sites, map_called, mapped}
use Rattle.call_map.proofs.Merged.{nowhere, CopyAlike, CopyLow, merge_says}

-- the calls
abbrev pub points : CallProgram → List CallPoint
points C = calls (inlined_program C) C.procs (proc_answer C) C.body (call_root C) (call_root C + 2) (procs_from C) (procs_from C + 2)

-- the requests of the calls of a procedure
abbrev pub asks_listed : CallProgram → ℕ → List ℕ
asks_listed C q = map (λ (c : CallPoint). c.request) (filter (λ (c : CallPoint). c.proc == q) (points C))

-- the block of a variable, whose merges say the same
module _ (v u : ℕ → Bool) (n from to : ℕ) (same : (i : ℕ) → i < block_size n → v (from + i) ≡ u (to + i)) where
  abbrev x : Rails
  x i one = u (to + offset n (a_bit i one))

  abbrev w : Rails
  w i one = u (to + offset n (a_put i one))

  abbrev wrote : ℕ → Bool
  wrote i = u (to + offset n (a_mark i))

  abbrev node : ℕ → Bool
  node k = u (to + offset n (a_joint k))

  here : BlockIs v n from x w wrote node
  here = record {
    bits = λ i one l. same (offset n (a_bit i one)) (offset_lt n (a_bit i one) l);
    puts = λ i one l. same (offset n (a_put i one)) (offset_lt n (a_put i one) l);
    marks = λ i l. same (offset n (a_mark i)) (offset_lt n (a_mark i) l);
    joints = λ k l. same (offset n (a_joint k)) (offset_lt n (a_joint k) l);
  }

  there : BlockIs u n to x w wrote node
  there = record { bits = λ i one l. refl; puts = λ i one l. refl; marks = λ i l. refl; joints = λ k l. refl }

  blocks_merged : (sites more : List (List Pair))
      → ((i : ℕ) (one : Bool) → i < n → (guard_holds v (or_of (map (at_site i one) sites)).up ≡ guard_holds u (or_of (map (at_site i one) more)).up)
      × (guard_holds v (or_of (map (at_site i one) sites)).down ≡ guard_holds u (or_of (map (at_site i one) more)).down))
      → RulesAlike v u (variable_rules n from sites) (variable_rules n to more)
  blocks_merged sites more h =
      let m = length-variable_rules n from sites in
      alike_by_places v u (variable_rules n from sites) (variable_rules n to more) (m ∙ sym (length-variable_rules n to more))
      (λ k l. at_part k (part_of n k (omega (arith, l, m))))
    where
      by_part : (b : Part) → IsPart n b → SameAt v u (variable_rules n from sites) (variable_rules n to more) (offset n b)
      by_part (a_bit i one) l =
          let a = bit_says v n from x w wrote node here sites i one l in
          let b = bit_says u n to x w wrote node there more i one l in
          (a.up ∙ sym b.up, a.down ∙ sym b.down)
      by_part (a_put i one) l =
          let ns = map (at_site i one) sites in
          let ms = map (at_site i one) more in
          let a = put_says v n from x w wrote node here sites i one (map v ns) l refl in
          let b = put_says u n to x w wrote node there more i one (map u ms) l refl in
          let e = h i one l in
          (a.up ∙ (sym (or_up v ns) ∙ (e.0 ∙ (or_up u ms ∙ sym b.up))), a.down ∙ (sym (or_down v ns) ∙ (e.1 ∙ (or_down u ms ∙ sym b.down))))
      by_part (a_mark i) l =
          let a = mark_says v n from x w wrote node here sites i l in
          let b = mark_says u n to x w wrote node there more i l in
          (a.up ∙ sym b.up, a.down ∙ sym b.down)
      by_part (a_joint k) l =
          let a = joint_says v n from x w wrote node here sites k l in
          let b = joint_says u n to x w wrote node there more k l in
          (a.up ∙ sym b.up, a.down ∙ sym b.down)

      at_part : (k : ℕ) → PartAt n k → SameAt v u (variable_rules n from sites) (variable_rules n to more) k
      at_part k z = subst (λ j. SameAt v u (variable_rules n from sites) (variable_rules n to more) j) z.is (by_part z.part z.fine)

map_bodies : {A B : Type 0} (P : TypedProgram) (f : A → B) (site : Sites A) (bs : List Process) (from : ℕ)
    → map f (body_sites P site bs from) ≡ body_sites P (mapped P f site) bs from
map_bodies P f site [] from = refl
map_bodies P f site (b ∷ bs) from =
    map-append f (sites_in P site b (from + 1)) (body_sites P site bs (from + 1 + size_of P b))
    ∙ (ap (λ l. l ++ map f (body_sites P site bs (from + 1 + size_of P b))) (map_sites P f site b (from + 1))
    ∙ ap (λ l. sites_in P (mapped P f site) b (from + 1) ++ l) (map_bodies P f site bs (from + 1 + size_of P b)))

module _ (C : CallProgram) (atoms : OfAtoms C.body) (typed : IsProcess C.channels C.vars (inlined C.procs C.body))
    (bodies : (q : ℕ) → q < length C.procs → IsProcess C.channels C.vars (body_at C q)) (v u : ℕ → Bool) where
  abbrev P : TypedProgram
  P = inlined_program C

  -- what makes merges say the same
  pub record MergesFit : Type 0 where
    pub low_same : (m : ℕ) → m < procs_from C → v m ≡ u m
    pub items_same : Each (Same v u) (items P C.procs (proc_answer C) C.body (call_root C) (call_root C + 2) (procs_from C) (procs_from C + 2))
    pub within : (c : ℕ) → c < length (points C) → (get_or (points C) c nowhere).proc < length C.procs
    pub each : (c : ℕ) → c < length (points C)
        → CopyAlike P C.procs (proc_answer C) (procs_from C) (receive_site 0) (receives P 0) bodies v u (get_or (points C) c nowhere)
        ⊎ CopyLow P C.procs (proc_answer C) (procs_from C) (receive_site 0) (receives P 0) bodies u (get_or (points C) c nowhere)
    pub current : (q : ℕ) → q < length C.procs
        → (c : ℕ) × (c < length (points C)) × ((get_or (points C) c nowhere).proc ≡ q)
        × CopyAlike P C.procs (proc_answer C) (procs_from C) (receive_site 0) (receives P 0) bodies v u (get_or (points C) c nowhere)

  module _ (fit : MergesFit) where
    abbrev SaysAlike : List ℕ → List ℕ → Type 0
    SaysAlike ns ms = (guard_holds v (or_of ns).up ≡ guard_holds u (or_of ms).up) × (guard_holds v (or_of ns).down ≡ guard_holds u (or_of ms).down)

    picked : (pick : Sites ℕ) (is : IsPick P pick) → SaysAlike (all_sites C pick) (in_body P pick)
    picked pick is =
        merge_says P C.procs (proc_answer C) (procs_from C) pick is bodies C.body atoms typed (call_root C) (call_root C + 2) (procs_from C)
        (procs_from C + 2) v u fit.items_same fit.within fit.each fit.current

    sites_picked : {A : Type 0} (f : A → ℕ) (site : Sites A) → IsPick P (mapped P f site) → SaysAlike (map f (all_sites C site)) (map f (in_body P site))
    sites_picked f site is =
        let here_is : map f (all_sites C site) ≡ all_sites C (mapped P f site) =
        map-append f (body_sites P site C.procs (procs_from C)) (called_sites C.procs P site C.body (call_root C + 2))
        ∙ (ap (λ l. l ++ map f (called_sites C.procs P site C.body (call_root C + 2))) (map_bodies P f site C.procs (procs_from C))
        ∙ ap (λ l. body_sites P (mapped P f site) C.procs (procs_from C) ++ l) (map_called P f site C.procs C.body (call_root C + 2))) in
        let there_is : map f (in_body P site) ≡ in_body P (mapped P f site) = map_sites P f site P.body (procs_from C + 2) in
        subst (λ l. SaysAlike l (map f (in_body P site))) (sym here_is)
        (subst (λ l. SaysAlike (all_sites C (mapped P f site)) l) (sym there_is) (picked (mapped P f site) is))

    rails_alike : (k place n : ℕ) → place + n ≤ channel_width C.channels k
        → RulesAlike v u (rail_rules (all_sites C (send_site k)) place n) (rail_rules (in_body P (send_site k)) place n)
    rails_alike k place zero l = tt
    rails_alike k place (suc n) l =
        let a = sites_picked (at_site place true) (send_site k) (sends P k place true (omega (arith, l))) in
        let b = sites_picked (at_site place false) (send_site k) (sends P k place false (omega (arith, l))) in
        (a.0, a.1, (b.0, b.1, rails_alike k (suc place) n (omega (arith, l))))

    nothing_alike : (n : ℕ) → RulesAlike v u (replicate n no_rules) (replicate n no_rules)
    nothing_alike zero = tt
    nothing_alike (suc n) = (refl, refl, nothing_alike n)

    acks_alike : (k : ℕ) → RulesAlike v u (or_of (all_sites C (receive_site k)) ∷ []) (or_of (in_body P (receive_site k)) ∷ [])
    acks_alike k = let a = picked (receive_site k) (receives P k) in (a.0, a.1, tt)

    channel_alike : (k w : ℕ) (kind : Kind) → w ≤ channel_width C.channels k → RulesAlike v u (call_channel_rules C k w kind) (channel_rules P k w kind)
    channel_alike k w In l = rules_append v u (replicate (2 * w) no_rules) (replicate (2 * w) no_rules) (or_of (all_sites C (receive_site k)) ∷ [])
        (or_of (in_body P (receive_site k)) ∷ []) (nothing_alike (2 * w)) (acks_alike k)
    channel_alike k w Out l =
        rules_append v u (rail_rules (all_sites C (send_site k)) 0 w) (rail_rules (in_body P (send_site k)) 0 w) (no_rules ∷ []) (no_rules ∷ [])
        (rails_alike k 0 w (omega (arith, l))) (refl, refl, tt)
    channel_alike k w Chan l = rules_append v u (rail_rules (all_sites C (send_site k)) 0 w) (rail_rules (in_body P (send_site k)) 0 w)
        (or_of (all_sites C (receive_site k)) ∷ []) (or_of (in_body P (receive_site k)) ∷ []) (rails_alike k 0 w (omega (arith, l))) (acks_alike k)

    channels_alike : (k : ℕ) (cs : List Channel) → ((j : ℕ) → j < length cs → channel_width cs j ≡ channel_width C.channels (k + j))
        → RulesAlike v u (call_channels_rules C k cs) (channels_rules P k cs)
    channels_alike k [] h = tt
    channels_alike k (c ∷ cs) h =
        let e : c.width ≡ channel_width C.channels k = h 0 (omega arith) ∙ ap (channel_width C.channels) (let z : k + 0 ≡ k = omega arith in z) in
        rules_append v u (call_channel_rules C k c.width c.kind) (channel_rules P k c.width c.kind) (call_channels_rules C (suc k) cs)
        (channels_rules P (suc k) cs)
        (channel_alike k c.width c.kind (omega (arith, e)))
        (channels_alike (suc k) cs (λ j l. h (suc j) (omega (arith, l)) ∙ ap (channel_width C.channels) (let z : k + suc j ≡ suc k + j = omega arith in z)))

    vars_alike : (k : ℕ) (vs : List Var) → k + length vs ≡ length C.vars → ((j : ℕ) → j < length vs → var_width vs j ≡ var_width C.vars (k + j))
        → RulesAlike v u (call_vars_rules C k vs) (vars_rules P k vs)
    vars_alike k [] long h = tt
    vars_alike k (w ∷ vs) long h =
        let e : w.width ≡ var_width C.vars k = h 0 (omega arith) ∙ ap (var_width C.vars) (let z : k + 0 ≡ k = omega arith in z) in
        let within : k < length C.vars = omega (arith, long) in
        let b = blocks_below C.vars k within in
        rules_append v u (variable_rules w.width (var_from P k) (all_sites C (write_site P k)))
        (variable_rules w.width (var_from P k) (in_body P (write_site P k)))
        (call_vars_rules C (suc k) vs) (vars_rules P (suc k) vs)
        (subst (λ n. RulesAlike v u (variable_rules n (var_from P k) (all_sites C (write_site P k)))
        (variable_rules n (var_from P k) (in_body P (write_site P k)))) (sym e)
        (blocks_merged v u (var_width C.vars k) (var_from P k) (var_from P k) (λ i l. fit.low_same (var_from P k + i) (omega (arith, l, b)))
        (all_sites C (write_site P k)) (in_body P (write_site P k))
        (λ i one l. sites_picked (at_site i one) (write_site P k) (writes P k i one l))))
        (vars_alike (suc k) vs (omega (arith, long))
        (λ j l. h (suc j) (omega (arith, l)) ∙ ap (var_width C.vars) (let z : k + suc j ≡ suc k + j = omega arith in z)))

    -- the wires of channels and the blocks of variables
    pub declared_alike : RulesAlike v u (call_channels_rules C 0 C.channels ++ call_vars_rules C 0 C.vars)
        (channels_rules P 0 C.channels ++ vars_rules P 0 C.vars)
    declared_alike =
        let zero_more : (j : ℕ) → 0 + j ≡ j = λ j. omega arith in
        rules_append v u (call_channels_rules C 0 C.channels) (channels_rules P 0 C.channels) (call_vars_rules C 0 C.vars) (vars_rules P 0 C.vars)
        (channels_alike 0 C.channels (λ j l. ap (channel_width C.channels) (sym (zero_more j))))
        (vars_alike 0 C.vars (zero_more (length C.vars)) (λ j l. ap (var_width C.vars) (sym (zero_more j))))
